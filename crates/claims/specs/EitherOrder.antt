-- Request 2026-09: "Show that clearing interface a and then b gives the same cache and queue as b and then a, that clearing twice is clearing once, and that
-- purging orphans twice against one cache is purging once. Entries and packets of other interfaces keep their order. Refusals: 7 as now." Of what the calls'
-- promises allow, of any cache, queue, routes and interface numbers. Assumes nothing.
use Rattle.std.specs.Prelude.{ℕ, ◌≤◌, ◌<◌, ◌≡◌, Bool, true, false, List, [], ◌∷◌, map, replicate, eqb, Ok, Err}
use Rattle.table.specs.Kept.{InOrder}
use Rattle.wire.specs.declared.error.Refusal.TheVariants.{NoSuchIface}
use Rattle.neighbor.specs.declared.Entry.{Entry}
use Rattle.neighbor.specs.declared.NeighborCache.{NeighborCache}
use Rattle.neighbor.specs.declared.Changed.{Changed}
use Rattle.neighbor.specs.CacheCalls.{entries, ClearTo, empty as noNeighbours}
use Rattle.pending.specs.declared.PendingPacket.{PendingPacket}
use Rattle.pending.specs.declared.PendingQueue.{PendingQueue}
use Rattle.pending.specs.declared.Handles.{Handles}
use Rattle.pending.specs.declared.Purged.{Purged}
use Rattle.pending.specs.QueueRules.{Queue, handle_of, orphaned, packet}
use Rattle.pending.specs.QueueCalls.{packets, handles_of, with_packets, empty, OrphansPurged, PurgedTo}
use Rattle.iface.specs.declared.addr.IfaceAddrs.{IfaceAddrs}
use Rattle.iface.specs.declared.route.Route.{Route}
use Rattle.iface.specs.declared.route.Routes.{Routes}
use Rattle.iface.specs.RouteRules.{routes_of, is_learned, slaac_route, no_route}
use Rattle.iface.specs.AddressRules.{clear_addrs}
use Rattle.slaac.specs.declared.Slaac.{Slaac}
use Rattle.slaac.specs.DiscoveryRules.{fresh}
use Rattle.autoconf.specs.declared.TurnedOff.{TurnedOff}
use Rattle.autoconf.specs.OffRules.{TurnedOffTo, turned_off}
use Rattle.claims.specs.Caches.{went_in}
use Rattle.claims.specs.Counts.{purge_iface, turn_off, purged_with_iface, node_on, no_handle, one_handle, resolving, with_address}
use Rattle.claims.specs.Same.{Same, SameQueue, SameRoutes, entry_on, cache_with, both_entries, packet_on, queue_with, both_packets, NotTheSlots, NoCallTells}

-- One call after the other: first of interface a, which answers x, and then of b, which answers y. In the other order the answers are u, of b, and v, of a.

abbrev pub Clears : NeighborCache → ℕ → ℕ → Changed → Changed → Type 0
Clears c a b x y = ClearTo c a x × ClearTo x.cache b y

abbrev pub Purges : PendingQueue → ℕ → ℕ → Purged → Purged → Type 0
Purges q a b x y = PurgedTo q a x × PurgedTo x.queue b y

-- SLAAC and the addresses of one interface
pub record Own : Type 0 where
  pub slaac : Slaac
  pub addrs : IfaceAddrs

-- SLAAC turned off on a, whose own are m, and then on b, whose own are n
abbrev pub TurnsOff : Routes → NeighborCache → PendingQueue → ℕ → Own → ℕ → Own → TurnedOff → TurnedOff → Type 0
TurnsOff r c q a m b n x y =
    TurnedOffTo m.slaac m.addrs r c q a x × TurnedOffTo n.slaac n.addrs x.routes x.cache x.queue b y

-- What goes: all of interface a; what is of "other interfaces" stays
abbrev pub is_of : ℕ → ℕ → Bool
is_of a i = eqb a i

abbrev pub entry_of : ℕ → Entry → Bool
entry_of a e = is_of a e.iface

abbrev pub packet_of : ℕ → PendingPacket → Bool
packet_of a p = is_of a p.iface

-- "keep their order": some entries went, and the others are in order
pub record KeepsOrder {A : Type 0} (gone : A → Bool) (before after : List A) : Type 0 where
  pub went : List A
  pub in_order : InOrder gone before after went

-- and of packets that went these handles come back, in queue order
pub record HandedInOrder (gone : PendingPacket → Bool) (before after : Queue) (handles : Handles) : Type 0 where
  pub went : Queue
  pub in_order : InOrder gone before after went
  pub handed : handles ≡ handles_of (map handle_of went)

-- 7 waits for fe80::1 of interface 0; and the same slots with none that waits
abbrev pub one_waits : PendingQueue
one_waits = with_packets empty (packet (node_on 0 1) 7 ∷ [])

abbrev pub none_waits : PendingQueue
none_waits = record { slots = one_waits.slots; len = 0 }

-- The example of `Same`, with an address of SLAAC's and a default route on each interface

abbrev pub addressed : Own
addressed = record { slaac = fresh true; addrs = with_address }

abbrev pub route_on : ℕ → Route
route_on i = slaac_route i (node_on i 1).addr (record { 0 = 9000 })

abbrev pub routes_with : Route → Route → ℕ → Routes
routes_with e f n = record { slots = e ∷ f ∷ replicate 6 no_route; len = n }

-- what turning SLAAC off leaves and answers there
abbrev pub off_with : Routes → NeighborCache → PendingQueue → ℕ → TurnedOff
off_with r c q h = turned_off (fresh false) (clear_addrs with_address).addrs r c q (one_handle h) (Ok tt)

pub record EitherOrder : Type 1 where
  -- "Refusals: 7 as now.", which is NoSuchIface (`number_of`); a refusal changes nothing, and hands nothing back
  pub clear_done : (c : NeighborCache) (a : ℕ) (x : Changed) → a ≤ 3 → ClearTo c a x → x.outcome ≡ Ok tt
  pub clear_refused : (c : NeighborCache) (a : ℕ) (x : Changed) → 3 < a → ClearTo c a x → x ≡ record { cache = c; outcome = Err NoSuchIface }
  pub purge_done : (q : PendingQueue) (a : ℕ) (x : Purged) → a ≤ 3 → PurgedTo q a x → x.outcome ≡ Ok tt
  pub purge_refused : (q : PendingQueue) (a : ℕ) (x : Purged) → 3 < a → PurgedTo q a x
      → x ≡ record { queue = q; handles = no_handle; outcome = Err NoSuchIface }
  pub off_done : (r : Routes) (c : NeighborCache) (q : PendingQueue) (a : ℕ) (m : Own) (x : TurnedOff) → a ≤ 3 → TurnedOffTo m.slaac m.addrs r c q a x
      → x.outcome ≡ Ok tt
  pub off_refused : (r : Routes) (c : NeighborCache) (q : PendingQueue) (a : ℕ) (m : Own) (x : TurnedOff) → 3 < a → TurnedOffTo m.slaac m.addrs r c q a x
      → x ≡ turned_off m.slaac m.addrs r c q no_handle (Err NoSuchIface)
  -- "clearing interface a and then b gives the same cache .. as b and then a", and each of the two calls has its outcome
  pub cache : (c : NeighborCache) (a b : ℕ) (x y u v : Changed) → Clears c a b x y → Clears c b a u v → Same y.cache v.cache
  pub cache_outcomes : (c : NeighborCache) (a b : ℕ) (x y u v : Changed) → Clears c a b x y → Clears c b a u v
      → (x.outcome ≡ v.outcome) × (y.outcome ≡ u.outcome)
  -- ".. and queue"
  pub queue : (q : PendingQueue) (a b : ℕ) (x y u v : Purged) → Purges q a b x y → Purges q b a u v → SameQueue y.queue v.queue
  pub queue_outcomes : (q : PendingQueue) (a b : ℕ) (x y u v : Purged) → Purges q a b x y → Purges q b a u v
      → (x.outcome ≡ v.outcome) × (y.outcome ≡ u.outcome)
  -- and for two interfaces the same handles of each; each handle as often in one order as in the other, whether or not a is b
  pub handles : (q : PendingQueue) (a b : ℕ) (x y u v : Purged) → eqb a b ≡ false → Purges q a b x y → Purges q b a u v
      → (x.handles ≡ v.handles) × (y.handles ≡ u.handles)
  pub as_often : (h : ℕ) (q : PendingQueue) (a b : ℕ) (x y u v : Purged) → Purges q a b x y → Purges q b a u v
      → purged_with_iface h (purge_iface x.handles ∷ purge_iface y.handles ∷ [])
      ≡ purged_with_iface h (purge_iface u.handles ∷ purge_iface v.handles ∷ [])
  -- "clearing twice is clearing once": that very cache, and that very queue and no handle, slots past the count too
  pub cache_twice : (c : NeighborCache) (a : ℕ) (x y : Changed) → Clears c a a x y → y ≡ x
  pub queue_twice : (q : PendingQueue) (a : ℕ) (x y : Purged) → Purges q a a x y → y ≡ record { queue = x.queue; handles = no_handle; outcome = x.outcome }
  -- "purging orphans twice against one cache is purging once": that very queue, no handle, Done
  pub orphans_twice : (q : PendingQueue) (c : NeighborCache) (x y : Purged) → OrphansPurged q c x → OrphansPurged x.queue c y
      → y ≡ record { queue = x.queue; handles = no_handle; outcome = Ok tt }
  -- against another it need not be: 7 waits on after a purge against a cache that resolves fe80::1, and comes back by one against a cache that does not know it
  pub orphans_first : OrphansPurged one_waits resolving (record { queue = one_waits; handles = no_handle; outcome = Ok tt })
  pub orphans_anew : OrphansPurged one_waits noNeighbours (record { queue = none_waits; handles = one_handle 7; outcome = Ok tt })
  -- "Entries and packets of other interfaces keep their order.": all of them together; none is lost or changed, and all of a go
  pub entries_order : (c : NeighborCache) (a : ℕ) (x : Changed) → a ≤ 3 → ClearTo c a x → KeepsOrder (entry_of a) (entries c) (entries x.cache)
  pub packets_order : (q : PendingQueue) (a : ℕ) (x : Purged) → a ≤ 3 → PurgedTo q a x
      → HandedInOrder (packet_of a) (packets q) (packets x.queue) x.handles
  -- of a purge of orphans, those whose entry is absent or Stale (`orphan_means` of `Packets`) go, and all others keep their order
  pub orphans_order : (q : PendingQueue) (c : NeighborCache) (x : Purged) → OrphansPurged q c x
      → HandedInOrder (orphaned (entries c)) (packets q) (packets x.queue) x.handles
  -- and nothing else is so
  pub entries_only : {A : Type 0} (gone : A → Bool) (before after after' : List A) → KeepsOrder gone before after → KeepsOrder gone before after' → after ≡ after'
  pub packets_only : (gone : PendingPacket → Bool) (before after after' : Queue) (hs gs : Handles) → HandedInOrder gone before after hs
      → HandedInOrder gone before after' gs → (after ≡ after') × (hs ≡ gs)
  -- Turning SLAAC off, which clears both: on a and then on b, each with its own SLAAC and addresses, leaves cache, queue and routes the same as b and then a
  pub off : (r : Routes) (c : NeighborCache) (q : PendingQueue) (a b : ℕ) (m n : Own) (x y u v : TurnedOff) → TurnsOff r c q a m b n x y → TurnsOff r c q b n a m u v
      → Same y.cache v.cache × SameQueue y.queue v.queue × SameRoutes y.routes v.routes
  -- and each with what is its own, and its outcome
  pub off_own : (r : Routes) (c : NeighborCache) (q : PendingQueue) (a b : ℕ) (m n : Own) (x y u v : TurnedOff) → TurnsOff r c q a m b n x y
      → TurnsOff r c q b n a m u v
      → ((x.slaac ≡ v.slaac) × (x.addrs ≡ v.addrs) × (x.outcome ≡ v.outcome)) × ((y.slaac ≡ u.slaac) × (y.addrs ≡ u.addrs) × (y.outcome ≡ u.outcome))
  -- and the handles as above
  pub off_handles : (r : Routes) (c : NeighborCache) (q : PendingQueue) (a b : ℕ) (m n : Own) (x y u v : TurnedOff) → eqb a b ≡ false → TurnsOff r c q a m b n x y
      → TurnsOff r c q b n a m u v → (x.handles ≡ v.handles) × (y.handles ≡ u.handles)
  pub off_as_often : (h : ℕ) (r : Routes) (c : NeighborCache) (q : PendingQueue) (a b : ℕ) (m n : Own) (x y u v : TurnedOff) → TurnsOff r c q a m b n x y
      → TurnsOff r c q b n a m u v
      → purged_with_iface h (turn_off x.handles ∷ turn_off y.handles ∷ []) ≡ purged_with_iface h (turn_off u.handles ∷ turn_off v.handles ∷ [])
  -- With an address gone the cache is as clearing the interface leaves it, and else as it was; of the queue and the handles `Counts` says so.
  pub off_clears : (r : Routes) (c : NeighborCache) (q : PendingQueue) (a : ℕ) (m : Own) (x : TurnedOff) (y : Changed) → TurnedOffTo m.slaac m.addrs r c q a x
      → ClearTo c a y → went_in m.slaac m.addrs a ≡ true → x.cache ≡ y.cache
  pub off_leaves_cache : (r : Routes) (c : NeighborCache) (q : PendingQueue) (a : ℕ) (m : Own) (x : TurnedOff) → TurnedOffTo m.slaac m.addrs r c q a x
      → went_in m.slaac m.addrs a ≡ false → x.cache ≡ c
  -- SLAAC's routes of the interface go, and all others keep their order; where SLAAC is off already all stay
  pub routes_order : (r : Routes) (c : NeighborCache) (q : PendingQueue) (a : ℕ) (m : Own) (x : TurnedOff) → a ≤ 3 → m.slaac.on ≡ true
      → TurnedOffTo m.slaac m.addrs r c q a x → KeepsOrder (is_learned a) (routes_of r) (routes_of x.routes)
  pub routes_stay : (r : Routes) (c : NeighborCache) (q : PendingQueue) (a : ℕ) (m : Own) (x : TurnedOff) → m.slaac.on ≡ false
      → TurnedOffTo m.slaac m.addrs r c q a x → x.routes ≡ r
  -- and off again leaves everything as it is
  pub off_twice : (r : Routes) (c : NeighborCache) (q : PendingQueue) (a : ℕ) (m : Own) (x y : TurnedOff)
      → TurnsOff r c q a m a (record { slaac = x.slaac; addrs = x.addrs }) x y
      → y ≡ turned_off x.slaac x.addrs x.routes x.cache x.queue no_handle x.outcome
  -- "the same" is not the same slots
  pub not_the_slots : NotTheSlots
  -- nor is it by turning SLAAC off, in either order: the routes that are left are the same too, and not equal
  pub same_routes : SameRoutes (routes_with (route_on 1) (route_on 1) 0) (routes_with (route_on 0) (route_on 1) 0)
  pub unequal_routes : routes_with (route_on 1) (route_on 1) 0 ≡ routes_with (route_on 0) (route_on 1) 0 → ⊥
  pub zero_off : TurnsOff (routes_with (route_on 0) (route_on 1) 2) both_entries both_packets 0 addressed 1 addressed
      (off_with (routes_with (route_on 1) (route_on 1) 1) (cache_with (entry_on 1) (entry_on 1) 1) (queue_with (packet_on 1) (packet_on 1) 1) 5)
      (off_with (routes_with (route_on 1) (route_on 1) 0) (cache_with (entry_on 1) (entry_on 1) 0) (queue_with (packet_on 1) (packet_on 1) 0) 6)
  pub one_off : TurnsOff (routes_with (route_on 0) (route_on 1) 2) both_entries both_packets 1 addressed 0 addressed
      (off_with (routes_with (route_on 0) (route_on 1) 1) (cache_with (entry_on 0) (entry_on 1) 1) (queue_with (packet_on 0) (packet_on 1) 1) 6)
      (off_with (routes_with (route_on 0) (route_on 1) 0) (cache_with (entry_on 0) (entry_on 1) 0) (queue_with (packet_on 0) (packet_on 1) 0) 5)
  -- and no call tells apart what is the same
  pub no_call_tells : NoCallTells
