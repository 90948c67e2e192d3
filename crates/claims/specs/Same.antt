-- Request 2026-09: what "the same cache and queue" means, and that no call tells apart what is the same; who reads `slots` past the count himself may.
-- Assumes nothing.
use Rattle.wire.specs.declared.error.Refusal.{Refusal}
use Rattle.neighbor.specs.declared.Neighbor.{Neighbor}
use Rattle.iface.specs.declared.route.Route.{Route}
use Rattle.std.specs.Prelude.{ℕ, ◌+◌, ◌≡◌, Bool, List, [], ◌∷◌, take, replicate, Option, Some, None, Result, Ok}
use Rattle.time.specs.declared.Instant.{Instant}
use Rattle.time.specs.declared.Clock.{Clock}
use Rattle.wire.specs.declared.ipv6.Ipv6Addr.{Ipv6Addr}
use Rattle.wire.specs.declared.ipv6.Ipv6Cidr.{Ipv6Cidr}
use Rattle.wire.specs.declared.ethernet.HardwareAddress.{HardwareAddress}
use Rattle.neighbor.specs.declared.State.TheVariants.{Started}
use Rattle.neighbor.specs.declared.Entry.{Entry}
use Rattle.neighbor.specs.declared.NeighborCache.{NeighborCache}
use Rattle.neighbor.specs.declared.Answer.{Answer}
use Rattle.neighbor.specs.declared.Answer.TheVariants.{Pending, NotFound}
use Rattle.neighbor.specs.declared.Changed.{Changed}
use Rattle.neighbor.specs.declared.Removed.{Removed}
use Rattle.neighbor.specs.NeighborRules.{entry}
use Rattle.neighbor.specs.CacheCalls.{blank, changed_to, LookedUp, GotBy, ListedAt, RemovedTo, StartTo, InsertTo, FillTo, ClearTo}
use Rattle.sweep.specs.declared.Events.{Events}
use Rattle.sweep.specs.declared.Swept.{Swept}
use Rattle.sweep.specs.SweepCalls.{SweptTo}
use Rattle.lent.specs.declared.Reported.{Reported}
use Rattle.lent.specs.LentRules.{ReportedTo, PolledBy}
use Rattle.pending.specs.declared.PendingPacket.{PendingPacket}
use Rattle.pending.specs.declared.PendingQueue.{PendingQueue}
use Rattle.pending.specs.declared.Handles.{Handles}
use Rattle.pending.specs.declared.Pushed.{Pushed}
use Rattle.pending.specs.declared.Released.{Released}
use Rattle.pending.specs.declared.Purged.{Purged}
use Rattle.pending.specs.QueueRules.{packet}
use Rattle.pending.specs.QueueCalls.{blank as blankPacket, PushedTo, ReleasedTo, OrphansPurged, PurgedTo, WaitingAt}
use Rattle.iface.specs.declared.addr.IfaceAddrs.{IfaceAddrs}
use Rattle.iface.specs.declared.route.Routes.{Routes}
use Rattle.iface.specs.declared.route.AddedRoute.{AddedRoute}
use Rattle.iface.specs.RouteRules.{empty_routes, AddedRouteTo, RouteListed}
use Rattle.slaac.specs.declared.Slaac.{Slaac}
use Rattle.autoconf.specs.declared.AdvertAnswer.{AdvertAnswer}
use Rattle.autoconf.specs.declared.Advertised.{Advertised}
use Rattle.autoconf.specs.declared.PollAnswer.{PollAnswer}
use Rattle.autoconf.specs.declared.Polled.{Polled}
use Rattle.autoconf.specs.declared.PolledAt.{PolledAt}
use Rattle.autoconf.specs.declared.TurnedOff.{TurnedOff}
use Rattle.autoconf.specs.AdvertRules.{AdvertisedTo}
use Rattle.autoconf.specs.PollRules.{PolledTo}
use Rattle.autoconf.specs.OffRules.{TurnedOffTo}
use Rattle.mainloop.specs.declared.Card.{Card}
use Rattle.mainloop.specs.declared.Input.{Input}
use Rattle.mainloop.specs.declared.Action.{Action}
use Rattle.mainloop.specs.declared.Report.{Report}
use Rattle.mainloop.specs.declared.Reports.{Reports}
use Rattle.mainloop.specs.declared.Taken.{Taken}
use Rattle.mainloop.specs.declared.Settled.{Settled}
use Rattle.mainloop.specs.declared.Woken.{Woken}
use Rattle.mainloop.specs.declared.Turned.{Turned}
use Rattle.mainloop.specs.declared.Inbox.{Inbox}
use Rattle.mainloop.specs.declared.Ran.{Ran}
use Rattle.mainloop.specs.LoopRules.{taken, SettledTo, TurnedTo, RanTo}
use Rattle.claims.specs.Counts.{node_on, one_handle}

-- The same entries in the same order, and the same count. Slots past the entries are no part of it. It is enough for calls, and more than they need: a count above
-- the number of slots reads as that number, so that caches of 16 slots with counts of 16 and 17 differ here, and in no answer.
pub record SameEntries {A : Type 0} (slots : List A) (len : ℕ) (slots' : List A) (len' : ℕ) : Type 0 where
  pub entries : take len slots ≡ take len' slots'
  pub count : len ≡ len'

abbrev pub Same : NeighborCache → NeighborCache → Type 0
Same c d = SameEntries c.slots c.len d.slots d.len

abbrev pub SameQueue : PendingQueue → PendingQueue → Type 0
SameQueue p q = SameEntries p.slots p.len q.slots q.len

abbrev pub SameRoutes : Routes → Routes → Type 0
SameRoutes r s = SameEntries r.slots r.len s.slots s.len

-- The example: a cache with an entry of interface 0 and one of interface 1, both for fe80::1, and a queue with a packet of each

abbrev pub entry_on : ℕ → Entry
entry_on i = entry (node_on i 1) Started

abbrev pub cache_with : Entry → Entry → ℕ → NeighborCache
cache_with e f n = record { slots = e ∷ f ∷ replicate 14 blank; len = n }

abbrev pub both_entries : NeighborCache
both_entries = cache_with (entry_on 0) (entry_on 1) 2

-- the handles are 5 and 6
abbrev pub packet_on : ℕ → PendingPacket
packet_on i = packet (node_on i 1) (i + 5)

abbrev pub queue_with : PendingPacket → PendingPacket → ℕ → PendingQueue
queue_with p o n = record { slots = p ∷ o ∷ replicate 6 blankPacket; len = n }

abbrev pub both_packets : PendingQueue
both_packets = queue_with (packet_on 0) (packet_on 1) 2

abbrev pub hands_one : PendingQueue → ℕ → Purged
hands_one q h = record { queue = q; handles = one_handle h; outcome = Ok tt }

pub record NotTheSlots : Type 0 where
  -- clearing 0 and then 1 leaves the second entry in both slots, and 1 and then 0 leaves both as they were
  pub clears_0 : ClearTo both_entries 0 (changed_to (cache_with (entry_on 1) (entry_on 1) 1))
  pub then_1 : ClearTo (cache_with (entry_on 1) (entry_on 1) 1) 1 (changed_to (cache_with (entry_on 1) (entry_on 1) 0))
  pub clears_1 : ClearTo both_entries 1 (changed_to (cache_with (entry_on 0) (entry_on 1) 1))
  pub then_0 : ClearTo (cache_with (entry_on 0) (entry_on 1) 1) 0 (changed_to (cache_with (entry_on 0) (entry_on 1) 0))
  -- which are the same, and not equal
  pub same : Same (cache_with (entry_on 1) (entry_on 1) 0) (cache_with (entry_on 0) (entry_on 1) 0)
  pub unequal : cache_with (entry_on 1) (entry_on 1) 0 ≡ cache_with (entry_on 0) (entry_on 1) 0 → ⊥
  -- likewise the queue
  pub purges_0 : PurgedTo both_packets 0 (hands_one (queue_with (packet_on 1) (packet_on 1) 1) 5)
  pub and_then_1 : PurgedTo (queue_with (packet_on 1) (packet_on 1) 1) 1 (hands_one (queue_with (packet_on 1) (packet_on 1) 0) 6)
  pub purges_1 : PurgedTo both_packets 1 (hands_one (queue_with (packet_on 0) (packet_on 1) 1) 6)
  pub and_then_0 : PurgedTo (queue_with (packet_on 0) (packet_on 1) 1) 0 (hands_one (queue_with (packet_on 0) (packet_on 1) 0) 5)
  pub same_queue : SameQueue (queue_with (packet_on 1) (packet_on 1) 0) (queue_with (packet_on 0) (packet_on 1) 0)
  pub unequal_queue : queue_with (packet_on 1) (packet_on 1) 0 ≡ queue_with (packet_on 0) (packet_on 1) 0 → ⊥
  -- and the count is a part of it
  pub counts_differ : Same (cache_with (entry_on 0) (entry_on 1) 16) (cache_with (entry_on 0) (entry_on 1) 17) → ⊥

-- Calls on a cache, a queue and routes: the library's and the main loop's. `lending` makes two of them of a clock that it is handed. What is public and no call
-- of a card (`docs/ON-A-CARD.md`, "Parts, not calls") is not among them.

pub record Held : Type 0 where
  pub cache : NeighborCache
  pub queue : PendingQueue
  pub routes : Routes

pub record SameHeld (h g : Held) : Type 0 where
  pub cache : Same h.cache g.cache
  pub queue : SameQueue h.queue g.queue
  pub routes : SameRoutes h.routes g.routes

-- a call, with all that it is given besides these
pub data Call : Type 0 where
  to_lookup : ℕ → Ipv6Addr → Call
  to_start : ℕ → Ipv6Addr → Call
  to_fill : ℕ → Ipv6Addr → HardwareAddress → Instant → Call
  to_insert : ℕ → Ipv6Addr → HardwareAddress → Instant → Call
  to_get : ℕ → Ipv6Addr → Call
  to_list_neighbor : ℕ → Call
  to_remove : ℕ → Ipv6Addr → Call
  to_clear : ℕ → Call
  to_sweep : Clock → ℕ → Call
  to_sweep_at : Clock → ℕ → Call
  to_push : ℕ → Ipv6Addr → ℕ → Call
  to_release : ℕ → Ipv6Addr → Call
  to_purge_orphans : Call
  to_purge_iface : ℕ → Call
  to_list_packet : ℕ → Call
  to_add_route : ℕ → Ipv6Cidr → Ipv6Addr → Call
  to_list_route : ℕ → Call
  to_advertise : Slaac → ℕ → Ipv6Addr → List ℕ → Instant → Call
  to_poll : Slaac → IfaceAddrs → ℕ → Bool → HardwareAddress → List ℕ → Clock → Call
  to_poll_at : Slaac → IfaceAddrs → ℕ → Bool → HardwareAddress → List ℕ → Clock → Call
  to_turn_off : Slaac → IfaceAddrs → ℕ → Call
  to_take : Slaac → IfaceAddrs → Input → List ℕ → Instant → Call
  to_settle : Slaac → IfaceAddrs → Bool → HardwareAddress → List ℕ → Instant → Call
  to_turn : Slaac → IfaceAddrs → Woken → List ℕ → HardwareAddress → List ℕ → Call
  to_run : Slaac → IfaceAddrs → Option Instant → Inbox → List ℕ → HardwareAddress → List ℕ → ℕ → Call

-- its answer: all that it returns and leaves besides these
pub data Returned : Type 0 where
  found : Result Answer Refusal → Returned
  gave_neighbor : Result (Option Neighbor) Refusal → Returned
  ended : Result (Unit {0}) Refusal → Returned
  swept : Events → ℕ → Result (Unit {0}) Refusal → Clock → Returned
  pushed : Result (Option ℕ) Refusal → Returned
  released : Result (Option ℕ) Refusal → Returned
  purged : Handles → Result (Unit {0}) Refusal → Returned
  gave_packet : Option PendingPacket → Returned
  gave_route : Option Route → Returned
  heard : Slaac → Result AdvertAnswer Refusal → Returned
  polled : Slaac → IfaceAddrs → Result PollAnswer Refusal → List ℕ → Clock → Returned
  off : Slaac → IfaceAddrs → Handles → Result (Unit {0}) Refusal → Returned
  took : Slaac → IfaceAddrs → Action → Handles → Returned
  settled : Slaac → IfaceAddrs → Result PollAnswer Refusal → Events → Handles → Option Instant → List ℕ → Returned
  turned : Slaac → IfaceAddrs → Report → Option Instant → List ℕ → Returned
  ran : Slaac → IfaceAddrs → Reports → Option Instant → List ℕ → Returned

abbrev pub cache_now : Held → NeighborCache → Held
cache_now h c = record { cache = c; queue = h.queue; routes = h.routes }

abbrev pub queue_now : Held → PendingQueue → Held
queue_now h q = record { cache = h.cache; queue = q; routes = h.routes }

abbrev pub routes_now : Held → Routes → Held
routes_now h r = record { cache = h.cache; queue = h.queue; routes = r }

-- the card of the main loop that holds these, with its interface's SLAAC and addresses; and what a card holds
abbrev pub card_of : Held → Slaac → IfaceAddrs → Card
card_of h s t = record { slaac = s; addrs = t; routes = h.routes; cache = h.cache; queue = h.queue }

abbrev pub held_by_is : Card → Held
held_by_is x = record { cache = x.cache; queue = x.queue; routes = x.routes }

-- one call, with an answer that its function's promise allows, and what is held after it; sweeps and polls with the clock lent, and by value
pub data Step : Held → Call → Returned → Held → Type 0 where
  looks_up : (h : Held) (i : ℕ) (a : Ipv6Addr) (r : Result Answer Refusal) → LookedUp h.cache i a r → Step h (to_lookup i a) (found r) h
  starts : (h : Held) (i : ℕ) (a : Ipv6Addr) (r : Changed) → StartTo h.cache i a r → Step h (to_start i a) (ended r.outcome) (cache_now h r.cache)
  fills : (h : Held) (i : ℕ) (a : Ipv6Addr) (hw : HardwareAddress) (now : Instant) (r : Changed) → FillTo h.cache i a hw now r
      → Step h (to_fill i a hw now) (ended r.outcome) (cache_now h r.cache)
  inserts : (h : Held) (i : ℕ) (a : Ipv6Addr) (hw : HardwareAddress) (expires : Instant) (r : Changed) → InsertTo h.cache i a hw expires r
      → Step h (to_insert i a hw expires) (ended r.outcome) (cache_now h r.cache)
  gets : (h : Held) (i : ℕ) (a : Ipv6Addr) (r : Result (Option Neighbor) Refusal) → GotBy h.cache i a r → Step h (to_get i a) (gave_neighbor r) h
  lists_neighbors : (h : Held) (n : ℕ) (r : Option Neighbor) → ListedAt h.cache n r → Step h (to_list_neighbor n) (gave_neighbor (Ok r)) h
  removes : (h : Held) (i : ℕ) (a : Ipv6Addr) (r : Removed) → RemovedTo h.cache i a r → Step h (to_remove i a) (gave_neighbor r.taken) (cache_now h r.cache)
  clears : (h : Held) (i : ℕ) (r : Changed) → ClearTo h.cache i r → Step h (to_clear i) (ended r.outcome) (cache_now h r.cache)
  sweeps : (h : Held) (k k' : Clock) (i : ℕ) (r : Reported) → ReportedTo h.cache k i r k'
      → Step h (to_sweep k i) (swept r.events r.looked r.outcome k') (cache_now h r.cache)
  sweeps_at : (h : Held) (k : Clock) (i : ℕ) (r : Swept) → SweptTo h.cache k i r
      → Step h (to_sweep_at k i) (swept r.events r.looked r.outcome r.clock) (cache_now h r.cache)
  pushes : (h : Held) (i : ℕ) (a : Ipv6Addr) (n : ℕ) (r : Pushed) → PushedTo h.queue i a n r
      → Step h (to_push i a n) (pushed r.answer) (queue_now h r.queue)
  releases : (h : Held) (i : ℕ) (a : Ipv6Addr) (r : Released) → ReleasedTo h.queue i a r
      → Step h (to_release i a) (released r.answer) (queue_now h r.queue)
  purges_orphans : (h : Held) (r : Purged) → OrphansPurged h.queue h.cache r
      → Step h to_purge_orphans (purged r.handles r.outcome) (queue_now h r.queue)
  purges_iface : (h : Held) (i : ℕ) (r : Purged) → PurgedTo h.queue i r → Step h (to_purge_iface i) (purged r.handles r.outcome) (queue_now h r.queue)
  lists_packets : (h : Held) (n : ℕ) (r : Option PendingPacket) → WaitingAt h.queue n r → Step h (to_list_packet n) (gave_packet r) h
  adds_route : (h : Held) (i : ℕ) (to : Ipv6Cidr) (via : Ipv6Addr) (r : AddedRoute) → AddedRouteTo h.routes i to via r
      → Step h (to_add_route i to via) (ended r.outcome) (routes_now h r.routes)
  lists_routes : (h : Held) (n : ℕ) (r : Option Route) → RouteListed h.routes n r → Step h (to_list_route n) (gave_route r) h
  hears : (h : Held) (s : Slaac) (i : ℕ) (source : Ipv6Addr) (msg : List ℕ) (now : Instant) (r : Advertised) → AdvertisedTo s h.cache i source msg now r
      → Step h (to_advertise s i source msg now) (heard r.slaac r.answer) (cache_now h r.cache)
  polls : (h : Held) (s : Slaac) (t : IfaceAddrs) (i : ℕ) (up : Bool) (hw : HardwareAddress) (buf buf' : List ℕ) (k k' : Clock) (p : Polled)
      → PolledBy s t h.routes i up hw buf k p buf' k'
      → Step h (to_poll s t i up hw buf k) (polled p.slaac p.addrs p.answer buf' k') (routes_now h p.routes)
  polls_at : (h : Held) (s : Slaac) (t : IfaceAddrs) (i : ℕ) (up : Bool) (hw : HardwareAddress) (buf buf' : List ℕ) (k : Clock) (p : PolledAt)
      → PolledTo s t h.routes i up hw buf k p buf'
      → Step h (to_poll_at s t i up hw buf k) (polled p.polled.slaac p.polled.addrs p.polled.answer buf' p.clock) (routes_now h p.polled.routes)
  turns_off : (h : Held) (s : Slaac) (t : IfaceAddrs) (i : ℕ) (x : TurnedOff) → TurnedOffTo s t h.routes h.cache h.queue i x
      → Step h (to_turn_off s t i) (off x.slaac x.addrs x.handles x.outcome) (record { cache = x.cache; queue = x.queue; routes = x.routes })
  takes : (h : Held) (s : Slaac) (t : IfaceAddrs) (input : Input) (message : List ℕ) (now : Instant) (r : Taken) → r ≡ taken (card_of h s t) input message now
      → Step h (to_take s t input message now) (took r.card.slaac r.card.addrs r.action r.ready) (held_by_is r.card)
  settles : (h : Held) (s : Slaac) (t : IfaceAddrs) (up : Bool) (hw : HardwareAddress) (buf buf' : List ℕ) (now : Instant) (r : Settled)
      → SettledTo (card_of h s t) up hw buf now r buf'
      → Step h (to_settle s t up hw buf now) (settled r.card.slaac r.card.addrs r.answer r.events r.dropped r.wake buf') (held_by_is r.card)
  turns : (h : Held) (s : Slaac) (t : IfaceAddrs) (w : Woken) (received : List ℕ) (hw : HardwareAddress) (buf buf' : List ℕ) (r : Turned)
      → TurnedTo (card_of h s t) w received hw buf r buf'
      → Step h (to_turn s t w received hw buf) (turned r.card.slaac r.card.addrs r.report r.wake buf') (held_by_is r.card)
  runs : (h : Held) (s : Slaac) (t : IfaceAddrs) (wake : Option Instant) (inbox : Inbox) (received : List ℕ) (hw : HardwareAddress) (buf buf' : List ℕ) (budget : ℕ) (r : Ran)
      → RanTo (card_of h s t) wake inbox received hw buf budget r buf'
      → Step h (to_run s t wake inbox received hw buf budget) (ran r.card.slaac r.card.addrs r.reports r.wake buf') (held_by_is r.card)

-- calls one after the other
pub data Run : Held → List Call → List Returned → Held → Type 0 where
  none : (h : Held) → Run h [] [] h
  one_more : {f g h : Held} {call : Call} {r : Returned} {calls : List Call} {rs : List Returned} → Step f call r g → Run g calls rs h → Run f (call ∷ calls) (r ∷ rs) h

-- A run: fe80::1 of interface 0 is looked for, 7 waits for it, its interface is cleared, and 7 comes back

abbrev pub told : List Call
told =
    to_start 0 (node_on 0 1).addr
    ∷ to_lookup 0 (node_on 0 1).addr
    ∷ to_push 0 (node_on 0 1).addr 7
    ∷ to_list_packet 0
    ∷ to_clear 0
    ∷ to_lookup 0 (node_on 0 1).addr
    ∷ to_purge_orphans
    ∷ []

abbrev pub telling : List Returned
telling =
    ended (Ok tt)
    ∷ found (Ok Pending)
    ∷ pushed (Ok None)
    ∷ gave_packet (Some (packet (node_on 0 1) 7))
    ∷ ended (Ok tt)
    ∷ found (Ok NotFound)
    ∷ purged (one_handle 7) (Ok tt)
    ∷ []

-- the empty routes, this cache and this queue
abbrev pub holding : NeighborCache → PendingQueue → Held
holding c q = record { cache = c; queue = q; routes = empty_routes }

-- what is left and answered is the same

abbrev pub AlikeChanged : Changed → Changed → Type 0
AlikeChanged r s = (r.outcome ≡ s.outcome) × Same r.cache s.cache

abbrev pub AlikeSwept : Swept → Swept → Type 0
AlikeSwept r s = (r.events ≡ s.events) × (r.looked ≡ s.looked) × (r.outcome ≡ s.outcome) × (r.clock ≡ s.clock) × Same r.cache s.cache

abbrev pub AlikePurged : Purged → Purged → Type 0
AlikePurged r s = (r.handles ≡ s.handles) × (r.outcome ≡ s.outcome) × SameQueue r.queue s.queue

abbrev pub AlikePolled : Polled → Polled → Type 0
AlikePolled p o = (p.slaac ≡ o.slaac) × (p.addrs ≡ o.addrs) × (p.answer ≡ o.answer) × SameRoutes p.routes o.routes

pub record AlikeOff (x y : TurnedOff) : Type 0 where
  pub slaac : x.slaac ≡ y.slaac
  pub addrs : x.addrs ≡ y.addrs
  pub handles : x.handles ≡ y.handles
  pub outcome : x.outcome ≡ y.outcome
  pub routes : SameRoutes x.routes y.routes
  pub cache : Same x.cache y.cache
  pub queue : SameQueue x.queue y.queue

-- A card of the main loop, which has one interface

pub record SameCard (x y : Card) : Type 0 where
  pub slaac : x.slaac ≡ y.slaac
  pub addrs : x.addrs ≡ y.addrs
  pub routes : SameRoutes x.routes y.routes
  pub cache : Same x.cache y.cache
  pub queue : SameQueue x.queue y.queue

pub record AlikeTaken (t u : Taken) : Type 0 where
  pub card : SameCard t.card u.card
  pub action : t.action ≡ u.action
  pub ready : t.ready ≡ u.ready

pub record AlikeSettled (s t : Settled) : Type 0 where
  pub card : SameCard s.card t.card
  pub answer : s.answer ≡ t.answer
  pub events : s.events ≡ t.events
  pub dropped : s.dropped ≡ t.dropped
  pub wake : s.wake ≡ t.wake

pub record NoCallTells : Type 0 where
  -- Each call on what is the same: its answer is the same, and what it leaves is the same.
  pub lookup_same : (c d : NeighborCache) (i : ℕ) (a : Ipv6Addr) (r s : Result Answer Refusal) → Same c d → LookedUp c i a r → LookedUp d i a s → r ≡ s
  pub start_same : (c d : NeighborCache) (i : ℕ) (a : Ipv6Addr) (r s : Changed) → Same c d → StartTo c i a r → StartTo d i a s → AlikeChanged r s
  pub fill_same : (c d : NeighborCache) (i : ℕ) (a : Ipv6Addr) (hw : HardwareAddress) (now : Instant) (r s : Changed) → Same c d
      → FillTo c i a hw now r → FillTo d i a hw now s → AlikeChanged r s
  pub insert_same : (c d : NeighborCache) (i : ℕ) (a : Ipv6Addr) (hw : HardwareAddress) (expires : Instant) (r s : Changed) → Same c d
      → InsertTo c i a hw expires r → InsertTo d i a hw expires s → AlikeChanged r s
  pub get_same : (c d : NeighborCache) (i : ℕ) (a : Ipv6Addr) (r s : Result (Option Neighbor) Refusal) → Same c d → GotBy c i a r → GotBy d i a s → r ≡ s
  pub at_same : (c d : NeighborCache) (n : ℕ) (r s : Option Neighbor) → Same c d → ListedAt c n r → ListedAt d n s → r ≡ s
  pub remove_same : (c d : NeighborCache) (i : ℕ) (a : Ipv6Addr) (r s : Removed) → Same c d → RemovedTo c i a r → RemovedTo d i a s
      → (r.taken ≡ s.taken) × Same r.cache s.cache
  pub clear_same : (c d : NeighborCache) (i : ℕ) (r s : Changed) → Same c d → ClearTo c i r → ClearTo d i s → AlikeChanged r s
  pub sweep_same : (c d : NeighborCache) (k k' k'' : Clock) (i : ℕ) (r s : Reported) → Same c d → ReportedTo c k i r k' → ReportedTo d k i s k''
      → (r.events ≡ s.events) × (r.looked ≡ s.looked) × (r.outcome ≡ s.outcome) × (k' ≡ k'') × Same r.cache s.cache
  pub sweep_at_same : (c d : NeighborCache) (k : Clock) (i : ℕ) (r s : Swept) → Same c d → SweptTo c k i r → SweptTo d k i s → AlikeSwept r s
  pub push_same : (p q : PendingQueue) (i : ℕ) (a : Ipv6Addr) (n : ℕ) (r s : Pushed) → SameQueue p q → PushedTo p i a n r → PushedTo q i a n s
      → (r.answer ≡ s.answer) × SameQueue r.queue s.queue
  pub release_same : (p q : PendingQueue) (i : ℕ) (a : Ipv6Addr) (r s : Released) → SameQueue p q → ReleasedTo p i a r → ReleasedTo q i a s
      → (r.answer ≡ s.answer) × SameQueue r.queue s.queue
  pub orphans_same : (p q : PendingQueue) (c d : NeighborCache) (r s : Purged) → SameQueue p q → Same c d → OrphansPurged p c r → OrphansPurged q d s
      → AlikePurged r s
  pub purge_same : (p q : PendingQueue) (i : ℕ) (r s : Purged) → SameQueue p q → PurgedTo p i r → PurgedTo q i s → AlikePurged r s
  pub packet_same : (p q : PendingQueue) (n : ℕ) (r s : Option PendingPacket) → SameQueue p q → WaitingAt p n r → WaitingAt q n s → r ≡ s
  pub add_route_same : (t u : Routes) (i : ℕ) (to : Ipv6Cidr) (via : Ipv6Addr) (r s : AddedRoute) → SameRoutes t u → AddedRouteTo t i to via r
      → AddedRouteTo u i to via s → (r.outcome ≡ s.outcome) × SameRoutes r.routes s.routes
  pub route_same : (t u : Routes) (n : ℕ) (r s : Option Route) → SameRoutes t u → RouteListed t n r → RouteListed u n s → r ≡ s
  pub advertise_same : (c d : NeighborCache) (s : Slaac) (i : ℕ) (source : Ipv6Addr) (msg : List ℕ) (now : Instant) (x y : Advertised) → Same c d
      → AdvertisedTo s c i source msg now x → AdvertisedTo s d i source msg now y
      → (x.slaac ≡ y.slaac) × (x.answer ≡ y.answer) × Same x.cache y.cache
  pub poll_same : (r u : Routes) (s : Slaac) (t : IfaceAddrs) (i : ℕ) (up : Bool) (hw : HardwareAddress) (buf buf' buf'' : List ℕ) (k k' k'' : Clock) (p o : Polled)
      → SameRoutes r u → PolledBy s t r i up hw buf k p buf' k' → PolledBy s t u i up hw buf k o buf'' k''
      → AlikePolled p o × (buf' ≡ buf'') × (k' ≡ k'')
  pub poll_at_same : (r u : Routes) (s : Slaac) (t : IfaceAddrs) (i : ℕ) (up : Bool) (hw : HardwareAddress) (buf buf' buf'' : List ℕ) (k : Clock) (p o : PolledAt)
      → SameRoutes r u → PolledTo s t r i up hw buf k p buf' → PolledTo s t u i up hw buf k o buf''
      → AlikePolled p.polled o.polled × (buf' ≡ buf'') × (p.clock ≡ o.clock)
  pub off_same : (s : Slaac) (t : IfaceAddrs) (r u : Routes) (c d : NeighborCache) (p q : PendingQueue) (i : ℕ) (x y : TurnedOff)
      → SameRoutes r u → Same c d → SameQueue p q → TurnedOffTo s t r c p i x → TurnedOffTo s t u d q i y → AlikeOff x y
  -- The calls of the main loop
  pub take_same : (x y : Card) (input : Input) (message : List ℕ) (now : Instant) (t u : Taken) → SameCard x y → t ≡ taken x input message now
      → u ≡ taken y input message now → AlikeTaken t u
  pub settle_same : (x y : Card) (up : Bool) (hw : HardwareAddress) (buf buf' buf'' : List ℕ) (now : Instant) (s t : Settled) → SameCard x y
      → SettledTo x up hw buf now s buf' → SettledTo y up hw buf now t buf'' → AlikeSettled s t × (buf' ≡ buf'')
  pub turn_same : (x y : Card) (w : Woken) (received : List ℕ) (hw : HardwareAddress) (buf buf' buf'' : List ℕ) (t u : Turned) → SameCard x y
      → TurnedTo x w received hw buf t buf' → TurnedTo y w received hw buf u buf''
      → SameCard t.card u.card × (t.report ≡ u.report) × (t.wake ≡ u.wake) × (buf' ≡ buf'')
  pub run_same : (x y : Card) (wake : Option Instant) (inbox : Inbox) (received : List ℕ) (hw : HardwareAddress) (buf buf' buf'' : List ℕ) (budget : ℕ) (r s : Ran)
      → SameCard x y → RanTo x wake inbox received hw buf budget r buf' → RanTo y wake inbox received hw buf budget s buf''
      → SameCard r.card s.card × (r.reports ≡ s.reports) × (r.wake ≡ s.wake) × (buf' ≡ buf'')
  -- And so any calls, one after the other.
  pub any_calls : (h g h' g' : Held) (calls : List Call) (rs ss : List Returned) → SameHeld h g → Run h calls rs h' → Run g calls ss g' → (rs ≡ ss) × SameHeld h' g'
  -- Such as these, computed, from what the two orders of the example left
  pub told_first : Run (holding (cache_with (entry_on 1) (entry_on 1) 0) (queue_with (packet_on 1) (packet_on 1) 0)) told telling
      (holding (cache_with (entry_on 0) (entry_on 1) 0) (queue_with (packet (node_on 0 1) 7) (packet_on 1) 0))
  pub told_second : Run (holding (cache_with (entry_on 0) (entry_on 1) 0) (queue_with (packet_on 0) (packet_on 1) 0)) told telling
      (holding (cache_with (entry_on 0) (entry_on 1) 0) (queue_with (packet (node_on 0 1) 7) (packet_on 1) 0))
