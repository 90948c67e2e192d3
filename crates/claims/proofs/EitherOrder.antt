-- Clearing in either order, twice, and what stays. Assumes nothing.
use Prim.Native.Nat.{ℕ, ◌+◌, ◌≤◌, ◌<◌}
use borrow.Author.Tests.{le-ltb, lt-ltb, eqb-true, eqb-false, ne_eqb}
use lib.Dec.{eqb}
use lib.ListN.{length, take, get_or, replicate}
use mathlib.Core.Bool.{Bool, true, false, cond, true≢false}
use mathlib.Core.List.{List, [], ◌∷◌, map}
use mathlib.Core.Path.{◌≡◌, refl, sym, ap, ◌∙◌}
use native.Mathlib.Omega.{arith}
use Rattle.std.specs.Prelude.{Result, Ok, Err}
use Rattle.wire.specs.declared.error.Refusal.{Refusal}
use Rattle.autoconf.specs.OffRules.{TurnedOffTo, turned_off, cleared_cache, cleared_queue, cleared_handles, off_now, left_alone, off_by}
use Rattle.autoconf.specs.declared.TurnedOff.{TurnedOff}
use Rattle.claims.proofs.Counts.{goes_parts}
use Rattle.claims.proofs.Lists.{entries_with, twice_slots, twice_count}
use Rattle.claims.proofs.NoCallTells.{no_call_tells}
use Rattle.claims.proofs.Same.{given}
use Rattle.claims.proofs.Sleep.{purge_queue, purge_none}
use Rattle.claims.specs.Caches.{went_by, went_in}
use Rattle.claims.specs.Counts.{purge_iface, turn_off, purged_with_iface, no_handle, one_handle, resolving}
use Rattle.claims.specs.EitherOrder.{Clears, Purges, Own, TurnsOff, entry_of, packet_of, KeepsOrder, HandedInOrder, one_waits, none_waits, route_on, EitherOrder}
use Rattle.claims.specs.Packets.{handle_list}
use Rattle.claims.specs.Same.{SameEntries, Same, SameQueue, SameRoutes, entry_on, packet_on, NotTheSlots}
use Rattle.iface.specs.AddressRules.{clear_addrs}
use Rattle.iface.specs.RouteRules.{no_route, routes_of, with_routes, is_learned, clear_routes}
use Rattle.iface.specs.declared.addr.IfaceAddrs.{IfaceAddrs}
use Rattle.iface.specs.declared.route.Routes.{Routes}
use Rattle.neighbor.specs.CacheCalls.{blank, entries, clear_in, change_by, empty as noNeighbours}
use Rattle.neighbor.specs.NeighborRules.{same_key, on_iface as entryOnIface, clear_iface}
use Rattle.neighbor.specs.declared.Changed.{Changed}
use Rattle.neighbor.specs.declared.NeighborCache.{NeighborCache}
use Rattle.pending.specs.QueueCalls.{blank as blankPacket, packets, handles_of, purged_of, purge_by, OrphansPurged, PurgedTo}
use Rattle.pending.specs.QueueCount.{count_of, waiting}
use Rattle.pending.specs.QueueRules.{Queue, handle_of, orphaned, on_iface, dropped_handles}
use Rattle.pending.specs.declared.Handles.{Handles}
use Rattle.pending.specs.declared.PendingPacket.{PendingPacket}
use Rattle.pending.specs.declared.PendingQueue.{PendingQueue}
use Rattle.pending.specs.declared.Purged.{Purged}
use Rattle.slaac.specs.DiscoveryRules.{fresh}
use Rattle.slaac.specs.declared.Slaac.{Slaac}
use Rattle.table.proofs.Kept.{kept_either, dropped_apart, kept_in_order, in_order_only}
use Rattle.table.specs.Table.{filled, kept, dropped}
use Rattle.wire.specs.Refusals.{iface_check}
use Rattle.wire.specs.declared.error.Refusal.TheVariants.{NoSuchIface}

-- Any table, of which some entries went by one test, and then some by another

module _ {A : Type 0} (slots : List A) (len : ℕ) (gone : A → Bool) where
  abbrev left : List A
  left = kept gone (take len slots)

  abbrev SameAs : (A → Bool) → List A → Type 0
  SameAs other firstLeft =
      SameEntries (filled (filled slots left) (kept other (take (length left) (filled slots left)))) (length (kept other (take (length left) (filled slots left))))
      (filled (filled slots firstLeft) (kept gone (take (length firstLeft) (filled slots firstLeft))))
      (length (kept gone (take (length firstLeft) (filled slots firstLeft))))

either_first : {A : Type 0} (slots : List A) (len : ℕ) (gone other : A → Bool) → SameAs slots len gone other (left slots len other)
either_first slots len gone other =
    rw (entries_with slots (left slots len gone), entries_with slots (left slots len other), kept_either gone other (take len slots))
    (given (filled slots (left slots len gone)) (filled slots (left slots len other)) (kept other (kept gone (take len slots))))

-- The three tables, where a clearing is carried out or not

itself : {A : Type 0} {slots : List A} {len : ℕ} → SameEntries slots len slots len
itself = record { entries = refl; count = refl }

abbrev cleared_routes : Bool → Routes → ℕ → Routes
cleared_routes turned r i = cond turned (with_routes r (clear_routes i (routes_of r))) r

module _ (a b : ℕ) where
  cache_either : (p o : Bool) (c : NeighborCache) → Same (cleared_cache o (cleared_cache p c a) b) (cleared_cache p (cleared_cache o c b) a)
  cache_either true true c = either_first c.slots c.len (entryOnIface a) (entryOnIface b)
  cache_either true false c = itself
  cache_either false true c = itself
  cache_either false false c = itself

  queue_either : (p o : Bool) (q : PendingQueue) → SameQueue (cleared_queue o (cleared_queue p q a) b) (cleared_queue p (cleared_queue o q b) a)
  queue_either true true q = either_first q.slots q.len (on_iface a) (on_iface b)
  queue_either true false q = itself
  queue_either false true q = itself
  queue_either false false q = itself

  routes_either : (p o : Bool) (r : Routes) → SameRoutes (cleared_routes o (cleared_routes p r a) b) (cleared_routes p (cleared_routes o r b) a)
  unfolding clear_routes
  routes_either true true r = either_first r.slots r.len (is_learned a) (is_learned b)
  routes_either true false r = itself
  routes_either false true r = itself
  routes_either false false r = itself

  -- what one interface's clearing hands back, another's before it does not change
  handles_apart : (p o : Bool) (q : PendingQueue) → ((x : PendingPacket) → on_iface a x ≡ true → on_iface b x ≡ false)
      → cleared_handles o (cleared_queue p q a) b ≡ cleared_handles o q b
  unfolding dropped_handles
  handles_apart p false q h = refl
  handles_apart false true q h = refl
  handles_apart true true q h =
      rw (entries_with q.slots (kept (on_iface a) (packets q)))
      (ap (λ (l : Queue). handles_of (map handle_of l)) (dropped_apart (on_iface a) (on_iface b) (packets q) h))

-- a packet of a is not of b
apart : (a b : ℕ) → (a ≡ b → ⊥) → (x : PendingPacket) → on_iface a x ≡ true → on_iface b x ≡ false
unfolding on_iface
apart a b h x e = ne_eqb b x.iface (λ (g : b ≡ x.iface). h (eqb-true a x.iface e ∙ sym g))

-- Waiting, before and after
parts : (h : ℕ) (p : Bool) (q : PendingQueue) (a : ℕ)
    → waiting h (packets q) ≡ count_of h (handle_list (cleared_handles p q a)) + waiting h (packets (cleared_queue p q a))
parts h true q a = goes_parts h q (on_iface a)
parts h false q a = omega arith

often : (h : ℕ) (q : PendingQueue) (a b : ℕ) (p o : Bool)
    → count_of h (handle_list (cleared_handles p q a)) + (count_of h (handle_list (cleared_handles o (cleared_queue p q a) b)) + 0)
    ≡ count_of h (handle_list (cleared_handles o q b)) + (count_of h (handle_list (cleared_handles p (cleared_queue o q b) a)) + 0)
often h q a b p o =
    omega (
      arith,
      parts h p q a,
      parts h o (cleared_queue p q a) b,
      parts h o q b,
      parts h p (cleared_queue o q b) a,
      ap (waiting h) (queue_either a b p o q).entries,
    )

-- Clearing and purging, of what their promises allow

abbrev fine : Result (Unit {0}) Refusal → Bool
fine (Err why) = false
fine (Ok tt) = true

abbrev outcome_of : Result (Unit {0}) Refusal → Result (Unit {0}) Refusal
outcome_of (Err why) = Err why
outcome_of (Ok tt) = Ok tt

cleared_by : (x : Result (Unit {0}) Refusal) (c : NeighborCache) (a : ℕ) → change_by x c (clear_in c a) ≡ record { cache = cleared_cache (fine x) c a; outcome = outcome_of x }
cleared_by (Err why) c a = refl
cleared_by (Ok tt) c a = refl

purged_by : (x : Result (Unit {0}) Refusal) (q : PendingQueue) (a : ℕ)
    → purge_by x q (on_iface a) ≡ record { queue = cleared_queue (fine x) q a; handles = cleared_handles (fine x) q a; outcome = outcome_of x }
unfolding purged_of
purged_by (Err why) q a = refl
purged_by (Ok tt) q a = refl

fine_at : (a : ℕ) → a ≤ 3 → iface_check a ≡ Ok tt
fine_at a h = rw (le-ltb 3 a h) refl

refused_at : (a : ℕ) → 3 < a → iface_check a ≡ Err NoSuchIface
refused_at a h = rw (lt-ltb 3 a h) refl

-- Twice

clear_twice : (c : NeighborCache) (a : ℕ) → clear_in (clear_in c a) a ≡ clear_in c a
clear_twice c a =
    λ i. record { slots = twice_slots c.slots c.len (entryOnIface a) i; len = twice_count c.slots c.len (entryOnIface a) i }

cache_twice : (x : Result (Unit {0}) Refusal) (c : NeighborCache) (a : ℕ)
    → change_by x (change_by x c (clear_in c a)).cache (clear_in (change_by x c (clear_in c a)).cache a) ≡ change_by x c (clear_in c a)
cache_twice (Err why) c a = refl
cache_twice (Ok tt) c a = λ i. record { cache = clear_twice c a i; outcome = Ok tt }

abbrev handed_none : PendingQueue → Result (Unit {0}) Refusal → Purged
handed_none q o = record { queue = q; handles = no_handle; outcome = o }

purged_twice : (q : PendingQueue) (goes : PendingPacket → Bool) → purged_of (purged_of q goes).queue goes ≡ handed_none (purged_of q goes).queue (Ok tt)
unfolding purged_of
purged_twice q goes = λ i. record { queue = purge_queue q goes i; handles = purge_none q goes i; outcome = Ok tt }

queue_twice : (x : Result (Unit {0}) Refusal) (q : PendingQueue) (goes : PendingPacket → Bool)
    → purge_by x (purge_by x q goes).queue goes ≡ handed_none (purge_by x q goes).queue (purge_by x q goes).outcome
unfolding purged_of
queue_twice (Err why) q goes = refl
queue_twice (Ok tt) q goes = purged_twice q goes

-- What stays, and in which order

entries_order : (c : NeighborCache) (a : ℕ) → KeepsOrder (entry_of a) (entries c) (entries (clear_in c a))
unfolding entryOnIface
entries_order c a =
    record {
      went = dropped (entryOnIface a) (entries c);
      in_order = rw (entries_with c.slots (clear_iface a (entries c))) (kept_in_order (entryOnIface a) (entries c));
    }

packets_order : (q : PendingQueue) (goes : PendingPacket → Bool)
    → HandedInOrder goes (packets q) (packets (purged_of q goes).queue) (purged_of q goes).handles
unfolding purged_of dropped_handles
packets_order q goes =
    record { went = dropped goes (packets q); in_order = rw (entries_with q.slots (kept goes (packets q))) (kept_in_order goes (packets q)); handed = refl }

-- Turning SLAAC off

-- what it leaves and hands back, by whether it is carried out, and whether an address went
abbrev turned : Result (Unit {0}) Refusal → Slaac → Bool
turned x s = cond (fine x) s.on false

abbrev slaac_by : Result (Unit {0}) Refusal → Slaac → Slaac
slaac_by x s = cond (turned x s) (fresh false) s

abbrev addrs_by : Result (Unit {0}) Refusal → Slaac → IfaceAddrs → IfaceAddrs
addrs_by x s t = cond (turned x s) (clear_addrs t).addrs t

abbrev off_is : Result (Unit {0}) Refusal → Own → Routes → NeighborCache → PendingQueue → ℕ → TurnedOff
off_is x m r c q i =
    turned_off (slaac_by x m.slaac) (addrs_by x m.slaac m.addrs) (cleared_routes (turned x m.slaac) r i)
    (cleared_cache (went_by x m.slaac.on (clear_addrs m.addrs).any) c i) (cleared_queue (went_by x m.slaac.on (clear_addrs m.addrs).any) q i)
    (cleared_handles (went_by x m.slaac.on (clear_addrs m.addrs).any) q i) (outcome_of x)

off_is_lem : (x : Result (Unit {0}) Refusal) (m : Own) (r : Routes) (c : NeighborCache) (q : PendingQueue) (i : ℕ) → off_by x m.slaac m.addrs r c q i ≡ off_is x m r c q i
unfolding off_now
off_is_lem (Err why) m r c q i = refl
off_is_lem (Ok tt) m r c q i = go m.slaac.on
  where
    go : (b : Bool)
        → cond {A = TurnedOff} b (off_now m.addrs r c q i) (left_alone m.slaac m.addrs r c q (Ok tt))
        ≡ turned_off (cond b (fresh false) m.slaac) (cond b (clear_addrs m.addrs).addrs m.addrs) (cleared_routes b r i)
        (cleared_cache (cond b (clear_addrs m.addrs).any false) c i) (cleared_queue (cond b (clear_addrs m.addrs).any false) q i)
        (cleared_handles (cond b (clear_addrs m.addrs).any false) q i) (Ok tt)
    go true = refl
    go false = refl

off_twice : (x : Result (Unit {0}) Refusal) (s : Slaac) (t : IfaceAddrs) (r : Routes) (c : NeighborCache) (q : PendingQueue) (i : ℕ) (y : TurnedOff) → y ≡ off_by x s t r c q i
    → off_by x y.slaac y.addrs y.routes y.cache y.queue i
    ≡ turned_off y.slaac y.addrs y.routes y.cache y.queue no_handle y.outcome
unfolding off_now
off_twice (Err why) s t r c q i y h = rw h refl
off_twice (Ok tt) s t r c q i y h = go s.on refl y h
  where
    go : (b : Bool) → s.on ≡ b → (y : TurnedOff) → y ≡ cond b (off_now t r c q i) (left_alone s t r c q (Ok tt))
        → off_by (Ok tt) y.slaac y.addrs y.routes y.cache y.queue i
        ≡ turned_off y.slaac y.addrs y.routes y.cache y.queue no_handle y.outcome
    go true e y g = rw g refl
    go false e y g = rw (g, e) refl

went_clears : (x : Result (Unit {0}) Refusal) (on any : Bool) (c : NeighborCache) (i : ℕ) → went_by x on any ≡ true → cleared_cache (went_by x on any) c i ≡ cleared_cache (fine x) c i
went_clears (Err why) on any c i h = absurd (true≢false (sym h))
went_clears (Ok tt) on any c i h = rw h refl

off_stays : (x : Result (Unit {0}) Refusal) (s : Slaac) (r : Routes) (i : ℕ) → s.on ≡ false → cleared_routes (turned x s) r i ≡ r
off_stays (Err why) s r i h = refl
off_stays (Ok tt) s r i h = rw h refl

routes_order : (r : Routes) (c : NeighborCache) (q : PendingQueue) (a : ℕ) (m : Own) (x : TurnedOff) → a ≤ 3 → m.slaac.on ≡ true
    → TurnedOffTo m.slaac m.addrs r c q a x → KeepsOrder (is_learned a) (routes_of r) (routes_of x.routes)
unfolding clear_routes
routes_order r c q a m x h on p =
    rw (p.is ∙ off_is_lem (iface_check a) m r c q a, fine_at a h, on)
    (record { went = dropped (is_learned a) (routes_of r); in_order = rw (entries_with r.slots (kept (is_learned a) (routes_of r))) (kept_in_order (is_learned a) (routes_of r)) })

-- the second of two
abbrev then_off : Routes → NeighborCache → PendingQueue → ℕ → Own → ℕ → Own → TurnedOff
then_off r c q a m b n =
    off_is (iface_check b) n (off_is (iface_check a) m r c q a).routes (off_is (iface_check a) m r c q a).cache (off_is (iface_check a) m r c q a).queue b

both_off : (r : Routes) (c : NeighborCache) (q : PendingQueue) (a b : ℕ) (m n : Own) (x y : TurnedOff) → TurnsOff r c q a m b n x y
    → (x ≡ off_is (iface_check a) m r c q a) × (y ≡ then_off r c q a m b n)
both_off r c q a b m n x y h =
    let first : x ≡ off_is (iface_check a) m r c q a = h.0.is ∙ off_is_lem (iface_check a) m r c q a in (
      first,
      h.1.is
          ∙ (off_is_lem (iface_check b) n x.routes x.cache x.queue b
          ∙ ap (λ (w : TurnedOff). off_is (iface_check b) n w.routes w.cache w.queue b) first),
    )

-- Two clearings, two purges

abbrev cleared_is : NeighborCache → ℕ → Changed
cleared_is c a = record { cache = cleared_cache (fine (iface_check a)) c a; outcome = outcome_of (iface_check a) }

both_cleared : (c : NeighborCache) (a b : ℕ) (x y : Changed) → Clears c a b x y → (x ≡ cleared_is c a) × (y ≡ cleared_is (cleared_is c a).cache b)
both_cleared c a b x y h =
    let first : x ≡ cleared_is c a = h.0.is ∙ cleared_by (iface_check a) c a in
    (first, h.1.is ∙ (cleared_by (iface_check b) x.cache b ∙ ap (λ (w : Changed). cleared_is w.cache b) first))

abbrev purged_is : PendingQueue → ℕ → Purged
purged_is q a =
    record { queue = cleared_queue (fine (iface_check a)) q a; handles = cleared_handles (fine (iface_check a)) q a; outcome = outcome_of (iface_check a) }

both_purged : (q : PendingQueue) (a b : ℕ) (x y : Purged) → Purges q a b x y → (x ≡ purged_is q a) × (y ≡ purged_is (purged_is q a).queue b)
both_purged q a b x y h =
    let first : x ≡ purged_is q a = h.0.is ∙ purged_by (iface_check a) q a in
    (first, h.1.is ∙ (purged_by (iface_check b) x.queue b ∙ ap (λ (w : Purged). purged_is w.queue b) first))

-- The claims

packets_of_others : (q : PendingQueue) (a : ℕ) (x : Purged) → a ≤ 3 → PurgedTo q a x → HandedInOrder (packet_of a) (packets q) (packets x.queue) x.handles
unfolding on_iface
packets_of_others q a x h p = rw (p.is, fine_at a h) (packets_order q (on_iface a))

packets_only : (gone : PendingPacket → Bool) (before after after' : Queue) (hs gs : Handles) → HandedInOrder gone before after hs → HandedInOrder gone before after' gs
    → (after ≡ after') × (hs ≡ gs)
packets_only gone before after after' hs gs h g =
    let p = in_order_only gone before after h.went h.in_order in
    let o = in_order_only gone before after' g.went g.in_order in
    (p.0 ∙ sym o.0, h.handed ∙ (ap (λ (l : Queue). handles_of (map handle_of l)) (p.1 ∙ sym o.1) ∙ sym g.handed))

-- the scenes, each computed

waits_on : OrphansPurged one_waits resolving (record { queue = one_waits; handles = no_handle; outcome = Ok tt })
unfolding purged_of orphaned dropped_handles same_key
waits_on = record { is = refl; number = refl }

comes_back : OrphansPurged one_waits noNeighbours (record { queue = none_waits; handles = one_handle 7; outcome = Ok tt })
unfolding purged_of orphaned dropped_handles
comes_back = record { is = refl; number = refl }

other_first : {A : Type 0} (iface : A → ℕ) (e f : A) (l : List A) → (iface e ≡ iface f → ⊥) → e ∷ l ≡ f ∷ l → ⊥
other_first iface e f l h g = h (ap (λ (s : List _). iface (get_or s 0 e)) g)

not_the_slots : NotTheSlots
unfolding entryOnIface on_iface purged_of dropped_handles
not_the_slots =
    record {
      clears_0 = record { is = refl; number = refl };
      then_1 = record { is = refl; number = refl };
      clears_1 = record { is = refl; number = refl };
      then_0 = record { is = refl; number = refl };
      same = record { entries = refl; count = refl };
      unequal =
          λ e.
          other_first (λ f. f.iface) (entry_on 1) (entry_on 0) (entry_on 1 ∷ replicate 14 blank) (λ h. absurd (omega arith))
          (ap (λ (c : NeighborCache). c.slots) e);
      purges_0 = record { is = refl; number = refl };
      and_then_1 = record { is = refl; number = refl };
      purges_1 = record { is = refl; number = refl };
      and_then_0 = record { is = refl; number = refl };
      same_queue = record { entries = refl; count = refl };
      unequal_queue =
          λ e.
          other_first (λ p. p.iface) (packet_on 1) (packet_on 0) (packet_on 1 ∷ replicate 6 blankPacket) (λ h. absurd (omega arith))
          (ap (λ (q : PendingQueue). q.slots) e);
      counts_differ = λ s. let e = s.count in absurd (omega arith);
    }

module _ (q : PendingQueue) (a b : ℕ) (x y u v : Purged) (h : Purges q a b x y) (g : Purges q b a u v) where
  ab : (x ≡ purged_is q a) × (y ≡ purged_is (purged_is q a).queue b)
  ab = both_purged q a b x y h

  ba : (u ≡ purged_is q b) × (v ≡ purged_is (purged_is q b).queue a)
  ba = both_purged q b a u v g

  queue : SameQueue y.queue v.queue
  queue = rw (ab.1, ba.1) (queue_either a b (fine (iface_check a)) (fine (iface_check b)) q)

  queue_outcomes : (x.outcome ≡ v.outcome) × (y.outcome ≡ u.outcome)
  queue_outcomes = rw (ab.0, ab.1, ba.0, ba.1) (refl, refl)

  handles : eqb a b ≡ false → (x.handles ≡ v.handles) × (y.handles ≡ u.handles)
  handles e =
      rw (ab.0, ab.1, ba.0, ba.1) (
        sym (handles_apart b a (fine (iface_check b)) (fine (iface_check a)) q (apart b a (λ k. eqb-false a b e (sym k)))),
        handles_apart a b (fine (iface_check a)) (fine (iface_check b)) q (apart a b (eqb-false a b e)),
      )

  as_often : (n : ℕ) → purged_with_iface n (purge_iface x.handles ∷ purge_iface y.handles ∷ [])
      ≡ purged_with_iface n (purge_iface u.handles ∷ purge_iface v.handles ∷ [])
  as_often n = rw (ab.0, ab.1, ba.0, ba.1) (often n q a b (fine (iface_check a)) (fine (iface_check b)))

module _ (r : Routes) (c : NeighborCache) (q : PendingQueue) (a b : ℕ) (m n : Own) (x y u v : TurnedOff) (h : TurnsOff r c q a m b n x y) (g : TurnsOff r c q b n a m u v) where
  ab_off : (x ≡ off_is (iface_check a) m r c q a) × (y ≡ then_off r c q a m b n)
  ab_off = both_off r c q a b m n x y h

  ba_off : (u ≡ off_is (iface_check b) n r c q b) × (v ≡ then_off r c q b n a m)
  ba_off = both_off r c q b a n m u v g

  abbrev went_a : Bool
  went_a = went_in m.slaac m.addrs a

  abbrev went_b : Bool
  went_b = went_in n.slaac n.addrs b

  off : Same y.cache v.cache × SameQueue y.queue v.queue × SameRoutes y.routes v.routes
  off =
      rw (ab_off.1, ba_off.1) (
        cache_either a b went_a went_b c,
        queue_either a b went_a went_b q,
        routes_either a b (turned (iface_check a) m.slaac) (turned (iface_check b) n.slaac) r,
      )

  off_own : ((x.slaac ≡ v.slaac) × (x.addrs ≡ v.addrs) × (x.outcome ≡ v.outcome)) × ((y.slaac ≡ u.slaac) × (y.addrs ≡ u.addrs) × (y.outcome ≡ u.outcome))
  off_own = rw (ab_off.0, ab_off.1, ba_off.0, ba_off.1) ((refl, refl, refl), (refl, refl, refl))

  off_handles : eqb a b ≡ false → (x.handles ≡ v.handles) × (y.handles ≡ u.handles)
  off_handles e =
      rw (ab_off.0, ab_off.1, ba_off.0, ba_off.1)
      (sym (handles_apart b a went_b went_a q (apart b a (λ k. eqb-false a b e (sym k)))), handles_apart a b went_a went_b q (apart a b (eqb-false a b e)))

  off_as_often : (k : ℕ) → purged_with_iface k (turn_off x.handles ∷ turn_off y.handles ∷ [])
      ≡ purged_with_iface k (turn_off u.handles ∷ turn_off v.handles ∷ [])
  off_as_often k = rw (ab_off.0, ab_off.1, ba_off.0, ba_off.1) (often k q a b went_a went_b)

pub either_order : EitherOrder
unfolding entryOnIface on_iface purged_of dropped_handles off_now clear_routes clear_addrs
either_order = record {
  clear_done = λ c a x h p. rw (p.is, fine_at a h) refl;
  clear_refused = λ c a x h p. rw (p.is, refused_at a h) refl;
  purge_done = λ q a x h p. rw (p.is ∙ purged_by (iface_check a) q a, fine_at a h) refl;
  purge_refused = λ q a x h p. rw (p.is ∙ purged_by (iface_check a) q a, refused_at a h) refl;
  off_done = λ r c q a m x h p. rw (p.is ∙ off_is_lem (iface_check a) m r c q a, fine_at a h) refl;
  off_refused = λ r c q a m x h p. rw (p.is ∙ off_is_lem (iface_check a) m r c q a, refused_at a h) refl;
  cache = λ c a b x y u v h g. rw ((both_cleared c a b x y h).1, (both_cleared c b a u v g).1) (cache_either a b (fine (iface_check a)) (fine (iface_check b)) c);
  cache_outcomes = λ c a b x y u v h g. rw ((both_cleared c a b x y h).0, (both_cleared c a b x y h).1, (both_cleared c b a u v g).0, (both_cleared c b a u v g).1) (refl, refl);
  queue = queue;
  queue_outcomes = queue_outcomes;
  handles = λ q a b x y u v e h g. handles q a b x y u v h g e;
  as_often = λ n q a b x y u v h g. as_often q a b x y u v h g n;
  cache_twice = λ c a x y h. rw (h.1.is, h.0.is) (cache_twice (iface_check a) c a);
  queue_twice = λ q a x y h. rw (h.1.is, h.0.is) (queue_twice (iface_check a) q (on_iface a));
  orphans_twice = λ q c x y h g. rw (g.is, h.is) (purged_twice q (orphaned (entries c)));
  orphans_first = waits_on;
  orphans_anew = comes_back;
  entries_order = λ c a x h p. rw (p.is, fine_at a h) (entries_order c a);
  packets_order = λ q a x h p. packets_of_others q a x h p;
  orphans_order = λ q c x p. rw p.is (packets_order q (orphaned (entries c)));
  entries_only = λ gone before after after' h g. (in_order_only gone before after h.went h.in_order).0 ∙ sym (in_order_only gone before after' g.went g.in_order).0;
  packets_only = packets_only;
  off = off;
  off_own = off_own;
  off_handles = λ r c q a b m n x y u v e h g. off_handles r c q a b m n x y u v h g e;
  off_as_often = λ k r c q a b m n x y u v h g. off_as_often r c q a b m n x y u v h g k;
  off_clears =
      λ r c q a m x y h g went.
      ap (λ (w : TurnedOff). w.cache) (h.is ∙ off_is_lem (iface_check a) m r c q a)
      ∙ (went_clears (iface_check a) m.slaac.on (clear_addrs m.addrs).any c a went
      ∙ ap (λ (w : Changed). w.cache) (sym (g.is ∙ cleared_by (iface_check a) c a)));
  off_leaves_cache = λ r c q a m x h went. rw (h.is ∙ off_is_lem (iface_check a) m r c q a, went) refl;
  routes_order = routes_order;
  routes_stay = λ r c q a m x off h. rw (h.is ∙ off_is_lem (iface_check a) m r c q a) (off_stays (iface_check a) m.slaac r a off);
  off_twice = λ r c q a m x y h. h.1.is ∙ off_twice (iface_check a) m.slaac m.addrs r c q a x h.0.is;
  not_the_slots = not_the_slots;
  same_routes = record { entries = refl; count = refl };
  unequal_routes =
      λ e.
      other_first (λ r. r.iface) (route_on 1) (route_on 0) (route_on 1 ∷ replicate 6 no_route) (λ h. absurd (omega arith)) (ap (λ (r : Routes). r.slots) e);
  zero_off = (record { is = refl; number = refl }, record { is = refl; number = refl });
  one_off = (record { is = refl; number = refl }, record { is = refl; number = refl });
  no_call_tells = no_call_tells;
}
