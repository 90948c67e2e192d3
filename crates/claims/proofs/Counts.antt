-- What became of the packets of a handle. Assumes nothing.
use Prim.Native.Nat.{ℕ, ◌+◌}
use mathlib.Core.Bool.{Bool, true, false, cond, true≢false}
use mathlib.Core.List.{List, [], ◌∷◌}
use mathlib.Core.Path.{◌≡◌, refl, sym, ap, ◌∙◌, subst}
use native.Mathlib.Omega.{arith}
use Rattle.std.specs.Prelude.{Some, None, Result, Ok, Err}
use Rattle.wire.specs.declared.error.Refusal.{Refusal}
use Rattle.autoconf.specs.OffRules.{cleared_queue, cleared_handles, off_now, left_alone, off_by, TurnedOffTo}
use Rattle.autoconf.specs.declared.TurnedOff.{TurnedOff}
use Rattle.claims.proofs.Follows.{listed}
use Rattle.claims.specs.Caches.{went_by, went_in}
use Rattle.claims.specs.Counts.{Answered, push, release, purge_orphans, purge_iface, turn_off, taken, Tally, tally, pushed, went_out, Call, to_push, to_release, to_purge_orphans, to_purge_iface, to_turn_off, Step, pushes, releases, purges_orphans, purges_iface, turns_off, lists, Run, none, one_more, Answers, node_on, no_handle, resolving, every_way_calls, every_way_is, with_address, Counts}
use Rattle.claims.specs.Packets.{handle_list}
use Rattle.iface.specs.AddressRules.{clear_addrs, empty_addrs}
use Rattle.iface.specs.RouteRules.{empty_routes}
use Rattle.iface.specs.declared.addr.IfaceAddrs.{IfaceAddrs}
use Rattle.iface.specs.declared.route.Routes.{Routes}
use Rattle.neighbor.specs.CacheCalls.{key, entries, empty as noNeighbours}
use Rattle.neighbor.specs.NeighborRules.{Key, same_key}
use Rattle.neighbor.specs.declared.NeighborCache.{NeighborCache}
use Rattle.pending.proofs.Calls.{packets_of}
use Rattle.pending.proofs.Count.{accounted}
use Rattle.pending.specs.QueueCalls.{queue_room, packets, with_packets, empty, handles_of, pushed_out, released_out, push_by, release_by, purged_of, purge_by, PushedTo, ReleasedTo, PurgedTo}
use Rattle.pending.specs.QueueCount.{count_of, waiting}
use Rattle.pending.specs.QueueRules.{Queue, handle_of, packet, has_key, is_full, oldest, push_list, push_answer, release_list, release_answer, orphaned, on_iface, dropped_handles}
use Rattle.pending.specs.declared.PendingPacket.{PendingPacket}
use Rattle.pending.specs.declared.PendingQueue.{PendingQueue}
use Rattle.pending.specs.declared.Purged.{Purged}
use Rattle.pending.specs.declared.Pushed.{Pushed}
use Rattle.pending.specs.declared.Released.{Released}
use Rattle.slaac.specs.DiscoveryRules.{fresh}
use Rattle.slaac.specs.declared.Slaac.{Slaac}
use Rattle.table.specs.Table.{any_of, kept}
use Rattle.wire.specs.Refusals.{iface_check}

-- One call

-- what waited and what a call brings is what it gives back and what waits then
abbrev Balanced : ℕ → PendingQueue → Tally → PendingQueue → Type 0
Balanced h q t r =
    waiting h (packets q) + count_of h t.pushed
    ≡ count_of h t.released + count_of h t.oldest + count_of h t.orphans + count_of h t.with_iface + waiting h (packets r)

-- a push that is not refused brings its handle, whether or not it drops one
brings_own : (g room : ℕ) (q : Queue) → taken g (push_answer room q) ≡ g ∷ []
unfolding push_answer
brings_own g room q = go (is_full room q)
  where
    go : (b : Bool) → taken g (cond b (Ok (Some (oldest q))) (Ok None)) ≡ g ∷ []
    go true = refl
    go false = refl

push_balanced : (h : ℕ) (x : Result (Unit {0}) Refusal) (q : PendingQueue) (p : PendingPacket)
    → Balanced h q (tally (push (handle_of p) (push_by x q p).answer)) (push_by x q p).queue
push_balanced h (Err why) q p = omega arith
push_balanced h (Ok tt) q p =
    omega (
      arith,
      accounted.push queue_room h p (packets q) (omega arith),
      ap (waiting h) (packets_of q (push_list queue_room p (packets q))),
      ap (count_of h) (brings_own (handle_of p) queue_room (packets q)),
    )

release_balanced : (h : ℕ) (x : Result (Unit {0}) Refusal) (q : PendingQueue) (k : Key) → Balanced h q (tally (release (release_by x q k).answer)) (release_by x q k).queue
release_balanced h (Err why) q k = omega arith
release_balanced h (Ok tt) q k = go (any_of (has_key k) (packets q))
  where
    after : Bool → Released
    after b =
        cond b (record { queue = with_packets q (release_list k (packets q)); answer = release_answer k (packets q) }) (record { queue = q; answer = Ok None })

    go : (b : Bool) → Balanced h q (tally (release (after b).answer)) (after b).queue
    go true = omega (arith, accounted.release h k (packets q), ap (waiting h) (packets_of q (release_list k (packets q))))
    go false = omega arith

-- what a purge hands back, and what it leaves
abbrev Parts : ℕ → PendingQueue → List ℕ → PendingQueue → Type 0
Parts h q hs r = waiting h (packets q) ≡ count_of h hs + waiting h (packets r)

pub goes_parts : (h : ℕ) (q : PendingQueue) (goes : PendingPacket → Bool)
    → Parts h q (handle_list (handles_of (dropped_handles goes (packets q)))) (with_packets q (kept goes (packets q)))
goes_parts h q goes =
    omega (
      arith,
      accounted.purge h goes (packets q),
      ap (waiting h) (packets_of q (kept goes (packets q))),
      ap (count_of h) (listed (dropped_handles goes (packets q))),
    )

purge_parts : (h : ℕ) (x : Result (Unit {0}) Refusal) (q : PendingQueue) (goes : PendingPacket → Bool) → Parts h q (handle_list (purge_by x q goes).handles) (purge_by x q goes).queue
unfolding purged_of
purge_parts h (Err why) q goes = omega arith
purge_parts h (Ok tt) q goes = goes_parts h q goes

off_parts : (h : ℕ) (x : Result (Unit {0}) Refusal) (s : Slaac) (t : IfaceAddrs) (routes : Routes) (c : NeighborCache) (q : PendingQueue) (i : ℕ)
    → Parts h q (handle_list (off_by x s t routes c q i).handles) (off_by x s t routes c q i).queue
unfolding off_now
off_parts h (Err why) s t routes c q i = omega arith
off_parts h (Ok tt) s t routes c q i = on_or_off s.on
  where
    went : (b : Bool) → Parts h q (handle_list (cleared_handles b q i)) (cleared_queue b q i)
    went true = goes_parts h q (on_iface i)
    went false = omega arith

    after : Bool → TurnedOff
    after b = cond b (off_now t routes c q i) (left_alone s t routes c q (Ok tt))

    on_or_off : (b : Bool) → Parts h q (handle_list (after b).handles) (after b).queue
    on_or_off true = went (clear_addrs t).any
    on_or_off false = omega arith

step_balanced : (h : ℕ) {q r : PendingQueue} {call : Call} {a : Answered} → Step q call a r → Balanced h q (tally a) r
step_balanced h (pushes q i a g r p) =
    subst (λ (w : Pushed). Balanced h q (tally (push g w.answer)) w.queue) (sym p.is) (push_balanced h (iface_check i) q (packet (key i a) g))
step_balanced h (releases q i a r p) =
    subst (λ (w : Released). Balanced h q (tally (release w.answer)) w.queue) (sym p.is) (release_balanced h (iface_check i) q (key i a))
step_balanced h (purges_orphans q c r p) =
    subst (λ (w : Purged). Balanced h q (tally (purge_orphans w.handles)) w.queue) (sym p.is)
    (omega (arith, purge_parts h (Ok tt) q (orphaned (entries c))))
step_balanced h (purges_iface q i r p) =
    subst (λ (w : Purged). Balanced h q (tally (purge_iface w.handles)) w.queue) (sym p.is)
    (omega (arith, purge_parts h (iface_check i) q (on_iface i)))
step_balanced h (turns_off q s t routes c i x p) =
    subst (λ (w : TurnedOff). Balanced h q (tally (turn_off w.handles)) w.queue) (sym p.is)
    (omega (arith, off_parts h (iface_check i) s t routes c q i))
step_balanced h (lists q n r p) = omega arith

-- Any calls

from_any : (h : ℕ) {q r : PendingQueue} {calls : List Call} {run : List Answered} → Run q calls run r
    → waiting h (packets q) + pushed h run ≡ went_out h run + waiting h (packets r)
from_any h (none q) = omega arith
from_any h (one_more step run) = omega (arith, step_balanced h step, from_any h run)

from_empty : (h : ℕ) {r : PendingQueue} {calls : List Call} {run : List Answered} → Run empty calls run r
    → pushed h run ≡ went_out h run + waiting h (packets r)
unfolding waiting
from_empty h run = omega (arith, from_any h run)

-- Turning SLAAC off

module _ (s : Slaac) (t : IfaceAddrs) (routes : Routes) (c : NeighborCache) (q : PendingQueue) (i : ℕ) where
  off_went : (x : Result (Unit {0}) Refusal) → went_by x s.on (clear_addrs t).any ≡ true
      → ((off_by x s t routes c q i).queue ≡ (purge_by x q (on_iface i)).queue) × ((off_by x s t routes c q i).handles ≡ (purge_by x q (on_iface i)).handles)
  unfolding off_now purged_of
  off_went (Err why) w = absurd (true≢false (sym w))
  off_went (Ok tt) w = go s.on (clear_addrs t).any refl w
    where
      after : Bool → TurnedOff
      after b = cond b (off_now t routes c q i) (left_alone s t routes c q (Ok tt))

      go : (b went : Bool) → (clear_addrs t).any ≡ went → cond b went false ≡ true
          → ((after b).queue ≡ (purged_of q (on_iface i)).queue) × ((after b).handles ≡ (purged_of q (on_iface i)).handles)
      go true true e w = rw e (refl, refl)
      go true false e w = absurd (true≢false (sym w))
      go false went e w = absurd (true≢false (sym w))

  off_stayed : (x : Result (Unit {0}) Refusal) → went_by x s.on (clear_addrs t).any ≡ false → ((off_by x s t routes c q i).queue ≡ q) × ((off_by x s t routes c q i).handles ≡ no_handle)
  unfolding off_now
  off_stayed (Err why) w = (refl, refl)
  off_stayed (Ok tt) w = go s.on (clear_addrs t).any refl w
    where
      after : Bool → TurnedOff
      after b = cond b (off_now t routes c q i) (left_alone s t routes c q (Ok tt))

      go : (b went : Bool) → (clear_addrs t).any ≡ went → cond b went false ≡ false → ((after b).queue ≡ q) × ((after b).handles ≡ no_handle)
      go true true e w = absurd (true≢false w)
      go true false e w = rw e (refl, refl)
      go false went e w = (refl, refl)

  off_purges : (x : TurnedOff) (r : Purged) → TurnedOffTo s t routes c q i x → PurgedTo q i r → went_in s t i ≡ true → (x.queue ≡ r.queue) × (x.handles ≡ r.handles)
  off_purges x r p g w =
      let e = off_went (iface_check i) w in (
        ap (λ (y : TurnedOff). y.queue) p.is ∙ e.0 ∙ ap (λ (y : Purged). y.queue) (sym g.is),
        ap (λ (y : TurnedOff). y.handles) p.is ∙ e.1 ∙ ap (λ (y : Purged). y.handles) (sym g.is),
      )

  off_leaves : (x : TurnedOff) → TurnedOffTo s t routes c q i x → went_in s t i ≡ false → (x.queue ≡ q) × (x.handles ≡ no_handle)
  off_leaves x p w =
      let e = off_stayed (iface_check i) w in
      (ap (λ (y : TurnedOff). y.queue) p.is ∙ e.0, ap (λ (y : TurnedOff). y.handles) p.is ∙ e.1)

-- Scenes: steps whose promises are computed

abbrev push_to : PendingQueue → Key → ℕ → Pushed
push_to q k g = push_by (iface_check k.iface) q (packet k g)

pushing : (q : PendingQueue) (k : Key) (g : ℕ) → PushedTo q k.iface k.addr g (push_to q k g) → Step q (to_push k g) (push g (push_to q k g).answer) (push_to q k g).queue
pushing q k g p = pushes q k.iface k.addr g (push_to q k g) p

releasing : (q : PendingQueue) (k : Key) → ReleasedTo q k.iface k.addr (release_by (iface_check k.iface) q k)
    → Step q (to_release k) (release (release_by (iface_check k.iface) q k).answer) (release_by (iface_check k.iface) q k).queue
releasing q k p = releases q k.iface k.addr (release_by (iface_check k.iface) q k) p

purging : (q : PendingQueue) (i : ℕ) → PurgedTo q i (purge_by (iface_check i) q (on_iface i))
    → Step q (to_purge_iface i) (purge_iface (purge_by (iface_check i) q (on_iface i)).handles) (purge_by (iface_check i) q (on_iface i)).queue
purging q i p = purges_iface q i (purge_by (iface_check i) q (on_iface i)) p

orphaning : (q : PendingQueue) (c : NeighborCache) → Step q (to_purge_orphans c) (purge_orphans (purged_of q (orphaned (entries c))).handles) (purged_of q (orphaned (entries c))).queue
unfolding purged_of
orphaning q c = purges_orphans q c (purged_of q (orphaned (entries c))) (record { is = refl; number = refl })

-- SLAAC on or off on interface 0, with these addresses
abbrev off_of : Bool → IfaceAddrs → PendingQueue → TurnedOff
off_of b t q = off_by (iface_check 0) (fresh b) t empty_routes noNeighbours q 0

turning : (b : Bool) (t : IfaceAddrs) (q : PendingQueue) → TurnedOffTo (fresh b) t empty_routes noNeighbours q 0 (off_of b t q)
    → Step q (to_turn_off (fresh b) t empty_routes noNeighbours 0) (turn_off (off_of b t q).handles) (off_of b t q).queue
turning b t q p = turns_off q (fresh b) t empty_routes noNeighbours 0 (off_of b t q) p

every_way : Answers every_way_calls every_way_is
    (packet (node_on 0 1) 7 ∷ packet (node_on 0 1) 1 ∷ packet (node_on 0 1) 2 ∷ packet (node_on 0 1) 3 ∷ packet (node_on 0 1) 7 ∷ [])
unfolding same_key push_list push_answer release_list release_answer purged_of orphaned on_iface dropped_handles
every_way = record {
  queue = _;
  runs =
      one_more (pushing _ (node_on 0 1) 7 (record { is = refl; number = refl; gives = refl }))
      (one_more (pushing _ (node_on 0 1) 7 (record { is = refl; number = refl; gives = refl }))
      (one_more (pushing _ (node_on 0 2) 7 (record { is = refl; number = refl; gives = refl }))
      (one_more (pushing _ (node_on 1 1) 7 (record { is = refl; number = refl; gives = refl }))
      (one_more (pushing _ (node_on 0 1) 7 (record { is = refl; number = refl; gives = refl }))
      (one_more (pushing _ (node_on 0 1) 1 (record { is = refl; number = refl; gives = refl }))
      (one_more (pushing _ (node_on 0 1) 2 (record { is = refl; number = refl; gives = refl }))
      (one_more (pushing _ (node_on 0 1) 3 (record { is = refl; number = refl; gives = refl }))
      (one_more (pushing _ (node_on 0 1) 7 (record { is = refl; number = refl; gives = refl }))
      (one_more (pushing _ (node_on 4 1) 7 (record { is = refl; number = refl; gives = refl }))
      (one_more (releasing _ (node_on 0 1) (record { is = refl; number = refl; gives = refl }))
      (one_more (purging _ 1 (record { is = refl; number = refl }))
      (one_more (orphaning _ resolving)
      (one_more (lists _ 0 _ (record { is = refl; number = refl; shows = refl }))
      (none _))))))))))))));
  waits = refl;
}

-- One call by itself

alone : (h : ℕ) (xs : List ℕ) → count_of h xs + 0 ≡ count_of h xs
alone h xs = omega arith

pub counts : Counts
unfolding push_list push_answer release_list release_answer purged_of orphaned on_iface dropped_handles off_now clear_addrs
counts = record {
  push_steps = pushes;
  release_steps = releases;
  orphans_steps = purges_orphans;
  purge_steps = purges_iface;
  off_steps = turns_off;
  list_steps = lists;
  push_adds = λ h g a. rw (alone h (taken g a), alone h (pushed_out a)) refl;
  release_adds = λ h a. rw (alone h (released_out a)) refl;
  orphans_adds = λ h hs. rw (alone h (handle_list hs)) refl;
  purge_adds = λ h hs. rw (alone h (handle_list hs)) refl;
  off_adds = λ h hs. rw (alone h (handle_list hs)) refl;
  list_adds = λ h a. refl;
  from_empty = λ h r calls run p. from_empty h p;
  from_any = λ h q r calls run p. from_any h p;
  off_purges = off_purges;
  off_leaves = off_leaves;
  each_call = refl;
  by_push = refl;
  by_release = refl;
  by_overflow = refl;
  by_orphans = refl;
  by_purge = refl;
  by_off = refl;
  every_way = every_way;
  every_way_counts = refl;
  zero_waits_lem = record {
    queue = _;
    runs =
        one_more (pushing _ (node_on 0 1) 0 (record { is = refl; number = refl; gives = refl }))
        (one_more (pushing _ (node_on 1 1) 5 (record { is = refl; number = refl; gives = refl }))
        (one_more (purging _ 1 (record { is = refl; number = refl }))
        (none _)));
    waits = refl;
  };
  zero_waits_counts = refl;
  zero_goes_lem = record {
    queue = _;
    runs =
        one_more (pushing _ (node_on 0 1) 0 (record { is = refl; number = refl; gives = refl }))
        (one_more (pushing _ (node_on 1 1) 5 (record { is = refl; number = refl; gives = refl }))
        (one_more (purging _ 1 (record { is = refl; number = refl }))
        (one_more (purging _ 0 (record { is = refl; number = refl }))
        (none _))));
    waits = refl;
  };
  zero_goes_counts = refl;
  off_gone = record {
    queue = _;
    runs =
        one_more (pushing _ (node_on 0 1) 7 (record { is = refl; number = refl; gives = refl }))
        (one_more (pushing _ (node_on 1 1) 5 (record { is = refl; number = refl; gives = refl }))
        (one_more (pushing _ (node_on 0 1) 0 (record { is = refl; number = refl; gives = refl }))
        (one_more (turning true with_address _ (record { is = refl; number = refl }))
        (one_more (turning false empty_addrs _ (record { is = refl; number = refl }))
        (none _)))));
    waits = refl;
  };
  off_gone_counts = refl;
  off_gone_zero = refl;
  off_stays = record {
    queue = _;
    runs =
        one_more (pushing _ (node_on 0 1) 7 (record { is = refl; number = refl; gives = refl }))
        (one_more (pushing _ (node_on 1 1) 5 (record { is = refl; number = refl; gives = refl }))
        (one_more (pushing _ (node_on 0 1) 0 (record { is = refl; number = refl; gives = refl }))
        (one_more (turning true empty_addrs _ (record { is = refl; number = refl }))
        (one_more (turning false empty_addrs _ (record { is = refl; number = refl }))
        (none _)))));
    waits = refl;
  };
  off_stays_counts = refl;
  off_stays_zero = refl;
}
