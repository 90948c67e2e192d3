-- Every packet that left had a reason to. Assumes nothing.
use Prim.Native.Nat.{ℕ, ◌≤◌}
use borrow.Author.Tests.{eqb-true, ltb-false, not-true}
use lib.Dec.{ltb}
use lib.ListN.{length, take, length-map}
use mathlib.Core.Bool.{Bool, true, false, cond, true≢false}
use mathlib.Core.List.{List, [], ◌∷◌, ◌++◌, map}
use mathlib.Core.Path.{◌≡◌, refl, sym, ap, ◌∙◌, subst}
use native.Mathlib.Omega.{arith}
use Rattle.std.specs.Prelude.{Result, Ok, Err}
use Rattle.wire.specs.declared.error.Refusal.{Refusal}
use Rattle.claims.proofs.Follows.{calls_next}
use Rattle.claims.proofs.Lists.{all_of, all_append, all_map, all_weaken, all_both, all_dropped_with, members}
use Rattle.claims.proofs.Orphans.{orphan_means, undisturbed_prefix, filled_stale}
use Rattle.claims.specs.Calls.{Call, lookup, start, fill, insert, get, at, remove, clear, sweep, advertise, turn_off, table_after}
use Rattle.claims.specs.Lists.{All, Member}
use Rattle.claims.specs.Packets.{Move, on_cache, push, release, purge_orphans, purge_iface, calls_of, table_next, Numbered, Way, by_overflow, by_release, by_orphans, by_purge, by_off, Departure, Ledger, packet_of, queue_of, opened, Parted, asks, departs, is_full_of, overflow, alone, first_out, all_out, cleared_by_is, unless_refused, parted, ledger_next, ledger_after, ledger, Oldest, ByRelease, ByOverflow, ByOrphans, Reason, LeftAt, AbsentOrStale, Undisturbed, OrphanedAt}
use Rattle.neighbor.proofs.Keys.{same_key_true}
use Rattle.neighbor.specs.NeighborRules.{Table, Key, entries_of}
use Rattle.pending.specs.QueueRules.{Queue, key_of, packet, has_key, orphaned, on_iface}
use Rattle.pending.specs.declared.PendingPacket.{PendingPacket}
use Rattle.table.specs.Table.{any_of, first_of, dropped}
use Rattle.wire.specs.Refusals.{iface_check}

of_departs : (R : Departure → Type 0) (way : Way) (ns : List Numbered) → All (λ (n : Numbered). R (departs way n)) ns → All R (map (departs way) ns)
of_departs R way ns h = all_map (λ n. R (departs way n)) R (departs way) (λ n q. q) ns h

-- a purge: each that leaves passed the test
out_pass : (R : Departure → Type 0) (way : Way) (test : PendingPacket → Bool) (ns : List Numbered)
    → ((n : Numbered) → test n.packet ≡ true → R (departs way n)) → All R (all_out way test ns).leave
out_pass R way test ns f =
    of_departs R way (dropped (asks test) ns)
    (all_dropped_with (λ n. Unit {0}) (λ n. R (departs way n)) (asks test) (λ n e u. f n e) ns (all_of (λ n. Unit {0}) (λ n. tt) ns))

-- a release: the one that leaves is the oldest that passed
older_one : (test : PendingPacket → Bool) (x : Numbered) (n : Numbered) (ns : List Numbered) → test x.packet ≡ false → Oldest test n ns → Oldest test n (x ∷ ns)
older_one test x n ns e o =
    record {
      older = x ∷ o.older;
      newer = o.newer;
      place = ap (λ (l : List Numbered). x ∷ l) o.place;
      none_older = ap (λ (b : Bool). cond b true (any_of (asks test) o.older)) e ∙ o.none_older;
    }

first_oldest : (test : PendingPacket → Bool) (ns : List Numbered)
    → All (λ (n : Numbered). (test n.packet ≡ true) × Oldest test n ns) (first_of (asks test) alone [] ns)
first_oldest test [] = tt
first_oldest test (x ∷ ns) = go (test x.packet) refl (first_oldest test ns)
  where
    go : (b : Bool) → test x.packet ≡ b → All (λ (n : Numbered). (test n.packet ≡ true) × Oldest test n ns) (first_of (asks test) alone [] ns)
        → All (λ (n : Numbered). (test n.packet ≡ true) × Oldest test n (x ∷ ns)) (cond b (alone x) (first_of (asks test) alone [] ns))
    go true e r = ((e, record { older = []; newer = ns; place = refl; none_older = refl }), tt)
    go false e r =
        all_weaken (λ (n : Numbered). (test n.packet ≡ true) × Oldest test n ns) (λ (n : Numbered). (test n.packet ≡ true) × Oldest test n (x ∷ ns))
        (λ n h. (h.0, older_one test x n ns e h.1)) (first_of (asks test) alone [] ns) r

released_for : (k : Key) (n : Numbered) (ns : List Numbered) → iface_check k.iface ≡ Ok tt → has_key k n.packet ≡ true → Oldest (has_key k) n ns
    → ByRelease n (release k) ns
released_for k n ns ok same o =
    let e : k ≡ key_of n.packet = same_key_true k (key_of n.packet) same in
    record {
      move = ap release e;
      taken = ap (λ (j : Key). iface_check j.iface) (sym e) ∙ ok;
      oldest = subst (λ (j : Key). Oldest (has_key j) n ns) e o;
    }

-- a push on a full queue
full_length : (ns : List Numbered) → is_full_of ns ≡ true → 8 ≤ length ns
full_length ns e = omega (arith, length-map ns packet_of, ltb-false (length (queue_of ns)) 8 (not-true (ltb (length (queue_of ns)) 8) e))

pushed_for : (k : Key) (h : ℕ) (t : Table) (ns : List Numbered) (b : Bool) → iface_check k.iface ≡ Ok tt → is_full_of ns ≡ b
    → All (λ (n : Numbered). ByOverflow n (push k h) ns) (cond b (take 1 ns) [])
pushed_for k h t [] true ok e = tt
pushed_for k h t (n ∷ ns) true ok e =
    (record { pushed = k; handle = h; move = refl; taken = ok; full = full_length (n ∷ ns) e; newer = ns; oldest = refl }, tt)
pushed_for k h t ns false ok e = tt

-- turning SLAAC off
cleared_for : (c : Call) (n : Numbered) → cleared_by_is c n.packet ≡ true → on_cache c ≡ on_cache (turn_off n.packet.iface true)
unfolding on_iface
cleared_for (lookup k) n e = absurd (true≢false (sym e))
cleared_for (start k) n e = absurd (true≢false (sym e))
cleared_for (fill k h now) n e = absurd (true≢false (sym e))
cleared_for (insert k h expires) n e = absurd (true≢false (sym e))
cleared_for (get k) n e = absurd (true≢false (sym e))
cleared_for (at i) n e = absurd (true≢false (sym e))
cleared_for (remove k) n e = absurd (true≢false (sym e))
cleared_for (clear i) n e = absurd (true≢false (sym e))
cleared_for (sweep i now) n e = absurd (true≢false (sym e))
cleared_for (advertise k now heard) n e = absurd (true≢false (sym e))
cleared_for (turn_off i false) n e = absurd (true≢false (sym e))
cleared_for (turn_off i true) n e = ap (λ (j : ℕ). on_cache (turn_off j true)) (eqb-true i n.packet.iface e)

on_its_iface : (i : ℕ) (p : PendingPacket) → on_iface i p ≡ true → i ≡ p.iface
unfolding on_iface
on_its_iface i p e = eqb-true i p.iface e

-- a move
abbrev For : Move → Table → List Numbered → Departure → Type 0
For m t ns d = Reason d.way d.who m t ns

taken_for : (R : Departure → Type 0) (x : Parted) (ns : List Numbered) (c : Result (Unit {0}) Refusal) → (c ≡ Ok tt → All R x.leave) → All R (unless_refused c ns x).leave
taken_for R x ns (Err why) f = tt
taken_for R x ns (Ok tt) f = f refl

move_ways : (m : Move) (t : Table) (ns : List Numbered) → All (For m t ns) (parted m t ns).leave
move_ways (on_cache c) t ns = out_pass (For (on_cache c) t ns) by_off (cleared_by_is c) ns (cleared_for c)
move_ways (push k h) t ns =
    taken_for (For (push k h) t ns) (overflow ns) ns (iface_check k.iface)
    (λ ok. of_departs (For (push k h) t ns) by_overflow (cond (is_full_of ns) (take 1 ns) []) (pushed_for k h t ns (is_full_of ns) ok refl))
move_ways (release k) t ns =
    taken_for (For (release k) t ns) (first_out (has_key k) ns) ns (iface_check k.iface)
    (λ ok.
    of_departs (For (release k) t ns) by_release (first_of (asks (has_key k)) alone [] ns)
    (all_weaken (λ (n : Numbered). (has_key k n.packet ≡ true) × Oldest (has_key k) n ns) (λ (n : Numbered). ByRelease n (release k) ns)
    (λ n h. released_for k n ns ok h.0 h.1) (first_of (asks (has_key k)) alone [] ns) (first_oldest (has_key k) ns)))
move_ways purge_orphans t ns =
    out_pass (For purge_orphans t ns) by_orphans (orphaned t) ns (λ n e. record { move = refl; orphan = (orphan_means t n.packet).0 e })
move_ways (purge_iface i) t ns =
    taken_for (For (purge_iface i) t ns) (all_out by_purge (on_iface i) ns) ns (iface_check i)
    (λ ok.
    out_pass (For (purge_iface i) t ns) by_purge (on_iface i) ns
    (λ n e. record { move = ap purge_iface (on_its_iface i n.packet e); taken = ap iface_check (sym (on_its_iface i n.packet e)) ∙ ok }))

-- and leaves at that move
abbrev At : Move → Table → List Numbered → Departure → Type 0
At m t ns d = Member d (parted m t ns).leave × For m t ns d

move_at : (m : Move) (t : Table) (ns : List Numbered) → All (At m t ns) (parted m t ns).leave
move_at m t ns =
    all_both (λ (d : Departure). Member d (parted m t ns).leave) (For m t ns) (parted m t ns).leave (members (parted m t ns).leave) (move_ways m t ns)

-- a run
at_first : (d : Departure) (m : Move) (moves : List Move) (t : Table) (l : Ledger) → At m t l.waiting d → LeftAt d (m ∷ moves) t l
at_first d m moves t l h = record { earlier = []; move = m; later = moves; split = refl; leaves = h.0; reason = h.1 }

later_on : (d : Departure) (m : Move) (moves : List Move) (t : Table) (l : Ledger) → LeftAt d moves (table_next m t) (ledger_next m t l) → LeftAt d (m ∷ moves) t l
later_on d m moves t l h =
    let e : table_after (calls_of h.earlier) (table_next m t) ≡ table_after (calls_of (m ∷ h.earlier)) t = sym (calls_next m h.earlier t) in
    let ns : List Numbered = (ledger_after h.earlier (table_next m t) (ledger_next m t l)).waiting in
    record {
      earlier = m ∷ h.earlier;
      move = h.move;
      later = h.later;
      split = ap (λ (x : List Move). m ∷ x) h.split;
      leaves = subst (λ (u : Table). Member d (parted h.move u ns).leave) e h.leaves;
      reason = subst (λ (u : Table). Reason d.way d.who h.move u ns) e h.reason;
    }

ways_after : (R : Departure → Type 0) (moves : List Move) (t : Table) (l : Ledger) → All R l.left → ((d : Departure) → LeftAt d moves t l → R d)
    → All R (ledger_after moves t l).left
ways_after R [] t l h f = h
ways_after R (m ∷ moves) t l h f =
    ways_after R moves (table_next m t) (ledger_next m t l)
    (all_append R l.left (parted m t l.waiting).leave h
    (all_weaken (At m t l.waiting) R (λ d r. f d (at_first d m moves t l r)) (parted m t l.waiting).leave (move_at m t l.waiting)))
    (λ d a. f d (later_on d m moves t l a))

pub ways : (moves : List Move) (t : Table) (q : Queue) → All (λ d. LeftAt d moves t (opened q)) (ledger moves t q).left
ways moves t q = ways_after (λ (d : Departure). LeftAt d moves t (opened q)) moves t (opened q) tt (λ d a. a)

-- While k is being resolved, its packets leave as orphans only after it was filled

calls_append : (moves ns : List Move) → calls_of (moves ++ ns) ≡ calls_of moves ++ calls_of ns
calls_append [] ns = refl
calls_append (on_cache c ∷ moves) ns = rw (calls_append moves ns)
calls_append (push k h ∷ moves) ns = calls_append moves ns
calls_append (release k ∷ moves) ns = calls_append moves ns
calls_append (purge_orphans ∷ moves) ns = calls_append moves ns
calls_append (purge_iface i ∷ moves) ns = calls_append moves ns

late : (k : Key) (moves : List Move) (t : Table) (q : Queue) → Undisturbed k (calls_of moves) t → (d : Departure) → LeftAt d moves t (opened q)
    → d.way ≡ by_orphans → key_of d.who.packet ≡ k → OrphanedAt k d moves t q
late k moves t q u d x way same =
    let then : Table = table_after (calls_of x.earlier) t in
    let ns : List Numbered = (ledger x.earlier t q).waiting in
    let why : ByOrphans d.who x.move then = subst (λ (v : Way). Reason v d.who x.move then ns) way x.reason in
    let split : moves ≡ x.earlier ++ (purge_orphans ∷ x.later) = x.split ∙ ap (λ (m : Move). x.earlier ++ (m ∷ x.later)) why.move in
    let before : Undisturbed k (calls_of x.earlier) t =
    undisturbed_prefix k (calls_of x.earlier) (calls_of (purge_orphans ∷ x.later)) t
    (subst (λ (cs : List Call). Undisturbed k cs t) (ap calls_of split ∙ calls_append x.earlier (purge_orphans ∷ x.later)) u) in
    let orphan : orphaned then (packet k 0) ≡ true =
    (orphan_means then (packet k 0)).1 (subst (λ (j : Key). AbsentOrStale (entries_of j then)) same why.orphan) in
    let both = filled_stale k (calls_of x.earlier) t before 0 orphan in
    record {
      earlier = x.earlier;
      later = x.later;
      split = split;
      leaves = subst (λ (m : Move). Member d (parted m then ns).leave) why.move x.leaves;
      filled = both.0;
      stale = both.1;
    }

pub spared : (k : Key) (moves : List Move) (t : Table) (q : Queue) → Undisturbed k (calls_of moves) t
    → All (λ d. d.way ≡ by_orphans → key_of d.who.packet ≡ k → OrphanedAt k d moves t q) (ledger moves t q).left
spared k moves t q u =
    all_weaken (λ (d : Departure). LeftAt d moves t (opened q)) (λ (d : Departure). d.way ≡ by_orphans → key_of d.who.packet ≡ k → OrphanedAt k d moves t q)
    (λ d x. late k moves t q u d x) (ledger moves t q).left (ways moves t q)
