-- The ledger of packets: each number once, and its packet. Assumes nothing.
use Prim.Native.Nat.{ℕ, suc, ◌+◌, ◌≤◌, ◌<◌}
use borrow.Author.Tests.{eqb-true, eqb-false, ltb-true, ltb-false, lt-ltb, le-ltb}
use lib.Dec.{ltb, eqb}
use lib.ListN.{length, take, drop, length-append, get_or-append}
use lib.Seq.{get_or-append_seam}
use mathlib.Core.Bool.{Bool, true, false, cond}
use mathlib.Core.List.{List, [], ◌∷◌, ◌++◌, map, append_assoc}
use mathlib.Core.Path.{◌≡◌, refl, ap, ◌∙◌}
use native.Mathlib.Omega.{arith}
use Rattle.std.specs.Prelude.{Result, Ok, Err}
use Rattle.wire.specs.declared.error.Refusal.{Refusal}
use Rattle.claims.proofs.Lists.{append-nil, map_append, all_append, all_first, all_map, all_weaken, all_kept, all_dropped}
use Rattle.claims.specs.Lists.{All}
use Rattle.claims.specs.Packets.{Move, on_cache, push, release, purge_orphans, purge_iface, table_next, brings, brought, Numbered, Way, by_overflow, by_release, by_orphans, by_purge, by_off, Departure, Ledger, number_of, number_from, opened, Parted, asks, departs, is_full_of, overflow, nobody, alone, first_out, all_out, cleared_by_is, unless_refused, parted, ledger_next, ledger_after, ledger, number_left, times, Nth}
use Rattle.neighbor.specs.NeighborRules.{Table}
use Rattle.pending.specs.QueueCalls.{blank}
use Rattle.pending.specs.QueueCount.{count_of}
use Rattle.pending.specs.QueueRules.{Queue, has_key, orphaned, on_iface}
use Rattle.pending.specs.declared.PendingPacket.{PendingPacket}
use Rattle.table.specs.Table.{at_first_is, first_of, kept, dropped}
use Rattle.wire.specs.Refusals.{iface_check}

-- Counts

count_cons : (n x : ℕ) (xs : List ℕ) → count_of n (x ∷ xs) ≡ count_of n (x ∷ []) + count_of n xs
count_cons n x xs = go (eqb n x)
  where
    go : (b : Bool) → cond b (suc (count_of n xs)) (count_of n xs) ≡ cond b 1 0 + count_of n xs
    go true = omega arith
    go false = omega arith

count_append : (n : ℕ) (xs ys : List ℕ) → count_of n (xs ++ ys) ≡ count_of n xs + count_of n ys
count_append n [] ys = omega arith
count_append n (x ∷ xs) ys = omega (arith, count_cons n x (xs ++ ys), count_cons n x xs, count_append n xs ys)

-- how often a number waits, and left
abbrev in_wait : ℕ → List Numbered → ℕ
in_wait n ns = count_of n (map number_of ns)

abbrev in_left_is : ℕ → List Departure → ℕ
in_left_is n ds = count_of n (map number_left ds)

wait_append : (n : ℕ) (xs ys : List Numbered) → in_wait n (xs ++ ys) ≡ in_wait n xs + in_wait n ys
wait_append n xs ys = ap (count_of n) (map_append number_of xs ys) ∙ count_append n (map number_of xs) (map number_of ys)

left_append : (n : ℕ) (xs ys : List Departure) → in_left_is n (xs ++ ys) ≡ in_left_is n xs + in_left_is n ys
left_append n xs ys = ap (count_of n) (map_append number_left xs ys) ∙ count_append n (map number_left xs) (map number_left ys)

left_departs : (way : Way) (ns : List Numbered) → map number_left (map (departs way) ns) ≡ map number_of ns
left_departs way [] = refl
left_departs way (x ∷ ns) = rw (left_departs way ns)

-- A move parts the waiting packets: each stays or leaves

module _ (n : ℕ) where
  all_count : (test : Numbered → Bool) (ns : List Numbered) → in_wait n (kept test ns) + in_wait n (dropped test ns) ≡ in_wait n ns
  all_count test [] = refl
  all_count test (x ∷ ns) = go (test x) (all_count test ns)
    where
      go : (b : Bool) → in_wait n (kept test ns) + in_wait n (dropped test ns) ≡ in_wait n ns
          → in_wait n (cond b (kept test ns) (x ∷ kept test ns)) + in_wait n (cond b (x ∷ dropped test ns) (dropped test ns)) ≡ in_wait n (x ∷ ns)
      go true h = omega (arith, count_cons n (number_of x) (map number_of ns), count_cons n (number_of x) (map number_of (dropped test ns)))
      go false h = omega (arith, count_cons n (number_of x) (map number_of ns), count_cons n (number_of x) (map number_of (kept test ns)))

  first_count : (test : Numbered → Bool) (ns : List Numbered) → in_wait n (at_first_is test nobody [] ns) + in_wait n (first_of test alone [] ns) ≡ in_wait n ns
  first_count test [] = refl
  first_count test (x ∷ ns) = go (test x) (first_count test ns)
    where
      go : (b : Bool) → in_wait n (at_first_is test nobody [] ns) + in_wait n (first_of test alone [] ns) ≡ in_wait n ns
          → in_wait n (cond b (nobody x ++ ns) (x ∷ at_first_is test nobody [] ns)) + in_wait n (cond b (alone x) (first_of test alone [] ns)) ≡ in_wait n (x ∷ ns)
      go true h = omega (arith, count_cons n (number_of x) (map number_of ns))
      go false h = omega (arith, count_cons n (number_of x) (map number_of ns), count_cons n (number_of x) (map number_of (at_first_is test nobody [] ns)))

  over_count : (b : Bool) (ns : List Numbered) → in_wait n (cond b (drop 1 ns) ns) + in_wait n (cond b (take 1 ns) []) ≡ in_wait n ns
  over_count true [] = refl
  over_count true (x ∷ ns) = omega (arith, count_cons n (number_of x) (map number_of ns))
  over_count false ns = omega arith

  -- the count of a parting
  abbrev Counts : Parted → List Numbered → Type 0
  Counts x ns = in_wait n x.stay + in_left_is n x.leave ≡ in_wait n ns

  out_counts : (way : Way) (test : PendingPacket → Bool) (ns : List Numbered) → Counts (all_out way test ns) ns
  out_counts way test ns = rw (left_departs way (dropped (asks test) ns)) (all_count (asks test) ns)

  first_counts : (test : PendingPacket → Bool) (ns : List Numbered) → Counts (first_out test ns) ns
  first_counts test ns = omega (arith, first_count (asks test) ns, ap (count_of n) (left_departs by_release (first_of (asks test) alone [] ns)))

  taken_counts : (c : Result (Unit {0}) Refusal) (x : Parted) (ns : List Numbered) → Counts x ns → Counts (unless_refused c ns x) ns
  taken_counts (Err why) x ns h = omega arith
  taken_counts (Ok tt) x ns h = h

  parts_count : (m : Move) (t : Table) (ns : List Numbered) → Counts (parted m t ns) ns
  parts_count (on_cache c) t ns = out_counts by_off (cleared_by_is c) ns
  parts_count (push k h) t ns =
      taken_counts (iface_check k.iface) (overflow ns) ns (rw (left_departs by_overflow (cond (is_full_of ns) (take 1 ns) [])) (over_count (is_full_of ns) ns))
  parts_count (release k) t ns = taken_counts (iface_check k.iface) (first_out (has_key k) ns) ns (first_counts (has_key k) ns)
  parts_count purge_orphans t ns = out_counts by_orphans (orphaned t) ns
  parts_count (purge_iface i) t ns = taken_counts (iface_check i) (all_out by_purge (on_iface i) ns) ns (out_counts by_purge (on_iface i) ns)

  -- one more number
  pub below : ℕ → ℕ
  below k = cond (ltb n k) 1 0

  below_suc : (k : ℕ) → below (suc k) ≡ below k + count_of n (k ∷ [])
  unfolding below
  below_suc k = go (ltb n (suc k)) (ltb n k) (eqb n k) refl refl refl
    where
      go : (x y z : Bool) → ltb n (suc k) ≡ x → ltb n k ≡ y → eqb n k ≡ z → cond x 1 0 ≡ cond y 1 0 + cond z 1 0
      go true true true a b c = absurd (omega (arith, ltb-true n k b, eqb-true n k c))
      go true true false a b c = refl
      go true false true a b c = refl
      go true false false a b c = absurd (omega (arith, ltb-true n (suc k) a, ltb-false n k b, eqb-false n k c))
      go false true z a b c = absurd (omega (arith, ltb-false n (suc k) a, ltb-true n k b))
      go false false true a b c = absurd (omega (arith, ltb-false n (suc k) a, eqb-true n k c))
      go false false false a b c = refl

  below_zero : below 0 ≡ 0
  unfolding below
  below_zero = rw (le-ltb n 0 (omega arith))

  numbers_from : (i : ℕ) (ps : Queue) → below i + in_wait n (number_from i ps) ≡ below (i + length ps)
  numbers_from i [] = let e : i + 0 ≡ i = omega arith in rw e (omega arith)
  numbers_from i (p ∷ ps) =
      let e : i + suc (length ps) ≡ suc i + length ps = omega arith in
      rw e (omega (arith, numbers_from (suc i) ps, below_suc i, count_cons n i (map number_of (number_from (suc i) ps))))

  times_next : (m : Move) (t : Table) (l : Ledger) → times n l ≡ below l.coming → times n (ledger_next m t l) ≡ below (l.coming + length (brings m))
  times_next m t l h =
      omega (
        arith,
        wait_append n (parted m t l.waiting).stay (number_from l.coming (brings m)),
        left_append n l.left (parted m t l.waiting).leave,
        parts_count m t l.waiting,
        numbers_from l.coming (brings m),
      )

-- All of the waiting packets, and of those that left

module _ (P : Numbered → Type 0) where
  abbrev AllLeft : List Departure → Type 0
  AllLeft ds = All (λ (d : Departure). P d.who) ds

  all_departs : (way : Way) (ns : List Numbered) → All P ns → AllLeft (map (departs way) ns)
  all_departs way ns h = all_map P (λ d. P d.who) (departs way) (λ n q. q) ns h

  all_one : (test : Numbered → Bool) (ns : List Numbered) → All P ns → All P (first_of test alone [] ns)
  all_one test [] h = tt
  all_one test (x ∷ ns) h = go (test x) (all_one test ns h.1)
    where
      go : (b : Bool) → All P (first_of test alone [] ns) → All P (cond b (alone x) (first_of test alone [] ns))
      go true r = (h.0, tt)
      go false r = r

  all_rest : (b : Bool) (ns : List Numbered) → All P ns → All P (cond b (drop 1 ns) ns)
  all_rest true [] h = tt
  all_rest true (x ∷ ns) h = h.1
  all_rest false ns h = h

  all_head : (b : Bool) (ns : List Numbered) → All P ns → All P (cond b (take 1 ns) [])
  all_head true [] h = tt
  all_head true (x ∷ ns) h = (h.0, tt)
  all_head false ns h = tt

  abbrev Both : Parted → Type 0
  Both x = All P x.stay × AllLeft x.leave

  both_out : (way : Way) (test : PendingPacket → Bool) (ns : List Numbered) → All P ns → Both (all_out way test ns)
  both_out way test ns h = (all_kept P (asks test) ns h, all_departs way (dropped (asks test) ns) (all_dropped P (asks test) ns h))

  both_taken : (c : Result (Unit {0}) Refusal) (x : Parted) (ns : List Numbered) → All P ns → Both x → Both (unless_refused c ns x)
  both_taken (Err why) x ns h b = (h, tt)
  both_taken (Ok tt) x ns h b = b

  both_parts : (m : Move) (t : Table) (ns : List Numbered) → All P ns → Both (parted m t ns)
  both_parts (on_cache c) t ns h = both_out by_off (cleared_by_is c) ns h
  both_parts (push k g) t ns h =
      both_taken (iface_check k.iface) (overflow ns) ns h
      (all_rest (is_full_of ns) ns h, all_departs by_overflow (cond (is_full_of ns) (take 1 ns) []) (all_head (is_full_of ns) ns h))
  both_parts (release k) t ns h =
      both_taken (iface_check k.iface) (first_out (has_key k) ns) ns h (
        all_first P (asks (has_key k)) nobody [] ns h tt (λ x e q. tt),
        all_departs by_release (first_of (asks (has_key k)) alone [] ns) (all_one (asks (has_key k)) ns h),
      )
  both_parts purge_orphans t ns h = both_out by_orphans (orphaned t) ns h
  both_parts (purge_iface i) t ns h = both_taken (iface_check i) (all_out by_purge (on_iface i) ns) ns h (both_out by_purge (on_iface i) ns h)

-- The packet of a number

nth_more : (b ps : Queue) (n : Numbered) → Nth b n → Nth (b ++ ps) n
nth_more b ps n h =
    record { inside = omega (arith, length-append b ps, h.inside); is = get_or-append b ps blank n.number h.inside ∙ h.is }

nth_new : (b ps : Queue) (i : ℕ) → i ≡ length b → All (Nth (b ++ ps)) (number_from i ps)
nth_new b [] i e = tt
nth_new b (p ∷ ps) i e = (
  record { inside = omega (arith, length-append b (p ∷ ps)); is = rw e (get_or-append_seam b p ps blank) },
  rw append_assoc at (nth_new (b ++ (p ∷ [])) ps (suc i) (omega (arith, length-append b (p ∷ [])))),
)

-- What holds of a ledger into which these packets came

pub record Sound (b : Queue) (l : Ledger) : Type 0 where
  pub next : l.coming ≡ length b
  pub count : (n : ℕ) → times n l ≡ below n l.coming
  pub waiting : All (Nth b) l.waiting
  pub left : All (λ (d : Departure). Nth b d.who) l.left

sound_opened : (q : Queue) → Sound q (opened q)
sound_opened q = record { next = refl; count = counted; waiting = nth_new [] q 0 refl; left = tt }
  where
    counted : (n : ℕ) → times n (opened q) ≡ below n (length q)
    counted n =
        let e : 0 + length q ≡ length q = omega arith in
        omega (arith, below_zero n, rw e at (numbers_from n 0 q))

sound_next : (b : Queue) (m : Move) (t : Table) (l : Ledger) → Sound b l → Sound (b ++ brings m) (ledger_next m t l)
sound_next b m t l s =
    let parts = both_parts (Nth b) m t l.waiting s.waiting in
    record {
      next = omega (arith, s.next, length-append b (brings m));
      count = λ n. times_next n m t l (s.count n);
      waiting =
          all_append (Nth (b ++ brings m)) (parted m t l.waiting).stay (number_from l.coming (brings m))
          (all_weaken (Nth b) (Nth (b ++ brings m)) (nth_more b (brings m)) (parted m t l.waiting).stay parts.0)
          (nth_new b (brings m) l.coming s.next);
      left =
          all_weaken (λ (d : Departure). Nth b d.who) (λ (d : Departure). Nth (b ++ brings m) d.who) (λ d h. nth_more b (brings m) d.who h)
          (l.left ++ (parted m t l.waiting).leave)
          (all_append (λ (d : Departure). Nth b d.who) l.left (parted m t l.waiting).leave s.left parts.1);
    }

sound_after : (b : Queue) (moves : List Move) (t : Table) (l : Ledger) → Sound b l → Sound (b ++ brought moves) (ledger_after moves t l)
sound_after b [] t l s = rw (append-nil b) s
sound_after b (m ∷ moves) t l s = rw append_assoc at (sound_after (b ++ brings m) moves (table_next m t) (ledger_next m t l) (sound_next b m t l s))

pub sound : (moves : List Move) (t : Table) (q : Queue) → Sound (q ++ brought moves) (ledger moves t q)
sound moves t q = sound_after q moves t (opened q) (sound_opened q)

pub once : (moves : List Move) (t : Table) (q : Queue) (n : ℕ) → n < length (q ++ brought moves) → times n (ledger moves t q) ≡ 1
unfolding below
once moves t q n h =
    let s = sound moves t q in
    s.count n ∙ ap (λ (b : Bool). cond b 1 0) (lt-ltb n (ledger moves t q).coming (omega (arith, s.next)))

pub no_other : (moves : List Move) (t : Table) (q : Queue) (n : ℕ) → length (q ++ brought moves) ≤ n → times n (ledger moves t q) ≡ 0
unfolding below
no_other moves t q n h =
    let s = sound moves t q in
    s.count n ∙ ap (λ (b : Bool). cond b 1 0) (le-ltb n (ledger moves t q).coming (omega (arith, s.next)))
