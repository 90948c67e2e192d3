-- Nothing is lost and nothing is made up. Assumes nothing.
use Prim.Native.Nat.{ℕ, suc, ◌+◌, ◌≤◌, ◌<◌}
use borrow.Author.Tests.{ltb-true, ltb-false}
use lib.Dec.{ltb, eqb}
use lib.ListN.{length, drop, length-append}
use mathlib.Core.Bool.{Bool, true, false, cond, not}
use mathlib.Core.List.{List, [], ◌∷◌, ◌++◌, map}
use mathlib.Core.Path.{◌≡◌, refl}
use native.Mathlib.Omega.{arith}
use Rattle.std.specs.Prelude.{Some, None, Ok}
use Rattle.neighbor.specs.NeighborRules.{Key}
use Rattle.pending.specs.QueueCalls.{pushed_out, released_out}
use Rattle.pending.specs.QueueCount.{count_of, waiting, Accounted}
use Rattle.pending.specs.QueueRules.{Queue, handle_of, has_key, push_list, oldest, push_answer, gone, release_list, handed, release_answer, dropped_handles}
use Rattle.pending.specs.declared.PendingPacket.{PendingPacket}
use Rattle.table.specs.Table.{at_first_is, first_of, kept, dropped}

-- a handle in front
count_cons : (h x : ℕ) (xs : List ℕ) → count_of h (x ∷ xs) ≡ count_of h (x ∷ []) + count_of h xs
count_cons h x xs = go (eqb h x)
  where
    go : (b : Bool) → cond b (suc (count_of h xs)) (count_of h xs) ≡ cond b 1 0 + count_of h xs
    go true = omega arith
    go false = omega arith

waiting_cons : (h : ℕ) (p : PendingPacket) (q : Queue) → waiting h (p ∷ q) ≡ count_of h (handle_of p ∷ []) + waiting h q
unfolding waiting
waiting_cons h p q = count_cons h (handle_of p) (map handle_of q)

waiting_end : (h : ℕ) (p : PendingPacket) (q : Queue) → waiting h (q ++ (p ∷ [])) ≡ waiting h q + count_of h (handle_of p ∷ [])
unfolding waiting
waiting_end h p [] = omega arith
waiting_end h p (x ∷ q) =
    omega (
      arith,
      count_cons h (handle_of x) (map handle_of (q ++ (p ∷ []))),
      count_cons h (handle_of x) (map handle_of q),
      waiting_end h p q,
    )

push_count : (room h : ℕ) (p : PendingPacket) (q : Queue) → 0 < room
    → waiting h q + count_of h (handle_of p ∷ []) ≡ waiting h (push_list room p q) + count_of h (pushed_out (push_answer room q))
unfolding push_list push_answer
push_count room h p q some = go q (ltb (length q) room) refl
  where
    go : (q : Queue) (b : Bool) → ltb (length q) room ≡ b
        → waiting h q + count_of h (handle_of p ∷ [])
        ≡ waiting h (cond (not b) (drop 1 q) q ++ (p ∷ [])) + count_of h (pushed_out (cond (not b) (Ok (Some (oldest q))) (Ok None)))
    go q true e = omega (arith, waiting_end h p q)
    go [] false e = absurd (omega (arith, ltb-false 0 room e))
    go (x ∷ q) false e = omega (arith, waiting_cons h x q, waiting_end h p q)

push_room : (room : ℕ) (p : PendingPacket) (q : Queue) → 0 < room → length q ≤ room → length (push_list room p q) ≤ room
unfolding push_list
push_room room p q some l = go q (ltb (length q) room) refl l
  where
    go : (q : Queue) (b : Bool) → ltb (length q) room ≡ b → length q ≤ room → length (cond (not b) (drop 1 q) q ++ (p ∷ [])) ≤ room
    go q true e l = omega (arith, length-append q (p ∷ []), ltb-true (length q) room e)
    go [] false e l = absurd (omega (arith, ltb-false 0 room e))
    go (x ∷ q) false e l = omega (arith, length-append q (p ∷ []))

release_count : (h : ℕ) (k : Key) (q : Queue) → waiting h q ≡ waiting h (release_list k q) + count_of h (released_out (release_answer k q))
unfolding waiting release_list release_answer
release_count h k [] = omega arith
release_count h k (x ∷ q) = go (has_key k x) (release_count h k q)
  where
    go : (b : Bool)
        → count_of h (map handle_of q)
        ≡ count_of h (map handle_of (at_first_is (has_key k) gone [] q)) + count_of h (released_out (first_of (has_key k) handed (Ok None) q))
        → count_of h (map handle_of (x ∷ q))
        ≡ count_of h (map handle_of (cond b (gone x ++ q) (x ∷ at_first_is (has_key k) gone [] q)))
        + count_of h (released_out (cond b (handed x) (first_of (has_key k) handed (Ok None) q)))
    go true e = omega (arith, count_cons h (handle_of x) (map handle_of q))
    go false e =
        omega (
          arith,
          count_cons h (handle_of x) (map handle_of q),
          count_cons h (handle_of x) (map handle_of (at_first_is (has_key k) gone [] q)),
        )

purge_count : (h : ℕ) (goes : PendingPacket → Bool) (q : Queue) → waiting h q ≡ waiting h (kept goes q) + count_of h (dropped_handles goes q)
unfolding waiting dropped_handles
purge_count h goes [] = omega arith
purge_count h goes (x ∷ q) = go (goes x) (purge_count h goes q)
  where
    go : (b : Bool)
        → count_of h (map handle_of q) ≡ count_of h (map handle_of (kept goes q)) + count_of h (map handle_of (dropped goes q))
        → count_of h (map handle_of (x ∷ q))
        ≡ count_of h (map handle_of (cond b (kept goes q) (x ∷ kept goes q))) + count_of h (map handle_of (cond b (x ∷ dropped goes q) (dropped goes q)))
    go true e = omega (arith, count_cons h (handle_of x) (map handle_of q), count_cons h (handle_of x) (map handle_of (dropped goes q)))
    go false e = omega (arith, count_cons h (handle_of x) (map handle_of q), count_cons h (handle_of x) (map handle_of (kept goes q)))

pub accounted : Accounted
accounted = record { push = push_count; release = release_count; purge = purge_count; room = push_room }
