-- Laws of finding a byte, of a line's fields and of comparing. Assumes nothing.
use Prim.Native.Nat.{ℕ, zero, suc, ◌+◌, ◌-◌, ◌<◌, ◌≤◌}
use borrow.Author.Tests.{eqb-false, ltb-true, ltb-false}
use lib.Dec.{eqb, ltb}
use lib.ListN.{length, take, drop, get_or, length-drop}
use lib.Seq.{take_all}
use mathlib.Core.Bool.{Bool, true, false, cond, not}
use mathlib.Core.List.{List, [], ◌∷◌}
use mathlib.Core.Path.{◌≡◌, refl, ap, ◌∙◌}
use native.Mathlib.Omega.{arith}
use Rattle.std.specs.List.{position_or_len, prefix_len}
use Rattle.std.specs.Prelude.{Option, Some, None, MatchOption}
use Rattle.text.specs.Fields.{onto, fields, index_of, Found, Parted}

-- ---- a search

below_by : (b x : ℕ) (n k : ℕ) (xs : List ℕ) (t : Bool) → eqb x b ≡ t → ((j : ℕ) → j < n → get_or xs j 0 ≡ b → ⊥)
    → k < cond t zero (suc n) → get_or (x ∷ xs) k 0 ≡ b → ⊥
below_by b x n k xs true q i h e = omega arith
below_by b x n zero xs false q i h e = eqb-false x b q e
below_by b x n (suc k) xs false q i h e = i k (omega arith) e

-- no b stands before the first
pub before : (b : ℕ) (s : List ℕ) (k : ℕ) → k < index_of b s → get_or s k 0 ≡ b → ⊥
before b [] k h e = omega arith
before b (x ∷ xs) k h e = below_by b x (index_of b xs) k xs (eqb x b) refl (λ j. before b xs j) h e

place_by : (b x : ℕ) (xs : List ℕ) (t : Bool) → prefix_len (λ y. not (eqb y b)) xs ≡ index_of b xs
    → cond (not t) (1 + prefix_len (λ y. not (eqb y b)) xs) 0 ≡ cond t zero (suc (index_of b xs))
place_by b x xs true i = refl
place_by b x xs false i = omega arith

-- std's index of the first element that passes
place_is : (b : ℕ) (s : List ℕ) → position_or_len (λ y. eqb y b) s ≡ index_of b s
place_is b [] = refl
place_is b (x ∷ xs) = place_by b x xs (eqb x b) (place_is b xs)

index_most : (b : ℕ) (s : List ℕ) → index_of b s ≤ length s
index_most b [] = omega arith
index_most b (x ∷ xs) = most_by (eqb x b) (index_most b xs)
  where
    most_by : (t : Bool) → index_of b xs ≤ length xs → cond t zero (suc (index_of b xs)) ≤ suc (length xs)
    most_by true h = omega arith
    most_by false h = omega arith

found_by : (b : ℕ) (s : List ℕ) (t : Bool) → ltb (index_of b s) (length s) ≡ t
    → MatchOption (cond t (Some (index_of b s)) None) (index_of b s ≡ length s) (λ n. (n ≡ index_of b s) × (n < length s))
found_by b s true e = (refl, ltb-true (index_of b s) (length s) e)
found_by b s false e = let h = ltb-false (index_of b s) (length s) e in let m = index_most b s in omega arith

pub found : (s : List ℕ) (b : ℕ) (r : Option ℕ) → Found s b r → MatchOption r (index_of b s ≡ length s) (λ n. (n ≡ index_of b s) × (n < length s))
found s b r e = rw (e, place_is b s) (found_by b s (ltb (index_of b s) (length s)) refl)

-- ---- fields

alone_by : (b : ℕ) (s : List ℕ) (t : Bool) → eqb b 32 ≡ t → (index_of 32 s ≡ length s → fields s ≡ s ∷ [])
    → cond t zero (suc (index_of 32 s)) ≡ suc (length s) → cond t ([] ∷ fields s) (onto b (fields s)) ≡ (b ∷ s) ∷ []
alone_by b s true e i h = absurd (omega arith)
alone_by b s false e i h = ap (onto b) (i (omega arith))

-- a line with no space is one field
pub alone : (s : List ℕ) → index_of 32 s ≡ length s → fields s ≡ s ∷ []
alone [] h = refl
alone (b ∷ s) h = alone_by b s (eqb b 32) refl (alone s) h

parted_by : (b : ℕ) (s : List ℕ) (t : Bool) → eqb b 32 ≡ t
    → ((index_of 32 s ≡ length s → ⊥) → fields s ≡ take (index_of 32 s) s ∷ fields (drop (index_of 32 s + 1) s))
    → (cond t zero (suc (index_of 32 s)) ≡ suc (length s) → ⊥)
    → cond t ([] ∷ fields s) (onto b (fields s))
    ≡ take (cond t zero (suc (index_of 32 s))) (b ∷ s) ∷ fields (drop (cond t zero (suc (index_of 32 s)) + 1) (b ∷ s))
parted_by b s true e i h = refl
parted_by b s false e i h =
    let w = i (λ q. h (ap suc q)) in
    let m : suc (index_of 32 s) + 1 ≡ suc (index_of 32 s + 1) = omega arith in
    rw (w, m) refl

-- any other is its first field and the fields after the first space
pub parted : (s : List ℕ) → (index_of 32 s ≡ length s → ⊥) → fields s ≡ take (index_of 32 s) s ∷ fields (drop (index_of 32 s + 1) s)
parted [] h = absurd (h refl)
parted (b ∷ s) h = parted_by b s (eqb b 32) refl (parted s) h

-- the code's parts of a line, where n is its first space
pub rest : (s : List ℕ) (n : ℕ) → take (length s - (n + 1)) (drop (n + 1) s) ≡ drop (n + 1) s
rest s n = take_all (length s - (n + 1)) (drop (n + 1) s) (rw length-drop (omega arith))

pub more_fields : (s : List ℕ) (n : ℕ) → n ≡ index_of 32 s → n < length s → Parted s (take n s) (take (length s - (n + 1)) (drop (n + 1) s))
more_fields s n e h = record { is = parted s (λ q. omega arith) ∙ rw (rest s n, e) refl }
