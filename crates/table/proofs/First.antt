-- Laws of `first_from`. Assumes nothing.
use Prim.Native.Nat.{ℕ, zero, suc, ◌+◌, ◌≤◌, ◌<◌}
use lib.ListN.{length, get_or}
use mathlib.Core.Bool.{Bool, true, false, cond, true≢false}
use mathlib.Core.List.{List, [], ◌∷◌}
use mathlib.Core.Logic.{◌⊎◌, inl, inr, ⊎_elim}
use mathlib.Core.Path.{◌≡◌, refl, ap, sym, ◌∙◌}
use native.Mathlib.Numerals.{add-one}
use native.Mathlib.Omega.{arith}
use Rattle.table.specs.First.{FirstAt, NoneFrom, FirstFromLaw}
use Rattle.table.specs.Table.{first_from}

module _ {A : Type 0} (d : A) (test : A → Bool) where
  -- the entry at n passes
  pub first_here : (n : ℕ) (xs : List A) → n < length xs → test (get_or xs n d) ≡ true → first_from test n xs ≡ n
  first_here n [] h g = absurd (omega arith)
  first_here zero (x ∷ xs) h g = simp g
  first_here (suc n) (x ∷ xs) h g = ap suc (first_here n xs (omega arith) g)

  later : (n : ℕ) (xs : List A) → n < length xs → test (get_or xs n d) ≡ false → first_from test n xs ≡ first_from test (suc n) xs
  later n [] h g = absurd (omega arith)
  later zero (x ∷ xs) h g = simp g
  later (suc n) (x ∷ xs) h g = ap suc (later n xs (omega arith) g)

  -- it does not
  pub first_later : (n : ℕ) (xs : List A) → n < length xs → test (get_or xs n d) ≡ false → first_from test n xs ≡ first_from test (n + 1) xs
  first_later n xs h g = rw (add-one n) (later n xs h g)

  -- there is none at n
  pub first_none : (n : ℕ) (xs : List A) → length xs ≤ n → first_from test n xs ≡ length xs
  first_none n [] h = refl
  first_none zero (x ∷ xs) h = absurd (omega arith)
  first_none (suc n) (x ∷ xs) h = ap suc (first_none n xs (omega arith))

  -- an entry more in front
  first_on : (n : ℕ) (x : A) (xs : List A) (j : ℕ) → FirstAt d test n xs j → FirstAt d test (suc n) (x ∷ xs) (suc j)
  first_on n x xs j f = record { from = omega (arith, f.from); inside = omega (arith, f.inside); passes = f.passes; first = before }
    where
      before : (i : ℕ) → suc n ≤ i → i < suc j → test (get_or (x ∷ xs) i d) ≡ false
      before zero a b = absurd (omega arith)
      before (suc i) a b = f.first i (omega arith) (omega arith)

  none_on : (n : ℕ) (x : A) (xs : List A) (j : ℕ) → NoneFrom d test n xs j → NoneFrom d test (suc n) (x ∷ xs) (suc j)
  none_on n x xs j f = record { end = ap suc f.end; none = all }
    where
      all : (i : ℕ) → suc n ≤ i → i < length (x ∷ xs) → test (get_or (x ∷ xs) i d) ≡ false
      all zero a b = absurd (omega arith)
      all (suc i) a b = f.none i (omega arith) (omega arith)

  -- one that does not pass
  first_past : (x : A) (xs : List A) (j : ℕ) → test x ≡ false → FirstAt d test 0 xs j → FirstAt d test 0 (x ∷ xs) (suc j)
  first_past x xs j g f = record { from = omega arith; inside = omega (arith, f.inside); passes = f.passes; first = before }
    where
      before : (i : ℕ) → 0 ≤ i → i < suc j → test (get_or (x ∷ xs) i d) ≡ false
      before zero a b = g
      before (suc i) a b = f.first i (omega arith) (omega arith)

  none_past : (x : A) (xs : List A) (j : ℕ) → test x ≡ false → NoneFrom d test 0 xs j → NoneFrom d test 0 (x ∷ xs) (suc j)
  none_past x xs j g f = record { end = ap suc f.end; none = all }
    where
      all : (i : ℕ) → 0 ≤ i → i < length (x ∷ xs) → test (get_or (x ∷ xs) i d) ≡ false
      all zero a b = g
      all (suc i) a b = f.none i (omega arith) (omega arith)

  abbrev Either : ℕ → List A → ℕ → Type 0
  Either n xs j = FirstAt d test n xs j ⊎ NoneFrom d test n xs j

  at_front : (x : A) (xs : List A) (j : ℕ) (b : Bool) → test x ≡ b → Either 0 xs j → Either 0 (x ∷ xs) (cond b 0 (suc j))
  at_front x xs j true g e =
      inl (record { from = omega arith; inside = omega arith; passes = g; first = λ i a b. absurd (omega arith) })
  at_front x xs j false g e = ⊎_elim (λ f. inl (first_past x xs j g f)) (λ f. inr (none_past x xs j g f)) e

  either : (n : ℕ) (xs : List A) → Either n xs (first_from test n xs)
  either n [] = inr (record { end = refl; none = λ i a b. absurd (omega arith) })
  either zero (x ∷ xs) = at_front x xs (first_from test zero xs) (test x) refl (either zero xs)
  either (suc n) (x ∷ xs) = ⊎_elim (λ f. inl (first_on n x xs _ f)) (λ f. inr (none_on n x xs _ f)) (either n xs)

  below : (n : ℕ) (xs : List A) (j l : ℕ) → FirstAt d test n xs j → FirstAt d test n xs l → j < l → ⊥
  below n xs j l f g h = true≢false (sym f.passes ∙ g.first j f.from h)

  one_place : (n : ℕ) (xs : List A) (j l : ℕ) → FirstAt d test n xs j → Either n xs l → j ≡ l
  one_place n xs j l f (inl g) =
      let a : j < l → ⊥ = below n xs j l f g in
      let b : l < j → ⊥ = below n xs l j g f in
      omega arith
  one_place n xs j l f (inr g) = absurd (true≢false (sym f.passes ∙ g.none j f.from f.inside))

pub first_from_law : FirstFromLaw
first_from_law = record { is = λ d test n xs. either d test n xs; only = λ d test n xs j f. one_place d test n xs j (first_from test n xs) f (either d test n xs) }
