-- The place that `position` answers: none of the entries before it passes, and it does; or none passes at all. Assumes nothing.
use Prim.Native.Nat.{ℕ, zero, suc, ◌<◌, ◌≤◌, min}
use borrow.Author.Tests.{lt-ltb, le-ltb}
use lib.ListN.{length, take, drop, get_or}
use mathlib.Core.Bool.{Bool, true, false, true≢false}
use mathlib.Core.List.{List, [], ◌∷◌}
use mathlib.Core.Logic.{◌⊎◌, inl, inr}
use mathlib.Core.Path.{◌≡◌, refl, ap, sym, subst, ◌∙◌}
use native.Mathlib.Omega.{arith}
use Rattle.std.proofs.Common.{Option, Some, None}
use Rattle.table.proofs.First.{first_from_law}
use Rattle.table.proofs.Laws.{entry_at, counted, Seeking, seek, Finding, Scanning}
use Rattle.table.specs.Calls.{place_of}
use Rattle.table.specs.First.{FirstAt, NoneFrom}
use Rattle.table.specs.Table.{first_from, first_of}

abbrev number : Option ℕ → ℕ
number None = 0
number (Some i) = i

abbrev is_there : Option ℕ → Bool
is_there None = false
is_there (Some i) = true

module _ {A : Type 0} (d : A) (test : A → Bool) where
  abbrev pub NoneBefore : List A → ℕ → Type 0
  NoneBefore es i = (j : ℕ) → j < i → test (get_or es j d) ≡ false

  pub place_some : (es : List A) (i : ℕ) → place_of test es ≡ Some i → FirstAt d test 0 es i
  unfolding place_of
  place_some es i p = go (first_from_law.is d test 0 es)
    where
      go : FirstAt d test 0 es (first_from test 0 es) ⊎ NoneFrom d test 0 es (first_from test 0 es) → FirstAt d test 0 es i
      go (inl f) =
          let a : place_of test es ≡ Some (first_from test 0 es) = rw (lt-ltb (first_from test 0 es) (length es) f.inside) refl in
          subst (FirstAt d test 0 es) (ap number (sym a ∙ p)) f
      go (inr f) =
          let a : place_of test es ≡ None = rw (le-ltb (first_from test 0 es) (length es) (omega (arith, f.end))) refl in
          absurd (true≢false (sym (ap is_there (sym a ∙ p))))

  pub place_none : (es : List A) → place_of test es ≡ None → NoneBefore es (length es)
  unfolding place_of
  place_none es p = go (first_from_law.is d test 0 es)
    where
      go : FirstAt d test 0 es (first_from test 0 es) ⊎ NoneFrom d test 0 es (first_from test 0 es) → NoneBefore es (length es)
      go (inl f) =
          let a : place_of test es ≡ Some (first_from test 0 es) = rw (lt-ltb (first_from test 0 es) (length es) f.inside) refl in
          absurd (true≢false (ap is_there (sym a ∙ p)))
      go (inr f) = λ j h. f.none j (omega arith) h

  pub seeking_at : (f : A → List A) (new es : List A) (i : ℕ) → i ≤ length es → NoneBefore es i → Seeking test f new es i
  seeking_at f new es zero h none = seek test f new es
  seeking_at f new [] (suc i) h none = absurd (omega arith)
  seeking_at f new (x ∷ es) (suc i) h none =
      let t : test x ≡ false = none 0 (omega arith) in
      let later : Seeking test f new es i = seeking_at f new es i (omega arith) (λ j l. none (suc j) (omega arith)) in
      record { so_far = rw (t) (ap (λ (l : List A). x ∷ l) later.so_far); any = rw (t) later.any }

  pub scanned_at : {B : Type 0} (f : A → B) (none_is : B) (es : List A) (i : ℕ) → i ≤ length es → NoneBefore es i
      → first_of test f none_is (drop i es) ≡ first_of test f none_is es
  scanned_at f none_is es zero h none = refl
  scanned_at f none_is [] (suc i) h none = absurd (omega arith)
  scanned_at f none_is (x ∷ es) (suc i) h none =
      let t : test x ≡ false = none 0 (omega arith) in
      rw (t) (scanned_at f none_is es i (omega arith) (λ j l. none (suc j) (omega arith)))

-- The entries are the first `n` slots of `s`, at most `size`, and `k` of them
module _ {A : Type 0} (d : A) (test : A → Bool) (s : List A) (n : ℕ) {size k : ℕ} (full : length s ≡ size) (e : k ≡ min n size) where
  count : k ≡ length (take n s)
  count = counted s n size k full e

  module _ {i : ℕ} (p : place_of test (take n s) ≡ Some i) where
    at : FirstAt d test 0 (take n s) i
    at = place_some d test (take n s) i p

    pub placed_below : i < k
    placed_below = omega (arith, count, at.inside)

    pub placed_passes : test (get_or s i d) ≡ true
    placed_passes = ap test (sym (entry_at d s n i at.inside)) ∙ at.passes

    pub placed_finding : (f : A → List A) (new : List A) → Finding size test f new s n k i
    placed_finding f new =
        record {
          low = omega (arith, placed_below);
          most = omega arith;
          full = full;
          count = count;
          seeking = seeking_at d test f new (take n s) i (omega (arith, at.inside)) (λ j h. at.first j (omega arith) h);
        }

    pub placed_first : {B : Type 0} (f : A → B) (none_is : B) → Scanning size test f none_is s n k i
    placed_first f none_is =
        record {
          low = omega (arith, placed_below);
          most = omega arith;
          full = full;
          count = count;
          same = scanned_at d test f none_is (take n s) i (omega (arith, at.inside)) (λ j h. at.first j (omega arith) h);
        }

  module _ (p : place_of test (take n s) ≡ None) where
    pub absent_finding : (f : A → List A) (new : List A) → Finding size test f new s n k k
    absent_finding f new =
        record {
          low = omega arith;
          most = omega arith;
          full = full;
          count = count;
          seeking = seeking_at d test f new (take n s) k (omega (arith, count)) (λ j h. place_none d test (take n s) p j (omega (arith, count)));
        }

    pub absent_first : {B : Type 0} (f : A → B) (none_is : B) → Scanning size test f none_is s n k k
    absent_first f none_is =
        record {
          low = omega arith;
          most = omega arith;
          full = full;
          count = count;
          same = scanned_at d test f none_is (take n s) k (omega (arith, count)) (λ j h. place_none d test (take n s) p j (omega (arith, count)));
        }
