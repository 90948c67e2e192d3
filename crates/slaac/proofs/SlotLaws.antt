-- Laws of a table that is searched by `table::position`.
use Prim.Native.Nat.{ℕ, suc, ◌+◌, ◌<◌, ◌≤◌, min, max}
use Rattle.std.proofs.Common.{Option, Some, None}
use Rattle.std.proofs.lemmas.Bool.{ltb-true, ltb-false}
use Rattle.std.specs.Option.{unwrap_or}
use borrow.Author.Tests.{lt-ltb, le-ltb}
use lib.Dec.{ltb}
use lib.ListN.{length, take, get_or, set, length-take}
use mathlib.Core.Bool.{Bool, true, false, cond, ◌||◌}
use mathlib.Core.List.{List, [], ◌∷◌}
use mathlib.Core.Logic.{⊎_elim}
use mathlib.Core.Path.{◌≡◌, refl, ap, sym, ◌∙◌, subst}
use native.Mathlib.Omega.{arith}
use Rattle.slaac.specs.LearnedRules.{put_over}
use Rattle.slaac.specs.Slots.{put_in, PutTo}
use Rattle.table.proofs.First.{first_from_law}
use Rattle.table.proofs.Laws.{Made, Seeking, Finding, counted, take_count, entry_at, found_over, found_any, absent_end, absent_stays, absent_any}
use Rattle.table.specs.Calls.{place_of}
use Rattle.table.specs.First.{FirstAt, NoneFrom}
use Rattle.table.specs.Table.{first_from, if_room}

module _ {A : Type 0} (test : A → Bool) (f : A → List A) (new : List A) where
  seek_on : (y : A) (es : List A) (j : ℕ) → Seeking test f new es j → (b : Bool) → test y ≡ b → Seeking test f new (y ∷ es) (cond b 0 (suc j))
  seek_on y es j w true e = record { so_far = refl; any = refl }
  seek_on y es j w false e = record { so_far = simp e (ap (λ (l : List A). y ∷ l) w.so_far); any = simp e w.any }

  seek_first : (es : List A) → Seeking test f new es (first_from test 0 es)
  seek_first [] = record { so_far = refl; any = refl }
  seek_first (y ∷ es) = seek_on y es (first_from test 0 es) (seek_first es) (test y) refl

-- the first that passes is one of the entries, or there is none
module _ {A : Type 0} (test : A → Bool) where
  first_low : (es : List A) → first_from test 0 es ≤ length es
  first_low [] = omega arith
  first_low (y ∷ es) = go (test y) (first_low es)
    where
      go : (b : Bool) → first_from test 0 es ≤ length es → cond b 0 (suc (first_from test 0 es)) ≤ length (y ∷ es)
      go true h = omega arith
      go false h = omega arith

  first_passes : (d : A) (es : List A) → first_from test 0 es < length es → test (get_or es (first_from test 0 es) d) ≡ true
  first_passes d es h =
      ⊎_elim {C = test (get_or es (first_from test 0 es) d) ≡ true} (λ (w : FirstAt d test 0 es (first_from test 0 es)). w.passes)
      (λ (w : NoneFrom d test 0 es (first_from test 0 es)). absurd (omega (arith, w.end))) (first_from_law.is d test 0 es)

  pub some_place : (es : List A) (i : ℕ) → Some i ≡ place_of test es → (i ≡ first_from test 0 es) × (i < length es)
  unfolding place_of
  some_place es i e = go (ltb (first_from test 0 es) (length es)) refl e
    where
      go : (b : Bool) → ltb (first_from test 0 es) (length es) ≡ b → Some i ≡ cond {A = Option ℕ} b (Some (first_from test 0 es)) None
          → (i ≡ first_from test 0 es) × (i < length es)
      go true w g = let k : i ≡ first_from test 0 es = cc in let l : first_from test 0 es < length es = ltb-true _ _ w in (k, omega arith)
      go false w g = cc

  pub no_place : (es : List A) → None ≡ place_of test es → length es ≡ first_from test 0 es
  unfolding place_of
  no_place es e = go (ltb (first_from test 0 es) (length es)) refl e
    where
      go : (b : Bool) → ltb (first_from test 0 es) (length es) ≡ b → None ≡ cond {A = Option ℕ} b (Some (first_from test 0 es)) None
          → length es ≡ first_from test 0 es
      go true w g = cc
      go false w g = let l : length es ≤ first_from test 0 es = ltb-false _ _ w in omega (arith, first_low es)

  pub place_or : (es : List A) (r : Option ℕ) (k : ℕ) → r ≡ place_of test es → k ≡ length es → unwrap_or r k ≡ first_from test 0 es
  place_or es (Some i) k e h = (some_place es i e).0
  place_or es None k e h = h ∙ no_place es e

-- the answer on k entries
module _ {A : Type 0} (test : A → Bool) (s : List A) (k : ℕ) (r : Option ℕ) (p : r ≡ place_of test (take k s)) where
  pub placed : (i : ℕ) → r ≡ Some i → (i ≡ first_from test 0 (take k s)) × (i < k)
  placed i e = let w = some_place test (take k s) i (sym e ∙ p) in (w.0, omega (arith, w.1, length-take k s))

  pub unplaced : (n : ℕ) → k ≡ min n (length s) → r ≡ None → k ≡ first_from test 0 (take k s)
  unplaced n c e =
      let long : k ≡ length (take k s) = omega (arith, length-take k s) in
      long ∙ no_place test (take k s) (sym e ∙ p)

-- the place of the first of k entries that passes, or k
pub seated : {A : Type 0} (test : A → Bool) (s : List A) (n k i : ℕ) (r : Option ℕ) → k ≡ min n (length s) → r ≡ place_of test (take k s) → i ≡ unwrap_or r k
    → i ≡ first_from test 0 (take k s)
seated test s n k i r e p g =
    let long : k ≡ length (take k s) = omega (arith, length-take k s) in
    g ∙ place_or test (take k s) r k p long

-- the table in which the first place `i` of k entries was looked for
module _ {A : Type 0} (size : ℕ) (test : A → Bool) (s : List A) (n k i : ℕ) (full : length s ≡ size) (e : k ≡ min n size)
    (g : i ≡ first_from test 0 (take k s)) where
  count : k ≡ length (take n s)
  count = counted s n size k full e

  here : i ≡ first_from test 0 (take n s)
  here = g ∙ ap (λ (es : List A). first_from test 0 es) (take_count s n k count)

  pub sought : (f : A → List A) (new : List A) → Finding size test f new s n k i
  sought f new =
      record {
        low = omega (arith, first_low test (take n s), here, count);
        most = omega arith;
        full = full;
        count = count;
        seeking = rw here (seek_first test f new (take n s));
      }

  pub passes : (d : A) → i < k → test (get_or s i d) ≡ true
  passes d h =
      let l : i < length (take n s) = omega (arith, count) in
      let m : first_from test 0 (take n s) < length (take n s) = omega (arith, here) in
      ap test (sym (entry_at d s n i l)) ∙ (ap (λ (j : ℕ). test (get_or (take n s) j d)) here ∙ first_passes test d (take n s) m)

asked_yes : (a b : Bool) → a ≡ true → true ≡ (a || b)
asked_yes a b e = simp e

asked_room : (a b : Bool) → a ≡ false → b ≡ true → true ≡ (a || b)
asked_room a b e h = simp (e, h)

asked_no : (a b : Bool) → a ≡ false → b ≡ false → false ≡ (a || b)
asked_no a b e h = simp (e, h)

module _ {A : Type 0} (test : A → Bool) (x : A) (s : List A) (n k i : ℕ) (e : k ≡ min n (length s)) (g : i ≡ first_from test 0 (take k s)) where
  inv : Finding (length s) test (put_over x) (if_room (length s) (take n s) x) s n k i
  inv = sought (length s) test s n k i refl e g (put_over x) (if_room (length s) (take n s) x)

  -- the entry stands in place of the one that was found, or at the end
  put_found : i < k → PutTo test x s n (set s i x) k true
  put_found h =
      let q : test (get_or s i x) ≡ true = passes (length s) test s n k i refl e g x h in
      let m : Made s (put_in test x s n) (set s i x) k = found_over x inv h q x refl in
      record { slots = m.slots; count = m.count; told = asked_yes _ _ (found_any x inv h q) }

  put_end : k ≤ i → k < length s → PutTo test x s n (set s k x) (k + 1) true
  put_end h l =
      let c : length (take n s) < length s = omega (arith, inv.count) in
      let m : Made s (put_in test x s n) (set s k x) (k + 1) = absent_end x inv h x l (simp (lt-ltb (length (take n s)) (length s) c)) in
      record { slots = m.slots; count = m.count; told = asked_room _ _ (absent_any x inv h) (lt-ltb (length (take n s)) (length s) c) }

  pub put_at : i < length s → PutTo test x s n (set s i x) (max k (i + 1)) true
  put_at l = go (ltb i k) refl
    where
      go : (b : Bool) → ltb i k ≡ b → PutTo test x s n (set s i x) (max k (i + 1)) true
      go true w =
          let h : i < k = ltb-true _ _ w in
          let m : k ≡ max k (i + 1) = omega arith in
          subst (λ (c : ℕ). PutTo test x s n (set s i x) c true) m (put_found h)
      go false w =
          let h : k ≤ i = ltb-false _ _ w in
          let m : k ≡ i = omega (arith, inv.low) in
          let v : i + 1 ≡ max k (i + 1) = omega arith in
          subst (λ (c : ℕ). PutTo test x s n (set s i x) c true) v (subst (λ (j : ℕ). PutTo test x s n (set s j x) (j + 1) true) m (put_end h (omega arith)))

  -- or nowhere
  pub put_full : length s ≤ i → PutTo test x s n s k false
  put_full h' =
      let h : k ≤ i = omega (arith, inv.most) in
      let l : length s ≤ k = omega (arith, inv.low) in
      let c : length s ≤ length (take n s) = omega (arith, inv.count) in
      let m : Made s (put_in test x s n) s k = absent_stays x inv h (simp (le-ltb (length (take n s)) (length s) c)) in
      record { slots = m.slots; count = m.count; told = asked_no _ _ (absent_any x inv h) (le-ltb (length (take n s)) (length s) c) }
