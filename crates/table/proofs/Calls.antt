-- Closures whose answers are those of a test, and the loops over the entries that call one. Assumes nothing.
use Prim.Native.Nat.{ℕ, suc, ◌+◌, ◌-◌, ◌≤◌, ◌<◌}
use lib.ListN.{length, take, drop, get_or, set, length-take, length-drop, length-append}
use lib.Seq.{take-take}
use mathlib.Core.Path.{◌≡◌, refl, ap, ap₂, sym, ◌∙◌}
use native.Mathlib.Omega.{arith}
use Rattle.std.proofs.Common.{Bool, true, false, cond, not, List, ◌++◌, Bor}
use Rattle.std.proofs.lemmas.Fn.{says_at}
use Rattle.std.proofs.lemmas.List.{drop-take}
use Rattle.std.proofs.lemmas.List.Edits.{take-paste, drop-paste, length-paste}
use Rattle.std.proofs.lemmas.List.Recursion.{is_position_or_len}
use Rattle.std.proofs.Math.Seq.{paste}
use Rattle.std.specs.Fn.{FnReturnsAt}
use Rattle.std.specs.List.{position_or_len, copy_within}
use Rattle.table.proofs.Laws.{Made, made, take_count, Keeping, drops, keeps, all_kept}
use Rattle.table.specs.Calls.{Decides, Keeps}
use Rattle.table.specs.Table.{filled, without, first_from}
use denote.Param.Members.{Shared, MutLaws, FnLaws, Called}

module _ {F T : Type 0} (g : Shared F (Bor T × Unit {0}) Bool) (f : F) (test : T → Bool) (d : Decides (λ x b. FnReturnsAt g f x b) test) where
  -- what it answered is what the test gives
  pub decided : (y : Bor T) (b : Bool) → g.post f (y, tt) b → b ≡ test y.now
  decided y b p = d y.now b (says_at g p refl)

  -- and a call leaves it as it was
  pub decided_step : MutLaws g → FnLaws g → (y : Bor T) (b : Bool) (q : F) → g.steps f (y, tt) b q → (q ≡ f) × (b ≡ test y.now)
  decided_step law stays y b q s = let k : Called g f (y, tt) b q = record { met = s } in
      (stays.step_stays f (y, tt) b q k, decided y b ((law.post_iff f (y, tt) b).1 (q, k)))

-- the first place by the library's name
counted_on : (b : Bool) (n : ℕ) → cond b 0 (suc n) ≡ cond b 0 (1 + n)
counted_on true n = refl
counted_on false n = omega arith

pub first_place : {A : Type 0} (test : A → Bool) (xs : List A) → first_from test 0 xs ≡ position_or_len test xs
first_place test xs = is_position_or_len (first_from test 0) test refl (λ x xs. counted_on (test x) (first_from test 0 xs)) xs

-- The loop that keeps what the closure lets stay: `w` slots are written and `i` read
abbrev pub Retaining : {F T : Type 0} → Shared F (Bor T × Unit {0}) Bool → F → List T → ℕ → List T → ℕ → ℕ → Type 0
Retaining g f s₀ n s w i = (w ≤ i) × ((gone : _) → Decides (λ x b. FnReturnsAt g f x b) (λ x. not (gone x)) → Keeping gone s₀ n s w i)

not_true : (b : Bool) → true ≡ not b → b ≡ false
not_true true e = e
not_true false e = refl

not_false : (b : Bool) → false ≡ not b → b ≡ true
not_false true e = refl
not_false false e = e

module _ {F T : Type 0} (g : Shared F (Bor T × Unit {0}) Bool) (f : F) (s₀ : List T) (n : ℕ) where
  module _ (s : List T) (w i : ℕ) (inv : Retaining g f s₀ n s w i) (most : n ≤ length s₀) where
    module _ (h : i < n) (y : Bor T) (at : y.now ≡ get_or s i y.now) where
      within : i < length (take n s₀)
      within = omega (arith, length-take n s₀)

      pub one_stays : g.post f (y, tt) true → Retaining g f s₀ n (set s w y.now) (w + 1) (i + 1)
      one_stays p = (
        omega (arith, inv.0),
        λ gone d.
            rw (at) (keeps y.now gone s₀ n s w i (inv.1 gone d) within (not_true (gone (get_or s i y.now)) (rw (← at) (decided g f (λ x. not (gone x)) d y true p)))),
      )

      pub one_goes : g.post f (y, tt) false → Retaining g f s₀ n s w (i + 1)
      one_goes p = (
        omega (arith, inv.0),
        λ gone d.
            drops y.now gone s₀ n s w i (inv.1 gone d) within (not_false (gone (get_or s i y.now)) (rw (← at) (decided g f (λ x. not (gone x)) d y false p))),
      )

    pub retained : n ≤ i → i ≤ n → Keeps (λ x b. FnReturnsAt g f x b) n s₀ w s
    retained h l = λ gone d. all_kept gone s₀ n s w i (inv.1 gone d) (omega (arith, length-take n s₀)) (omega (arith, inv.0))

-- The slots after the later ones of the first `len` moved down by one
pub moved_down : {A : Type 0} (s : List A) (len at : ℕ) → at < len → len ≤ length s
    → copy_within s (at + 1) len at ≡ filled s (without (take len s) at)
moved_down s len at h l =
    let m : ℕ = len - (at + 1) in
    let e : at + 1 + m ≡ len = omega arith in
    let front : take (at + m) (paste s at (drop (at + 1) s) m) ≡ without (take len s) at =
    take-paste s at (drop (at + 1) s) m (omega arith) (omega (arith, length-drop (at + 1) s))
    ∙ ap₂ (λ a b. a ++ b) (sym (take-take at len s (omega arith))) (sym (drop-take (at + 1) m s) ∙ ap (λ k. drop (at + 1) (take k s)) e) in
    let long : length (without (take len s) at) ≡ at + m =
    ap length (sym front)
    ∙ omega (arith, length-take (at + m) (paste s at (drop (at + 1) s) m), length-paste s at (drop (at + 1) s) m (omega arith) (omega (arith, length-drop (at + 1) s))) in
    made s (paste s at (drop (at + 1) s) m) (without (take len s) at) (at + m) long front (drop-paste s at (drop (at + 1) s) m (omega arith) (omega (arith, length-drop (at + 1) s)))

-- the table that is left: its slots and its count, where the first `len` slots are the entries and `n` the field
pub removed : {A : Type 0} (s : List A) (n len at : ℕ) → len ≡ length (take n s) → at < len → (t : List A) → t ≡ filled s (without (take len s) at)
    → Made s (without (take n s) at) t (len - 1)
removed s n len at e h t q =
    let es : take len s ≡ take n s = take_count s n len e in
    let long : length (without (take n s) at) ≡ len - 1 =
    length-append (take at (take n s)) (drop (at + 1) (take n s)) ∙ omega (arith, length-take at (take n s), length-drop (at + 1) (take n s)) in
    record { slots = q ∙ ap (λ (l : List _). filled s (without l at)) es; count = sym long }
