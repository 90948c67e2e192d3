-- Laws of listing a table: one more entry, and the last. Assumes nothing.
use Prim.Native.Nat.{ℕ, zero, suc, ◌+◌, ◌≤◌, ◌<◌, min}
use lib.ListN.{length, take, get_or, length-take}
use lib.Seq.{take-suc, take_all}
use mathlib.Core.List.{List, [], ◌∷◌, ◌++◌, append_assoc, append-nil}
use mathlib.Core.Path.{◌≡◌, refl, sym, ap, ◌∙◌}
use native.Mathlib.Numerals.{add-one}
use native.Mathlib.Omega.{arith}
use Rattle.report.specs.AnswerLines.{each_line}
use Rattle.report.specs.StateLines.{heading_line, section}
use Rattle.text.proofs.PlaceLaws.{chain, put_as}
use Rattle.text.specs.Place.{Put}

each_append : {A : Type 0} (line : A → List ℕ) (a b : List A) → each_line line (a ++ b) ≡ each_line line a ++ each_line line b
each_append line [] b = refl
each_append line (x ∷ a) b = ap (λ (l : List ℕ). line x ++ l) (each_append line a b) ∙ sym (append_assoc (line x) (each_line line a) (each_line line b))

-- one more of the entries xs
pub one_listed : {A : Type 0} (d : A) (line : A → List ℕ) (xs : List A) (i : ℕ) {out₀ out out' : List ℕ} {at r q : ℕ} → i < length xs
    → Put out₀ at (each_line line (take i xs)) r out → Put out r (line (get_or xs i d)) q out' → Put out₀ at (each_line line (take (i + 1) xs)) q out'
one_listed d line xs i h p w =
    let e : each_line line (take (i + 1) xs) ≡ each_line line (take i xs) ++ line (get_or xs i d) =
    rw add-one (ap (each_line line) (take-suc xs i d h) ∙ each_append line (take i xs) (get_or xs i d ∷ [])
    ∙ ap (λ (l : List ℕ). each_line line (take i xs) ++ l) (append-nil (line (get_or xs i d)))) in
    put_as (sym e) (chain p w)

take_min : {A : Type 0} (s : List A) (n k : ℕ) → k ≡ min n (length s) → take k s ≡ take n s
take_min [] n k e = let z : k ≡ 0 = omega arith in rw z (sym (take_all n [] (omega arith)))
take_min (x ∷ s) zero k e = let z : k ≡ 0 = omega arith in rw z refl
take_min {A = A} (x ∷ s) (suc n) k e =
    let z : k ≡ suc (min n (length s)) = omega arith in
    rw z (ap (λ (l : List A). x ∷ l) (take_min s n (min n (length s)) refl))

-- all of them, the first n of the slots s
pub all_listed : {A : Type 0} (line : A → List ℕ) (s : List A) (n k i : ℕ) {out₀ out : List ℕ} {at r : ℕ} → k ≡ min n (length s) → length (take k s) ≤ i
    → Put out₀ at (each_line line (take i (take k s))) r out → Put out₀ at (each_line line (take n s)) r out
all_listed line s n k i e h p = put_as (ap (each_line line) (take_all i (take k s) h ∙ take_min s n k e)) p

-- a section, whose heading has their count
pub section_listed : {A : Type 0} (name : List ℕ) (line : A → List ℕ) (s : List A) (n k i : ℕ) {out out₁ out₂ : List ℕ} {at r q : ℕ} → k ≡ min n (length s)
    → length (take k s) ≤ i → Put out at (heading_line name k) r out₁ → Put out₁ r (each_line line (take i (take k s))) q out₂
    → Put out at (section name line (take n s)) q out₂
section_listed name line s n k i e h p w =
    let c : k ≡ length (take n s) = omega (arith, length-take n s) in
    put_as (ap (λ (j : ℕ). heading_line name j ++ each_line line (take n s)) c) (chain p (all_listed line s n k i e h w))

pub few : {A : Type 0} (s : List A) (n size : ℕ) → length s ≡ size → length (take n s) ≤ size
few s n size h = omega (arith, length-take n s)
