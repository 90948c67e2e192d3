-- Bytes compared one by one. Assumes nothing.
use Prim.Native.Nat.{ℕ}
use borrow.Author.Tests.{eq-eqb, eqb-true}
use lib.Dec.{eqb}
use mathlib.Core.Bool.{Bool, true, false, ◌&&◌}
use mathlib.Core.List.{List, [], ◌∷◌}
use mathlib.Core.Path.{◌≡◌, refl}
use native.Mathlib.Omega.{arith}
use Rattle.wire.specs.Rfc4291.{same_bytes_is}

and_parts : (a b : Bool) → (a && b) ≡ true → (a ≡ true) × (b ≡ true)
and_parts true b e = (refl, e)
and_parts false b e = let z : ◌≡◌ {A = ℕ} 0 1 = cc in absurd (omega arith)

-- the same bytes are equal lists, and the other way round
pub same_means : (s t : List ℕ) → same_bytes_is s t ≡ true → s ≡ t
same_means [] [] e = refl
same_means [] (y ∷ t) e = let z : ◌≡◌ {A = ℕ} 0 1 = cc in absurd (omega arith)
same_means (x ∷ s) [] e = let z : ◌≡◌ {A = ℕ} 0 1 = cc in absurd (omega arith)
same_means (x ∷ s) (y ∷ t) e =
    let p = and_parts (eqb x y) (same_bytes_is s t) e in
    let h = eqb-true x y p.0 in
    let k = same_means s t p.1 in
    λ i. h i ∷ k i

pub same_self : (s : List ℕ) → same_bytes_is s s ≡ true
same_self [] = refl
same_self (x ∷ s) = simp (eq-eqb x x refl, same_self s)
