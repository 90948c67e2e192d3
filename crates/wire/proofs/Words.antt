-- Numbers as std writes and reads them in network order are those of Numbers, and an octet with a bit turned over. Assumes nothing.
use Prim.Native.Nat.{ℕ, ◌+◌, ◌-◌, ◌*◌, ◌/◌, ◌%◌, ◌^◌, ◌<◌}
use lib.Bits.{bit_and, bit_xor, xor_add_and, and_zero_r}
use borrow.Author.Tests.{eqb-true, eqb-false}
use lib.Dec.{eqb}
use mathlib.Core.Bool.{Bool, true, false, cond}
use mathlib.Core.List.{[], ◌∷◌}
use mathlib.Core.Path.{◌≡◌, refl, sym, ap, ◌∙◌}
use native.Mathlib.Omega.{arith}
use Rattle.std.proofs.lemmas.Nat.{div-add-mod', and_block, and_mask}
use Rattle.std.specs.Int.{w16, w32, w64, to_be_bytes, from_be_bytes}
use Rattle.wire.specs.Numbers.{be16, be32, be64, bytes16, bytes32, bytes64}
use Rattle.wire.specs.Rfc2464.{flipped}

pub sent16 : (n : ℕ) → n < 2 ^ 16 → to_be_bytes w16 n ≡ bytes16 n
sent16 n h =
    let a : n / 256 % 256 ≡ n / 256 = omega arith in
    λ i. a i ∷ n % 256 ∷ []

pub sent32 : (n : ℕ) → n < 2 ^ 32 → to_be_bytes w32 n ≡ bytes32 n
sent32 n h =
    let a : n / 256 ^ 3 % 256 ≡ n / 65536 / 256 = omega arith in
    let b : n / 256 ^ 2 % 256 ≡ n / 65536 % 256 = omega arith in
    let c : n / 256 % 256 ≡ n % 65536 / 256 = omega arith in
    let d : n % 256 ≡ n % 65536 % 256 = omega arith in
    λ i. a i ∷ b i ∷ c i ∷ d i ∷ []

pub sent64 : (n : ℕ) → n < 2 ^ 64 → to_be_bytes w64 n ≡ bytes64 n
sent64 n h =
    let a : n / 256 ^ 7 % 256 ≡ n / 4294967296 / 65536 / 256 = omega arith in
    let b : n / 256 ^ 6 % 256 ≡ n / 4294967296 / 65536 % 256 = omega arith in
    let c : n / 256 ^ 5 % 256 ≡ n / 4294967296 % 65536 / 256 = omega arith in
    let d : n / 256 ^ 4 % 256 ≡ n / 4294967296 % 65536 % 256 = omega arith in
    let e : n / 256 ^ 3 % 256 ≡ n % 4294967296 / 65536 / 256 = omega arith in
    let f : n / 256 ^ 2 % 256 ≡ n % 4294967296 / 65536 % 256 = omega arith in
    let g : n / 256 % 256 ≡ n % 4294967296 % 65536 / 256 = omega arith in
    let k : n % 256 ≡ n % 4294967296 % 65536 % 256 = omega arith in
    λ i. a i ∷ b i ∷ c i ∷ d i ∷ e i ∷ f i ∷ g i ∷ k i ∷ []

pub read16 : (a b : ℕ) → from_be_bytes w16 (a ∷ b ∷ []) ≡ be16 a b
read16 a b = omega arith

pub read32 : (a b c d : ℕ) → from_be_bytes w32 (a ∷ b ∷ c ∷ d ∷ []) ≡ be32 (be16 a b) (be16 c d)
read32 a b c d = omega arith

pub read64 : (a b c d e f g h : ℕ)
    → from_be_bytes w64 (a ∷ b ∷ c ∷ d ∷ e ∷ f ∷ g ∷ h ∷ []) ≡ be64 (be32 (be16 a b) (be16 c d)) (be32 (be16 e f) (be16 g h))
read64 a b c d e f g h = omega arith

-- the bit of value 0x02, turned over
pub turned_over : (b : ℕ) → bit_xor b 2 ≡ flipped b
turned_over b = go (eqb (b / 2 % 2) 1) refl
  where
    second : bit_and b 2 ≡ b / 2 % 2 ^ 1 * 2 + 0
    second = ap (λ (n : ℕ). bit_and n 2) (sym (div-add-mod' b 2)) ∙ and_block 1 (b / 2) 1 (b % 2) 0 (omega arith) (omega arith)
        ∙ (λ i. and_mask (b / 2) 1 i * 2 + and_zero_r (b % 2) i)

    go : (t : Bool) → eqb (b / 2 % 2) 1 ≡ t → bit_xor b 2 ≡ cond t (b - 2) (b + 2)
    go true e = let h = eqb-true (b / 2 % 2) 1 e in let k = xor_add_and b 2 in omega (arith, second)
    go false e = let h = eqb-false (b / 2 % 2) 1 e in let k = xor_add_and b 2 in omega (arith, second)
