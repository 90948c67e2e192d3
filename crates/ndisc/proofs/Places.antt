-- Numbers, addresses and flags at a place of a slice. Assumes nothing.
use Prim.Native.Nat.{ℕ, ◌+◌, ◌*◌, ◌/◌, ◌%◌, ◌^◌, ◌<◌}
use borrow.Author.Tests.{eqb-true, eqb-false, eq-eqb, ne_eqb}
use lib.Bits.{bit_and, bit_or, and_zero_r}
use lib.Dec.{eqb}
use lib.ListN.{get_or, take, drop}
use mathlib.Core.Bool.{Bool, true, false, not}
use mathlib.Core.List.{List}
use mathlib.Core.Path.{◌≡◌, refl, sym, ap, ◌∙◌}
use native.Mathlib.Omega.{arith}
use Rattle.std.proofs.lemmas.List.{get_or-take, get_or-drop}
use Rattle.std.proofs.lemmas.Nat.{div-add-mod', and_block, and_mask, mod_below, pow_pos}
use Rattle.std.specs.Int.{w16, w32, from_be_bytes}
use Rattle.ndisc.specs.Rfc4861Options.{bit, flag}
use Rattle.wire.specs.Numbers.{be16, be32, be64, u16_at, u32_at}
use Rattle.wire.specs.Rfc4291.{address_at}

-- byte k of the n bytes at place i
taken : (s : List ℕ) (i n k j : ℕ) → k < n → i + k ≡ j → get_or (take n (drop i s)) k 0 ≡ get_or s j 0
taken s i n k j h e = get_or-take n (drop i s) k 0 h ∙ get_or-drop i s k 0 ∙ ap (λ (m : ℕ). get_or s m 0) e

pub u16_taken : (s : List ℕ) (i : ℕ) → from_be_bytes w16 (take 2 (drop i s)) ≡ u16_at s i
u16_taken s i = λ z. taken s i 2 0 i (omega arith) (omega arith) z * 256 + taken s i 2 1 (i + 1) (omega arith) (omega arith) z

by_two : (a b c d : ℕ) → a * 16777216 + b * 65536 + c * 256 + d ≡ be32 (be16 a b) (be16 c d)
by_two a b c d = omega arith

pub u32_taken : (s : List ℕ) (i : ℕ) → from_be_bytes w32 (take 4 (drop i s)) ≡ u32_at s i
u32_taken s i =
    let t = take 4 (drop i s) in
    by_two (get_or t 0 0) (get_or t 1 0) (get_or t 2 0) (get_or t 3 0)
    ∙ (λ z. be32 (be16 (taken s i 4 0 i (omega arith) (omega arith) z) (taken s i 4 1 (i + 1) (omega arith) (omega arith) z))
    (be16 (taken s i 4 2 (i + 2) (omega arith) (omega arith) z) (taken s i 4 3 (i + 2 + 1) (omega arith) (omega arith) z)))

pub address_taken : (s : List ℕ) (i : ℕ) → address_at (take 16 (drop i s)) 0 ≡ address_at s i
address_taken s i = λ z. record {
  hi = be64 (be32 (be16 (taken s i 16 0 (i) (omega arith) (omega arith) z) (taken s i 16 1 (i + 1) (omega arith) (omega arith) z)) (be16 (taken s i 16 2 (i + 2) (omega arith) (omega arith) z) (taken s i 16 3 (i + 2 + 1) (omega arith) (omega arith) z))) (be32 (be16 (taken s i 16 4 (i + 4) (omega arith) (omega arith) z) (taken s i 16 5 (i + 4 + 1) (omega arith) (omega arith) z)) (be16 (taken s i 16 6 (i + 4 + 2) (omega arith) (omega arith) z) (taken s i 16 7 (i + 4 + 2 + 1) (omega arith) (omega arith) z)));
  lo = be64 (be32 (be16 (taken s i 16 8 (i + 8) (omega arith) (omega arith) z) (taken s i 16 9 (i + 8 + 1) (omega arith) (omega arith) z)) (be16 (taken s i 16 10 (i + 8 + 2) (omega arith) (omega arith) z) (taken s i 16 11 (i + 8 + 2 + 1) (omega arith) (omega arith) z))) (be32 (be16 (taken s i 16 12 (i + 8 + 4) (omega arith) (omega arith) z) (taken s i 16 13 (i + 8 + 4 + 1) (omega arith) (omega arith) z)) (be16 (taken s i 16 14 (i + 8 + 4 + 2) (omega arith) (omega arith) z) (taken s i 16 15 (i + 8 + 4 + 2 + 1) (omega arith) (omega arith) z)));
}

-- the bit of value 2 ^ k
masked : (n k : ℕ) → bit_and n (2 ^ k) ≡ n / 2 ^ k % 2 ^ 1 * 2 ^ k + 0
masked n k =
    ap (λ (m : ℕ). bit_and m (2 ^ k)) (sym (div-add-mod' n (2 ^ k))) ∙ ap (λ (m : ℕ). bit_and (n / 2 ^ k * 2 ^ k + n % 2 ^ k) m) (omega arith)
    ∙ and_block k (n / 2 ^ k) 1 (n % 2 ^ k) 0 (mod_below n (2 ^ k) (pow_pos k)) (pow_pos k)
    ∙ (λ i. and_mask (n / 2 ^ k) 1 i * 2 ^ k + and_zero_r (n % 2 ^ k) i)

by_value : (n x v : ℕ) → 0 < v → x ≡ n / v % 2 * v → not (eqb x 0) ≡ eqb (n / v % 2) 1
by_value n x v h e = go (eqb (n / v % 2) 1) refl
  where
    go : (t : Bool) → eqb (n / v % 2) 1 ≡ t → not (eqb x 0) ≡ t
    go true t = let u = eqb-true (n / v % 2) 1 t in let w : x ≡ v = e ∙ simp u (omega arith) in simp (ne_eqb x 0 (λ z. omega arith))
    go false t = let u = eqb-false (n / v % 2) 1 t in let z : n / v % 2 ≡ 0 = omega arith in let w : x ≡ 0 = e ∙ simp z (omega arith) in simp (eq-eqb x 0 w)

pub first_bit : (n : ℕ) → not (eqb (bit_and n 128) 0) ≡ bit 0x80 n
first_bit n = by_value n (bit_and n 128) 128 (omega arith) (let m = masked n 7 in omega arith)

pub second_bit : (n : ℕ) → not (eqb (bit_and n 64) 0) ≡ bit 0x40 n
second_bit n = by_value n (bit_and n 64) 64 (omega arith) (let m = masked n 6 in omega arith)

-- both flags, as they are written
pub flags : (a b : Bool) → bit_or (flag 0x80 a) (flag 0x40 b) ≡ flag 0x80 a + flag 0x40 b
flags true true = refl
flags true false = refl
flags false true = refl
flags false false = refl
