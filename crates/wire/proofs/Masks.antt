-- The bits past a prefix length, cleared: what the shifts do, and what it is in bits. Assumes nothing.
use Prim.Native.Nat.{ℕ, zero, suc, ◌+◌, ◌-◌, ◌*◌, ◌/◌, ◌%◌, ◌^◌, ◌<◌, ◌≤◌}
use borrow.Author.Tests.{lt-ltb, le-ltb, ltb-true, ltb-false, le-leb, lt-leb}
use lib.Dec.{ltb}
use lib.ListN.{get_or, get_or-append}
use lib.Pow.{pow-add, shl-shr, shr-shr, field, mod-mod-pow}
use lib.Seq.{get_or-append-add}
use mathlib.Core.Bool.{Bool, true, false, cond}
use mathlib.Core.Path.{◌≡◌, refl, sym, ap, ◌∙◌, subst}
use native.Mathlib.Nat.{div-one, div-mul-le_self, lt_of_le_of_lt, mod-eq_of_lt, mul_assoc, mul-mod_left, mul-one, zero-div}
use native.Mathlib.Omega.{arith}
use Rattle.wire.specs.Masks.{bit_at, Halves, Masks}
use Rattle.wire.specs.Numbers.{bytes64}
use Rattle.wire.specs.Rfc4291.{address_bytes, clear_low, mask_of}
use Rattle.wire.specs.declared.ipv6.Ipv6Addr.{Ipv6Addr}

-- What the code does: all 64 bits of a half, and fewer

pub all_cleared : (k x : ℕ) → 64 ≤ k → clear_low k x ≡ 0
all_cleared k x h = ap (λ (t : Bool). cond t 0 (x / 2 ^ k * 2 ^ k)) (le-leb 64 k h)

some_cleared : (k x : ℕ) → k < 64 → clear_low k x ≡ x / 2 ^ k * 2 ^ k
some_cleared k x h = ap (λ (t : Bool). cond t 0 (x / 2 ^ k * 2 ^ k)) (lt-leb 64 k h)

-- to the right and back, nothing leaves the half on its left
pub shifted_back : (k x : ℕ) → x < 2 ^ 64 → k < 64 → (x / 2 ^ k * 2 ^ k) % 2 ^ 64 ≡ clear_low k x
shifted_back k x h l = mod-eq_of_lt (lt_of_le_of_lt (div-mul-le_self x (2 ^ k)) h) ∙ sym (some_cleared k x l)

-- below 64, or from there on: of so many bits cleared, and of a bit's place
by_half : (P : Type 0) (i : ℕ) → (i < 64 → P) → (64 ≤ i → P) → P
by_half P i f g = go (ltb i 64) refl
  where
    go : (t : Bool) → ltb i 64 ≡ t → P
    go true e = f (ltb-true i 64 e)
    go false e = g (ltb-false i 64 e)

-- The bits of a half whose last k are cleared

abbrev bit : ℕ → ℕ → ℕ
bit j x = x / 2 ^ j % 2

bit_stays : (k j x : ℕ) → k ≤ j → j < 64 → bit j (clear_low k x) ≡ bit j x
bit_stays k j x h l =
    let apart : k + (j - k) ≡ j = omega arith in
    ap (bit j) (some_cleared k x (omega arith))
    ∙ ap (λ (e : ℕ). x / 2 ^ k * 2 ^ k / 2 ^ e % 2) (sym apart)
    ∙ ap (λ (y : ℕ). y % 2) (sym (shr-shr (x / 2 ^ k * 2 ^ k) k (j - k)) ∙ ap (λ (y : ℕ). y / 2 ^ (j - k)) (shl-shr (x / 2 ^ k) k) ∙ shr-shr x k (j - k))
    ∙ ap (λ (e : ℕ). x / 2 ^ e % 2) apart

-- what a shift to the left brings in
shifted_in : (k j y : ℕ) → j < k → bit j (y * 2 ^ k) ≡ 0
shifted_in k j y h =
    let z : ℕ = y * 2 ^ (k - suc j) in
    let apart : (k - suc j) + (1 + j) ≡ k = omega arith in
    let split : y * 2 ^ k ≡ z * 2 * 2 ^ j =
    ap (λ (e : ℕ). y * 2 ^ e) (sym apart) ∙ ap (λ (w : ℕ). y * w) (pow-add 2 (k - suc j) (1 + j) ∙ ap (λ (w : ℕ). 2 ^ (k - suc j) * w) (pow-add 2 1 j))
    ∙ sym (mul_assoc y (2 ^ (k - suc j)) (2 * 2 ^ j)) ∙ sym (mul_assoc z 2 (2 ^ j)) in
    ap (bit j) split ∙ ap (λ (w : ℕ). w % 2) (shl-shr (z * 2) j) ∙ mul-mod_left z 2

bit_clears : (k j x : ℕ) → j < k → bit j (clear_low k x) ≡ 0
bit_clears k j x h = by_half (bit j (clear_low k x) ≡ 0) k
    (λ l. ap (bit j) (some_cleared k x l) ∙ shifted_in k j (x / 2 ^ k) h)
    (λ l. ap (bit j) (all_cleared k x l) ∙ ap (λ (y : ℕ). y % 2) (zero-div (2 ^ j)))

cleared_twice : (k x : ℕ) → clear_low k (clear_low k x) ≡ clear_low k x
cleared_twice k x = by_half (clear_low k (clear_low k x) ≡ clear_low k x) k
    (λ l. ap (clear_low k) (some_cleared k x l) ∙ some_cleared k (x / 2 ^ k * 2 ^ k) l ∙ ap (λ (y : ℕ). y * 2 ^ k) (shl-shr (x / 2 ^ k) k) ∙ sym (some_cleared k x l))
    (λ l. all_cleared k (clear_low k x) l ∙ sym (all_cleared k x l))

cleared_fits : (k x : ℕ) → x < 2 ^ 64 → clear_low k x < 2 ^ 64
cleared_fits k x h = by_half (clear_low k x < 2 ^ 64) k
    (λ l. subst (λ (y : ℕ). y < 2 ^ 64) (sym (some_cleared k x l)) (lt_of_le_of_lt (div-mul-le_self x (2 ^ k)) h))
    (λ l. subst (λ (y : ℕ). y < 2 ^ 64) (sym (all_cleared k x l)) (omega arith))

none_cleared : (x : ℕ) → clear_low 0 x ≡ x
none_cleared x = mul-one (x / 1) ∙ div-one x

-- A number below 2 ^ k is its k bits

bits_whole : (k x y : ℕ) → x < 2 ^ k → y < 2 ^ k → ((j : ℕ) → j < k → bit j x ≡ bit j y) → x ≡ y
bits_whole zero x y h l e = omega arith
bits_whole (suc k) x y h l e =
    let rest : x / 2 ≡ y / 2 = bits_whole k (x / 2) (y / 2) (omega arith) (omega arith) (λ j b. ap (λ (z : ℕ). z % 2) (shr-shr x 1 j ∙ ap (λ (i : ℕ). x / 2 ^ i) (omega arith)) ∙ e (suc j) (omega arith) ∙ ap (λ (z : ℕ). z % 2) (sym (shr-shr y 1 j ∙ ap (λ (i : ℕ). y / 2 ^ i) (omega arith)))) in
    let last : x % 2 ≡ y % 2 = ap (λ (z : ℕ). z % 2) (sym (div-one x)) ∙ e 0 (omega arith) ∙ ap (λ (z : ℕ). z % 2) (div-one y) in
    omega arith

-- A half's bits as they are sent, byte by byte

-- bit r of the byte of which k bits come after
in_byte : (k r x : ℕ) → r < 8 → bit (7 - r) (x / 2 ^ k % 256) ≡ bit (k + (7 - r)) x
in_byte k r x h =
    let apart : suc r + (7 - r) ≡ 8 = omega arith in
    let kept : x / 2 ^ k % 2 ^ 8 / 2 ^ (7 - r) ≡ x / 2 ^ k / 2 ^ (7 - r) % 2 ^ suc r =
    ap (λ (e : ℕ). x / 2 ^ k % 2 ^ e / 2 ^ (7 - r)) (sym apart) ∙ field (x / 2 ^ k) (suc r) (7 - r) in
    ap (λ (y : ℕ). y % 2) kept ∙ lowest (x / 2 ^ k / 2 ^ (7 - r)) r ∙ ap (λ (y : ℕ). y % 2) (shr-shr x k (7 - r))
  where
    lowest : (y r : ℕ) → y % 2 ^ suc r % 2 ≡ y % 2
    lowest y r = ap (λ (e : ℕ). y % 2 ^ e % 2) (omega arith) ∙ mod-mod-pow y r 1

-- byte j of a half, of which 56 - 8 j bits come after
abbrev Byte : ℕ → ℕ → ℕ → Type 0
Byte b j x = (r : ℕ) → r < 8 → bit (7 - r) b ≡ bit (63 - (8 * j + r)) x

byte : (b k j x : ℕ) → b ≡ x / 2 ^ k % 256 → k + 8 * j ≡ 56 → Byte b j x
byte b k j x e p r h = ap (bit (7 - r)) e ∙ in_byte k r x h ∙ ap (λ (i : ℕ). bit i x) (omega arith)

first_byte : (x : ℕ) → Byte (x / 4294967296 / 65536 / 256) 0 x
first_byte x r h =
    let e : x / 4294967296 / 65536 / 256 ≡ x / 2 ^ 56 = omega arith in
    ap (bit (7 - r)) e ∙ ap (λ (y : ℕ). y % 2) (shr-shr x 56 (7 - r)) ∙ ap (λ (i : ℕ). bit i x) (omega arith)

half_sent : (x j : ℕ) → j < 8 → Byte (get_or (bytes64 x) j 0) j x
half_sent x zero h = first_byte x
half_sent x (suc zero) h = byte (x / 4294967296 / 65536 % 256) 48 1 x (omega arith) refl
half_sent x (suc (suc zero)) h = byte (x / 4294967296 % 65536 / 256) 40 2 x (omega arith) refl
half_sent x (suc (suc (suc zero))) h = byte (x / 4294967296 % 65536 % 256) 32 3 x (omega arith) refl
half_sent x (suc (suc (suc (suc zero)))) h = byte (x % 4294967296 / 65536 / 256) 24 4 x (omega arith) refl
half_sent x (suc (suc (suc (suc (suc zero))))) h = byte (x % 4294967296 / 65536 % 256) 16 5 x (omega arith) refl
half_sent x (suc (suc (suc (suc (suc (suc zero)))))) h = byte (x % 4294967296 % 65536 / 256) 8 6 x (omega arith) refl
half_sent x (suc (suc (suc (suc (suc (suc (suc zero))))))) h = byte (x % 4294967296 % 65536 % 256) 0 7 x (omega arith) refl
half_sent x (suc (suc (suc (suc (suc (suc (suc (suc j)))))))) h = absurd (omega arith)

-- Addresses

in_first : (a : Ipv6Addr) (i : ℕ) → i < 64 → bit_at a i ≡ bit (63 - i) a.hi
in_first a i h = ap (λ (t : Bool). cond t (bit (63 - i) a.hi) (bit (127 - i) a.lo)) (lt-ltb i 64 h)

in_second : (a : Ipv6Addr) (i : ℕ) → 64 ≤ i → bit_at a i ≡ bit (127 - i) a.lo
in_second a i h = ap (λ (t : Bool). cond t (bit (63 - i) a.hi) (bit (127 - i) a.lo)) (le-ltb i 64 h)

sent : (a : Ipv6Addr) (i : ℕ) → i < 128 → bit_at a i ≡ get_or (address_bytes a) (i / 8) 0 / 2 ^ (7 - i % 8) % 2
sent a i h = by_half (bit_at a i ≡ bit (7 - i % 8) (get_or (address_bytes a) (i / 8) 0)) i
    (λ l.
    let place : 63 - i ≡ 63 - (8 * (i / 8) + i % 8) = omega arith in
    in_first a i l ∙ ap (λ (e : ℕ). bit e a.hi) place ∙ sym (half_sent a.hi (i / 8) (omega arith) (i % 8) (omega arith))
    ∙ ap (bit (7 - i % 8)) (sym (get_or-append (bytes64 a.hi) (bytes64 a.lo) 0 (i / 8) (omega arith))))
    (λ l.
    let place : 127 - i ≡ 63 - (8 * (i / 8 - 8) + i % 8) = omega arith in
    let after : 8 + (i / 8 - 8) ≡ i / 8 = omega arith in
    in_second a i l ∙ ap (λ (e : ℕ). bit e a.lo) place ∙ sym (half_sent a.lo (i / 8 - 8) (omega arith) (i % 8) (omega arith))
    ∙ ap (bit (7 - i % 8)) (sym (get_or-append-add (bytes64 a.hi) (bytes64 a.lo) (i / 8 - 8) 0) ∙ ap (λ (j : ℕ). get_or (address_bytes a) j 0) after))

whole : (a b : Ipv6Addr) → Halves a → Halves b → ((i : ℕ) → i < 128 → bit_at a i ≡ bit_at b i) → a ≡ b
whole a b (ha, la) (hb, lb) e =
    let first : a.hi ≡ b.hi = bits_whole 64 a.hi b.hi ha hb (λ j h. go_first j h) in
    let second : a.lo ≡ b.lo = bits_whole 64 a.lo b.lo la lb (λ j h. go_second j h) in
    λ i. record { hi = first i; lo = second i }
  where
    go_first : (j : ℕ) → j < 64 → bit j a.hi ≡ bit j b.hi
    go_first j h =
        let back : 63 - (63 - j) ≡ j = omega arith in
        ap (λ (k : ℕ). bit k a.hi) (sym back) ∙ sym (in_first a (63 - j) (omega arith)) ∙ e (63 - j) (omega arith) ∙ in_first b (63 - j) (omega arith)
        ∙ ap (λ (k : ℕ). bit k b.hi) back

    go_second : (j : ℕ) → j < 64 → bit j a.lo ≡ bit j b.lo
    go_second j h =
        let back : 127 - (127 - j) ≡ j = omega arith in
        ap (λ (k : ℕ). bit k a.lo) (sym back) ∙ sym (in_second a (127 - j) (omega arith)) ∙ e (127 - j) (omega arith) ∙ in_second b (127 - j) (omega arith)
        ∙ ap (λ (k : ℕ). bit k b.lo) back

stays : (n : ℕ) (a : Ipv6Addr) (i : ℕ) → i < 128 → i < n → bit_at (mask_of n a) i ≡ bit_at a i
stays n a i h l = by_half (bit_at (mask_of n a) i ≡ bit_at a i) i
    (λ f. in_first (mask_of n a) i f ∙ bit_stays (64 - n) (63 - i) a.hi (omega arith) (omega arith) ∙ sym (in_first a i f))
    (λ f. in_second (mask_of n a) i f ∙ bit_stays (128 - n) (127 - i) a.lo (omega arith) (omega arith) ∙ sym (in_second a i f))

clears : (n : ℕ) (a : Ipv6Addr) (i : ℕ) → i < 128 → n ≤ i → bit_at (mask_of n a) i ≡ 0
clears n a i h l = by_half (bit_at (mask_of n a) i ≡ 0) i
    (λ f. in_first (mask_of n a) i f ∙ bit_clears (64 - n) (63 - i) a.hi (omega arith))
    (λ f. in_second (mask_of n a) i f ∙ bit_clears (128 - n) (127 - i) a.lo (omega arith))

masked_twice : (n : ℕ) (a : Ipv6Addr) → mask_of n (mask_of n a) ≡ mask_of n a
masked_twice n a = λ i. record { hi = cleared_twice (64 - n) a.hi i; lo = cleared_twice (128 - n) a.lo i }

-- no bit is past a length of k or more
past_none : (k n x : ℕ) → k ≤ n → clear_low (k - n) x ≡ x
past_none k n x h =
    let none : k - n ≡ 0 = omega arith in
    ap (λ (e : ℕ). clear_low e x) none ∙ none_cleared x

masked_half : (a : Ipv6Addr) → mask_of 64 a ≡ record { hi = a.hi; lo = 0 }
masked_half a = λ i. record { hi = none_cleared a.hi i; lo = 0 }

pub masks : Masks
masks =
    record {
      sent = sent;
      whole = whole;
      stays = stays;
      clears = clears;
      halves = λ n a (h, l). (cleared_fits (64 - n) a.hi h, cleared_fits (128 - n) a.lo l);
      twice = masked_twice;
      none = λ a. refl;
      half = masked_half;
      all = λ n a h. (λ i. record { hi = past_none 64 n a.hi (omega arith) i; lo = past_none 128 n a.lo h i });
    }
