-- The bits of an address, and what a mask leaves of them. Assumes nothing.
use Rattle.std.specs.Prelude.{ℕ, ◌-◌, ◌/◌, ◌%◌, ◌^◌, ◌<◌, ◌≤◌, cond, ◌≡◌, ltb, get_or}
use Rattle.wire.specs.Rfc4291.{address_bytes, mask_of}
use Rattle.wire.specs.declared.ipv6.Ipv6Addr.{Ipv6Addr}

-- bit i of the 128 from the top: of value 2 ^ (63 - i) in the first half, and of value 2 ^ (127 - i) in the second
abbrev pub bit_at : Ipv6Addr → ℕ → ℕ
bit_at a i = cond (ltb i 64) (a.hi / 2 ^ (63 - i) % 2) (a.lo / 2 ^ (127 - i) % 2)

-- halves of 64 bits, as those of every address in the code
abbrev pub Halves : Ipv6Addr → Type 0
Halves a = (a.hi < 2 ^ 64) × (a.lo < 2 ^ 64)

pub record Masks : Type 0 where
  -- as an address is sent, byte by byte, bit i is bit i % 8 of byte i / 8, from the top
  pub sent : (a : Ipv6Addr) (i : ℕ) → i < 128 → bit_at a i ≡ get_or (address_bytes a) (i / 8) 0 / 2 ^ (7 - i % 8) % 2
  -- an address is its bits
  pub whole : (a b : Ipv6Addr) → Halves a → Halves b → ((i : ℕ) → i < 128 → bit_at a i ≡ bit_at b i) → a ≡ b
  -- Of a masked one bit i stays if it is below the length, and is 0 from there on.
  pub stays : (n : ℕ) (a : Ipv6Addr) (i : ℕ) → i < 128 → i < n → bit_at (mask_of n a) i ≡ bit_at a i
  pub clears : (n : ℕ) (a : Ipv6Addr) (i : ℕ) → i < 128 → n ≤ i → bit_at (mask_of n a) i ≡ 0
  -- its halves are of 64 bits still
  pub halves : (n : ℕ) (a : Ipv6Addr) → Halves a → Halves (mask_of n a)
  -- masking twice is masking once
  pub twice : (n : ℕ) (a : Ipv6Addr) → mask_of n (mask_of n a) ≡ mask_of n a
  -- length 0 gives ::, 64 the first half, 128 and above the address itself
  pub none : (a : Ipv6Addr) → mask_of 0 a ≡ record { hi = 0; lo = 0 }
  pub half : (a : Ipv6Addr) → mask_of 64 a ≡ record { hi = a.hi; lo = 0 }
  pub all : (n : ℕ) (a : Ipv6Addr) → 128 ≤ n → mask_of n a ≡ a
