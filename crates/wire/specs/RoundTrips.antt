-- Addresses in tables are numbers and at the border bytes: the two directions undo each other. Assumes nothing.
use Rattle.std.specs.Prelude.{ℕ, ◌<◌, ◌≡◌, true, List, [], ◌∷◌, length}
use Rattle.wire.specs.Rfc4291.{address_at, address_bytes}
use Rattle.wire.specs.Rfc2464.{hardware_at, hardware_bytes, eui_bytes, is_formed_from, formed_of}
use Rattle.wire.specs.declared.ethernet.HardwareAddress.{HardwareAddress}
use Rattle.wire.specs.declared.ipv6.Ipv6Addr.{Ipv6Addr}
use Rattle.wire.specs.declared.ipv6.Ipv6Cidr.{Ipv6Cidr}
use Rattle.wire.specs.declared.ipv6.Formed.TheVariants.{Addr}

-- each element is a byte
abbrev pub Bytes : List ℕ → Type 0
Bytes [] = Unit {0}
Bytes (b ∷ s) = (b < 256) × Bytes s

pub record RoundTrips : Type 0 where
  pub address : (a : Ipv6Addr) → address_at (address_bytes a) 0 ≡ a
  pub bytes : (s : List ℕ) → Bytes s → length s ≡ 16 → address_bytes (address_at s 0) ≡ s
  pub hardware : (a : HardwareAddress) → hardware_at (hardware_bytes a) 0 ≡ a
  pub hardware_bytes_lem : (s : List ℕ) → Bytes s → length s ≡ 6 → hardware_bytes (hardware_at s 0) ≡ s

-- What is formed, and whose it is
pub record FormedBack : Type 0 where
  -- an address that a prefix forms is formed from that hardware address, whose six bytes are bytes
  pub own : (hw : HardwareAddress) (c a : Ipv6Cidr) → Bytes (hardware_bytes hw) → formed_of hw c ≡ Addr a → is_formed_from hw a.address ≡ true
  -- and from no other
  pub only : (hw other : HardwareAddress) (a : Ipv6Addr) → is_formed_from hw a ≡ true → is_formed_from other a ≡ true → hw ≡ other
  -- two hardware addresses with one EUI-64 are one
  pub eui : (hw other : HardwareAddress) → eui_bytes hw ≡ eui_bytes other → hw ≡ other
