-- RFC 2464, IPv6 over Ethernet: hardware addresses and the interface identifier. Assumes nothing.
use Rattle.std.specs.Prelude.{ℕ, ◌+◌, ◌-◌, ◌/◌, ◌%◌, Bool, cond, List, [], ◌∷◌, ◌++◌, ◌≡◌, get_or, drop, eqb}
use Rattle.wire.specs.Numbers.{u16_at, u32_at, u64_at, bytes16, bytes32}
use Rattle.wire.specs.Rfc4291.{address_bytes, same_bytes_is}
use Rattle.wire.specs.declared.ethernet.HardwareAddress.{HardwareAddress}
use Rattle.wire.specs.declared.ipv6.Ipv6Addr.{Ipv6Addr}
use Rattle.wire.specs.declared.ipv6.Ipv6Cidr.{Ipv6Cidr}
use Rattle.wire.specs.declared.ipv6.Formed.{Formed}
use Rattle.wire.specs.declared.ipv6.Formed.TheVariants.{Nothing, Addr}

-- the six bytes at place i of s, and a hardware address's bytes
abbrev pub hardware_at : List ℕ → ℕ → HardwareAddress
hardware_at s i = record { hi = u16_at s i; lo = u32_at s (i + 2) }

abbrev pub hardware_bytes : HardwareAddress → List ℕ
hardware_bytes a = bytes16 a.hi ++ bytes32 a.lo

-- document 01: "A hardware address is unicast if the low bit of its first byte is 0."
abbrev pub is_unicast_hardware : HardwareAddress → Bool
is_unicast_hardware a = eqb (a.hi / 256 % 2) 0

-- "first byte with 0x02 flipped"
abbrev pub flipped : ℕ → ℕ
flipped b = cond (eqb (b / 2 % 2) 1) (b - 2) (b + 2)

-- 4: the address's first three bytes, ff fe, and its last three, where the universal/local bit is complemented; document 01: "ff fe in the middle"
abbrev pub eui_of : List ℕ → List ℕ
eui_of m = flipped (get_or m 0 0) ∷ get_or m 1 0 ∷ get_or m 2 0 ∷ 0xff ∷ 0xfe ∷ get_or m 3 0 ∷ get_or m 4 0 ∷ get_or m 5 0 ∷ []

abbrev pub eui_bytes : HardwareAddress → List ℕ
eui_bytes a = eui_of (hardware_bytes a)

-- an address's bytes 8 to 15, compared with EUI-64: "The fixed bytes of EUI-64 and the sixteen bytes of ff02::2 are written and compared."
abbrev pub is_formed_from : HardwareAddress → Ipv6Addr → Bool
is_formed_from hw a = same_bytes_is (drop 8 (address_bytes a)) (eui_bytes hw)

-- "prefix bytes 0 to 7 and then EUI-64"
abbrev pub formed_addr : HardwareAddress → Ipv6Cidr → Ipv6Cidr
formed_addr hw c = record { address = record { hi = c.address.hi; lo = u64_at (eui_bytes hw) 0 }; prefix_len = 64 }

-- "only length 64 forms an address"
unfoldable pub formed_of : HardwareAddress → Ipv6Cidr → Formed
formed_of hw c = cond (eqb c.prefix_len 64) (Addr (formed_addr hw c)) Nothing

-- the address of an answer, if there is one; no answer is a refusal
abbrev pub formed_number : Formed → ℕ
formed_number Nothing = 0
formed_number (Addr a) = 0

abbrev pub formed_addrs : Formed → List Ipv6Cidr
formed_addrs Nothing = []
formed_addrs (Addr a) = a ∷ []

pub record Forms (hw : HardwareAddress) (c : Ipv6Cidr) (r : Formed) : Type 0 where
  pub is : r ≡ formed_of hw c
  pub number : formed_number r ≡ 0
  pub address : formed_addrs r ≡ cond (eqb c.prefix_len 64) (formed_addr hw c ∷ []) []
