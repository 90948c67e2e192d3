-- RFC 4291, IP version 6 addressing: the kinds of address that document 01 names, and prefix lengths. Assumes nothing.
use Rattle.std.specs.Prelude.{ℕ, ◌+◌, ◌-◌, ◌*◌, ◌/◌, ◌^◌, Bool, true, false, cond, ◌&&◌, not, List, [], ◌∷◌, ◌++◌, eqb, leb}
use Rattle.wire.specs.Numbers.{u64_at, bytes64}
use Rattle.wire.specs.declared.ipv6.Ipv6Addr.{Ipv6Addr}
use Rattle.wire.specs.declared.ipv6.Ipv6Cidr.{Ipv6Cidr}

-- the sixteen bytes at place i of s, and an address's bytes
abbrev pub address_at : List ℕ → ℕ → Ipv6Addr
address_at s i = record { hi = u64_at s i; lo = u64_at s (i + 8) }

abbrev pub address_bytes : Ipv6Addr → List ℕ
address_bytes a = bytes64 a.hi ++ bytes64 a.lo

-- 2.4, 2.7: "11111111 at the start of the address identifies the address as being a multicast address": ff00::/8
abbrev pub is_multicast : Ipv6Addr → Bool
is_multicast a = eqb (a.hi / 2 ^ 56) 0xff

-- 2.4: link-local unicast is 1111111010, fe80::/10
abbrev pub is_link_local : Ipv6Addr → Bool
is_link_local a = eqb (a.hi / 2 ^ 54) 0x3fa

-- 2.5.2: the unspecified address, ::
abbrev pub is_unspecified : Ipv6Addr → Bool
is_unspecified a = eqb a.hi 0 && eqb a.lo 0

-- document 01: "unicast is neither multicast nor `::`"
abbrev pub is_unicast : Ipv6Addr → Bool
is_unicast a = not (is_multicast a) && not (is_unspecified a)

abbrev pub same_addr : Ipv6Addr → Ipv6Addr → Bool
same_addr a b = eqb a.hi b.hi && eqb a.lo b.lo

-- "Entries match on all 16 bytes and the length."
abbrev pub same_cidr : Ipv6Cidr → Ipv6Cidr → Bool
same_cidr a b = same_addr a.address b.address && eqb a.prefix_len b.prefix_len

-- a half, of 64 bits, with its last k bits cleared
abbrev pub clear_low : ℕ → ℕ → ℕ
clear_low k half = cond (leb 64 k) 0 (half / 2 ^ k * 2 ^ k)

-- 2.3: a prefix length is "a decimal value specifying how many of the leftmost contiguous bits of the address comprise the prefix": of 128 bits those
-- past the length are cleared. A half of which no bit is past it stays, and so does an address with a length above 128.
abbrev pub mask_of : ℕ → Ipv6Addr → Ipv6Addr
mask_of n a = record { hi = clear_low (64 - n) a.hi; lo = clear_low (128 - n) a.lo }

-- byte by byte
abbrev pub same_bytes_is : List ℕ → List ℕ → Bool
same_bytes_is [] [] = true
same_bytes_is [] (y ∷ t) = false
same_bytes_is (x ∷ s) [] = false
same_bytes_is (x ∷ s) (y ∷ t) = eqb x y && same_bytes_is s t

-- 2.7.1: the all-routers address of the link, ff02::2
abbrev pub all_routers : List ℕ
all_routers = 0xff ∷ 0x02 ∷ 0 ∷ 0 ∷ 0 ∷ 0 ∷ 0 ∷ 0 ∷ 0 ∷ 0 ∷ 0 ∷ 0 ∷ 0 ∷ 0 ∷ 0 ∷ 2 ∷ []

-- document 01: "the sixteen bytes of ff02::2 are written and compared"
abbrev pub is_all_routers : Ipv6Addr → Bool
is_all_routers a = same_bytes_is (address_bytes a) all_routers
