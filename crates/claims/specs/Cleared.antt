-- Request 2026-02: "One router fills the low half of its prefix with its own address, and the card then holds two entries for one address". No more:
-- what is learned has no bit past its length, and no two entries form one address. The calls are those of `Early`; `process_prefix`, a part of the
-- advertisement, is none of them, and takes what it is handed. Assumes nothing.
use Rattle.std.specs.Prelude.{ℕ, ◌<◌, ◌≤◌, ◌≡◌, Bool, List}
use Rattle.wire.specs.declared.ethernet.HardwareAddress.{HardwareAddress}
use Rattle.wire.specs.declared.ipv6.Ipv6Cidr.{Ipv6Cidr}
use Rattle.wire.specs.Masks.{bit_at, Masks}
use Rattle.wire.specs.Rfc4291.{address_at, mask_of}
use Rattle.ndisc.specs.Rfc4861Options.{prefix_at}
use Rattle.slaac.specs.declared.Prefix.{Prefix}
use Rattle.slaac.specs.LearnedRules.{prefixes_of}
use Rattle.slaac.specs.DiscoveryRules.{fresh}
use Rattle.claims.specs.Lists.{All, Apart}
use Rattle.claims.specs.Early.{Host, HostCall, Run}
use Rattle.claims.specs.Arrives.{FormsWith}

-- a host whose SLAAC is as it was turned on, or off, with nothing learned; whatever addresses and routes it has
abbrev pub Fresh : Host → Type 0
Fresh x = (on : Bool) × (x.slaac ≡ fresh on)

-- of a length of at most 128, and cleared to it
abbrev pub ClearedTo : Ipv6Cidr → Type 0
ClearedTo c = (c.prefix_len ≤ 128) × (mask_of c.prefix_len c.address ≡ c.address)

-- in bits: from the length on they are 0
abbrev pub NoBitPast : Ipv6Cidr → Type 0
NoBitPast c = (i : ℕ) → c.prefix_len ≤ i → i < 128 → bit_at c.address i ≡ 0

-- two entries of one prefix, and two that form one address
abbrev pub SamePrefix : Prefix → Prefix → Type 0
SamePrefix p q = p.cidr ≡ q.cidr

abbrev pub FormOne : HardwareAddress → Prefix → Prefix → Type 0
FormOne hw p q = (a : Ipv6Cidr) × FormsWith hw a p × FormsWith hw a q

pub record Cleared : Type 0 where
  -- What a mask leaves, bit by bit.
  pub masks : Masks
  -- Any bytes read as prefix information have their prefix cleared to the length, if it is 128 or less; "above that the bytes come as they are".
  pub read : (s : List ℕ) (i : ℕ) → (prefix_at s).prefix_len ≤ i → i < 128 → bit_at (prefix_at s).prefix i ≡ 0
  pub kept : (s : List ℕ) (i : ℕ) → i < (prefix_at s).prefix_len → i < 128 → bit_at (prefix_at s).prefix i ≡ bit_at (address_at s 16) i
  pub above : (s : List ℕ) → 128 ≤ (prefix_at s).prefix_len → (prefix_at s).prefix ≡ address_at s 16
  -- Whatever of these calls are made, from a host that has learned nothing: every entry has a length of at most 128, and is cleared to it,
  pub entries : (i : ℕ) (hw : HardwareAddress) (x y : Host) (cs : List HostCall) → Run i hw x cs y → Fresh x
      → All (λ p. ClearedTo p.cidr) (prefixes_of y.slaac)
  pub no_bits : (i : ℕ) (hw : HardwareAddress) (x y : Host) (cs : List HostCall) → Run i hw x cs y → Fresh x
      → All (λ p. NoBitPast p.cidr) (prefixes_of y.slaac)
  -- none stands twice,
  pub once : (i : ℕ) (hw : HardwareAddress) (x y : Host) (cs : List HostCall) → Run i hw x cs y → Fresh x
      → Apart SamePrefix (prefixes_of y.slaac)
  -- and no two form one address, whatever the hardware address.
  pub one_address : (i : ℕ) (hw other : HardwareAddress) (x y : Host) (cs : List HostCall) → Run i hw x cs y → Fresh x
      → Apart (FormOne other) (prefixes_of y.slaac)
