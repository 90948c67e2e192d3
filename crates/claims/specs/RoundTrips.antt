-- What goes out comes back: addresses as bytes, options in a message, a solicitation at its receiver, and what is printed. Assumes nothing.
use Rattle.wire.specs.declared.error.Refusal.{Refusal}
use Rattle.std.specs.Prelude.{ℕ, ◌+◌, ◌≤◌, ◌<◌, ◌^◌, ◌≡◌, true, List, ◌∷◌, ◌++◌, length, take, drop, Some, Result, Ok}
use Rattle.wire.specs.RoundTrips.{Bytes, RoundTrips as Addresses, FormedBack}
use Rattle.wire.specs.Rfc2464.{hardware_bytes}
use Rattle.wire.specs.Rfc4291.{address_bytes, all_routers}
use Rattle.wire.specs.declared.ethernet.HardwareAddress.{HardwareAddress}
use Rattle.wire.specs.declared.ipv6.Ipv6Addr.{Ipv6Addr}
use Rattle.ndisc.specs.OptionCalls.{link_layer_bytes, prefix_bytes, mtu_bytes, Wrote}
use Rattle.ndisc.specs.Rfc4861Options.{checked_of, masked}
use Rattle.ndisc.specs.Rfc4861Messages.{Solicits}
use Rattle.ndisc.specs.Rfc4443Checksum.{accepted}
use Rattle.ndisc.specs.declared.ndisc.Solicited.TheVariants.{Written as Sent}
use Rattle.ndisc.specs.declared.ndiscoption.Checked.TheVariants.{Well}
use Rattle.ndisc.specs.declared.ndiscoption.NdiscOption.{NdiscOption}
use Rattle.ndisc.specs.declared.ndiscoption.NdiscOption.TheVariants.{SourceLinkLayerAddr, TargetLinkLayerAddr, PrefixInformation as Prefix, Mtu}
use Rattle.ndisc.specs.declared.ndiscoption.PrefixInformation.{PrefixInformation}
use Rattle.text.specs.Addresses.{address_of, hardware_of, message_of}
use Rattle.text.specs.Decimal.{number_of, decimal}
use Rattle.text.specs.Fields.{Field, fields, index_of}
use Rattle.text.specs.Hex.{hexed, unhexed}

-- written at any place of any message, these bytes are checked there, and read as the option o of n units
abbrev pub ReadBack : List ℕ → NdiscOption → ℕ → Type 0
ReadBack bs o n = (msg : List ℕ) (at : ℕ) (msg' : List ℕ) → Wrote msg at bs (Ok tt) msg' → checked_of (drop at msg') ≡ Well o n

-- a field has no space in it
abbrev pub NoSpace : Field → Type 0
NoSpace s = index_of 32 s ≡ length s

pub record RoundTrips : Type 0 where
  -- addresses are numbers in tables and bytes at the border, and the two directions undo each other
  pub addresses : Addresses
  -- an address that a prefix forms is formed from that hardware address, and from no other
  pub formed : FormedBack
  -- "A read of it returns the values written."; request 2026-02: "A written prefix is read back with those bits cleared", the
  -- bits past its length, of which a length byte above 128 has none
  pub source : (a : HardwareAddress) → ReadBack (link_layer_bytes 1 a) (SourceLinkLayerAddr a) 1
  pub target : (a : HardwareAddress) → ReadBack (link_layer_bytes 2 a) (TargetLinkLayerAddr a) 1
  pub prefix : (p : PrefixInformation) → ReadBack (prefix_bytes p) (Prefix (masked p)) 4
  pub mtu : (n : ℕ) → ReadBack (mtu_bytes n) (Mtu n) 1
  -- the bits past its length are written as they are given: bytes 16 to 31 are the prefix's
  pub prefix_as_given : (p : PrefixInformation) (msg : List ℕ) (at : ℕ) (msg' : List ℕ) → Wrote msg at (prefix_bytes p) (Ok tt) msg'
      → take 16 (drop 16 (drop at msg')) ≡ address_bytes p.prefix
  -- "no byte outside it changes", whatever a writer answers
  pub before : (msg : List ℕ) (at : ℕ) (bs : List ℕ) (r : Result (Unit {0}) Refusal) (msg' : List ℕ) → Wrote msg at bs r msg' → take at msg' ≡ take at msg
  pub after : (msg : List ℕ) (at : ℕ) (bs : List ℕ) (r : Result (Unit {0}) Refusal) (msg' : List ℕ) → Wrote msg at bs r msg'
      → drop (at + length bs) msg' ≡ drop (at + length bs) msg
  pub size : (msg : List ℕ) (at : ℕ) (bs : List ℕ) (r : Result (Unit {0}) Refusal) (msg' : List ℕ) → Wrote msg at bs r msg' → length msg' ≡ length msg
  -- a receiver's check of a solicitation that was written succeeds, and its option is the sender's hardware address
  pub solicitation : (buf : List ℕ) (src : Ipv6Addr) (hw : HardwareAddress) (buf' : List ℕ) → Solicits buf src hw Sent buf'
      → accepted (address_bytes src) all_routers (take 16 buf') ≡ true
  pub sender : (buf : List ℕ) (src : Ipv6Addr) (hw : HardwareAddress) (buf' : List ℕ) → Solicits buf src hw Sent buf'
      → checked_of (drop 8 (take 16 buf')) ≡ Well (SourceLinkLayerAddr hw) 1
  -- what is printed reads back
  pub number : (n : ℕ) → n < 2 ^ 64 → number_of (decimal n) ≡ Some n
  pub address : (a : Ipv6Addr) → a.hi < 2 ^ 64 → a.lo < 2 ^ 64 → address_of (hexed (address_bytes a)) ≡ Some a
  pub hardware : (a : HardwareAddress) → a.hi < 2 ^ 16 → a.lo < 2 ^ 32 → hardware_of (hexed (hardware_bytes a)) ≡ Some a
  pub message : (room : ℕ) (bs : List ℕ) → Bytes bs → 0 < length bs → length bs ≤ room → message_of room (hexed bs) ≡ Some (length bs)
  pub message_bytes : (bs : List ℕ) → Bytes bs → unhexed (hexed bs) ≡ bs
  -- and a line parts into the fields that were printed: at each space, of which a number and digits have none
  pub parted : (s rest : List ℕ) → NoSpace s → fields (s ++ (32 ∷ rest)) ≡ s ∷ fields rest
  pub number_field : (n : ℕ) → NoSpace (decimal n)
  pub digits_field : (bs : List ℕ) → NoSpace (hexed bs)
