-- The header lines `mac HARDWARE`, `addresses N`, `ADDRESS LENGTH` and `events N`, by their fields. Assumes nothing.
use Rattle.std.specs.Prelude.{ℕ, cond, List, [], ◌∷◌, ltb, Option, Some, None}
use Rattle.std.specs.Str.{bytes_eq}
use Rattle.wire.specs.declared.ethernet.HardwareAddress.{HardwareAddress}
use Rattle.wire.specs.declared.ipv6.Ipv6Addr.{Ipv6Addr}
use Rattle.wire.specs.declared.ipv6.Ipv6Cidr.{Ipv6Cidr}
use Rattle.text.specs.Fields.{Field}
use Rattle.text.specs.Decimal.{number_of}
use Rattle.text.specs.Addresses.{address_of, hardware_of}
use Rattle.lines.specs.Words.{mac, last_field}

abbrev pub mac_of : List Field → Option HardwareAddress
mac_of [] = None
mac_of (w ∷ fs) = cond (bytes_eq w mac) (last_field None hardware_of fs) None

-- the number after a word
abbrev pub count_of : Field → List Field → Option ℕ
count_of word [] = None
count_of word (w ∷ fs) = cond (bytes_eq w word) (last_field None number_of fs) None

-- a length above 255 is above 128, for which the address table would refuse the line
abbrev pub static_with : Option Ipv6Addr → Option ℕ → Option Ipv6Cidr
static_with (Some a) (Some k) = cond (ltb 255 k) None (Some (record { address = a; prefix_len = k }))
static_with (Some a) None = None
static_with None k = None

abbrev pub static_of : List Field → Option Ipv6Cidr
static_of [] = None
static_of (a ∷ fs) = static_with (address_of a) (last_field None number_of fs)
