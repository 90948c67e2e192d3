-- Addresses and messages in hexadecimal: 12 digits, 32, or any even number but none (docs/DECISIONS.md, 4). Assumes nothing.
use Rattle.std.specs.Prelude.{ℕ, ◌*◌, ◌/◌, ◌≡◌, cond, List, length, eqb, ltb, Option, Some, None}
use Rattle.std.specs.Option.{option_map}
use Rattle.table.specs.Table.{filled}
use Rattle.wire.specs.Rfc4291.{address_at}
use Rattle.wire.specs.Rfc2464.{hardware_at}
use Rattle.wire.specs.declared.ethernet.HardwareAddress.{HardwareAddress}
use Rattle.wire.specs.declared.ipv6.Ipv6Addr.{Ipv6Addr}
use Rattle.text.specs.Hex.{unhexed, bytes_of}

-- two digits for each of n bytes
abbrev pub octets_of : ℕ → List ℕ → Option (List ℕ)
octets_of n s = cond (eqb (length s) (2 * n)) (cond (eqb (length (unhexed s)) n) (Some (unhexed s)) None) None

-- 32 digits
unfoldable pub address_of : List ℕ → Option Ipv6Addr
address_of s = option_map (λ o. address_at o 0) (octets_of 16 s)

-- 12 digits
unfoldable pub hardware_of : List ℕ → Option HardwareAddress
hardware_of s = option_map (λ o. hardware_at o 0) (octets_of 6 s)

-- an even number of digits, at least two, where there is room for so many bytes
unfoldable pub message_of : ℕ → List ℕ → Option ℕ
message_of room s =
    cond (ltb room (length s / 2)) None
    (cond (eqb (length (unhexed s)) 0) None (cond (eqb (2 * length (unhexed s)) (length s)) (Some (length (unhexed s))) None))

-- the bytes of a message are read, and nothing else
pub record MessageRead (s out : List ℕ) (r : Option ℕ) (out' : List ℕ) : Type 0 where
  pub is : r ≡ message_of (length out) s
  pub bytes : out' ≡ filled out (bytes_of r s)
