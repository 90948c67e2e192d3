-- Document 01, "Refusal numbers". Assumes nothing.
use Rattle.std.specs.Prelude.{ℕ, ◌^◌, ◌≡◌, Bool, true, cond, not, ◌&&◌, List, [], ◌∷◌, ltb, leb, Result, Ok, Err}
use Rattle.time.specs.declared.Instant.{Instant}
use Rattle.wire.specs.declared.ethernet.HardwareAddress.{HardwareAddress}
use Rattle.wire.specs.declared.ipv6.Ipv6Addr.{Ipv6Addr}
use Rattle.wire.specs.declared.error.Refusal.{Refusal}
use Rattle.wire.specs.declared.error.Refusal.TheVariants.{Malformed, NotUnicast, TooLate, NoRoom, NotAdvertisement, NotLinkLocal, NoSuchIface, Full, Duplicate, PrefixTooLong}
use Rattle.wire.specs.Rfc4291.{is_unicast}
use Rattle.wire.specs.Rfc2464.{is_unicast_hardware}

-- the table's first column
abbrev pub number_of : Refusal → ℕ
number_of TooLate = 3
number_of NoSuchIface = 7
number_of NotAdvertisement = 5
number_of NotLinkLocal = 6
number_of NotUnicast = 2
number_of Malformed = 1
number_of PrefixTooLong = 14
number_of Duplicate = 9
number_of Full = 8
number_of NoRoom = 4

-- a check's number: 0 for none
abbrev pub check_number : Result (Unit {0}) Refusal → ℕ
check_number (Ok tt) = 0
check_number (Err why) = number_of why

-- the number of an outcome: 0 for none
abbrev pub outcome_number : Result (Unit {0}) Refusal → ℕ
outcome_number (Err why) = number_of why
outcome_number (Ok tt) = 0

-- a row of the table: the refusal, and whether the call meets its "When"
pub record Row : Type 0 where
  pub refusal : Refusal
  pub fails : Bool

-- "Checks go in the table's order": the first row that fails refuses the call
abbrev pub first_refusal : List Row → Result (Unit {0}) Refusal
first_refusal [] = Ok tt
first_refusal (row ∷ rows) = cond row.fails (Err row.refusal) (first_refusal rows)

-- the number of that row, 0 where none fails
abbrev pub first_number : List Row → ℕ
first_number [] = 0
first_number (row ∷ rows) = cond row.fails (number_of row.refusal) (first_number rows)

-- "A refusal returns its number and changes nothing.": what a call answers by its check, `refused` if it fails and `carriedOut` if not
abbrev pub decided : {A : Type 0} → Result (Unit {0}) Refusal → (Refusal → A) → A → A
decided (Err why) refused carriedOut = refused why
decided (Ok tt) refused carriedOut = carriedOut

-- a test of a call's arguments
pub record Tested (rows : List Row) (r : Result (Unit {0}) Refusal) : Type 0 where
  pub is : r ≡ first_refusal rows
  pub number : check_number r ≡ first_number rows

-- a refusal's row, counted from the top of the table
abbrev pub row_of : Refusal → ℕ
row_of TooLate = 0
row_of NoSuchIface = 1
row_of NotAdvertisement = 2
row_of NotLinkLocal = 3
row_of NotUnicast = 4
row_of Malformed = 5
row_of PrefixTooLong = 6
row_of Duplicate = 7
row_of Full = 8
row_of NoRoom = 9

-- the rows of a call go down the table; number 2 may be asked of two addresses
abbrev pub ascends : List Row → Bool
ascends [] = true
ascends (a ∷ []) = true
ascends (a ∷ (b ∷ rows)) = leb (row_of a.refusal) (row_of b.refusal) && ascends (b ∷ rows)

-- 3: "a call's now or an insert's expiry above 2^62"
abbrev pub too_late : Instant → Row
too_late t = record { refusal = TooLate; fails = ltb (2 ^ 62) t.0 }

-- 7: "interface above 3"
abbrev pub no_such_iface : ℕ → Row
no_such_iface iface = record { refusal = NoSuchIface; fails = ltb 3 iface }

-- 2: "neighbour address or hardware address not unicast"
abbrev pub not_unicast : Ipv6Addr → Row
not_unicast a = record { refusal = NotUnicast; fails = not (is_unicast a) }

abbrev pub not_unicast_hardware : HardwareAddress → Row
not_unicast_hardware a = record { refusal = NotUnicast; fails = not (is_unicast_hardware a) }

-- The rows of the calls that test a time, an interface, a neighbour's two addresses; what is not tested has no row.

abbrev pub iface_rows : ℕ → List Row
iface_rows iface = no_such_iface iface ∷ []

abbrev pub time_rows : Instant → ℕ → List Row
time_rows t iface = too_late t ∷ no_such_iface iface ∷ []

-- "Number 2 belongs to lookup, start, fill and insert"
abbrev pub key_rows : ℕ → Ipv6Addr → List Row
key_rows iface addr = no_such_iface iface ∷ not_unicast addr ∷ []

abbrev pub fill_rows : Instant → ℕ → Ipv6Addr → HardwareAddress → List Row
fill_rows t iface addr hw = too_late t ∷ no_such_iface iface ∷ not_unicast addr ∷ not_unicast_hardware hw ∷ []

abbrev pub iface_check : ℕ → Result (Unit {0}) Refusal
iface_check iface = first_refusal (iface_rows iface)

abbrev pub time_check : Instant → ℕ → Result (Unit {0}) Refusal
time_check t iface = first_refusal (time_rows t iface)

abbrev pub key_check : ℕ → Ipv6Addr → Result (Unit {0}) Refusal
key_check iface addr = first_refusal (key_rows iface addr)

abbrev pub fill_check : Instant → ℕ → Ipv6Addr → HardwareAddress → Result (Unit {0}) Refusal
fill_check t iface addr hw = first_refusal (fill_rows t iface addr hw)
