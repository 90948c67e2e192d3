-- Document 01, "The event program": which line is wanted after which, and what it says. Assumes nothing.
use Rattle.std.specs.Prelude.{ℕ, ◌+◌, ◌-◌, ◌<◌, ◌≡◌, cond, List, [], length, eqb, ltb, Option, Some, None}
use Rattle.table.specs.Table.{filled}
use Rattle.text.specs.Fields.{Field, fields}
use Rattle.lines.specs.Words.{addresses, events}
use Rattle.lines.specs.HeaderLines.{mac_of, count_of, static_of}
use Rattle.lines.specs.EventLines.{parsed_of, parsed_bytes, ReadyEvent}
use Rattle.lines.specs.declared.event.Event.{Event as AnEvent}
use Rattle.wire.specs.declared.ethernet.HardwareAddress.{HardwareAddress}
use Rattle.wire.specs.declared.ipv6.Ipv6Cidr.{Ipv6Cidr}
use Rattle.script.specs.declared.reading.Want.{Want}
use Rattle.script.specs.declared.reading.Want.TheVariants.{Mac, Addresses, Address, Events, Event, Nothing, Failed}
use Rattle.script.specs.declared.reading.Said.{Said}
use Rattle.script.specs.declared.reading.Said.TheVariants.{Mac as IsMac, Next, Static, Event as Happens}

-- N lines follow a count of N
abbrev pub address_want : ℕ → Want
address_want n = cond (eqb n 0) Events (Address (n - 1))

abbrev pub event_want : ℕ → Want
event_want n = cond (eqb n 0) Nothing (Event (n - 1))

abbrev pub mac_said : Option HardwareAddress → Option Said
mac_said (Some h) = Some (IsMac h)
mac_said None = None

abbrev pub addresses_said : Option ℕ → Option Said
addresses_said (Some n) = Some (Next (address_want n))
addresses_said None = None

abbrev pub address_said : ℕ → Option Ipv6Cidr → Option Said
address_said n (Some c) = Some (Static c (address_want n))
address_said n None = None

abbrev pub events_said : Option ℕ → Option Said
events_said (Some n) = Some (Next (event_want n))
events_said None = None

abbrev pub event_said : ℕ → Option (ℕ × AnEvent) → Option Said
event_said n (Some p) = Some (Happens p.0 p.1 (event_want n))
event_said n None = None

-- a line where `mac`, `addresses N`, an address, `events N` or an event is wanted; "also one .. surplus"
abbrev pub said_of : ℕ → Want → List Field → Option Said
said_of room Mac fs = mac_said (mac_of fs)
said_of room Addresses fs = addresses_said (count_of addresses fs)
said_of room (Address n) fs = address_said n (static_of fs)
said_of room Events fs = events_said (count_of events fs)
said_of room (Event n) fs = event_said n (parsed_of room fs)
said_of room Nothing fs = None
said_of room Failed fs = None

-- "A bad line N (.. above 4,096 bytes ..)"
unfoldable pub said_in : ℕ → Want → List ℕ → Option Said
said_in room w line = cond (ltb 4096 (length line)) None (said_of room w (fields line))

-- the bytes that a line brings: only an event's can
abbrev pub bytes_of : ℕ → Want → List Field → List ℕ
bytes_of room Mac fs = []
bytes_of room Addresses fs = []
bytes_of room (Address n) fs = []
bytes_of room Events fs = []
bytes_of room (Event n) fs = parsed_bytes room fs
bytes_of room Nothing fs = []
bytes_of room Failed fs = []

unfoldable pub bytes_in : ℕ → Want → List ℕ → List ℕ
bytes_in room w line = cond (ltb 4096 (length line)) [] (bytes_of room w (fields line))

-- what is wanted next
abbrev pub next_of : Option Said → Want
next_of None = Failed
next_of (Some (IsMac h)) = Addresses
next_of (Some (Next w)) = w
next_of (Some (Static c w)) = w
next_of (Some (Happens t e w)) = w

-- how many lines can still come: it falls with each, down to 0 at the first bad one
abbrev pub rank : Want → ℕ
rank Mac = 36893488147419103236
rank Addresses = 36893488147419103235
rank (Address n) = 18446744073709551619 + n
rank Events = 18446744073709551618
rank (Event n) = 2 + n
rank Nothing = 1
rank Failed = 0

-- of an advertisement, its bytes stand at the front of the message's buffer
abbrev pub ReadySaid : List ℕ → List ℕ → Option Said → Type 0
ReadySaid message bs None = Unit {0}
ReadySaid message bs (Some (IsMac h)) = Unit {0}
ReadySaid message bs (Some (Next w)) = Unit {0}
ReadySaid message bs (Some (Static c w)) = Unit {0}
ReadySaid message bs (Some (Happens t e w)) = ReadyEvent message bs e

-- the message's buffer changes at its front, by the bytes of an advertisement, and nowhere else
pub record SaidTo (message : List ℕ) (w : Want) (line : List ℕ) (r : Option Said) (message' : List ℕ) : Type 0 where
  pub is : r ≡ said_in (length message) w line
  pub bytes : message' ≡ filled message (bytes_in (length message) w line)
  pub ready : ReadySaid message' (parsed_bytes (length message) (fields line)) r
  pub falls : 0 < rank w → rank (next_of r) < rank w
