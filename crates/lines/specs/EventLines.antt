-- Document 01: "Event kinds: up (restarts too), down, poll, ra (source, message), start (address), sweep, fill (address, hardware address),
-- remove (address), off. Each line begins with its time". By the line's fields. Assumes nothing.
use Rattle.std.specs.Prelude.{ℕ, ◌≤◌, ◌≡◌, cond, List, [], ◌∷◌, length, take, Option, Some, None}
use Rattle.wire.specs.declared.ethernet.HardwareAddress.{HardwareAddress}
use Rattle.wire.specs.declared.ipv6.Ipv6Addr.{Ipv6Addr}
use Rattle.table.specs.Table.{filled}
use Rattle.std.specs.Str.{bytes_eq}
use Rattle.text.specs.Fields.{Field, fields}
use Rattle.text.specs.Decimal.{number_of}
use Rattle.text.specs.Addresses.{address_of, hardware_of, message_of}
use Rattle.text.specs.Hex.{bytes_of}
use Rattle.lines.specs.declared.event.Event.{Event}
use Rattle.lines.specs.declared.event.Event.TheVariants.{Up, Down, Poll, Sweep, Off, Ra, Start, Fill, Remove}
use Rattle.lines.specs.Words.{up, down, poll, sweep, off, ra, start, fill, remove, no_field, last_field}

-- "ra (source, message)"
abbrev pub ra_with : Option Ipv6Addr → Option ℕ → Option Event
ra_with (Some a) (Some n) = Some (Ra a n)
ra_with (Some a) None = None
ra_with None m = None

abbrev pub ra_of : ℕ → List Field → Option Event
ra_of room [] = None
ra_of room (a ∷ fs) = ra_with (address_of a) (last_field None (message_of room) fs)

-- "start (address)", "remove (address)"
abbrev pub start_with : Option Ipv6Addr → Option Event
start_with (Some a) = Some (Start a)
start_with None = None

abbrev pub remove_with : Option Ipv6Addr → Option Event
remove_with (Some a) = Some (Remove a)
remove_with None = None

abbrev pub start_of : List Field → Option Event
start_of fs = start_with (last_field None address_of fs)

abbrev pub remove_of : List Field → Option Event
remove_of fs = remove_with (last_field None address_of fs)

-- "fill (address, hardware address)"
abbrev pub fill_with : Option Ipv6Addr → Option HardwareAddress → Option Event
fill_with (Some a) (Some h) = Some (Fill a h)
fill_with (Some a) None = None
fill_with None h = None

abbrev pub fill_of : List Field → Option Event
fill_of [] = None
fill_of (a ∷ fs) = fill_with (address_of a) (last_field None hardware_of fs)

-- a kind and what goes with it; there is room for a message of so many bytes
unfoldable pub kind_of : ℕ → Field → List Field → Option Event
kind_of room w fs =
    cond (bytes_eq w up) (no_field None (Some Up) fs)
    (cond (bytes_eq w down) (no_field None (Some Down) fs)
    (cond (bytes_eq w poll) (no_field None (Some Poll) fs)
    (cond (bytes_eq w sweep) (no_field None (Some Sweep) fs)
    (cond (bytes_eq w off) (no_field None (Some Off) fs)
    (cond (bytes_eq w ra) (ra_of room fs)
    (cond (bytes_eq w start) (start_of fs)
    (cond (bytes_eq w fill) (fill_of fs)
    (cond (bytes_eq w remove) (remove_of fs) None))))))))

abbrev pub kind_in : ℕ → List Field → Option Event
kind_in room [] = None
kind_in room (w ∷ fs) = kind_of room w fs

-- "Each line begins with its time"
abbrev pub parsed_with : Option ℕ → Option Event → Option (ℕ × Event)
parsed_with (Some t) (Some e) = Some (t, e)
parsed_with (Some t) None = None
parsed_with None r = None

abbrev pub parsed_of : ℕ → List Field → Option (ℕ × Event)
parsed_of room [] = None
parsed_of room (t ∷ fs) = parsed_with (number_of t) (kind_in room fs)

-- The bytes of an advertisement

abbrev pub bytes_with : Option Ipv6Addr → List ℕ → List ℕ
bytes_with (Some a) bs = bs
bytes_with None bs = []

abbrev pub message_bytes : ℕ → Field → List ℕ
message_bytes room m = bytes_of (message_of room m) m

abbrev pub ra_bytes : ℕ → List Field → List ℕ
ra_bytes room [] = []
ra_bytes room (a ∷ fs) = bytes_with (address_of a) (last_field [] (message_bytes room) fs)

abbrev pub kind_bytes : ℕ → Field → List Field → List ℕ
kind_bytes room w fs = cond (bytes_eq w ra) (ra_bytes room fs) []

abbrev pub bytes_after : Option ℕ → List ℕ → List ℕ
bytes_after (Some t) bs = bs
bytes_after None bs = []

abbrev pub kind_bytes_in : ℕ → List Field → List ℕ
kind_bytes_in room [] = []
kind_bytes_in room (w ∷ fs) = kind_bytes room w fs

abbrev pub parsed_bytes : ℕ → List Field → List ℕ
parsed_bytes room [] = []
parsed_bytes room (t ∷ fs) = bytes_after (number_of t) (kind_bytes_in room fs)

-- how many bytes of a message go with an event: with an advertisement alone are there any
abbrev pub message_len_is : Event → ℕ
message_len_is Up = 0
message_len_is Down = 0
message_len_is Poll = 0
message_len_is Sweep = 0
message_len_is Off = 0
message_len_is (Ra a n) = n
message_len_is (Start a) = 0
message_len_is (Fill a h) = 0
message_len_is (Remove a) = 0

-- they stand at the front of the message's buffer
abbrev pub ReadyEvent : List ℕ → List ℕ → Event → Type 0
ReadyEvent message bs e = (message_len_is e ≤ length message) × (take (message_len_is e) message ≡ bs)

abbrev pub ReadyRead : List ℕ → List ℕ → Option Event → Type 0
ReadyRead message bs (Some e) = ReadyEvent message bs e
ReadyRead message bs None = Unit {0}

abbrev pub Ready : List ℕ → List ℕ → Option (ℕ × Event) → Type 0
Ready message bs (Some p) = ReadyEvent message bs p.1
Ready message bs None = Unit {0}

-- no advertisement
abbrev pub Silent : Option Event → Type 0
Silent (Some e) = message_len_is e ≡ 0
Silent None = Unit {0}

-- the kinds that are one word
abbrev pub word_of : Field → Option Event
word_of s =
    cond (bytes_eq s up) (Some Up)
    (cond (bytes_eq s down) (Some Down)
    (cond (bytes_eq s poll) (Some Poll)
    (cond (bytes_eq s sweep) (Some Sweep)
    (cond (bytes_eq s off) (Some Off) None))))

pub record RaTo (s message : List ℕ) (r : Option Event) (message' : List ℕ) : Type 0 where
  pub is : r ≡ ra_of (length message) (fields s)
  pub bytes : message' ≡ filled message (ra_bytes (length message) (fields s))
  pub ready : ReadyRead message' (ra_bytes (length message) (fields s)) r

pub record KindTo (s message : List ℕ) (r : Option Event) (message' : List ℕ) : Type 0 where
  pub is : r ≡ kind_in (length message) (fields s)
  pub bytes : message' ≡ filled message (kind_bytes_in (length message) (fields s))
  pub ready : ReadyRead message' (kind_bytes_in (length message) (fields s)) r

pub record ParsedTo (line message : List ℕ) (r : Option (ℕ × Event)) (message' : List ℕ) : Type 0 where
  pub is : r ≡ parsed_of (length message) (fields line)
  pub bytes : message' ≡ filled message (parsed_bytes (length message) (fields line))
  pub ready : Ready message' (parsed_bytes (length message) (fields line)) r
