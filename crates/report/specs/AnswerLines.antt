-- Document 01: "each line printed for it" begins with the event's time: "`solicit` with the message, `retransmit` or `failed` with an address,
-- `refused` with a number, `off` for an answer Off; otherwise nothing". Assumes nothing.
use Rattle.std.specs.Prelude.{ℕ, ◌+◌, ◌*◌, ◌≤◌, List, [], ◌∷◌, ◌++◌, length, take}
use Rattle.text.specs.Place.{Put}
use Rattle.text.specs.Decimal.{decimal}
use Rattle.text.specs.Hex.{hexed}
use Rattle.text.specs.declared.print.Text.{Text}
use Rattle.wire.specs.Rfc4291.{address_bytes}
use Rattle.wire.specs.declared.ipv6.Ipv6Addr.{Ipv6Addr}
use Rattle.sweep.specs.declared.ProbeEvent.{ProbeEvent}
use Rattle.sweep.specs.declared.ProbeEvent.TheVariants.{Retransmit, Failed}
use Rattle.sweep.specs.declared.Events.{Events}

-- a text of at most `most` bytes was put at `at`, and r is the place after it
pub record Printed (text : List ℕ) (most : ℕ) (out : List ℕ) (at r : ℕ) (out' : List ℕ) : Type 0 where
  pub put : Put out at text r out'
  pub short : length text ≤ most

-- the same, behind what is gathered
abbrev pub Prints : List ℕ → ℕ → Text → Text → Type 0
Prints text most t t' = Printed text most t.buf.now t.at t'.at t'.buf.now

-- the words, in ASCII, with the spaces around them
abbrev pub solicit_word : List ℕ
solicit_word = 32 ∷ 115 ∷ 111 ∷ 108 ∷ 105 ∷ 99 ∷ 105 ∷ 116 ∷ 32 ∷ []

abbrev pub retransmit_word : List ℕ
retransmit_word = 32 ∷ 114 ∷ 101 ∷ 116 ∷ 114 ∷ 97 ∷ 110 ∷ 115 ∷ 109 ∷ 105 ∷ 116 ∷ 32 ∷ []

abbrev pub failed_word : List ℕ
failed_word = 32 ∷ 102 ∷ 97 ∷ 105 ∷ 108 ∷ 101 ∷ 100 ∷ 32 ∷ []

abbrev pub refused_word : List ℕ
refused_word = 32 ∷ 114 ∷ 101 ∷ 102 ∷ 117 ∷ 115 ∷ 101 ∷ 100 ∷ 32 ∷ []

abbrev pub off_word : List ℕ
off_word = 32 ∷ 111 ∷ 102 ∷ 102 ∷ 10 ∷ []

abbrev pub bad_word : List ℕ
bad_word = 98 ∷ 97 ∷ 100 ∷ 32 ∷ 108 ∷ 105 ∷ 110 ∷ 101 ∷ 32 ∷ []

-- the end of a line
abbrev pub newline : List ℕ
newline = 10 ∷ []

-- a line for each entry, in order
abbrev pub each_line : {A : Type 0} → (A → List ℕ) → List A → List ℕ
each_line line [] = []
each_line line (x ∷ xs) = line x ++ each_line line xs

unfoldable pub solicit_line : ℕ → List ℕ → List ℕ
solicit_line t message = ((decimal t ++ solicit_word) ++ hexed message) ++ newline

unfoldable pub refused_line : ℕ → ℕ → List ℕ
refused_line t n = ((decimal t ++ refused_word) ++ decimal n) ++ newline

unfoldable pub off_line : ℕ → List ℕ
off_line t = decimal t ++ off_word

-- "A bad line N .. ends the output with `bad line N` in place of the state."
unfoldable pub bad_line : ℕ → List ℕ
bad_line n = (bad_word ++ decimal n) ++ newline

-- a word and an address
abbrev pub address_line : ℕ → List ℕ → Ipv6Addr → List ℕ
address_line t word a = ((decimal t ++ word) ++ hexed (address_bytes a)) ++ newline

abbrev pub probe_line : ℕ → ProbeEvent → List ℕ
probe_line t (Retransmit a) = address_line t retransmit_word a
probe_line t (Failed a) = address_line t failed_word a

-- the events of a sweep
unfoldable pub probe_lines : ℕ → Events → List ℕ
probe_lines t v = each_line (probe_line t) (take v.len v.slots)

-- what an event prints at most: the sixteen events of a sweep, each with a time of at most 20 digits, a word of at most 12 bytes with its spaces,
-- the 32 digits of an address, and the line's end
abbrev pub event_most : ℕ
event_most = 16 * (20 + 12 + 32 + 1)
