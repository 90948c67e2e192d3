-- Document 01, "The event program": what a line does. Assumes nothing.
use Rattle.wire.specs.declared.error.Refusal.{Refusal}
use Rattle.std.specs.Prelude.{ℕ, ◌≤◌, ◌<◌, ◌≡◌, List, [], length, take, Option, Some, None, Result, Ok, Err}
use Rattle.text.specs.Fields.{fields}
use Rattle.text.specs.Gathered.{Adds}
use Rattle.text.specs.declared.print.Text.{Text}
use Rattle.lines.specs.EventLines.{parsed_bytes, message_len_is}
use Rattle.report.specs.AnswerLines.{event_most}
use Rattle.wire.specs.declared.ethernet.HardwareAddress.{HardwareAddress}
use Rattle.wire.specs.declared.ipv6.Ipv6Cidr.{Ipv6Cidr}
use Rattle.iface.specs.declared.addr.IfaceAddrs.{IfaceAddrs}
use Rattle.iface.specs.declared.addr.Added.{Added}
use Rattle.iface.specs.AddressRules.{addrs_of, addr_check, add_addr_by}
use Rattle.script.specs.declared.card.Card.{Card}
use Rattle.script.specs.declared.card.After.{After}
use Rattle.script.specs.declared.reading.Want.{Want}
use Rattle.script.specs.declared.reading.Want.TheVariants.{Addresses, Failed}
use Rattle.script.specs.declared.reading.Said.{Said}
use Rattle.script.specs.declared.reading.Said.TheVariants.{Mac, Next, Static, Event}
use Rattle.script.specs.CardRules.{Did, card_of, carry_out}
use Rattle.script.specs.ReadingRules.{said_in, rank}

-- what a line leaves: which line is wanted next, the state, and the text that was printed
pub record Went : Type 0 where
  pub want : Want
  pub card : Card
  pub text : List ℕ

abbrev pub quietly : Want → Card → Went
quietly w x = record { want = w; card = x; text = [] }

-- after a bad line no other is wanted
abbrev pub bad_line : Card → Went
bad_line x = quietly Failed x

abbrev pub with_hardware : Card → HardwareAddress → Card
with_hardware x h = card_of x.slaac x.addrs x.routes x.cache h x.up

abbrev pub with_addrs : Card → IfaceAddrs → Card
with_addrs x t = card_of x.slaac t x.routes x.cache x.hardware_addr x.up

-- "A bad line N (from 1; also one .. refused by the address table)"
abbrev pub added_by : Card → Want → IfaceAddrs → Result (Unit {0}) Refusal → Went
added_by x w t (Err why) = bad_line x
added_by x w t (Ok tt) = quietly w (with_addrs x t)

abbrev pub added : Card → Want → Added → Went
added x w r = added_by x w r.addrs r.outcome

unfoldable pub added_card : Card → Ipv6Cidr → Want → Went
added_card x c w = added x w (add_addr_by (addr_check 0 c (addrs_of x.addrs)) x.addrs c)

abbrev pub carried : Want → Did → Went
carried w d = record { want = w; card = d.card; text = d.text }

-- what a line said is done; an advertisement has its message
abbrev pub apply_of : Card → Option Said → List ℕ → Went
apply_of x None message = bad_line x
apply_of x (Some (Mac h)) message = quietly Addresses (with_hardware x h)
apply_of x (Some (Next w)) message = quietly w x
apply_of x (Some (Static c w)) message = added_card x c w
apply_of x (Some (Event t e w)) message = carried w (carry_out x t e message)

-- there is room for the message of any line, of which two digits make a byte
abbrev pub room : ℕ
room = 2048

unfoldable pub step_of : Want → Card → List ℕ → Went
step_of w x line = apply_of x (said_in room w line) (parsed_bytes room (fields line))

-- a line that prints nothing
pub record Applied (g : Went) (r : After) : Type 0 where
  pub want : r.want ≡ g.want
  pub card : r.card ≡ g.card
  pub text : g.text ≡ []

-- the text was put behind what is gathered
pub record Stepped (g : Went) (out : Text) (r : After) (out' : Text) : Type 0 where
  pub want : r.want ≡ g.want
  pub card : r.card ≡ g.card
  pub put : Adds out g.text out'
  pub short : length g.text ≤ event_most

-- how many bytes of a message go with what a line said
abbrev pub said_len : Option Said → ℕ
said_len None = 0
said_len (Some (Mac h)) = 0
said_len (Some (Next w)) = 0
said_len (Some (Static c w)) = 0
said_len (Some (Event t e w)) = message_len_is e

-- they stand at the front of the buffer
abbrev pub message_in : Option Said → List ℕ → List ℕ
message_in s buffer = take (said_len s) buffer

abbrev pub FitsSaid : ℕ → Option Said → Type 0
FitsSaid n s = said_len s ≤ n

-- one line: it does what the rules say, and fewer can still come
pub record StepTo (w : Want) (x : Card) (line : List ℕ) (out : Text) (r : After) (out' : Text) : Type 0 where
  pub is : Stepped (step_of w x line) out r out'
  pub falls : 0 < rank w → rank r.want < rank w
