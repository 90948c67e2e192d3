-- Document 01, "Poll". Assumes nothing.
use Rattle.wire.specs.declared.ipv6.Ipv6Addr.{Ipv6Addr}
use Rattle.std.specs.Prelude.{ℕ, ◌≡◌, Bool, false, cond, ◌&&◌, List, [], length, leb, Result, Ok, Err, Option, Some, None}
use Rattle.time.specs.declared.Instant.{Instant}
use Rattle.time.specs.declared.Clock.{Clock}
use Rattle.wire.specs.declared.ethernet.HardwareAddress.{HardwareAddress}
use Rattle.wire.specs.declared.error.Refusal.{Refusal}
use Rattle.wire.specs.Refusals.{check_number, decided, time_check}
use Rattle.ndisc.specs.Rfc4861Messages.{solicit_in, solicitation as message}
use Rattle.iface.specs.declared.addr.IfaceAddrs.{IfaceAddrs}
use Rattle.iface.specs.declared.route.Routes.{Routes}
use Rattle.iface.specs.AddressRules.{addrs_of, first_local}
use Rattle.slaac.specs.declared.Discovery.{Discovery}
use Rattle.slaac.specs.declared.Slaac.{Slaac}
use Rattle.slaac.specs.declared.Solicitation.{Solicitation}
use Rattle.slaac.specs.DiscoveryRules.{solicitation}
use Rattle.slaac.specs.Fields.{with_discovery}
use Rattle.slaac.specs.ExpiryRules.{sync_due, leave_expired}
use Rattle.autoconf.specs.declared.PollAnswer.{PollAnswer}
use Rattle.autoconf.specs.declared.PollAnswer.TheVariants.{Off, Quiet, Solicited, NoRoom}
use Rattle.autoconf.specs.declared.Turn.{Turn}
use Rattle.autoconf.specs.declared.PolledAt.{PolledAt}
use Rattle.autoconf.specs.Answers.{poll_number, poll_sent}
use Rattle.autoconf.specs.SyncRules.{sync_addrs, sync_routes}

-- Solicitation

-- "It needs link up, a link-local address in the table (the first is the source)"
abbrev pub sender_of : Bool → Option Ipv6Addr → Option Ipv6Addr
sender_of up source = cond up source None

-- ".. solicitations left, and phase Start, or Discovering with the retry time expired (asked of the clock last)."
abbrev pub solicit_from : Option Ipv6Addr → Discovery → Clock → Solicitation
solicit_from None d k = record { due = false; discovery = d; clock = k }
solicit_from (Some a) d k = solicitation d k

-- "A lent buffer under 16 bytes counts as sent, answers no room (no refusal)"
abbrev pub answer_of : Bool → List ℕ → PollAnswer
answer_of due buf = cond due (cond (leb 16 (length buf)) Solicited NoRoom) Quiet

abbrev pub turn_for : Solicitation → List ℕ → Turn
turn_for x buf = record { discovery = x.discovery; clock = x.clock; answer = answer_of x.due buf }

-- "Otherwise only its first 16 bytes change: .. With no solicitation to send, the buffer stays."
abbrev pub buffer_by : Option Ipv6Addr → Bool → HardwareAddress → List ℕ → List ℕ
buffer_by None due hw buf = buf
buffer_by (Some a) due hw buf = cond due (solicit_in buf a hw) buf

-- "133, 0, RFC 4443's checksum to ff02::2, four zeros, a type 1 option": what is sent
abbrev pub sent_by : Option Ipv6Addr → Bool → HardwareAddress → List ℕ → List ℕ
sent_by None due hw buf = []
sent_by (Some a) due hw buf = cond (due && leb 16 (length buf)) (message a hw) []

unfoldable pub turn_of : Discovery → Option Ipv6Addr → List ℕ → Clock → Turn
turn_of d sender buf k = turn_for (solicit_from sender d k) buf

unfoldable pub buffer_of : Discovery → Option Ipv6Addr → HardwareAddress → List ℕ → Clock → List ℕ
buffer_of d sender hw buf k = buffer_by sender (solicit_from sender d k).due hw buf

unfoldable pub sent_of : Discovery → Option Ipv6Addr → HardwareAddress → List ℕ → Clock → List ℕ
sent_of d sender hw buf k = sent_by sender (solicit_from sender d k).due hw buf

pub record TurnTo (d : Discovery) (sender : Option Ipv6Addr) (hw : HardwareAddress) (buf : List ℕ) (k : Clock) (r : Turn) (buf' : List ℕ) : Type 0 where
  pub is : r ≡ turn_of d sender buf k
  pub number : poll_number (Ok r.answer) ≡ 0
  pub sends : poll_sent (Ok r.answer) buf' ≡ sent_of d sender hw buf k
  pub leaves : buf' ≡ buffer_of d sender hw buf k

-- Sync

abbrev pub polled : Slaac → IfaceAddrs → Routes → Clock → Result PollAnswer Refusal → PolledAt
polled s t r k a = record { clock = k; polled = record { slaac = s; addrs = t; routes = r; answer = a } }

abbrev pub synced : Slaac → IfaceAddrs → Routes → ℕ → HardwareAddress → Instant → Clock → Result PollAnswer Refusal → PolledAt
synced s t r iface hw now k a = polled (leave_expired now s) (sync_addrs hw now t s) (sync_routes iface now r s) k a

-- "Sync follows if asked for, or if any prefix's valid-until or router's time has expired"
unfoldable pub sync_turn : Slaac → IfaceAddrs → Routes → ℕ → HardwareAddress → Instant → Clock → Result PollAnswer Refusal → PolledAt
sync_turn s t r iface hw now k a =
    cond (sync_due s k).expired (synced s t r iface hw now (sync_due s k).clock a) (polled s t r (sync_due s k).clock a)

-- The call: "Solicitation first. .. Sync follows"

abbrev pub after_turn : Turn → Slaac → IfaceAddrs → Routes → ℕ → HardwareAddress → Instant → PolledAt
after_turn u s t r iface hw now = sync_turn (with_discovery s u.discovery) t r iface hw now u.clock (Ok u.answer)

abbrev pub sender_in : Bool → IfaceAddrs → Option Ipv6Addr
sender_in up t = sender_of up (first_local (addrs_of t))

unfoldable pub poll_on : Slaac → IfaceAddrs → Routes → ℕ → Bool → HardwareAddress → List ℕ → Clock → PolledAt
poll_on s t r iface up hw buf k = after_turn (turn_of s.discovery (sender_in up t) buf k) s t r iface hw k.now

abbrev pub not_polled : Slaac → IfaceAddrs → Routes → Clock → Refusal → PolledAt
not_polled s t r k why = polled s t r k (Err why)

-- "With SLAAC off .. the poll answer Off, after 3 and 7 .., and do nothing."
abbrev pub poll_by : Result (Unit {0}) Refusal → Slaac → IfaceAddrs → Routes → ℕ → Bool → HardwareAddress → List ℕ → Clock → PolledAt
poll_by check s t r iface up hw buf k = decided check (not_polled s t r k) (cond s.on (poll_on s t r iface up hw buf k) (polled s t r k (Ok Off)))

-- the buffer after it
abbrev pub poll_buffer : Result (Unit {0}) Refusal → Slaac → IfaceAddrs → Bool → HardwareAddress → List ℕ → Clock → List ℕ
poll_buffer (Err why) s t up hw buf k = buf
poll_buffer (Ok tt) s t up hw buf k = cond s.on (buffer_of s.discovery (sender_in up t) hw buf k) buf

-- what the poll sends
abbrev pub poll_message : Result (Unit {0}) Refusal → Slaac → IfaceAddrs → Bool → HardwareAddress → List ℕ → Clock → List ℕ
poll_message (Err why) s t up hw buf k = []
poll_message (Ok tt) s t up hw buf k = cond s.on (sent_of s.discovery (sender_in up t) hw buf k) []

pub record PolledTo (s : Slaac) (t : IfaceAddrs) (r : Routes) (iface : ℕ) (up : Bool) (hw : HardwareAddress) (buf : List ℕ) (k : Clock) (p : PolledAt)
    (buf' : List ℕ) : Type 0 where
  pub is : p ≡ poll_by (time_check k.now iface) s t r iface up hw buf k
  pub number : poll_number p.polled.answer ≡ check_number (time_check k.now iface)
  pub sends : poll_sent p.polled.answer buf' ≡ poll_message (time_check k.now iface) s t up hw buf k
  pub leaves : buf' ≡ poll_buffer (time_check k.now iface) s t up hw buf k
