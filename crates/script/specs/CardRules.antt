-- Document 01, "The event program": what each event makes of the state, and what it prints. Assumes nothing.
use Rattle.std.specs.Prelude.{ℕ, ◌≤◌, ◌≡◌, Bool, true, false, List, [], length, take, replicate}
use Rattle.time.specs.declared.Instant.{Instant}
use Rattle.time.specs.ClockRules.{idle}
use Rattle.wire.specs.declared.ipv6.Ipv6Addr.{Ipv6Addr}
use Rattle.wire.specs.declared.ethernet.HardwareAddress.{HardwareAddress}
use Rattle.text.specs.Gathered.{Adds}
use Rattle.text.specs.Place.{Put}
use Rattle.text.specs.declared.print.Text.{Text}
use Rattle.lines.specs.EventLines.{message_len_is}
use Rattle.lines.specs.declared.event.Event.{Event}
use Rattle.lines.specs.declared.event.Event.TheVariants.{Up, Down, Poll, Sweep, Off, Ra, Start, Fill, Remove}
use Rattle.report.specs.StateLines.{state_text, state_most}
use Rattle.report.specs.AnswerLines.{event_most}
use Rattle.slaac.specs.declared.Slaac.{Slaac}
use Rattle.slaac.specs.LearnedRules.{prefixes_of, routers_of}
use Rattle.slaac.specs.DiscoveryRules.{fresh, restarted}
use Rattle.wire.specs.Refusals.{iface_check, key_check, fill_check, time_check}
use Rattle.iface.specs.declared.addr.IfaceAddrs.{IfaceAddrs}
use Rattle.iface.specs.declared.route.Routes.{Routes}
use Rattle.iface.specs.AddressRules.{empty_addrs, addrs_of}
use Rattle.iface.specs.RouteRules.{empty_routes, routes_of}
use Rattle.neighbor.specs.declared.State.TheVariants.{Started}
use Rattle.neighbor.specs.declared.NeighborCache.{NeighborCache}
use Rattle.neighbor.specs.declared.Changed.{Changed}
use Rattle.neighbor.specs.NeighborRules.{lasting}
use Rattle.neighbor.specs.CacheCalls.{empty, entries, key, put_in, change_by, remove_by}
use Rattle.sweep.specs.declared.Swept.{Swept}
use Rattle.sweep.specs.SweepCalls.{sweep_check, sweep_by}
use Rattle.pending.specs.QueueCalls.{empty as noPackets}
use Rattle.autoconf.specs.declared.Polled.{Polled}
use Rattle.autoconf.specs.declared.Advertised.{Advertised}
use Rattle.autoconf.specs.declared.TurnedOff.{TurnedOff}
use Rattle.autoconf.specs.AdvertRules.{call_by}
use Rattle.autoconf.specs.PollRules.{poll_by, poll_buffer}
use Rattle.autoconf.specs.OffRules.{off_by}
use Rattle.script.specs.declared.card.Card.{Card}
use Rattle.script.specs.PrintedRules.{poll_text, ra_text, change_text, sweep_text}

-- an event's time, as the calls take it
abbrev pub instant : ℕ → Instant
instant t = record { 0 = t }

-- The neighbours' events

-- the cache after an event, and the text that it printed
pub record DidCache : Type 0 where
  pub cache : NeighborCache
  pub text : List ℕ

abbrev pub change_did : ℕ → Changed → DidCache
change_did t r = record { cache = r.cache; text = change_text t r.outcome }

unfoldable pub start_cache : NeighborCache → ℕ → Ipv6Addr → DidCache
start_cache c t a = change_did t (change_by (key_check 0 a) c (put_in c (key 0 a) Started))

unfoldable pub fill_cache : NeighborCache → ℕ → Ipv6Addr → HardwareAddress → DidCache
fill_cache c t a h =
    change_did t (change_by (fill_check (instant t) 0 a h) c (put_in c (key 0 a) (lasting h (instant t))))

abbrev pub sweep_did : ℕ → Swept → DidCache
sweep_did t r = record { cache = r.cache; text = sweep_text t r.outcome r.events }

unfoldable pub sweep_cache : NeighborCache → ℕ → DidCache
sweep_cache c t = sweep_did t (sweep_by (sweep_check (idle (instant t)) 0) c (idle (instant t)) 0)

-- remove prints nothing, of an absent key too
unfoldable pub remove_cache : NeighborCache → Ipv6Addr → NeighborCache
remove_cache c a = (remove_by (iface_check 0) c (key 0 a)).cache

-- the text was put behind what is gathered
pub record CachedTo (d : DidCache) (out : Text) (r : NeighborCache) (out' : Text) : Type 0 where
  pub cache : r ≡ d.cache
  pub put : Adds out d.text out'
  pub short : length d.text ≤ event_most

-- The state

abbrev pub card_of : Slaac → IfaceAddrs → Routes → NeighborCache → HardwareAddress → Bool → Card
card_of s t r c h up = record { slaac = s; addrs = t; routes = r; cache = c; hardware_addr = h; up = up }

-- "for interface 0, SLAAC on, link down"
abbrev pub new_card : Card
new_card = card_of (fresh true) empty_addrs empty_routes empty (record { hi = 0; lo = 0 }) false

abbrev pub with_cache : Card → NeighborCache → Card
with_cache x c = card_of x.slaac x.addrs x.routes c x.hardware_addr x.up

abbrev pub with_up : Card → Bool → Card
with_up x up = card_of x.slaac x.addrs x.routes x.cache x.hardware_addr up

-- what an event did: the state after it, and the text that it printed
pub record Did : Type 0 where
  pub card : Card
  pub text : List ℕ

abbrev pub did : Card → List ℕ → Did
did x s = record { card = x; text = s }

abbrev pub on_cache : Card → DidCache → Did
on_cache x d = did (with_cache x d.cache) d.text

-- "up (restarts too)"
abbrev pub up_card : Card → Card
up_card x = card_of (restarted x.slaac) x.addrs x.routes x.cache x.hardware_addr true

-- poll
abbrev pub polled_card : Card → Polled → Card
polled_card x p = card_of p.slaac p.addrs p.routes x.cache x.hardware_addr x.up

abbrev pub poll_did : Card → ℕ → Polled → List ℕ → Did
poll_did x t p message = did (polled_card x p) (poll_text t p.answer message)

-- the poll has a buffer of 16 bytes, which a solicitation fills
abbrev pub sixteen : List ℕ
sixteen = replicate 16 0

unfoldable pub poll_card : Card → ℕ → Did
poll_card x t =
    poll_did x t
    (poll_by (time_check (instant t) 0) x.slaac x.addrs x.routes 0 x.up x.hardware_addr sixteen (idle (instant t))).polled
    (poll_buffer (time_check (instant t) 0) x.slaac x.addrs x.up x.hardware_addr sixteen (idle (instant t)))

-- ra
abbrev pub heard_card : Card → Advertised → Card
heard_card x r = card_of r.slaac x.addrs x.routes r.cache x.hardware_addr x.up

abbrev pub ra_did : Card → ℕ → Advertised → Did
ra_did x t r = did (heard_card x r) (ra_text t r.answer)

unfoldable pub ra_card : Card → ℕ → Ipv6Addr → List ℕ → Did
ra_card x t source message = ra_did x t (call_by (time_check (instant t) 0) x.slaac x.cache 0 source message (instant t))

-- off prints nothing, the first time and later; there is no packet to purge
abbrev pub left_card : Card → TurnedOff → Card
left_card x r = card_of r.slaac r.addrs r.routes r.cache x.hardware_addr x.up

unfoldable pub off_card : Card → Card
off_card x = left_card x (off_by (iface_check 0) x.slaac x.addrs x.routes x.cache noPackets 0)

-- an event at its time; of an advertisement, with its message
abbrev pub carry_out : Card → ℕ → Event → List ℕ → Did
carry_out x t Up message = did (up_card x) []
carry_out x t Down message = did (with_up x false) []
carry_out x t Poll message = poll_card x t
carry_out x t (Ra source n) message = ra_card x t source message
carry_out x t (Start a) message = on_cache x (start_cache x.cache t a)
carry_out x t Sweep message = on_cache x (sweep_cache x.cache t)
carry_out x t (Fill a h) message = on_cache x (fill_cache x.cache t a h)
carry_out x t (Remove a) message = did (with_cache x (remove_cache x.cache a)) []
carry_out x t Off message = did (off_card x) []

-- an advertisement's message stands at the front of the buffer
abbrev pub message_for : Event → List ℕ → List ℕ
message_for e buffer = take (message_len_is e) buffer

abbrev pub Fits : ℕ → Event → Type 0
Fits room e = message_len_is e ≤ room

pub record CarriedTo (x : Did) (out : Text) (r : Card) (out' : Text) : Type 0 where
  pub card : r ≡ x.card
  pub put : Adds out x.text out'
  pub short : length x.text ≤ event_most

-- "Then the state."
unfoldable pub listed_text : Card → List ℕ
listed_text x = state_text (prefixes_of x.slaac) (routers_of x.slaac) (addrs_of x.addrs) (routes_of x.routes) (entries x.cache)

pub record Listed (x : Card) (out : List ℕ) (at r : ℕ) (out' : List ℕ) : Type 0 where
  pub put : Put out at (listed_text x) r out'
  pub short : length (listed_text x) ≤ state_most

-- the same, behind what is gathered
abbrev pub Lists : Card → Text → Text → Type 0
Lists x t t' = Listed x t.buf.now t.at t'.at t'.buf.now
