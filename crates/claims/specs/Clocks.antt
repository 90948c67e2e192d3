-- Document 01: "The clock is lent to each part in turn, and each may only bring its deadline forward." Said of the calls that are lent it: none
-- moves the deadline back, and none leaves it later than a time that was in the tables as they came and is still to come. A due time that a sweep
-- itself sets anew is not among these: that is the trap of `Wake`. Assumes nothing.
use Rattle.std.specs.Prelude.{ℕ, ◌<◌, ◌≡◌, Bool, true, List, Option, Some, Ok}
use Rattle.time.specs.declared.Instant.{Instant}
use Rattle.time.specs.declared.Expiry.{Expiry}
use Rattle.time.specs.declared.Expiry.TheVariants.{At as EndsAt, Forever}
use Rattle.time.specs.declared.Clock.{Clock}
use Rattle.time.specs.Forward.{NotLater, Forward}
use Rattle.wire.specs.declared.ipv6.Ipv6Addr.{Ipv6Addr}
use Rattle.wire.specs.declared.ethernet.HardwareAddress.{HardwareAddress}
use Rattle.wire.specs.Refusals.{time_check}
use Rattle.neighbor.specs.declared.State.{State}
use Rattle.neighbor.specs.declared.State.TheVariants.{Started, Incomplete, Reachable, Stale}
use Rattle.neighbor.specs.declared.NeighborCache.{NeighborCache}
use Rattle.neighbor.specs.CacheCalls.{entries}
use Rattle.sweep.specs.declared.ProbeEvent.{ProbeEvent}
use Rattle.sweep.specs.declared.Swept.{Swept}
use Rattle.sweep.specs.SweepCalls.{event_list, SweptTo}
use Rattle.lent.specs.declared.Reported.{Reported}
use Rattle.lent.specs.LentRules.{ReportedTo, PolledBy}
use Rattle.iface.specs.declared.addr.IfaceAddrs.{IfaceAddrs}
use Rattle.iface.specs.declared.route.Routes.{Routes}
use Rattle.slaac.specs.declared.Slaac.{Slaac}
use Rattle.slaac.specs.declared.Phase.TheVariants.{Discovering}
use Rattle.slaac.specs.LearnedRules.{prefixes_of, routers_of}
use Rattle.autoconf.specs.declared.Polled.{Polled}
use Rattle.autoconf.specs.declared.PolledAt.{PolledAt}
use Rattle.autoconf.specs.PollRules.{sender_in, PolledTo}
use Rattle.claims.specs.Lists.{All}
use Rattle.claims.specs.Watch.{later}

-- one sweep that its function's promise allows, the clock lent or by value: the events, and the cache and the clock after it
pub data Sweep : NeighborCache → Clock → ℕ → List ProbeEvent → NeighborCache → Clock → Type 0 where
  swept : (c : NeighborCache) (k k' : Clock) (i : ℕ) (r : Reported) → ReportedTo c k i r k' → Sweep c k i (event_list r.events) r.cache k'
  swept_at : (c : NeighborCache) (k : Clock) (i : ℕ) (r : Swept) → SweptTo c k i r → Sweep c k i (event_list r.events) r.cache r.clock

-- one poll that its function's promise allows, the clock lent or by value: what it returns, and the buffer and the clock after it
pub data Poll (i : ℕ) (up : Bool) (hw : HardwareAddress) : Slaac → IfaceAddrs → Routes → List ℕ → Clock → Polled → List ℕ → Clock → Type 0 where
  polled : (s : Slaac) (t : IfaceAddrs) (r : Routes) (buf : List ℕ) (k : Clock) (p : Polled) (buf' : List ℕ) (k' : Clock) → PolledBy s t r i up hw buf k p buf' k'
      → Poll i up hw s t r buf k p buf' k'
  polled_at : (s : Slaac) (t : IfaceAddrs) (r : Routes) (buf : List ℕ) (k : Clock) (p : PolledAt) (buf' : List ℕ) → PolledTo s t r i up hw buf k p buf'
      → Poll i up hw s t r buf k p.polled buf' p.clock

-- the deadline is no later than that end, if the end is still to come
abbrev pub WakesFor : Instant → Option Instant → Expiry → Type 0
WakesFor now d (EndsAt t) = now.0 < t.0 → NotLater d (Some t)
WakesFor now d Forever = Unit {0}

-- than a resolution's due time, which is 1,000 ms later where it was just started, and than a reachable neighbour's expiry
abbrev pub WakesForState : Instant → Option Instant → State → Type 0
WakesForState now d Started = NotLater d (Some (later now 1000))
WakesForState now d (Incomplete p t) = WakesFor now d (EndsAt t)
WakesForState now d (Reachable h t) = WakesFor now d (EndsAt t)
WakesForState now d (Stale h) = Unit {0}

pub record Clocks : Type 0 where
  -- a sweep, refused ones too, with the clock by value and with the clock lent
  pub sweep_at : (c : NeighborCache) (k : Clock) (i : ℕ) (r : Swept) → SweptTo c k i r → Forward k r.clock
  pub sweep : (c : NeighborCache) (k k' : Clock) (i : ℕ) (r : Reported) → ReportedTo c k i r k' → Forward k k'
  -- a poll, refused ones too, with the clock by value and with the clock lent
  pub poll_at : (s : Slaac) (t : IfaceAddrs) (r : Routes) (i : ℕ) (up : Bool) (hw : HardwareAddress) (buf : List ℕ) (k : Clock) (p : PolledAt) (buf' : List ℕ)
      → PolledTo s t r i up hw buf k p buf' → Forward k p.clock
  pub poll : (s : Slaac) (t : IfaceAddrs) (r : Routes) (i : ℕ) (up : Bool) (hw : HardwareAddress) (buf : List ℕ) (k : Clock) (p : Polled) (buf' : List ℕ) (k' : Clock)
      → PolledBy s t r i up hw buf k p buf' k' → Forward k k'
  -- After a sweep that is taken the deadline is no later than any due time or expiry that the cache had as it came and that is still to come, of
  -- all interfaces.
  pub sweep_waits : (c d : NeighborCache) (k k' : Clock) (i : ℕ) (events : List ProbeEvent) → Sweep c k i events d k' → time_check k.now i ≡ Ok tt
      → All (λ e. WakesForState k.now k'.deadline e.state) (entries c)
  -- After a poll that is taken, SLAAC being on, it is no later than any prefix's valid-until or router's time that is still to come;
  pub poll_waits : (i : ℕ) (up : Bool) (hw : HardwareAddress) (s : Slaac) (t : IfaceAddrs) (r : Routes) (buf : List ℕ) (k : Clock) (p : Polled) (buf' : List ℕ) (k' : Clock)
      → Poll i up hw s t r buf k p buf' k' → time_check k.now i ≡ Ok tt → s.on ≡ true
      → All (λ x. WakesFor k.now k'.deadline x.valid_until) (prefixes_of s)
      × All (λ x. WakesFor k.now k'.deadline (EndsAt x.valid_until)) (routers_of s)
  -- nor, where the interface has a source to send from and solicitations left, than the time of the next.
  pub poll_retries : (i : ℕ) (up : Bool) (hw : HardwareAddress) (s : Slaac) (t : IfaceAddrs) (r : Routes) (buf : List ℕ) (k : Clock) (p : Polled) (buf' : List ℕ) (k' : Clock)
      → Poll i up hw s t r buf k p buf' k' → time_check k.now i ≡ Ok tt → s.on ≡ true
      → (source : Ipv6Addr) (retry : Instant) → sender_in up t ≡ Some source → p.slaac.discovery.phase ≡ Discovering retry
      → 0 < p.slaac.discovery.num_solicitations → NotLater k'.deadline (Some retry)
