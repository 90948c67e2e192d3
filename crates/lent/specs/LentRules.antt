-- "The clock is lent to each part in turn, and each may only bring its deadline forward.": what the outermost calls return, and the clock that
-- they leave. Assumes nothing.
use Rattle.std.specs.Prelude.{ℕ, ◌≡◌, Bool, List}
use Rattle.time.specs.declared.Clock.{Clock}
use Rattle.wire.specs.Refusals.{check_number, outcome_number, time_check}
use Rattle.wire.specs.declared.ethernet.HardwareAddress.{HardwareAddress}
use Rattle.neighbor.specs.declared.NeighborCache.{NeighborCache}
use Rattle.sweep.specs.declared.Swept.{Swept}
use Rattle.sweep.specs.SweepCalls.{sweep_check, sweep_by}
use Rattle.iface.specs.declared.addr.IfaceAddrs.{IfaceAddrs}
use Rattle.iface.specs.declared.route.Routes.{Routes}
use Rattle.slaac.specs.declared.Slaac.{Slaac}
use Rattle.autoconf.specs.declared.Polled.{Polled}
use Rattle.autoconf.specs.Answers.{poll_number, poll_sent}
use Rattle.autoconf.specs.PollRules.{poll_by, poll_message, poll_buffer}
use Rattle.lent.specs.declared.Reported.{Reported}

-- Sweep

-- all but the clock
abbrev pub report_of : Swept → Reported
report_of s = record { cache = s.cache; events = s.events; looked = s.looked; outcome = s.outcome }

pub record ReportedTo (c : NeighborCache) (k : Clock) (i : ℕ) (r : Reported) (k' : Clock) : Type 0 where
  pub is : r ≡ report_of (sweep_by (sweep_check k i) c k i)
  pub clock : k' ≡ (sweep_by (sweep_check k i) c k i).clock
  pub number : outcome_number r.outcome ≡ check_number (sweep_check k i)

-- Poll

pub record PolledBy (s : Slaac) (t : IfaceAddrs) (r : Routes) (iface : ℕ) (up : Bool) (hw : HardwareAddress) (buf : List ℕ) (k : Clock) (p : Polled)
    (buf' : List ℕ) (k' : Clock) : Type 0 where
  pub is : p ≡ (poll_by (time_check k.now iface) s t r iface up hw buf k).polled
  pub number : poll_number p.answer ≡ check_number (time_check k.now iface)
  pub sends : poll_sent p.answer buf' ≡ poll_message (time_check k.now iface) s t up hw buf k
  pub leaves : buf' ≡ poll_buffer (time_check k.now iface) s t up hw buf k
  pub clock : k' ≡ (poll_by (time_check k.now iface) s t r iface up hw buf k).clock
