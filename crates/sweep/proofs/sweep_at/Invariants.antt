use Rattle.std.proofs.Common.{◌-◌}
use Rattle.sweep.proofs.ExpiryLaws.{Expiring}
use Rattle.sweep.proofs.ProbeLaws.{Probing}
use Rattle.sweep.specs.SweepParts.{no_events}
use Rattle.sweep.proofs.sweep_at.Given as goal

-- the entries still to do give what all give, entry by entry and on the clock
abbrev pub invariant-loop-i : goal.invariant-loop-i
invariant-loop-i l = Expiring l.initial.cache l.initial.clock l.len l.cache.slots l.clock l.i

-- the events from the place on are all that is left of the events from place 0
abbrev pub invariant-loop-place : goal.invariant-loop-place
invariant-loop-place l = Probing l.iface l.now l.initial.cache.slots l.initial.len no_events.slots l.events.slots l.cache.slots l.len l.events.len l.looked l.place

abbrev pub decreases-loop-place : goal.decreases-loop-place
decreases-loop-place l = l.len - l.place
