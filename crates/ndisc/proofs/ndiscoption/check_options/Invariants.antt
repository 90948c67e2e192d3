use Rattle.std.proofs.Common.{◌-◌, ◌≡◌, length}
use Rattle.ndisc.specs.OptionWalk.{walked}
use Rattle.ndisc.proofs.ndiscoption.check_options.Given as goal

-- the walk from here finds what the walk from the start finds
abbrev pub invariant-loop-at : goal.invariant-loop-at
invariant-loop-at l = walked l.msg l.from ≡ walked l.msg l.at

abbrev pub decreases-loop-at : goal.decreases-loop-at
decreases-loop-at l = length l.msg - l.at
