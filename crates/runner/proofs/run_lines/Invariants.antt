use Rattle.std.proofs.Common.{◌≡◌}
use Rattle.runner.proofs.RunLaws.{Under}
use Rattle.script.specs.ReadingRules.{rank}
use Rattle.streams.specs.Writing.{is_written}
use Rattle.text.specs.Gathered.{IsSameBuffer}
use Rattle.runner.proofs.run_lines.Given as goal

abbrev pub invariant-loop-line : goal.invariant-loop-line
invariant-loop-line g l =
    Under g.W.Write.contents l.fn.target l.fn.buf l.fn.sink l.buf l.reader l.run l.sink l.out l.target × (is_written l.target ≡ is_written l.fn.target)
    × IsSameBuffer l.fn.out l.out

abbrev pub decreases-loop-line : goal.decreases-loop-line
decreases-loop-line g l = rank l.run.want
