use Rattle.streams.proofs.ReadingLaws.{Going, turns}
use Rattle.streams.proofs.reader.line_from.Given as goal

abbrev pub invariant-loop-line : goal.invariant-loop-line
invariant-loop-line g l = Going l.fn.buf l.fn.first l.buf l.reader l.ended

abbrev pub decreases-loop-line : goal.decreases-loop-line
decreases-loop-line g l = turns l.buf l.reader l.ended
