use Rattle.std.proofs.Common.{take}
use Rattle.text.specs.Gathered.{Adds, IsSameBuffer}
use Rattle.text.proofs.print.Text.word.Given as goal

abbrev pub invariant-loop-value : goal.invariant-loop-value
invariant-loop-value l = Adds l.initial.self (take l.value-index l.bytes) l.self × IsSameBuffer l.initial.self l.self
