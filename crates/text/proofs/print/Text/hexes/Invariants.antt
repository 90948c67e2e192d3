use Rattle.std.proofs.Common.{take}
use Rattle.text.specs.Gathered.{Adds, IsSameBuffer}
use Rattle.text.specs.Hex.{hexed}
use Rattle.text.proofs.print.Text.hexes.Given as goal

abbrev pub invariant-loop-value : goal.invariant-loop-value
invariant-loop-value l = Adds l.initial.self (hexed (take l.value-index l.bytes)) l.self × IsSameBuffer l.initial.self l.self
