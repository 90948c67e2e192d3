use Rattle.neighbor.proofs.Choosing.{Choosing}
use Rattle.neighbor.proofs.evicted.Given as goal

abbrev pub invariant-loop-i : goal.invariant-loop-i
invariant-loop-i l = Choosing l.slots l.i l.index
