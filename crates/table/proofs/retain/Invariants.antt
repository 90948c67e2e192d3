use Rattle.table.proofs.Calls.{Retaining}
use Rattle.table.proofs.retain.Given as goal

abbrev pub invariant-loop-i : goal.invariant-loop-i
invariant-loop-i g l = Retaining g.F.Fn l.stays l.fn.slots l.len l.slots l.kept l.i
