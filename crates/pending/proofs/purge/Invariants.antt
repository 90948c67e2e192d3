use Rattle.std.specs.Fn.{FnReturnsAt}
use Rattle.pending.proofs.Calls.{Purging}
use Rattle.pending.proofs.purge.Given as goal

abbrev pub invariant-loop-i : goal.invariant-loop-i
invariant-loop-i g l = Purging (λ x b. FnReturnsAt g.F.Fn l.stays x b) l.fn.slots l.i l.slots l.kept (record { slots = l.handles; len = l.dropped })
