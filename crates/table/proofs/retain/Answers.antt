use native.Mathlib.Omega.{arith}
use Rattle.table.proofs.Calls.{one_stays, one_goes, retained}
use Rattle.table.proofs.retain.Goals as goal
use Rattle.table.proofs.retain.Goals.{then-stays, else-stays}

pub loop-i-preserved : goal.loop-i-preserved
loop-i-preserved g c =
    elim c.if-stays.branch [
      | then-stays w ↦
          rw (w.slots-is, w.kept-is)
          (one_stays g.F.Fn c.args.stays c.args.slots.now c.args.len c.loop-i.slots c.loop-i.kept c.loop-i.i c.loop-i.invariant c.requires.low c.loop-i-test.true _ c.index-slots-i.is w.if-stays.ensures)
      | else-stays w ↦
          rw (w.slots-is, w.kept-is)
          (one_goes g.F.Fn c.args.stays c.args.slots.now c.args.len c.loop-i.slots c.loop-i.kept c.loop-i.i c.loop-i.invariant c.requires.low c.loop-i-test.true _ c.index-slots-i.is w.if-stays.ensures)
    ]

pub returns : goal.returns
returns g c =
    retained g.F.Fn c.args.stays c.args.slots.now c.args.len c.loop-i.slots c.loop-i.kept c.loop-i.i c.loop-i.invariant c.requires.low (omega arith) c.loop-i.auto.i-end
