use Rattle.std.proofs.Common.{arith, refl, ◌≡◌, length}
use Rattle.pending.proofs.Calls.{purging, one_stays, one_goes, purged}
use Rattle.pending.proofs.purge.Goals as goal
use Rattle.pending.proofs.purge.Goals.{then-stays, else-stays}

pub loop-i-init : goal.loop-i-init
loop-i-init g c = let full : length c.args.slots.now ≡ 8 = omega arith in purging full

pub loop-i-preserved : goal.loop-i-preserved
loop-i-preserved g c =
    let full : length c.args.slots.now ≡ 8 = omega arith in
    elim c.if-stays.branch [
      | then-stays w ↦
          rw (w.slots-is, w.kept-is, w.handles-is, w.dropped-is) (one_stays full c.loop-i.invariant (omega (arith, c.count_of-count.ensures))
          (record { shown = _; shows = refl; says = record { met = rw w.if-stays.true at c.stays.ensures } }))
      | else-stays w ↦
          rw (w.slots-is, w.kept-is, w.handles-is, w.dropped-is) (one_goes full c.loop-i.invariant (omega (arith, c.count_of-count.ensures))
          (record { shown = _; shows = refl; says = record { met = rw w.if-stays.false at c.stays.ensures } }))
    ]

pub returns : goal.returns
returns g c =
    let full : length c.args.slots.now ≡ 8 = omega arith in
    let end : c.loop-i.i ≡ c.count_of-count.result = omega arith in
    purged (record { slots = c.args.slots.now; len = c.args.len }) full c.count_of-count.ensures (rw end at c.loop-i.invariant)
