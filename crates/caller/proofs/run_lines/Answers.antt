use Rattle.std.proofs.Common.{ap, Ok, arith}
use Rattle.streams.proofs.ReadingLaws.{held, held_long}
use Rattle.caller.proofs.run_lines.Goals.{in-At+in_ok-line-in-At, in-Long+in_ok-long-in-Long}
use Rattle.caller.proofs.run_lines.Goals as goal

pub loop-init : goal.loop-init
loop-init g c = rw c.new-run.ensures (omega arith, omega arith, c.requires)

pub slice_bounds-line-count : goal.slice_bounds-line-count
slice_bounds-line-count g c = (held _ _ _ (c.in-Ok.ensures.line c.loop.invariant) c.loop.invariant (ap Ok c.in-At.is)).low

pub slice_bounds-line-start : goal.slice_bounds-line-start
slice_bounds-line-start g c =
    let h = held _ _ _ (c.in-Ok.ensures.line c.loop.invariant) c.loop.invariant (ap Ok c.in-At.is) in
    omega (arith, h.low)

pub slice_bounds-line-end : goal.slice_bounds-line-end
slice_bounds-line-end g c =
    let h = held _ _ _ (c.in-Ok.ensures.line c.loop.invariant) c.loop.invariant (ap Ok c.in-At.is) in
    omega (arith, h.high)

pub overflow_add-run : goal.overflow_add-run
overflow_add-run g c =
    let h = held_long _ (c.in-Ok.ensures.line c.loop.invariant) c.loop.invariant (ap Ok c.in-Long.is) in
    grind (arith, h.fits, h.long, c.type_inv.buf)

pub loop-preserved : goal.loop-preserved
loop-preserved g c = elim c.match-line.branch [
  | in-At+in_ok-line-in-At w ↦
      rw w.run-is (held _ _ _ (c.in-Ok.ensures.line c.loop.invariant) c.loop.invariant (ap Ok w.in-At.is)).fits
  | in-Long+in_ok-long-in-Long w ↦
      let h = held_long _ (c.in-Ok.ensures.line c.loop.invariant) c.loop.invariant (ap Ok w.in-Long.is) in
      rw w.run-is (omega (arith, h.long), h.fits.1, h.fits.2)
]
