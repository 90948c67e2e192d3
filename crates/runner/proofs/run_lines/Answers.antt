use Rattle.std.proofs.Common.{sym, refl, ap, ◌∙◌, arith, Ok, Err}
use Rattle.std.proofs.lemmas.Result.{err_from_is_err_and}
use Rattle.runner.proofs.RunLaws.{starts_at, no_line, over_by, line_held, not_written, bad_line_lem, turned_on}
use Rattle.runner.proofs.run_lines.Goals as goal

pub loop-line-init : goal.loop-line-init
loop-line-init g c = (starts_at c.begun-run.ensures c.requires.1 c.requires.0 c.requires.2, refl, refl)

pub returns-in_default-line-clause-run : goal.returns-in_default-line-clause-run
returns-in_default-line-clause-run g c =
    over_by c.loop-line.invariant.0 c.finish-in_default-line.new.target c.in-Ok.ensures (no_line c.in-Ok.line c.in_default-line.not-At)
    c.end_of-end.ensures c.finish-in_default-line.ensures.finished c.finish-in_default-line.ensures.gone

pub returns-in_default-clause-run : goal.returns-in_default-clause-run
returns-in_default-clause-run g c =
    over_by c.loop-line.invariant.0 c.finish.new.target c.in_default.ensures tt refl c.finish.ensures.finished c.finish.ensures.gone

pub slice_bounds-turn-count : goal.slice_bounds-turn-count
slice_bounds-turn-count g c =
    (line_held c.loop-line.invariant.0 _ _ _ c.in-Ok.ensures (ap Ok c.in-At.is)).low

pub slice_bounds-turn-start : goal.slice_bounds-turn-start
slice_bounds-turn-start g c =
    let h = line_held c.loop-line.invariant.0 _ _ _ c.in-Ok.ensures (ap Ok c.in-At.is) in
    omega (arith, h.low)

pub slice_bounds-turn-end : goal.slice_bounds-turn-end
slice_bounds-turn-end g c =
    let h = line_held c.loop-line.invariant.0 _ _ _ c.in-Ok.ensures (ap Ok c.in-At.is) in
    omega (arith, h.high)

pub returns-in_err-turn-clause-run : goal.returns-in_err-turn-clause-run
returns-in_err-turn-clause-run g c =
    let p = err_from_is_err_and c.from_residual.result c.from_residual.ensures.1 in
    not_written c.loop-line.invariant.0 _ _ _ c.in-Ok.ensures (ap Ok c.in-At.is) (p.1 ∙ ap Err p.2)

pub returns-then-is_failed-clause-run : goal.returns-then-is_failed-clause-run
returns-then-is_failed-clause-run g c =
    bad_line_lem c.loop-line.invariant.0 _ _ _ c.in-Ok.ensures (ap Ok c.in-At.is) c.in_ok-turn.ensures.turned c.in_ok-turn.ensures.handed
    c.finish-then-is_failed.new.target (sym c.is_failed.ensures ∙ c.if-is_failed.true) c.finish-then-is_failed.ensures.finished
    c.finish-then-is_failed.ensures.gone

pub loop-line-preserved : goal.loop-line-preserved
loop-line-preserved g c = (
  turned_on c.loop-line.invariant.0 _ _ _ c.in-Ok.ensures (ap Ok c.in-At.is) c.in_ok-turn.ensures.turned c.in_ok-turn.ensures.handed
      (sym c.is_failed.ensures ∙ c.if-is_failed.false),
  c.in_ok-turn.ensures.kind ∙ c.loop-line.invariant.1,
  c.in_ok-turn.ensures.same_buffer ∙ c.loop-line.invariant.2,
)
