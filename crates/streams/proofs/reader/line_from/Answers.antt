use Rattle.std.proofs.Common.{sym, ◌∙◌}
use Rattle.std.proofs.lemmas.Result.{err_from_is_err_and}
use Rattle.streams.proofs.ReadingLaws.{none_by, next, on_read, on_end, failed, fewer_read, fewer_end}
use Rattle.streams.proofs.reader.line_from.Goals as goal

pub returns-in-Some : goal.returns-in-Some
returns-in-Some g c = next c.loop-line.invariant c.in-Some.ensures

pub returns-in_err-refill : goal.returns-in_err-refill
returns-in_err-refill g c =
    let p = err_from_is_err_and c.from_residual.result c.from_residual.ensures.1 in
    rw p.1 (failed c.loop-line.invariant (sym c.take_line.ensures ∙ none_by _ c.in_default.not-Some) (rw (sym p.2) c.in_err-refill.ensures))

pub loop-line-smaller-in-None : goal.loop-line-smaller-in-None
loop-line-smaller-in-None g c = fewer_end c.loop-line.invariant (sym c.take_line.ensures ∙ none_by _ c.in_default.not-Some)

pub loop-line-preserved-in-None : goal.loop-line-preserved-in-None
loop-line-preserved-in-None g c =
    on_end c.loop-line.invariant (sym c.take_line.ensures ∙ none_by _ c.in_default.not-Some) (rw c.in-None.is at c.in_ok-refill.ensures)

pub loop-line-smaller : goal.loop-line-smaller
loop-line-smaller g c =
    fewer_read c.loop-line.invariant (sym c.take_line.ensures ∙ none_by _ c.in_default.not-Some) (rw c.in-Some-2.is at c.in_ok-refill.ensures)

pub loop-line-preserved : goal.loop-line-preserved
loop-line-preserved g c =
    on_read c.loop-line.invariant (sym c.take_line.ensures ∙ none_by _ c.in_default.not-Some) (rw c.in-Some-2.is at c.in_ok-refill.ensures)
