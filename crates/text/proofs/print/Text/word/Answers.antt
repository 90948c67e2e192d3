use Rattle.std.proofs.Common.{refl, ◌∙◌}
use Rattle.text.proofs.PlaceLaws.{put_none, one_more}
use Rattle.text.proofs.print.Text.word.Goals as goal

pub loop-value-init : goal.loop-value-init
loop-value-init c = (put_none c.args.self.now.buf.now c.args.self.now.at, refl)

pub loop-value-preserved : goal.loop-value-preserved
loop-value-preserved c = (
  one_more c.args.bytes.now c.loop-value.value-index c.loop-value-test.true c.loop-value.invariant.0 c.byte.ensures.adds,
  c.byte.ensures.same_buffer ∙ c.loop-value.invariant.1,
)
