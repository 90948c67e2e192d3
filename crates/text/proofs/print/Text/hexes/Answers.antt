use Rattle.std.proofs.Common.{refl, ◌∙◌}
use Rattle.text.proofs.HexLaws.{two_more}
use Rattle.text.proofs.PlaceLaws.{put_none}
use Rattle.text.proofs.print.Text.hexes.Goals as goal

pub loop-value-init : goal.loop-value-init
loop-value-init c = (put_none c.args.self.now.buf.now c.args.self.now.at, refl)

pub loop-value-preserved : goal.loop-value-preserved
loop-value-preserved c = (
  two_more c.args.bytes.now c.loop-value.value-index c.high.result c.low.result c.loop-value-test.true c.loop-value.invariant.0 c.high.ensures c.byte.ensures.adds c.low.ensures c.byte-in-loop-value.ensures.adds,
  c.byte-in-loop-value.ensures.same_buffer ∙ c.byte.ensures.same_buffer ∙ c.loop-value.invariant.1,
)
