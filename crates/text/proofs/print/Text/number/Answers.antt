use Rattle.std.proofs.Common.{arith, ◌∙◌}
use Rattle.text.proofs.DecimalLaws.{spelled, few}
use Rattle.text.proofs.PlaceLaws.{put_as}
use Rattle.text.specs.Decimal.{decimal}
use Rattle.text.proofs.print.Text.number.Goals as goal

pub returns-clause-adds : goal.returns-clause-adds
unfolding decimal
returns-clause-adds c = put_as (c.decimal-len.ensures.digits ∙ spelled 20 c.decimal-len.result c.args.value c.decimal-len.ensures.len (few c.args.value c.decimal-len.result c.decimal-len.ensures.len (omega arith))) c.word.ensures.adds
