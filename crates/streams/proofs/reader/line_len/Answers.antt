use Rattle.std.proofs.Common.{◌∙◌, arith}
use Rattle.streams.proofs.ReadingLaws.{index_by, index_high}
use Rattle.streams.proofs.reader.line_len.Goals as goal

pub returns-clause-is : goal.returns-clause-is
returns-clause-is c = c.unwrap_or.ensures ∙ index_by c.args.bytes.now c.find.result c.find.ensures

pub returns-clause-high : goal.returns-clause-high
returns-clause-high c =
    let e = c.unwrap_or.ensures ∙ index_by c.args.bytes.now c.find.result c.find.ensures in
    omega (arith, e, index_high 10 c.args.bytes.now)
