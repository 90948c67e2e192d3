use Rattle.streams.proofs.ReadingLaws.{too_long, whole, part, nothing, last}
use Rattle.streams.proofs.reader.take_line.Goals as goal

pub returns-then-len-gt-LONGEST : goal.returns-then-len-gt-LONGEST
returns-then-len-gt-LONGEST c = too_long c.args.ended c.args.buf.now c.args.reader c.line_len-len.result c.line_len-len.ensures.is c.if-len-gt-LONGEST.true

pub returns-then-to-end : goal.returns-then-to-end
returns-then-to-end c = whole c.args.ended c.args.buf.now c.args.reader c.line_len-len.result c.line_len-len.ensures.is c.if-len-gt-LONGEST.false c.if-to-end.true

pub returns-then-not-ended : goal.returns-then-not-ended
returns-then-not-ended c = part c.args.ended c.args.buf.now c.args.reader c.line_len-len.result c.line_len-len.ensures.is c.if-len-gt-LONGEST.false c.if-to-end.false c.if-not-ended.true

pub returns-then-len-eq0 : goal.returns-then-len-eq0
returns-then-len-eq0 c = nothing c.args.ended c.args.buf.now c.args.reader c.line_len-len.result c.line_len-len.ensures.is c.if-to-end.false c.if-not-ended.false c.if-len-eq0.true

pub returns : goal.returns
returns c = last c.args.ended c.args.buf.now c.args.reader c.line_len-len.result c.line_len-len.ensures.is c.if-len-gt-LONGEST.false c.if-to-end.false c.if-not-ended.false c.if-len-eq0.false
