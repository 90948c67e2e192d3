use Rattle.std.proofs.Common.{arith}
use Rattle.text.proofs.PlaceLaws.{put_byte, put_past}
use Rattle.text.proofs.print.Text.byte.Goals as goal

pub returns-then-self-clause-adds : goal.returns-then-self-clause-adds
returns-then-self-clause-adds c = put_byte c.args.self.now.buf.now c.args.self.now.at c.args.value (omega arith)

pub returns-else-self-clause-adds : goal.returns-else-self-clause-adds
returns-else-self-clause-adds c = put_past c.args.self.now.buf.now c.args.self.now.at c.args.value (omega arith)
