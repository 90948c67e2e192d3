use Rattle.std.proofs.Common.{◌≡◌, ap, ◌∙◌, Err}
use Rattle.runner.proofs.RunLaws.{ends_bad, ends_quiet}
use Rattle.runner.specs.OutputRules.{Ending, end_text}
use Rattle.runner.specs.declared.RunError.TheVariants.{BadLine, NotRead, NotWritten}
use Rattle.runner.proofs.put_end.Goals as goal

pub returns-in-Err-BadLine-clause-adds : goal.returns-in-Err-BadLine-clause-adds
returns-in-Err-BadLine-clause-adds c =
    let e : c.args.end ≡ Err (BadLine c.in-Err-BadLine.number) = c.in-Err-BadLine.is ∙ ap Err (rw c.in-Err-BadLine.is at c.in-Err-BadLine.field-0-is) in
    ends_bad c.args.end c.args.card c.in-Err-BadLine.number e c.bad_line.ensures.adds c.requires

pub returns-in-Err-NotRead-clause-adds : goal.returns-in-Err-NotRead-clause-adds
returns-in-Err-NotRead-clause-adds c =
    let e : c.args.end ≡ Err NotRead = c.in-Err-NotRead.is ∙ ap Err (rw c.in-Err-NotRead.is at c.in-Err-NotRead.field-0-is) in
    ends_quiet c.args.end c.args.card c.args.out.now.buf.now c.args.out.now.at (ap (λ (d : Ending). end_text d c.args.card) e) c.requires

pub returns-in-Err-NotWritten-clause-adds : goal.returns-in-Err-NotWritten-clause-adds
returns-in-Err-NotWritten-clause-adds c =
    let e : c.args.end ≡ Err NotWritten = c.in-Err-NotWritten.is ∙ ap Err (rw c.in-Err-NotWritten.is at c.in-Err-NotWritten.field-0-is) in
    ends_quiet c.args.end c.args.card c.args.out.now.buf.now c.args.out.now.at (ap (λ (d : Ending). end_text d c.args.card) e) c.requires
