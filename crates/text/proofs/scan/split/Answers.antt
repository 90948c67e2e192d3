use Rattle.std.proofs.Common.{Some, None}
use Rattle.text.proofs.FieldLaws.{found, alone, more_fields}
use Rattle.text.proofs.scan.split.Goals as goal

pub returns-in_err-end-clause-is : goal.returns-in_err-end-clause-is
returns-in_err-end-clause-is c = rw c.from_residual.ensures (alone c.args.line.now (found c.args.line.now 32 None c.in_err-end.ensures))

pub returns-clause-is : goal.returns-clause-is
returns-clause-is c =
    more_fields c.args.line.now c.in_ok-end.end (found c.args.line.now 32 (Some c.in_ok-end.end) c.in_ok-end.ensures).0
    (found c.args.line.now 32 (Some c.in_ok-end.end) c.in_ok-end.ensures).1
