use Rattle.std.specs.Prelude.{Result}
use Rattle.wire.specs.declared.error.Refusal.{Refusal}
use Rattle.std.proofs.Common.{sym, ap}
use Rattle.script.proofs.PrintedLaws.{sweep_refused, printed_as}
use Rattle.script.specs.PrintedRules.{sweep_text}
use Rattle.script.proofs.printed.sweep.Goals as goal

pub returns-in-Err-clause-prints : goal.returns-in-Err-clause-prints
returns-in-Err-clause-prints c = printed_as (ap (λ (o : Result (Unit {0}) Refusal). sweep_text c.args.time o c.args.events) (sym c.in-Err.is)) (sweep_refused c.args.time c.number.result c.in-Err.why c.args.events c.number.ensures c.refused.ensures.adds)
