use Rattle.std.proofs.Common.{refl}
use Rattle.script.proofs.StepLaws.{step_done}
use Rattle.script.proofs.card.Card.step.Goals as goal

pub returns-clause-step : goal.returns-clause-step
returns-clause-step c = step_done c.args.want c.args.self c.args.line.now _ _ _ _ refl c.read_line-said.ensures c.apply.ensures.stepped
