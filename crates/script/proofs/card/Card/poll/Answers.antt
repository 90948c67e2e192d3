use Rattle.std.proofs.Common.{rules}
use Rattle.script.proofs.CardLaws.{poll_done}
use Rattle.script.proofs.card.Card.poll.Goals as goal

pub returns-clause-carried : goal.returns-clause-carried
returns-clause-carried c = poll_done c.args.self c.args.time c.new.result c.poll_at.result _ c.new.ensures c.poll_at.ensures (search rules) c.poll.ensures.adds
