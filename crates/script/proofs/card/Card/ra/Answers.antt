use Rattle.script.proofs.CardLaws.{ra_done}
use Rattle.script.proofs.card.Card.ra.Goals as goal

pub returns-clause-carried : goal.returns-clause-carried
returns-clause-carried c = ra_done c.args.self c.args.time c.args.source c.args.message.now c.process_advertisement-heard.result c.process_advertisement-heard.ensures c.ra.ensures.adds
