use Rattle.script.proofs.CardLaws.{listed}
use Rattle.script.proofs.card.Card.list.Goals as goal

pub returns-clause-lists : goal.returns-clause-lists
returns-clause-lists c = listed c.args.self c.prefixes.ensures.prints c.routers.ensures.prints c.addresses.ensures.prints c.routes.ensures.prints c.neighbors.ensures.prints
