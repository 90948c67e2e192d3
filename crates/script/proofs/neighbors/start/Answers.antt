use Rattle.script.proofs.CardLaws.{start_done}
use Rattle.script.proofs.neighbors.start.Goals as goal

pub returns-clause-cached : goal.returns-clause-cached
returns-clause-cached c = start_done c.args.cache c.args.time c.args.addr c.start_resolution-left.result c.start_resolution-left.ensures c.change.ensures.adds
