use Rattle.script.proofs.CardLaws.{fill_done}
use Rattle.script.proofs.neighbors.fill.Goals as goal

pub returns-clause-cached : goal.returns-clause-cached
returns-clause-cached c = fill_done c.args.cache c.args.time c.args.addr c.args.hardware_addr c.fill-left.result c.fill-left.ensures c.change.ensures.adds
