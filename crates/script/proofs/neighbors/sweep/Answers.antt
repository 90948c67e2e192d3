use Rattle.script.proofs.CardLaws.{sweep_done}
use Rattle.script.proofs.neighbors.sweep.Goals as goal

pub returns-clause-cached : goal.returns-clause-cached
returns-clause-cached c = sweep_done c.args.cache c.args.time c.new.result c.sweep_at-left.result c.new.ensures c.sweep_at-left.ensures c.sweep.ensures.prints
