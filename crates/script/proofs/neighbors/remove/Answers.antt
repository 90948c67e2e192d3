use Rattle.script.proofs.CardLaws.{remove_done}
use Rattle.script.proofs.neighbors.remove.Goals as goal

pub returns : goal.returns
returns c = remove_done c.args.cache c.args.addr c.remove.result c.remove.ensures
