use Rattle.std.proofs.Common.{◌∙◌}
use Rattle.table.proofs.Calls.{moved_down}
use Rattle.table.proofs.remove.Goals as goal

pub returns : goal.returns
returns g c = c.copy_within.ensures.after ∙ moved_down c.args.slots.now c.args.len c.args.at c.requires.0 c.requires.1
