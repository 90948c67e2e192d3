use Rattle.std.proofs.Common.{sym, ap}
use Rattle.script.specs.PrintedRules.{change_text}
use Rattle.text.proofs.PlaceLaws.{put_as, put_none}
use Rattle.script.proofs.printed.change.Goals as goal

pub returns-in_default-clause-adds : goal.returns-in_default-clause-adds
returns-in_default-clause-adds c = put_as (ap (change_text c.args.time) (sym c.in_default.is)) (put_none _ _)
