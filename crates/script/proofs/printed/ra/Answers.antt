use Rattle.std.proofs.Common.{sym, ap, ◌∙◌, Ok}
use Rattle.script.specs.PrintedRules.{ra_text}
use Rattle.text.proofs.PlaceLaws.{put_as, put_none}
use Rattle.script.proofs.printed.ra.Goals as goal

pub returns-in-Ok-Done-clause-adds : goal.returns-in-Ok-Done-clause-adds
returns-in-Ok-Done-clause-adds c = put_as (ap (ra_text c.args.time) (sym (c.in-Ok-Done.is ∙ ap Ok (rw c.in-Ok-Done.is at c.in-Ok-Done.field-0-is)))) (put_none _ _)
