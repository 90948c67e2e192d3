use Rattle.std.proofs.Common.{sym, ap, ◌∙◌, Ok}
use Rattle.std.specs.Prelude.{Result}
use Rattle.autoconf.specs.declared.PollAnswer.{PollAnswer}
use Rattle.script.specs.PrintedRules.{poll_text}
use Rattle.text.proofs.PlaceLaws.{put_as, put_none}
use Rattle.wire.specs.declared.error.Refusal.{Refusal}
use Rattle.script.proofs.printed.poll.Goals as goal

pub returns-in-Ok-Quiet-clause-adds : goal.returns-in-Ok-Quiet-clause-adds
returns-in-Ok-Quiet-clause-adds c =
    let e = c.in-Ok-Quiet.is ∙ ap Ok (rw c.in-Ok-Quiet.is at c.in-Ok-Quiet.field-0-is) in
    put_as (ap (λ (a : Result PollAnswer Refusal). poll_text c.args.time a c.args.message.now) (sym e)) (put_none _ _)

pub returns-in-Ok-NoRoom-clause-adds : goal.returns-in-Ok-NoRoom-clause-adds
returns-in-Ok-NoRoom-clause-adds c =
    let e = c.in-Ok-NoRoom.is ∙ ap Ok (rw c.in-Ok-NoRoom.is at c.in-Ok-NoRoom.field-0-is) in
    put_as (ap (λ (a : Result PollAnswer Refusal). poll_text c.args.time a c.args.message.now) (sym e)) (put_none _ _)
