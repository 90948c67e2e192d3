use Rattle.std.proofs.Common.{refl, ap, Some, None, ◌∙◌}
use Rattle.script.proofs.StepLaws.{still, of_address}
use Rattle.script.specs.declared.reading.Said.TheVariants.{Mac, Next}
use Rattle.script.specs.declared.reading.Said.{Said}
use Rattle.script.proofs.card.Card.apply.Goals as goal

pub returns-in-None-clause-stepped : goal.returns-in-None-clause-stepped
returns-in-None-clause-stepped c = still c.args.self c.args.said c.args.message.now None _ _ c.in-None.is refl

pub returns-in-Some-Mac-clause-stepped : goal.returns-in-Some-Mac-clause-stepped
returns-in-Some-Mac-clause-stepped c =
    still c.args.self c.args.said c.args.message.now (Some (Mac _)) _ _
    (c.in-Some-Mac.is ∙ ap (λ (s : Said). Some s) (rw c.in-Some-Mac.is at c.in-Some-Mac.field-0-is)) refl

pub returns-in-Some-Next-clause-stepped : goal.returns-in-Some-Next-clause-stepped
returns-in-Some-Next-clause-stepped c =
    still c.args.self c.args.said c.args.message.now (Some (Next _)) _ _
    (c.in-Some-Next.is ∙ ap (λ (s : Said). Some s) (rw c.in-Some-Next.is at c.in-Some-Next.field-0-is)) refl

pub returns-in-Some-Static-clause-stepped : goal.returns-in-Some-Static-clause-stepped
returns-in-Some-Static-clause-stepped c =
    of_address c.args.self c.args.said c.args.message.now _ _ _
    (c.in-Some-Static.is ∙ ap (λ (s : Said). Some s) (rw c.in-Some-Static.is at c.in-Some-Static.field-0-is)) c.add_address.ensures
