use Rattle.std.proofs.Common.{refl}
use Rattle.lines.specs.declared.event.Event.TheVariants.{Up, Down, Off}
use Rattle.script.proofs.CardLaws.{quiet, at_remove}
use Rattle.script.proofs.card.Card.carry_out.Goals as goal

pub returns-in-Up-clause-carried : goal.returns-in-Up-clause-carried
returns-in-Up-clause-carried c = quiet c.args.self c.args.time c.args.event c.args.message.now Up _ _ c.in-Up.is c.link_up.ensures refl

pub returns-in-Down-clause-carried : goal.returns-in-Down-clause-carried
returns-in-Down-clause-carried c = quiet c.args.self c.args.time c.args.event c.args.message.now Down _ _ c.in-Down.is refl refl

pub returns-in-Remove-clause-carried : goal.returns-in-Remove-clause-carried
returns-in-Remove-clause-carried c = at_remove c.args.self c.args.time c.args.event c.args.message.now _ c.in-Remove.is c.remove.ensures

pub returns-in-Off-clause-carried : goal.returns-in-Off-clause-carried
returns-in-Off-clause-carried c = quiet c.args.self c.args.time c.args.event c.args.message.now Off _ _ c.in-Off.is c.off.ensures refl
