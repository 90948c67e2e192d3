use borrow.Author.Tests.{not-false, not-true}
use Rattle.autoconf.proofs.PollLaws.{turn_none, turn_early, turn_sent, turn_full, down, nowhere, somewhere}
use Rattle.autoconf.proofs.ndisc_rs_egress.Goals as goal

pub returns-then-not-up : goal.returns-then-not-up
returns-then-not-up c = turn_none _ _ _ _ _ (down c.args.up c.args.source c.if-not-up.true)

pub returns-in_default : goal.returns-in_default
returns-in_default c = turn_none _ _ _ _ _ (nowhere c.args.up c.args.source c.in_default.is)

pub returns-in-NoRoom : goal.returns-in-NoRoom
returns-in-NoRoom c =
    turn_full _ _ _ _ _ _ (somewhere c.args.up c.args.source _ c.if-not-up.false c.in-Some.is) _ c.solicit-solicitation.ensures (not-false _ c.if-not-solicitation.false) _ _
    c.write_solicit.ensures c.in-NoRoom.is

pub returns-in-Written : goal.returns-in-Written
returns-in-Written c =
    turn_sent _ _ _ _ _ _ (somewhere c.args.up c.args.source _ c.if-not-up.false c.in-Some.is) _ c.solicit-solicitation.ensures (not-false _ c.if-not-solicitation.false) _ _
    c.write_solicit.ensures c.in-Written.is

pub returns-then-not-solicitation : goal.returns-then-not-solicitation
returns-then-not-solicitation c = turn_early _ _ _ _ _ _ (somewhere c.args.up c.args.source _ c.if-not-up.false c.in-Some.is) _ c.solicit-solicitation.ensures (not-true _ c.if-not-solicitation.true)
