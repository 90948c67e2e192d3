use Rattle.std.proofs.Common.{◌∙◌, arith}
use Rattle.ndisc.proofs.Walks.{check_well, check_refused, walked_end, walked_stop, walked_step, walks}
use Rattle.ndisc.proofs.ndiscoption.check_options.Goals as goal

pub loop-at-preserved : goal.loop-at-preserved
loop-at-preserved c =
    let msg = c.args.msg.now in
    let at = c.loop-at.at in
    c.loop-at.invariant ∙ walked_step msg at _ _ (check_well msg at _ _ c.check_option.ensures.is c.in-Well.is)

pub returns-then-msg-at : goal.returns-then-msg-at
returns-then-msg-at c =
    walks c.args.msg.now c.args.from (c.loop-at.invariant ∙ walked_end c.args.msg.now c.loop-at.at (omega arith))

pub returns-in-Refused : goal.returns-in-Refused
returns-in-Refused c =
    let msg = c.args.msg.now in
    let at = c.loop-at.at in
    let m = check_refused msg at _ c.check_option.ensures.is c.in-Refused.is in
    walks msg c.args.from (c.loop-at.invariant ∙ walked_stop msg at (omega arith) m)
