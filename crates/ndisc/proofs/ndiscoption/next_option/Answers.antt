use Rattle.std.proofs.Common.{arith}
use Rattle.ndisc.proofs.Walks.{check_well, check_refused, next_end, next_malformed, next_step}
use Rattle.ndisc.proofs.ndiscoption.next_option.Goals as goal

pub returns-then-msg-at : goal.returns-then-msg-at
returns-then-msg-at c = next_end c.args.msg.now c.args.at (omega arith)

pub returns-in-Refused : goal.returns-in-Refused
returns-in-Refused c =
    next_malformed c.args.msg.now c.args.at (omega arith)
    (check_refused c.args.msg.now c.args.at _ c.check_option.ensures.is c.in-Refused.is)

pub returns-in-Well : goal.returns-in-Well
returns-in-Well c = next_step c.args.msg.now c.args.at _ _ (check_well c.args.msg.now c.args.at _ _ c.check_option.ensures.is c.in-Well.is)
