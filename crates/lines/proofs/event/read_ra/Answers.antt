use Rattle.std.proofs.Common.{sym}
use Rattle.lines.proofs.LineLaws.{ra_none, ra_good}
use Rattle.lines.proofs.event.read_ra.Goals as goal

pub returns-in_err-len : goal.returns-in_err-len
returns-in_err-len c = rw c.from_residual-in_err-len.ensures (ra_none c.args.rest.now c.args.message.now _ _ c.in_ok-addr.ensures.is c.in_ok-source.source (sym c.in_ok-source.ensures) _ _ c.read_message.ensures c.in_err-len.was)

pub returns : goal.returns
returns c = ra_good c.args.rest.now c.args.message.now _ _ c.in_ok-addr.ensures.is c.in_ok-source.source (sym c.in_ok-source.ensures) _ _ c.in_ok-len.len c.read_message.ensures c.in_ok-len.was
