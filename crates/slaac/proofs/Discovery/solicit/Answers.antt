use Rattle.slaac.proofs.DiscoveryLaws.{asked_left, turn_sent, turn_early}
use Rattle.slaac.proofs.Discovery.solicit.Goals as goal

pub rs_sent-requires : goal.rs_sent-requires
rs_sent-requires c = asked_left _ _ _ c.rs_required-required.ensures c.if-required.true

pub returns-then-required : goal.returns-then-required
returns-then-required c = turn_sent _ _ _ c.rs_required-required.ensures _ c.if-required.true c.rs_sent.ensures

pub returns : goal.returns
returns c = turn_early _ _ _ c.rs_required-required.ensures c.if-required.false
