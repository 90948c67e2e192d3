use Rattle.slaac.proofs.DiscoveryLaws.{sent_last, sent_more}
use Rattle.slaac.proofs.Discovery.rs_sent.Goals as goal

pub returns-then-left-eq0 : goal.returns-then-left-eq0
returns-then-left-eq0 c = sent_last _ _ _ c.add-retry_rs_at.ensures c.if-left-eq0.true

pub returns-else-left-eq0 : goal.returns-else-left-eq0
returns-else-left-eq0 c = sent_more _ _ _ _ c.add-retry_rs_at.ensures c.if-left-eq0.false c.scheduled-clock.ensures
