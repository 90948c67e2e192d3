use Rattle.std.proofs.Common.{refl}
use Rattle.slaac.proofs.DiscoveryLaws.{due_none, due_phase_lem}
use Rattle.slaac.proofs.Discovery.rs_required.Goals as goal

pub returns-then-self-eq0 : goal.returns-then-self-eq0
returns-then-self-eq0 c = due_none _ _ c.if-self-eq0.true

pub returns-in-Start : goal.returns-in-Start
returns-in-Start c = due_phase_lem _ _ _ _ c.if-self-eq0.false c.in-Start.is refl

pub returns-in-Discovering : goal.returns-in-Discovering
returns-in-Discovering c = due_phase_lem _ _ _ _ c.if-self-eq0.false c.in-Discovering.is c.asked.ensures

pub returns-in-Maintaining : goal.returns-in-Maintaining
returns-in-Maintaining c = due_phase_lem _ _ _ _ c.if-self-eq0.false c.in-Maintaining.is refl
