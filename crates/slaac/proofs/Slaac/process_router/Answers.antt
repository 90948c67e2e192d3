use Rattle.slaac.proofs.LearnedLaws.{router_added, router_expired}
use Rattle.slaac.proofs.Slaac.process_router.Goals as goal

pub returns-then-lifetime-gt0 : goal.returns-then-lifetime-gt0
returns-then-lifetime-gt0 c = router_added _ _ _ _ _ _ c.if-lifetime-gt0.true c.add-valid_until.ensures c.add_router.ensures

pub returns : goal.returns
returns c = router_expired _ _ _ _ _ c.if-lifetime-gt0.false c.expire_router.ensures
