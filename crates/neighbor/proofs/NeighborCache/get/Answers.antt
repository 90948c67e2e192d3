use Rattle.std.specs.Prelude.{Some, None, Ok}
use Rattle.std.proofs.Common.{ap, sym, ◌∙◌}
use Rattle.neighbor.proofs.Calls.{got, of_place, of_none}
use Rattle.neighbor.specs.CacheCalls.{blank, shown}
use Rattle.neighbor.proofs.NeighborCache.get.Goals as goal

pub returns-in-Some : goal.returns-in-Some
returns-in-Some c = got c.args.self c.args.iface c.args.addr _ (sym c.check_iface.ensures.is ∙ c.in_ok-check_iface.was) (ap (λ x. Ok (Some x)) c.listed.ensures ∙ of_place blank _ shown (Ok None) _ _ _ c.in-Some.ensures.place)

pub returns-in-None : goal.returns-in-None
returns-in-None c = got c.args.self c.args.iface c.args.addr _ (sym c.check_iface.ensures.is ∙ c.in_ok-check_iface.was) (of_none blank _ shown (Ok None) _ c.in-None.ensures.place)
