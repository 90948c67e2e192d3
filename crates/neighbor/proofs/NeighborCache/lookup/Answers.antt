use Rattle.std.specs.Prelude.{Ok}
use Rattle.std.proofs.Common.{ap, sym, ◌∙◌}
use Rattle.neighbor.proofs.Calls.{looked, of_place, of_none}
use Rattle.neighbor.specs.CacheCalls.{blank, answer_in}
use Rattle.neighbor.specs.declared.Answer.TheVariants.{NotFound}
use Rattle.neighbor.proofs.NeighborCache.lookup.Goals as goal

pub returns-in-Some : goal.returns-in-Some
returns-in-Some c = looked c.args.self c.args.iface c.args.addr _ (sym c.check_key.ensures.is ∙ c.in_ok-check_key.was) (ap Ok c.answer.ensures ∙ of_place blank _ answer_in (Ok NotFound) _ _ _ c.in-Some.ensures.place)

pub returns-in-None : goal.returns-in-None
returns-in-None c = looked c.args.self c.args.iface c.args.addr _ (sym c.check_key.ensures.is ∙ c.in_ok-check_key.was) (of_none blank _ answer_in (Ok NotFound) _ c.in-None.ensures.place)
