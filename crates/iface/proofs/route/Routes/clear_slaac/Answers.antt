use Rattle.std.proofs.Common.{rules}
use Rattle.iface.proofs.Routes.{routes_cleared}
use Rattle.iface.specs.RouteRules.{is_learned}
use Rattle.iface.proofs.route.Routes.clear_slaac.Goals as goal

pub returns : goal.returns
returns c = routes_cleared c.args.self _ _ (search rules) c.count_of-count.ensures _ _ (c.retain.ensures (is_learned c.args.iface) (λ x b k. search rules))
