use Rattle.std.proofs.Common.{rules, refl, sym, ◌∙◌, arith}
use Rattle.iface.proofs.Routes.{add_duplicate, add_full, add_end}
use Rattle.iface.proofs.route.Routes.add_route.Goals as goal

pub returns-then-is_some : goal.returns-then-is_some
returns-then-is_some c =
    add_duplicate c.args.self _ c.args.cidr c.args.via_router _ c.check_prefix.ensures c.in_default.is _ (search rules) refl _ c.place_of.ensures (sym c.is_some.ensures ∙ c.if-is_some.true)

pub returns-then-count-eq-ROUTE_COUNT : goal.returns-then-count-eq-ROUTE_COUNT
returns-then-count-eq-ROUTE_COUNT c =
    add_full c.args.self _ c.args.cidr c.args.via_router _ c.check_prefix.ensures c.in_default.is _ (search rules) c.count_of-count.ensures _ c.place_of.ensures (sym c.is_some.ensures ∙ c.if-is_some.false)
    c.if-count-eq-ROUTE_COUNT.true

pub returns : goal.returns
returns c =
    add_end c.args.self _ c.args.cidr c.args.via_router _ c.check_prefix.ensures c.in_default.is _ (search rules) c.count_of-count.ensures _ c.place_of.ensures _ c.manual.ensures
    (sym c.is_some.ensures ∙ c.if-is_some.false) (omega (arith, c.count_of-count.ensures, c.if-count-eq-ROUTE_COUNT.false))
