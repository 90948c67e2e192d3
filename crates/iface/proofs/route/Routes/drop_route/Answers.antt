use Rattle.std.proofs.Common.{rules, sym, ◌∙◌, ◌<◌, arith}
use Rattle.iface.proofs.Routes.{drop_at, drop_out, drop_none}
use Rattle.iface.proofs.route.Routes.drop_route.Goals as goal

pub remove-requires : goal.remove-requires
remove-requires c =
    let l : c.in-Some.at < c.count_of-count.result = drop_at c.args.self c.args.iface c.args.via_router _ (search rules) c.count_of-count.ensures _ (sym c.place_installed.ensures ∙ c.in-Some.is) in
    search rules

pub overflow_sub-routes : goal.overflow_sub-routes
overflow_sub-routes c =
    let l : c.in-Some.at < c.count_of-count.result = drop_at c.args.self c.args.iface c.args.via_router _ (search rules) c.count_of-count.ensures _ (sym c.place_installed.ensures ∙ c.in-Some.is) in
    omega arith

pub returns-in-Some : goal.returns-in-Some
returns-in-Some c = drop_out c.args.self c.args.iface c.args.via_router _ (search rules) c.count_of-count.ensures _ (sym c.place_installed.ensures ∙ c.in-Some.is) _ c.remove.ensures

pub returns-in_default : goal.returns-in_default
returns-in_default c = drop_none c.args.self c.args.iface c.args.via_router _ (search rules) c.count_of-count.ensures (sym c.place_installed.ensures ∙ c.in_default.is)
