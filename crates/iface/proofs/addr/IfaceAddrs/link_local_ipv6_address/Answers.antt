use Rattle.std.proofs.Common.{rules, refl, sym, ◌∙◌, ◌<◌}
use Rattle.iface.proofs.Addresses.{local_below, local_found, local_none}
use Rattle.iface.proofs.addr.IfaceAddrs.link_local_ipv6_address.Goals as goal

pub offset_bounds-self-at : goal.offset_bounds-self-at
offset_bounds-self-at c =
    let l : c.in-Some.at < 8 = local_below c.args.self _ (search rules) refl _ (sym c.first_local.ensures ∙ c.in-Some.is) in
    search rules

pub bounds-self-at : goal.bounds-self-at
bounds-self-at c = local_below c.args.self _ (search rules) refl _ (sym c.first_local.ensures ∙ c.in-Some.is)

pub returns-in-Some : goal.returns-in-Some
returns-in-Some c = local_found c.args.self _ (search rules) refl _ (sym c.first_local.ensures ∙ c.in-Some.is)

pub returns-in-None : goal.returns-in-None
returns-in-None c = local_none c.args.self _ (search rules) refl (sym c.first_local.ensures ∙ c.in-None.is)
