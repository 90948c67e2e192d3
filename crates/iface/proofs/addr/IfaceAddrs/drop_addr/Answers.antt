use Rattle.std.proofs.Common.{rules, sym, ◌∙◌, ◌<◌, arith}
use Rattle.iface.proofs.Addresses.{drop_at, drop_out, drop_stays, drop_none}
use Rattle.iface.proofs.addr.IfaceAddrs.drop_addr.Goals as goal

pub offset_bounds-self-at : goal.offset_bounds-self-at
offset_bounds-self-at c =
    let l : c.in-Some.at < c.count_of-count.result = drop_at c.args.self c.args.cidr _ (search rules) c.count_of-count.ensures _ (sym c.place_of.ensures ∙ c.in-Some.is) in
    search rules

pub bounds-self-at : goal.bounds-self-at
bounds-self-at c =
    let l : c.in-Some.at < c.count_of-count.result = drop_at c.args.self c.args.cidr _ (search rules) c.count_of-count.ensures _ (sym c.place_of.ensures ∙ c.in-Some.is) in
    search rules

pub remove-requires : goal.remove-requires
remove-requires c =
    let l : c.in-Some.at < c.count_of-count.result = drop_at c.args.self c.args.cidr _ (search rules) c.count_of-count.ensures _ (sym c.place_of.ensures ∙ c.in-Some.is) in
    search rules

pub overflow_sub-addrs : goal.overflow_sub-addrs
overflow_sub-addrs c =
    let l : c.in-Some.at < c.count_of-count.result = drop_at c.args.self c.args.cidr _ (search rules) c.count_of-count.ensures _ (sym c.place_of.ensures ∙ c.in-Some.is) in
    omega arith

pub returns-then-is_slaac : goal.returns-then-is_slaac
returns-then-is_slaac c =
    drop_out c.args.self c.args.cidr _ (search rules) c.count_of-count.ensures _ (sym c.place_of.ensures ∙ c.in-Some.is) _ (search rules) c.remove.ensures

pub returns-else-is_slaac : goal.returns-else-is_slaac
returns-else-is_slaac c =
    drop_stays c.args.self c.args.cidr _ (search rules) c.count_of-count.ensures _ (sym c.place_of.ensures ∙ c.in-Some.is) (search rules)

pub returns-in_default : goal.returns-in_default
returns-in_default c = drop_none c.args.self c.args.cidr _ (search rules) c.count_of-count.ensures (sym c.place_of.ensures ∙ c.in_default.is)
