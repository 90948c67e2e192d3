use Rattle.std.proofs.Common.{rules, sym, ◌∙◌}
use Rattle.neighbor.proofs.Calls.{remove_none, removed}
use Rattle.neighbor.proofs.NeighborCache.remove.Goals as goal

pub returns-in_default-find : goal.returns-in_default-find
returns-in_default-find c = remove_none c.args.self c.args.iface c.args.addr (sym c.check_iface.ensures.is ∙ c.in_default.is) c.in_default-find.ensures.place

pub returns : goal.returns
returns c = removed c.args.self c.args.iface c.args.addr (sym c.check_iface.ensures.is ∙ c.in_default.is) _ _ _ (search rules) c.count_of-count.ensures c.in-Some.ensures.place c.listed-taken.ensures
