use Rattle.std.proofs.Common.{rules, sym, ◌∙◌}
use Rattle.neighbor.proofs.Calls.{change_done, cleared}
use Rattle.neighbor.specs.NeighborRules.{on_iface}
use Rattle.neighbor.specs.CacheCalls.{clear_in}
use Rattle.neighbor.proofs.NeighborCache.clear_iface.Goals as goal

pub returns : goal.returns
unfolding on_iface
returns c =
    let k = c.retain.ensures (on_iface c.args.iface) (λ x b h. search rules) in
    change_done _ c.args.self (clear_in c.args.self c.args.iface) (sym c.check_iface.ensures.is ∙ c.in_default.is) (cleared c.args.self c.args.iface _ (search rules) c.count_of-count.ensures k)
