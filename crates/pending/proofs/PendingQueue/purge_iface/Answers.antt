use Rattle.std.proofs.Common.{rules, sym, ◌∙◌}
use Rattle.pending.proofs.Calls.{purged_iface}
use Rattle.pending.specs.QueueRules.{on_iface}
use Rattle.pending.proofs.PendingQueue.purge_iface.Goals as goal
use borrow.Author.Tests.{tests}

pub returns : goal.returns
unfolding on_iface
returns c =
    purged_iface c.args.self c.args.iface _ (sym c.check_iface.ensures.is ∙ c.in_default.is)
    (c.purge-len.ensures (on_iface c.args.iface) (λ x b k. search (rules, tests)))
