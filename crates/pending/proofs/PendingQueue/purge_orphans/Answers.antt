use Rattle.std.proofs.Common.{arith, rules, ◌≡◌, length}
use Rattle.neighbor.specs.CacheCalls.{entries}
use Rattle.pending.proofs.Calls.{purged_orphans, awaited_stays}
use Rattle.pending.specs.QueueRules.{orphaned}
use Rattle.pending.proofs.PendingQueue.purge_orphans.Goals as goal
use borrow.Author.Tests.{tests}

pub returns : goal.returns
returns c =
    let full : length c.args.cache.slots ≡ 16 = omega arith in
    purged_orphans c.args.self c.args.cache _
    (c.purge-len.ensures (orphaned (entries c.args.cache)) (λ x b k. awaited_stays c.args.cache c.count_of.result full c.count_of.ensures x b (search (rules, tests))))
