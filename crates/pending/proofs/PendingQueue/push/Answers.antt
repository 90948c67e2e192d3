use Rattle.std.proofs.Common.{arith, refl, sym, ◌∙◌, ◌≡◌, length}
use Rattle.pending.proofs.Calls.{pushed, push_room, push_queued, push_full, push_dropped}
use Rattle.pending.specs.QueueCalls.{blank}
use Rattle.pending.proofs.PendingQueue.push.Goals as goal

pub returns-then-count-lt-PENDING_QUEUE_COUNT : goal.returns-then-count-lt-PENDING_QUEUE_COUNT
returns-then-count-lt-PENDING_QUEUE_COUNT c =
    let full : length c.args.self.slots ≡ 8 = omega arith in
    pushed c.args.self c.args.iface c.args.addr c.args.handle _ _ _ (sym c.check_iface.ensures.is ∙ c.in_default.is)
    (push_room _ c.args.self.slots c.args.self.len c.count_of-count.result full c.count_of-count.ensures (omega arith))
    (push_queued blank c.args.self.slots c.args.self.len c.count_of-count.result full c.count_of-count.ensures (omega arith)) refl

pub returns : goal.returns
returns c =
    let full : length c.args.self.slots ≡ 8 = omega arith in
    rw c.copy_within.ensures.after (pushed c.args.self c.args.iface c.args.addr c.args.handle _ _ _ (sym c.check_iface.ensures.is ∙ c.in_default.is)
    (push_full _ c.args.self.slots c.args.self.len c.count_of-count.result full c.count_of-count.ensures (omega arith))
    (push_dropped blank c.args.self.slots c.args.self.len c.count_of-count.result full c.count_of-count.ensures (omega arith)) refl)
