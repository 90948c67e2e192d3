use Rattle.std.proofs.Common.{arith, rules, sym, ◌∙◌, ◌≡◌, ◌<◌, length}
use Rattle.neighbor.specs.CacheCalls.{key}
use Rattle.pending.proofs.Calls.{placed_below, release_none, released}
use Rattle.pending.specs.QueueRules.{has_key}
use Rattle.pending.proofs.PendingQueue.release.Goals as goal
use borrow.Author.Tests.{tests}

pub offset_bounds-self-place : goal.offset_bounds-self-place
offset_bounds-self-place c =
    let below : c.in-Some.place < c.count_of-count.result = placed_below _ c.args.self.slots c.count_of-count.result (sym c.in-Some.is ∙ c.position-found.ensures (has_key (key c.args.iface c.args.addr)) (λ x b k. search (rules, tests))) in
    omega (arith, below, c.count_of-count.ensures)

pub bounds-self-place : goal.bounds-self-place
bounds-self-place c =
    let below : c.in-Some.place < c.count_of-count.result = placed_below _ c.args.self.slots c.count_of-count.result (sym c.in-Some.is ∙ c.position-found.ensures (has_key (key c.args.iface c.args.addr)) (λ x b k. search (rules, tests))) in
    omega (arith, below, c.count_of-count.ensures)

pub remove-requires : goal.remove-requires
remove-requires c =
    let below : c.in-Some.place < c.count_of-count.result = placed_below _ c.args.self.slots c.count_of-count.result (sym c.in-Some.is ∙ c.position-found.ensures (has_key (key c.args.iface c.args.addr)) (λ x b k. search (rules, tests))) in
    (below, omega (arith, c.count_of-count.ensures))

pub overflow_sub-self : goal.overflow_sub-self
overflow_sub-self c =
    let below : c.in-Some.place < c.count_of-count.result = placed_below _ c.args.self.slots c.count_of-count.result (sym c.in-Some.is ∙ c.position-found.ensures (has_key (key c.args.iface c.args.addr)) (λ x b k. search (rules, tests))) in
    omega (arith, below, c.count_of-count.ensures)

pub returns-in_default-found : goal.returns-in_default-found
returns-in_default-found c =
    let full : length c.args.self.slots ≡ 8 = omega arith in
    release_none c.args.self c.args.iface c.args.addr c.count_of-count.result full c.count_of-count.ensures (sym c.check_iface.ensures.is ∙ c.in_default.is)
    (sym c.in_default-found.is ∙ c.position-found.ensures (has_key (key c.args.iface c.args.addr)) (λ x b k. search (rules, tests)))

pub returns : goal.returns
returns c =
    let full : length c.args.self.slots ≡ 8 = omega arith in
    rw c.remove.ensures
    (released c.args.self c.args.iface c.args.addr c.count_of-count.result full c.count_of-count.ensures (sym c.check_iface.ensures.is ∙ c.in_default.is)
    c.in-Some.place (sym c.in-Some.is ∙ c.position-found.ensures (has_key (key c.args.iface c.args.addr)) (λ x b k. search (rules, tests))))
