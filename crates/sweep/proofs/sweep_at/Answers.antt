use Rattle.sweep.specs.SweepCalls.{events_table}
use Rattle.std.proofs.Common.{refl, sym, ◌∙◌}
use Rattle.sweep.proofs.ExpiryLaws.{store, keep}
use Rattle.sweep.proofs.ProbeLaws.{probing, stepped_over, failed, retransmitted}
use Rattle.sweep.proofs.SweepLaws.{refused, swept, both}
use Rattle.sweep.proofs.sweep_at.Goals.{in-Some, in_default-expire_state}
use Rattle.sweep.proofs.sweep_at.Goals as goal

pub returns-in-Err : goal.returns-in-Err
unfolding events_table
returns-in-Err c = rw c.new-events.ensures (refused c.args.cache c.args.clock c.args.iface _ (sym c.in-Err.is ∙ c.check_time.ensures.is))

pub loop-i-preserved : goal.loop-i-preserved
loop-i-preserved c =
    elim c.match-expire_state.branch [
      | in-Some w ↦ rw w.cache-is (store _ _ _ _ _ _ c.loop-i.invariant c.loop-i-test.true _ c.expire_state.ensures _ c.expire_clock-clock.ensures _ w.in-Some.ensures.state)
      | in_default-expire_state w ↦ rw w.cache-is (keep _ _ _ _ _ _ c.loop-i.invariant c.loop-i-test.true _ c.expire_state.ensures _ c.expire_clock-clock.ensures w.in_default-expire_state.is)
    ]

pub loop-place-init : goal.loop-place-init
unfolding events_table
loop-place-init c = rw c.new-events.ensures (probing c.args.iface _ _ _ _ c.loop-i.invariant.entry_wise.full c.loop-i.invariant.entry_wise.most refl)

pub loop-place-preserved-in-NotDue : goal.loop-place-preserved-in-NotDue
loop-place-preserved-in-NotDue c = stepped_over _ _ _ _ _ _ _ _ _ _ _ c.loop-place.invariant c.loop-place-test.true (sym c.advance.ensures ∙ c.in-NotDue.is)

pub loop-place-preserved-in-Spent : goal.loop-place-preserved-in-Spent
loop-place-preserved-in-Spent c = rw c.push.ensures (failed _ _ _ _ _ _ _ _ _ _ _ c.loop-place.invariant c.loop-place-test.true (sym c.advance.ensures ∙ c.in-Spent.is))

pub loop-place-preserved : goal.loop-place-preserved
loop-place-preserved c = rw c.push-in-Rearmed.ensures (retransmitted _ _ _ _ _ _ _ _ _ _ _ c.loop-place.invariant c.loop-place-test.true _ (sym c.advance.ensures ∙ c.in-Rearmed.is))

pub returns : goal.returns
returns c =
    swept c.args.cache c.args.clock c.args.iface (sym c.in_default.is ∙ c.check_time.ensures.is) _
    (both c.args.cache c.args.clock c.args.iface _ _ _ _ c.loop-i.invariant c.loop-i-test.false _ _ _ _ _ _ c.loop-place.invariant c.loop-place-test.false) refl
