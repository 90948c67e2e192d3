use Rattle.std.proofs.Common.{rules, arith, length, refl, ◌≡◌, ◌∙◌}
use Rattle.sweep.specs.SweepCalls.{blank_event}
use Rattle.report.proofs.Lengths.{probes_short}
use Rattle.report.proofs.ListingLaws.{one_listed, all_listed, few}
use Rattle.report.specs.AnswerLines.{probe_line, probe_lines}
use Rattle.table.proofs.Laws.{mapped}
use Rattle.text.proofs.PlaceLaws.{put_none}
use Rattle.report.proofs.answer.probes.Goals as goal

pub loop-event-init : goal.loop-event-init
loop-event-init c = (put_none _ _, refl)

pub loop-event-preserved : goal.loop-event-preserved
loop-event-preserved c = (
  one_listed blank_event _ _ _ c.loop-event-test.true c.loop-event.invariant.0 c.probe.ensures.adds,
  c.probe.ensures.same_buffer ∙ c.loop-event.invariant.1,
)

pub returns-clause-prints : goal.returns-clause-prints
unfolding probe_lines
returns-clause-prints c =
    let v = c.args.events in
    let full : length v.slots ≡ 16 = search (rules, mapped) in
    record {
      put = all_listed (probe_line c.args.time) v.slots v.len c.count_of-count.result c.loop-event.event-index (omega arith) c.loop-event-test.false c.loop-event.invariant.0;
      short = probes_short c.args.time v (few v.slots v.len 16 full);
    }
