use Rattle.std.proofs.Common.{take}
use Rattle.text.specs.Gathered.{Adds, IsSameBuffer}
use Rattle.report.specs.AnswerLines.{each_line, probe_line}
use Rattle.report.proofs.answer.probes.Given as goal

abbrev pub invariant-loop-event : goal.invariant-loop-event
invariant-loop-event l =
    Adds l.initial.out (each_line (probe_line l.time) (take l.event-index l.event-items)) l.out × IsSameBuffer l.initial.out l.out
