use Rattle.std.proofs.Common.{List, ℕ, take}
use Rattle.text.specs.Gathered.{Adds, IsSameBuffer}
use Rattle.report.specs.AnswerLines.{each_line}
use Rattle.report.specs.StateLines.{PutsFields, KeepsBuffer, ended}
use Rattle.report.proofs.listing.section.Given as goal

abbrev pub invariant-loop-entry : goal.invariant-loop-entry
invariant-loop-entry g l =
    ((text : g.row.T.Denot → List ℕ) → PutsFields (λ t e t'. goal.F-post g l.fields t e tt t') text
    → Adds l.initial.out (each_line (ended text) (take l.entry-index l.entry-items)) l.out)
    × (KeepsBuffer (λ t e t'. goal.F-post g l.fields t e tt t') → IsSameBuffer l.initial.out l.out)
