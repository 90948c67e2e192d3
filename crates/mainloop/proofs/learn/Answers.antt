use Rattle.std.proofs.Common.{refl, ◌∙◌, ap, Ok}
use mathlib.Core.Logic.{⊎_elim}
use Rattle.mainloop.proofs.LoopLaws.{learn_refused, learn_none, learn_pending, learn_known}
use Rattle.mainloop.proofs.learn.Goals as goal

pub returns-in-Err : goal.returns-in-Err
returns-in-Err c =
    c.not_taken.ensures ∙ learn_refused c.args.card c.args.addr c.args.hardware_addr c.args.timestamp c.lookup.result c.lookup.ensures c.in-Err.why c.in-Err.is
    _ refl

pub returns-in-NotFound : goal.returns-in-NotFound
returns-in-NotFound c =
    learn_none c.args.card c.args.addr c.args.hardware_addr c.args.timestamp c.lookup.result c.lookup.ensures (c.in-Ok.is ∙ ap Ok c.in-NotFound.is)
    c.new.result c.new.ensures

pub returns-in-Pending : goal.returns-in-Pending
returns-in-Pending c =
    ⊎_elim
    (λ pending. learn_pending c.args.card c.args.addr c.args.hardware_addr c.args.timestamp c.lookup.result c.lookup.ensures (c.in-Ok.is ∙ ap Ok pending) c.fill.result
    c.fill.ensures)
    (λ found. learn_known c.args.card c.args.addr c.args.hardware_addr c.args.timestamp c.lookup.result c.lookup.ensures found.0 (c.in-Ok.is ∙ ap Ok found.1) c.fill.result
    c.fill.ensures)
    c.in-Pending.is
