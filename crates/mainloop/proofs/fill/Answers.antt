use Rattle.std.proofs.Common.{refl, ◌∙◌}
use Rattle.mainloop.proofs.LoopLaws.{fill_refused, fill_done}
use Rattle.mainloop.proofs.fill.Goals as goal

pub returns-in-Err : goal.returns-in-Err
returns-in-Err c =
    c.not_taken.ensures ∙ fill_refused c.args.card c.args.addr c.args.hardware_addr c.args.timestamp c.fill-change.result c.fill-change.ensures c.in-Err.why c.in-Err.is
    _ refl

pub returns-in-Ok : goal.returns-in-Ok
returns-in-Ok c =
    fill_done c.args.card c.args.addr c.args.hardware_addr c.args.timestamp c.fill-change.result c.fill-change.ensures c.in-Ok.is
    c.release_all-released.result c.release_all-released.ensures
