use Rattle.std.proofs.Common.{refl, ◌∙◌, ap, Ok}
use Rattle.mainloop.proofs.LoopLaws.{send_refused, send_known, send_waits, send_starts}
use Rattle.mainloop.proofs.send.Goals as goal

pub returns-in-Err : goal.returns-in-Err
returns-in-Err c =
    c.not_taken.ensures ∙ send_refused c.args.card c.args.addr c.args.handle c.lookup.result c.lookup.ensures c.in-Err.why c.in-Err.is
    _ refl

pub returns-in-Ok-Found : goal.returns-in-Ok-Found
returns-in-Ok-Found c =
    send_known c.args.card c.args.addr c.args.handle c.lookup.result c.lookup.ensures c.in-Ok-Found.hardware_addr (c.in-Ok-Found.is ∙ ap Ok c.in-Ok-Found.field-0-is)
    c.one.result c.one.ensures

pub returns-in-Ok-Pending : goal.returns-in-Ok-Pending
returns-in-Ok-Pending c =
    send_waits c.args.card c.args.addr c.args.handle c.lookup.result c.lookup.ensures (c.in-Ok-Pending.is ∙ ap Ok c.in-Ok-Pending.field-0-is)
    c.push-pushed.result c.push-pushed.ensures c.new.result c.new.ensures

pub returns-in-Ok-NotFound : goal.returns-in-Ok-NotFound
returns-in-Ok-NotFound c =
    send_starts c.args.card c.args.addr c.args.handle c.lookup.result c.lookup.ensures (c.in-Ok-NotFound.is ∙ ap Ok c.in-Ok-NotFound.field-0-is)
    c.push-pushed-in-Ok-NotFound.result c.push-pushed-in-Ok-NotFound.ensures c.start_resolution-started.result c.start_resolution-started.ensures
    c.new-in-Ok-NotFound.result c.new-in-Ok-NotFound.ensures
