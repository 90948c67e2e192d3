use Rattle.mainloop.proofs.LoopLaws.{settle_late, settle_done}
use Rattle.mainloop.proofs.settle.Goals as goal

pub returns-in-Err : goal.returns-in-Err
returns-in-Err c =
    settle_late c.args.card c.args.up c.args.hardware_addr c.args.buf.now c.args.timestamp c.check_time.result c.check_time.ensures
    c.in-Err.why c.in-Err.is c.new.result c.new.ensures c.new-in-Err.result c.new-in-Err.ensures

pub returns : goal.returns
returns c =
    settle_done c.args.card c.args.up c.args.hardware_addr c.args.buf.now c.args.timestamp c.check_time.result c.check_time.ensures c.in_default.is
    c.new-clock.result c.poll_at-polled_at.result c.poll_at-polled_at.new.buf c.sweep_at-swept.result c.sweep_at-swept_again.result
    c.purge_orphans-purged.result c.new-clock.ensures c.poll_at-polled_at.ensures c.sweep_at-swept.ensures c.sweep_at-swept_again.ensures
    c.purge_orphans-purged.ensures
