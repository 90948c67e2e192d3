use Rattle.mainloop.proofs.LoopLaws.{turn_done}
use Rattle.mainloop.proofs.turn.Goals as goal

pub returns : goal.returns
returns c =
    turn_done c.args.card c.args.woken c.args.received.now c.args.hardware_addr c.args.buf.now c.part-message.result.now c.take-taken.result
    c.settle-settled.result c.settle-settled.new.buf c.part-message.ensures c.take-taken.ensures c.settle-settled.ensures
