use Rattle.std.proofs.Common.{◌≡◌, length, replicate, ap, rules, arith}
use Rattle.std.proofs.lemmas.List.{length-take}
use Rattle.table.proofs.Laws.{mapped}
use Rattle.mainloop.proofs.LoopLaws.{run_starts, run_on, run_done}
use Rattle.mainloop.proofs.run.Goals as goal

pub loop-i-init : goal.loop-i-init
loop-i-init c =
    let full : length c.args.inbox.slots ≡ 4 = search (rules, mapped) in
    run_starts c.args.received.now c.args.hardware_addr c.args.card c.args.wake c.args.inbox c.args.buf.now c.args.budget _ _ _ full
    c.count_of.ensures c.count_of-turns.ensures (ap (replicate 4) c.blank-reports.ensures)

pub loop-i-preserved : goal.loop-i-preserved
loop-i-preserved c =
    run_on c.args.received.now c.args.hardware_addr _ c.args.inbox.slots c.args.inbox.len c.args.budget c.loop-i.invariant
    (omega (arith, length-take c.count_of-turns.result c.args.inbox.slots)) c.turn-turned.result c.turn-turned.new.buf c.turn-turned.ensures

pub returns : goal.returns
returns c =
    let full : length c.args.inbox.slots ≡ 4 = search (rules, mapped) in
    run_done c.args.received.now c.args.hardware_addr c.args.card c.args.wake c.args.inbox c.args.buf.now c.args.budget c.loop-i.invariant
    (omega (arith, full, c.loop-i.invariant.most, length-take c.count_of-turns.result c.args.inbox.slots))
