use Rattle.mainloop.specs.LoopRules.{before}
use Rattle.mainloop.proofs.LoopLaws.{Running}
use Rattle.mainloop.proofs.run.Given as goal

abbrev pub invariant-loop-i : goal.invariant-loop-i
invariant-loop-i l =
    Running l.received l.hardware_addr (before l.initial.sleeping l.initial.sleep_until l.initial.buf) l.fn.inbox.slots l.fn.inbox.len l.budget l.turns
    l.sleeping l.sleep_until l.buf l.reports l.i
