use Rattle.std.proofs.Common.{◌≡◌}
use Rattle.neighbor.specs.CacheCalls.{key}
use Rattle.mainloop.proofs.ReadyLaws.{Releasing}
use Rattle.mainloop.proofs.release_all.Given as goal

abbrev pub invariant-loop-i : goal.invariant-loop-i
invariant-loop-i l = record {
  released : Releasing (key 0 l.addr) l.initial.queue l.queue l.handles.slots l.i;
  count : l.handles.len ≡ l.i;
}
