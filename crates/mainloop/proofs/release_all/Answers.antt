use Rattle.std.proofs.Common.{◌≡◌, length, rules, arith, refl, ap, sym, None, ◌∙◌}
use Rattle.std.specs.Result.{result_unwrap_or}
use Rattle.neighbor.specs.CacheCalls.{key}
use Rattle.table.proofs.Laws.{mapped}
use Rattle.mainloop.proofs.ReadyLaws.{handle_given, releasing, goes_on, ends_full, ends_none}
use Rattle.mainloop.proofs.release_all.Goals as goal

pub loop-i-init : goal.loop-i-init
loop-i-init c =
    let full : length c.args.queue.slots ≡ 8 = search (rules, mapped) in
    rw c.new-handles.ensures (record { released = releasing (key 0 c.args.addr) c.args.queue full; count = refl })

pub loop-i-preserved : goal.loop-i-preserved
loop-i-preserved c =
    record {
      released =
          goes_on c.args.addr c.loop-i.invariant.released c.release-released.result c.release-released.ensures c.in-Some.handle
          (handle_given c.release-released.result.answer c.in-Some.handle (sym c.unwrap_or.ensures ∙ c.in-Some.is)) (omega arith);
      count = refl;
    }

pub returns-after-loop-i : goal.returns-after-loop-i
returns-after-loop-i c = ends_full (key 0 c.args.addr) c.loop-i.invariant.released c.loop-i.invariant.count (omega arith) (omega (arith, c.loop-i.invariant.released.few))

pub returns-in_default : goal.returns-in_default
returns-in_default c =
    ends_none c.args.addr c.loop-i.invariant.released c.release-released.result c.release-released.ensures c.loop-i.invariant.count
    (λ h e. c.in_default.not-Some h (c.unwrap_or.ensures ∙ ap (λ a. result_unwrap_or a None) e))
    (omega (arith, c.loop-i.invariant.released.few))
