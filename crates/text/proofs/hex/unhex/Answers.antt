use Rattle.std.proofs.Common.{arith, refl, sym, length, ◌≡◌, ◌%◌}
use Rattle.text.proofs.HexLaws.{unhex_step, unhex_ill, unhex_done, well_at}
use Rattle.text.proofs.hex.unhex.Goals as goal

pub returns-then-not-are_bytes : goal.returns-then-not-are_bytes
returns-then-not-are_bytes c = unhex_ill c.args.digits.now c.args.out.now c.as_chunks.result.0.now c.as_chunks.ensures.front (cc)

pub loop-i-init : goal.loop-i-init
loop-i-init c = record { same = refl; done = refl; rest = refl }

pub returns-in_err-out : goal.returns-in_err-out
returns-in_err-out c = absurd (well_at _ c.as_chunks.result.0.now c.loop-i.i (omega arith) (cc) (sym c.in_err-out.ensures))

pub loop-i-preserved : goal.loop-i-preserved
loop-i-preserved c =
    unhex_step c.args.digits.now c.args.out.now c.loop-i.out c.loop-i.i c.in_ok-out.field-0 _ c.as_chunks.result.0.now c.as_chunks.ensures.front c.loop-i.invariant
    (omega (arith, c.as_chunks.ensures.front_len)) (omega (arith, c.loop-i.invariant.same)) (sym c.in_ok-out.ensures)

pub returns : goal.returns
returns c =
    let even : length c.args.digits.now % 2 ≡ 0 = grind arith in
    unhex_done c.args.digits.now c.args.out.now c.loop-i.out (length c.as_chunks.result.0.now) c.as_chunks.result.0.now c.as_chunks.ensures.front (cc) even
    c.as_chunks.ensures.front_len (omega arith) c.loop-i.i (omega arith) c.loop-i.invariant
