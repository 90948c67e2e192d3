use Rattle.std.proofs.Common.{arith, ℕ, List, [], ◌+◌, ◌*◌, ◌/◌, ◌≡◌, ap, ◌∙◌, get_or, length}
use Rattle.std.specs.Int.{w16, from_be_bytes}
use Rattle.wire.specs.Numbers.{u16_at}
use Rattle.ndisc.proofs.Checksum.{bytes_of, pair_at, sum_begins, sum_goes_on}
use Rattle.ndisc.proofs.Places.{u16_taken}
use Rattle.ndisc.proofs.icmpv6.sum.Goals as goal

pub loop-pair-init : goal.loop-pair-init
loop-pair-init c = sum_begins c.args.«data».now (bytes_of c.args.«data».now (λ k. omega (arith, c.type_inv.«data» k)))

pub loop-pair-preserved : goal.loop-pair-preserved
loop-pair-preserved c =
    let s = c.args.«data».now in
    let j = c.loop-pair.pair-index in
    let h = c.loop-pair-test.true in
    let l = c.as_chunks.ensures.front_len in
    let word : c.from_be_bytes.result ≡ u16_at s (j * 2) =
    c.from_be_bytes.ensures
    ∙ (ap (λ (p : List (List ℕ)). from_be_bytes w16 (get_or p j [])) c.as_chunks.ensures.front
    ∙ (ap (λ (p : List ℕ). from_be_bytes w16 p) (pair_at (length s / 2) j s (omega arith)) ∙ u16_taken s (j * 2))) in
    let on : (j + 1) * 2 ≡ j * 2 + 2 = omega arith in
    rw (on, c.ones_add-accum.ensures, word)
    (sum_goes_on s (bytes_of s (λ k. omega (arith, c.type_inv.«data» k))) _ _ c.loop-pair.invariant (omega arith))
