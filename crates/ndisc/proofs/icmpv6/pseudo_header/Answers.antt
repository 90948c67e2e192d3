use Rattle.std.proofs.Common.{rules, ℕ, List, refl, ap, ◌∙◌, arith}
use Rattle.ndisc.proofs.Checksum.{address_bytes_lem, pseudo_sum}
use Rattle.ndisc.specs.Rfc4443Checksum.{words, ones_add, ones_sum}
use Rattle.wire.proofs.Words.{sent32}
use Rattle.wire.specs.Rfc4291.{address_bytes}
use Rattle.ndisc.proofs.icmpv6.pseudo_header.Goals as goal

pub returns : goal.returns
returns c =
    let a = c.args in
    let whole =
    pseudo_sum (address_bytes a.src) (address_bytes a.dst) a.length a.next_header (address_bytes_lem a.src (omega arith) (omega arith))
    (address_bytes_lem a.dst (omega arith) (omega arith)) (omega arith) (omega arith) refl refl in
    let sums : List ℕ → ℕ = λ octets. ones_sum (words octets) in
    let src = c.sum.ensures ∙ ap sums c.octets.ensures in
    let dst = c.sum-2.ensures ∙ ap sums c.octets-2.ensures in
    let len = c.sum-len.ensures ∙ ap sums (c.to_be_bytes.ensures ∙ sent32 a.length (search rules)) in
    let addresses = c.ones_add-addresses.ensures ∙ (λ i. ones_add (src i) (dst i)) in
    let rest = c.ones_add.ensures ∙ (λ i. ones_add (len i) (c.from.ensures i)) in
    c.ones_add-2.ensures ∙ ((λ i. ones_add (addresses i) (rest i)) ∙ whole)
