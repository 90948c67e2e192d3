use Rattle.std.proofs.Common.{rules, length, arith, ℕ, ◌-◌, ◌<◌, refl, sym, ap, ◌∙◌, Fits, w8}
use Rattle.std.proofs.lemmas.Nat.{and_mask}
use Rattle.ndisc.proofs.Checksum.{address_bytes_lem, bytes_of, sum_apart}
use Rattle.ndisc.specs.Rfc4443Checksum.{checksum_of, ones_add, ones_sum, pseudo_header, words}
use Rattle.wire.specs.Rfc4291.{address_bytes}
use Rattle.ndisc.proofs.icmpv6.checksum.Goals as goal

-- what an element of a slice of bytes is
small : (n : ℕ) → Fits w8 n → n < 256
small n h = omega arith

pub returns : goal.returns
unfolding checksum_of
returns c =
    let a = c.args in
    let apart =
    sum_apart (address_bytes a.src) (address_bytes a.dst) a.msg.now (address_bytes_lem a.src (search rules) (search rules))
    (address_bytes_lem a.dst (search rules) (search rules)) refl refl (bytes_of a.msg.now (λ k. small _ (c.type_inv.msg k))) in
    let sum_with : ℕ → ℕ = λ len. ones_sum (words (pseudo_header (address_bytes a.src) (address_bytes a.dst) len 58)) in
    let header = c.pseudo_header.ensures ∙ ap sum_with (and_mask (length a.msg.now) 32) in
    ap (λ (n : ℕ). 65535 - n) (c.ones_add.ensures ∙ ((λ i. ones_add (header i) (c.sum.ensures i)) ∙ sym apart))
