use Rattle.std.proofs.Common.{arith, ◌∙◌, bit_or}
use Rattle.wire.proofs.Words.{sent32}
use Rattle.ndisc.proofs.Places.{flags}
use Rattle.ndisc.proofs.ndiscoption.prefix_bytes.Goals as goal

pub returns : goal.returns
returns c =
    let info = c.args.info in
    let both = (λ i. bit_or (c.flag.ensures i) (c.flag-2.ensures i)) ∙ flags info.on_link info.addrconf in
    let valid = c.copy_from_slice.ensures.after ∙ (c.to_be_bytes.ensures ∙ sent32 info.valid_lifetime (omega arith)) in
    let preferred = c.copy_from_slice-2.ensures.after ∙ (c.to_be_bytes-2.ensures ∙ sent32 info.preferred_lifetime (omega arith)) in
    let prefix = c.copy_from_slice-3.ensures.after ∙ c.octets.ensures in
    simp (both, valid, preferred, prefix)
