use Rattle.std.proofs.Common.{ℕ, List, ap, ◌∙◌}
use Rattle.std.specs.Int.{w32, from_be_bytes}
use Rattle.wire.specs.Rfc4291.{address_at, mask_of}
use Rattle.wire.specs.declared.ipv6.Ipv6Addr.{Ipv6Addr}
use Rattle.ndisc.specs.Rfc4861Options.{byte}
use Rattle.ndisc.proofs.Places.{u32_taken, address_taken, first_bit, second_bit}
use Rattle.ndisc.proofs.ndiscoption.prefix_information.Goals as goal

pub returns : goal.returns
returns c =
    let s = c.args.s.now in
    let number : List ℕ → ℕ = λ t. from_be_bytes w32 t in
    let valid = c.from_be_bytes.ensures ∙ (ap number c.bytes_at.ensures ∙ u32_taken s 4) in
    let preferred = c.from_be_bytes-2.ensures ∙ (ap number c.bytes_at-2.ensures ∙ u32_taken s 8) in
    let prefix = c.from_octets.ensures ∙ (ap (λ (t : List ℕ). address_at t 0) c.bytes_at-3.ensures ∙ address_taken s 16) in
    let masked = c.mask.ensures ∙ ap (λ (a : Ipv6Addr). mask_of (byte s 2) a) prefix in
    λ i. record {
      prefix_len = byte s 2;
      on_link = first_bit (byte s 3) i;
      addrconf = second_bit (byte s 3) i;
      valid_lifetime = valid i;
      preferred_lifetime = preferred i;
      prefix = masked i;
    }
