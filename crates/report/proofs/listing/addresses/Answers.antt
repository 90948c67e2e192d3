use Rattle.std.proofs.Common.{rules, length, ◌≡◌}
use Rattle.report.proofs.Lengths.{addresses_short}
use Rattle.report.proofs.ListingLaws.{few}
use Rattle.report.specs.StateLines.{addr_fields, addr_line, addresses_text}
use Rattle.table.proofs.Laws.{mapped}
use Rattle.report.proofs.listing.addresses.Goals as goal

pub returns-clause-prints : goal.returns-clause-prints
unfolding addresses_text addr_line
returns-clause-prints c =
    let full : length c.args.addrs.slots ≡ 8 = search (rules, mapped) in
    record { put = c.section.ensures.adds addr_fields (λ t e t' p. p.0); short = addresses_short _ (few c.args.addrs.slots c.args.addrs.len 8 full) }

pub returns-clause-same_buffer : goal.returns-clause-same_buffer
returns-clause-same_buffer c = c.section.ensures.same_buffer (λ t e t' p. p.1)
