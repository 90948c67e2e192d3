use Rattle.std.proofs.Common.{rules, length, ◌≡◌}
use Rattle.report.proofs.Lengths.{prefixes_short}
use Rattle.report.proofs.ListingLaws.{few}
use Rattle.report.specs.StateLines.{prefix_fields, prefix_line, prefixes_text}
use Rattle.table.proofs.Laws.{mapped}
use Rattle.report.proofs.listing.prefixes.Goals as goal

pub returns-clause-prints : goal.returns-clause-prints
unfolding prefixes_text prefix_line
returns-clause-prints c =
    let full : length c.args.slaac.prefixes ≡ 4 = search (rules, mapped) in
    record { put = c.section.ensures.adds prefix_fields (λ t e t' p. p.0); short = prefixes_short _ (few c.args.slaac.prefixes c.args.slaac.prefix_count 4 full) }

pub returns-clause-same_buffer : goal.returns-clause-same_buffer
returns-clause-same_buffer c = c.section.ensures.same_buffer (λ t e t' p. p.1)
