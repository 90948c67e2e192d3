use Rattle.std.proofs.Common.{rules, length, ◌≡◌}
use Rattle.report.proofs.Lengths.{neighbors_short}
use Rattle.report.proofs.ListingLaws.{few}
use Rattle.report.specs.StateLines.{neighbor_fields, neighbor_line, neighbors_text}
use Rattle.table.proofs.Laws.{mapped}
use Rattle.report.proofs.listing.neighbors.Goals as goal

pub returns-clause-prints : goal.returns-clause-prints
unfolding neighbors_text neighbor_line
returns-clause-prints c =
    let full : length c.args.cache.slots ≡ 16 = search (rules, mapped) in
    record { put = c.section.ensures.adds neighbor_fields (λ t e t' p. p.0); short = neighbors_short _ (few c.args.cache.slots c.args.cache.len 16 full) }

pub returns-clause-same_buffer : goal.returns-clause-same_buffer
returns-clause-same_buffer c = c.section.ensures.same_buffer (λ t e t' p. p.1)
