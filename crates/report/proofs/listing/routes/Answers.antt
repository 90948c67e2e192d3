use Rattle.std.proofs.Common.{rules, length, ◌≡◌}
use Rattle.report.proofs.Lengths.{routes_short}
use Rattle.report.proofs.ListingLaws.{few}
use Rattle.report.specs.StateLines.{route_fields, route_line, routes_text}
use Rattle.table.proofs.Laws.{mapped}
use Rattle.report.proofs.listing.routes.Goals as goal

pub returns-clause-prints : goal.returns-clause-prints
unfolding routes_text route_line
returns-clause-prints c =
    let full : length c.args.table.slots ≡ 8 = search (rules, mapped) in
    record { put = c.section.ensures.adds route_fields (λ t e t' p. p.0); short = routes_short _ (few c.args.table.slots c.args.table.len 8 full) }

pub returns-clause-same_buffer : goal.returns-clause-same_buffer
returns-clause-same_buffer c = c.section.ensures.same_buffer (λ t e t' p. p.1)
