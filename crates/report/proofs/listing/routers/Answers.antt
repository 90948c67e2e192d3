use Rattle.std.proofs.Common.{rules, length, ◌≡◌}
use Rattle.report.proofs.Lengths.{routers_short}
use Rattle.report.proofs.ListingLaws.{few}
use Rattle.report.specs.StateLines.{router_fields, router_line, routers_text}
use Rattle.table.proofs.Laws.{mapped}
use Rattle.report.proofs.listing.routers.Goals as goal

pub returns-clause-prints : goal.returns-clause-prints
unfolding routers_text router_line
returns-clause-prints c =
    let full : length c.args.slaac.routers ≡ 2 = search (rules, mapped) in
    record { put = c.section.ensures.adds router_fields (λ t e t' p. p.0); short = routers_short _ (few c.args.slaac.routers c.args.slaac.router_count 2 full) }

pub returns-clause-same_buffer : goal.returns-clause-same_buffer
returns-clause-same_buffer c = c.section.ensures.same_buffer (λ t e t' p. p.1)
