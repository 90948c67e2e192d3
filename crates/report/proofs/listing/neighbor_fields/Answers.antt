use Rattle.text.proofs.PlaceLaws.{chain}
use Rattle.report.specs.StateLines.{neighbor_fields, address_field}
use Rattle.report.proofs.listing.neighbor_fields.Goals as goal

pub returns-clause-adds : goal.returns-clause-adds
unfolding neighbor_fields address_field
returns-clause-adds c = chain c.address.ensures.adds c.state_fields.ensures.adds
