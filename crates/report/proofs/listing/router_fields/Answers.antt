use Rattle.text.proofs.PlaceLaws.{chain}
use Rattle.report.specs.StateLines.{router_fields, address_field}
use Rattle.report.proofs.listing.router_fields.Goals as goal

pub returns-clause-adds : goal.returns-clause-adds
unfolding router_fields address_field
returns-clause-adds c = chain c.address.ensures.adds c.number_field.ensures.adds
