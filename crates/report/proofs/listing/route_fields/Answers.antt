use Rattle.text.proofs.PlaceLaws.{chain}
use Rattle.report.specs.StateLines.{route_fields, address_field}
use Rattle.report.proofs.listing.route_fields.Goals as goal

pub returns-clause-adds : goal.returns-clause-adds
unfolding route_fields address_field
returns-clause-adds c = chain (chain c.address.ensures.adds c.route_origin_field.ensures.adds) c.expiry_field.ensures.adds
