use Rattle.text.proofs.PlaceLaws.{chain}
use Rattle.report.specs.StateLines.{addr_fields, address_field}
use Rattle.report.proofs.listing.addr_fields.Goals as goal

pub returns-clause-adds : goal.returns-clause-adds
unfolding addr_fields address_field
returns-clause-adds c = chain (chain (chain c.address.ensures.adds c.number_field.ensures.adds) c.origin_field.ensures.adds) c.preferred_field.ensures.adds
