use Rattle.text.proofs.PlaceLaws.{chain}
use Rattle.report.specs.StateLines.{prefix_fields, address_field}
use Rattle.report.proofs.listing.prefix_fields.Goals as goal

pub returns-clause-adds : goal.returns-clause-adds
unfolding prefix_fields address_field
returns-clause-adds c = chain (chain (chain c.address.ensures.adds c.number_field.ensures.adds) c.end_field.ensures.adds) c.end_field-2.ensures.adds
