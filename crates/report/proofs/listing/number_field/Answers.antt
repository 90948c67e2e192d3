use Rattle.text.proofs.PlaceLaws.{chain}
use Rattle.report.specs.StateLines.{number_field}
use Rattle.report.proofs.listing.number_field.Goals as goal

pub returns-clause-adds : goal.returns-clause-adds
unfolding number_field
returns-clause-adds c = chain c.byte.ensures.adds c.number.ensures.adds
