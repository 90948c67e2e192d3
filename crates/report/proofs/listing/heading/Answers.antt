use Rattle.text.proofs.PlaceLaws.{chain}
use Rattle.report.specs.StateLines.{heading_line}
use Rattle.report.proofs.listing.heading.Goals as goal

pub returns-clause-adds : goal.returns-clause-adds
unfolding heading_line
returns-clause-adds c = chain (chain c.word.ensures.adds c.number.ensures.adds) c.byte.ensures.adds
