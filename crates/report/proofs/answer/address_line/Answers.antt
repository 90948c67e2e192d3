use Rattle.text.proofs.PlaceLaws.{chain}
use Rattle.report.proofs.answer.address_line.Goals as goal

pub returns-clause-adds : goal.returns-clause-adds
returns-clause-adds c = chain (chain (chain c.number.ensures.adds c.word.ensures.adds) c.address.ensures.adds) c.byte.ensures.adds
