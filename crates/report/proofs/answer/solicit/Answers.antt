use Rattle.text.proofs.PlaceLaws.{chain}
use Rattle.report.specs.AnswerLines.{solicit_line}
use Rattle.report.proofs.answer.solicit.Goals as goal

pub returns-clause-adds : goal.returns-clause-adds
unfolding solicit_line
returns-clause-adds c = chain (chain (chain c.number.ensures.adds c.word.ensures.adds) c.hexes.ensures.adds) c.byte.ensures.adds
