use Rattle.text.proofs.PlaceLaws.{chain}
use Rattle.report.specs.AnswerLines.{refused_line}
use Rattle.report.proofs.answer.refused.Goals as goal

pub returns-clause-adds : goal.returns-clause-adds
unfolding refused_line
returns-clause-adds c = chain (chain (chain c.number.ensures.adds c.word.ensures.adds) c.number-2.ensures.adds) c.byte.ensures.adds
