use Rattle.text.proofs.PlaceLaws.{chain}
use Rattle.report.specs.AnswerLines.{bad_line}
use Rattle.report.proofs.answer.bad_line.Goals as goal

pub returns-clause-adds : goal.returns-clause-adds
unfolding bad_line
returns-clause-adds c = chain (chain c.word.ensures.adds c.number.ensures.adds) c.byte.ensures.adds
