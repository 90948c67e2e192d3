use Rattle.text.proofs.PlaceLaws.{chain}
use Rattle.report.specs.AnswerLines.{off_line}
use Rattle.report.proofs.answer.off.Goals as goal

pub returns-clause-adds : goal.returns-clause-adds
unfolding off_line
returns-clause-adds c = chain c.number.ensures.adds c.word.ensures.adds
