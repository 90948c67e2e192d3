use Rattle.script.proofs.CardLaws.{off_card_lem}
use Rattle.script.proofs.card.Card.off.Goals as goal

pub returns : goal.returns
returns c = off_card_lem c.args.self c.new.result c.turn_off-left.result c.new.ensures c.turn_off-left.ensures
