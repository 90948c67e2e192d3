use Rattle.text.proofs.AddressLaws.{message_none, message_zero, message_some}
use Rattle.text.proofs.address.read_message.Goals as goal

pub returns-in_err-len : goal.returns-in_err-len
returns-in_err-len c = rw c.from_residual.ensures (message_none _ _ _ c.unhex.result c.unhex.ensures c.in_err-len.was)

pub returns-in-0 : goal.returns-in-0
returns-in-0 c = message_zero _ _ _ c.unhex.result c.unhex.ensures c.in_ok-len.len c.in_ok-len.was c.in-0.is

pub returns-in_default : goal.returns-in_default
returns-in_default c = message_some _ _ _ c.unhex.result c.unhex.ensures c.in_ok-len.len c.in_ok-len.was (search)
