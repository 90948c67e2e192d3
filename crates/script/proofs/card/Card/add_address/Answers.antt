use Rattle.script.proofs.StepLaws.{address_refused, address_done}
use Rattle.script.proofs.card.Card.add_address.Goals as goal

pub returns-in-Err : goal.returns-in-Err
returns-in-Err c = address_refused c.args.self c.args.cidr c.args.want c.add_ip_addr-added.result c.add_ip_addr-added.ensures _ c.in-Err.is

pub returns-in-Ok : goal.returns-in-Ok
returns-in-Ok c = address_done c.args.self c.args.cidr c.args.want c.add_ip_addr-added.result c.add_ip_addr-added.ensures c.in-Ok.is
