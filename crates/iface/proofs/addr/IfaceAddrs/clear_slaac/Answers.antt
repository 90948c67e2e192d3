use Rattle.std.proofs.Common.{rules}
use Rattle.iface.proofs.Addresses.{addrs_cleared}
use Rattle.iface.specs.AddressRules.{is_from_slaac}
use Rattle.iface.proofs.addr.IfaceAddrs.clear_slaac.Goals as goal

pub returns : goal.returns
returns c = addrs_cleared c.args.self _ (search rules) c.count_of-count.ensures _ _ (c.retain.ensures is_from_slaac (λ x b k. search rules))
