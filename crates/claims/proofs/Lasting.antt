-- An address and a route that last to the millisecond, computed. Assumes nothing.
use mathlib.Core.Path.{refl}
use native.Mathlib.Omega.{arith}
use Rattle.claims.specs.Lasting.{Lasting}
use Rattle.iface.specs.AddressRules.{put_addr, drop_addr, first_local}
use Rattle.iface.specs.RouteRules.{put_route, drop_route}
use Rattle.slaac.specs.DiscoveryRules.{due as turnDue, sent, solicitation}
use Rattle.slaac.specs.ExpiryRules.{sync_due, leave_expired}
use Rattle.slaac.specs.LearnedRules.{add_prefix, expire_prefix, process_prefix_is, add_router, expire_router, process_router_is}
use Rattle.ndisc.specs.OptionWalk.{walked, options_of}
use Rattle.ndisc.specs.Rfc4443Checksum.{checksum_of}
use Rattle.autoconf.specs.PollRules.{turn_of, buffer_of, sync_turn, poll_on}
use Rattle.autoconf.specs.AdvertRules.{step2, last_source}
use Rattle.autoconf.specs.SyncRules.{sync_prefix, sync_router, sync_addrs, sync_routes}
use Rattle.wire.specs.Rfc2464.{formed_of}

pub lasting : Lasting
unfolding formed_of walked options_of checksum_of put_addr drop_addr first_local put_route drop_route add_prefix expire_prefix process_prefix_is add_router expire_router process_router_is turnDue sent solicitation sync_due leave_expired step2 last_source sync_prefix sync_router sync_addrs sync_routes turn_of buffer_of sync_turn poll_on
lasting = record {
  there = refl;
  long = (λ f. omega arith, tt);
  before = refl;
  gone = refl;
  own_stays = refl;
  route_there = refl;
  route_long = (λ f. omega arith, tt);
  route_before = refl;
  route_gone = refl;
}
