-- The worked examples, computed. Assumes nothing.
use mathlib.Core.Path.{refl}
use Rattle.claims.specs.Calls.{check}
use Rattle.claims.specs.Examples.{Examples}
use Rattle.iface.specs.AddressRules.{put_addr, drop_addr, first_local}
use Rattle.iface.specs.RouteRules.{put_route, drop_route}
use Rattle.slaac.specs.DiscoveryRules.{due as turnDue, sent, solicitation}
use Rattle.slaac.specs.ExpiryRules.{sync_due, leave_expired}
use Rattle.slaac.specs.LearnedRules.{add_prefix, expire_prefix, process_prefix_is, add_router, expire_router, process_router_is}
use Rattle.ndisc.specs.OptionWalk.{walked, options_of}
use Rattle.ndisc.specs.Rfc4443Checksum.{checksum_of}
use Rattle.neighbor.specs.NeighborRules.{same_key, find, before, insert_state, on_iface}
use Rattle.autoconf.specs.PollRules.{turn_of, buffer_of, sync_turn, poll_on}
use Rattle.autoconf.specs.AdvertRules.{step2, last_source}
use Rattle.autoconf.specs.SyncRules.{sync_prefix, sync_router, sync_addrs, sync_routes}
use Rattle.sweep.specs.SweepRules.{expire_all, due, spent, probe, events_from, sweep_table}
use Rattle.wire.specs.Rfc2464.{formed_of}

pub examples : Examples
unfolding formed_of walked options_of checksum_of same_key find before insert_state on_iface expire_all due spent probe events_from sweep_table put_addr drop_addr first_local put_route drop_route add_prefix expire_prefix process_prefix_is add_router expire_router process_router_is turnDue sent solicitation sync_due leave_expired step2 last_source sync_prefix sync_router sync_addrs sync_routes turn_of buffer_of sync_turn poll_on check
examples = record {
  P1 = refl;
  P2 = refl;
  P3 = refl;
  P4 = refl;
  p4_read = refl;
  P5 = refl;
  p5_read = refl;
  P6 = refl;
  p6_skipped = refl;
  P7 = refl;
  p7_formless = refl;
  p7_skipped = refl;
  P8 = refl;
  p8_prefixes = refl;
  p8_routers = refl;
  p8_routes = refl;
  p8_neighbors = refl;
  P9 = refl;
  p9_answer = refl;
  P11 = refl;
  formed_first = refl;
  one_entry = refl;
  expired = refl;
  no_address = refl;
  entry_gone = refl;
}
