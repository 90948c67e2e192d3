-- Computed. Assumes nothing.
use mathlib.Core.Path.{refl}
use Rattle.claims.specs.Calls.{check}
use Rattle.iface.specs.AddressRules.{put_addr, drop_addr, first_local}
use Rattle.iface.specs.RouteRules.{put_route, drop_route}
use Rattle.slaac.specs.DiscoveryRules.{due as turnDue, sent, solicitation}
use Rattle.slaac.specs.ExpiryRules.{sync_due, leave_expired}
use Rattle.slaac.specs.LearnedRules.{add_prefix, expire_prefix, process_prefix_is, add_router, expire_router, process_router_is}
use Rattle.ndisc.specs.OptionWalk.{walked, options_of}
use Rattle.ndisc.specs.Rfc4443Checksum.{checksum_of}
use Rattle.neighbor.specs.NeighborRules.{same_key, find, before, insert_state, remove_key, on_iface}
use Rattle.autoconf.specs.PollRules.{turn_of, buffer_of, sync_turn, poll_on}
use Rattle.autoconf.specs.AdvertRules.{step2, last_source}
use Rattle.autoconf.specs.SyncRules.{sync_prefix, sync_router, sync_addrs, sync_routes}
use Rattle.sweep.specs.SweepRules.{expire_all, due, spent, probe, events_from, sweep_table}
use Rattle.wire.specs.Rfc2464.{formed_of}
use Rattle.claims.specs.Pinned.{Pinned}
use Rattle.autoconf.specs.OffRules.{off_now}
use Rattle.iface.specs.AddressRules.{clear_addrs}
use Rattle.iface.specs.RouteRules.{clear_routes}
use Rattle.pending.specs.QueueRules.{push_list, push_answer, release_list, release_answer, orphaned, on_iface as onQueueIface, dropped_handles}
use Rattle.sweep.specs.SweepRules.{expire_clocks}
use Rattle.sweep.specs.SweepCalls.{swept_in}
use Rattle.text.specs.Decimal.{decimal}

pub pinned : Pinned
unfolding formed_of walked options_of checksum_of same_key find before insert_state on_iface expire_all due spent probe events_from sweep_table put_addr drop_addr first_local put_route drop_route add_prefix expire_prefix process_prefix_is add_router expire_router process_router_is turnDue sent solicitation sync_due leave_expired step2 last_source sync_prefix sync_router sync_addrs sync_routes turn_of buffer_of sync_turn poll_on check off_now clear_addrs clear_routes push_list push_answer release_list release_answer orphaned onQueueIface dropped_handles expire_clocks remove_key swept_in decimal
pinned = record {
  seconds = refl;
  all_ones = refl;
  sum = refl;
  last_sum = refl;
  at_its_time = refl;
  before_its_time = refl;
  earlier_joins = refl;
  later_joins_not = refl;
  link_local_lem = refl;
  multicast = refl;
  unicast = refl;
  unspecified = refl;
  unspecified_below = refl;
  eui = refl;
  all_routers_lem = refl;
  is_all_routers_lem = refl;
  unicast_hardware = refl;
  group_hardware = refl;
  source_option = refl;
  target_option = refl;
  mtu_option = refl;
  redirected_header = refl;
  unknown_option = refl;
  prefix_on_link = refl;
  prefix_autonomous = refl;
  option_data = refl;
  truncated = refl;
  whole = refl;
  no_data = refl;
  written_link_layer = refl;
  written_mtu = refl;
  written_prefix = refl;
  odd_byte = refl;
  solicits_routers = refl;
  solicits_not = refl;
  coded_not = refl;
  short_not = refl;
  elsewhere_not = refl;
  managed = refl;
  other = refl;
  flags_stay = refl;
  flags_anew = refl;
  two_routers = refl;
  router_asks = refl;
  router_ends = refl;
  end_asks = refl;
  nothing_asks = refl;
  router_asks_again = refl;
  third_asks_not = refl;
  prefix_asks = refl;
  prefix_ends = refl;
  unknown_asks_not = refl;
  refresh_asks = refl;
  prefix_end_asks = refl;
  none_asks = refl;
  fifth_asks_not = refl;
  asks_still = refl;
  by_length = refl;
  by_last_bit = refl;
  in_first_half = refl;
  in_second_half = refl;
  whole_address = refl;
  read_so = refl;
  read_as_it_came = refl;
  same_entry = refl;
  below_link_local = refl;
  below_multicast = refl;
  onto_link_local = refl;
  no_length = refl;
  formless = refl;
  written_as_given = refl;
  almost_endless = refl;
  short = refl;
  solicits = refl;
  above = refl;
  coded = refl;
  from_afar = refl;
  off_first = refl;
  on_link_alone = refl;
  autonomous = refl;
  link_local_prefix = refl;
  multicast_prefix = refl;
  five = refl;
  start_stays = refl;
  maintains = refl;
  heard_leaves = refl;
  heard_keeps = refl;
  last_source = refl;
  group_source = refl;
  group_last = refl;
  target_alone = refl;
  link_down = refl;
  no_link_local = refl;
  first_source = refl;
  first_sent = refl;
  retry_waits = refl;
  not_yet = refl;
  retry = refl;
  third_sent = refl;
  third_waits_not = refl;
  no_fourth = refl;
  retry_still_waits = refl;
  down_waits_not = refl;
  none_left_waits_not = refl;
  small = refl;
  small_counts = refl;
  small_stays = refl;
  only_sixteen = refl;
  down_stays = refl;
  quiet_stays = refl;
  restart = refl;
  restart_keeps = refl;
  restart_keeps_routers = refl;
  restart_keeps_flags = refl;
  restart_keeps_request = refl;
  restart_asks_not = refl;
  on_again = refl;
  on_anew = refl;
  off_stays = refl;
  router_waits = refl;
  prefix_waits = refl;
  cleared = refl;
  prefix_leaves = refl;
  router_leaves = refl;
  valid_waits = refl;
  others_in_order = refl;
  moved_down = refl;
  no_sync = refl;
  length_63 = refl;
  length_65 = refl;
  renewed_address = refl;
  renewed_route = refl;
  beside_manual = refl;
  beside_another = refl;
  preferred = refl;
  deprecated = refl;
  eighth_address = refl;
  no_ninth_address = refl;
  eighth_route = refl;
  no_ninth_route = refl;
  poll_off = refl;
  off_addresses = refl;
  off_routes = refl;
  off_clears = refl;
  off_purges = refl;
  off_leaves = refl;
  off_keeps = refl;
  off_returns = refl;
  off_returns_none = refl;
  off_forgets = refl;
  off_each = refl;
  off_each_route = refl;
  lookup_each = refl;
  lookup_incomplete = refl;
  filled = refl;
  inserted = refl;
  none_there = refl;
  over = refl;
  stale_goes = refl;
  reachable_goes = refl;
  incomplete_goes = refl;
  started_goes = refl;
  goes_there = refl;
  moved_in = refl;
  cleared_in_order = refl;
  listed = refl;
  listed_reachable = refl;
  listed_stale = refl;
  starts = refl;
  start_waits = refl;
  due_waits = refl;
  expiry_waits = refl;
  due_waits_not = refl;
  expiry_waits_not = refl;
  events_wait_not = refl;
  stale_elsewhere = refl;
  eighth = refl;
  ninth = refl;
  oldest = refl;
  oldest_goes = refl;
  absent = refl;
  started_waits = refl;
  incomplete_waits = refl;
  reachable_waits = refl;
  stale_waits_not = refl;
  in_order = refl;
  another_interface = refl;
  address_added = refl;
  route_added = refl;
  latest = refl;
  too_late = refl;
  no_interface = refl;
  group_address = refl;
  group_filled = refl;
  lookup_order = refl;
  fill_order = refl;
  rows = refl;
  longest = refl;
  too_long = refl;
  twice = refl;
  twice_slaac = refl;
  address_nowhere = refl;
  full = refl;
  route_twice = refl;
  route_slaac = refl;
  route_full = refl;
  route_room = refl;
  route_other_prefix = refl;
  route_other_length = refl;
  route_other_router = refl;
  route_nowhere = refl;
  route_too_long = refl;
  neighbours_count = refl;
  packets_count = refl;
  addresses_count = refl;
  routes_count = refl;
  prefixes_count = refl;
  routers_count = refl;
  digits = refl;
  number = refl;
}
