-- Every claim holds. Assumes nothing.
use Rattle.autoconf.proofs.Distinct.{addresses_once}
use Rattle.claims.proofs.Application.{never_goes}
use Rattle.claims.proofs.Arrives.{arrives}
use Rattle.claims.proofs.Caches.{on_caches}
use Rattle.claims.proofs.Cleared.{cleared}
use Rattle.claims.proofs.Clocks.{clocks}
use Rattle.claims.proofs.Counts.{counts}
use Rattle.claims.proofs.Demand3.{demand3}
use Rattle.claims.proofs.Determined.{determined}
use Rattle.claims.proofs.Early.{not_early}
use Rattle.claims.proofs.EitherOrder.{either_order}
use Rattle.claims.proofs.Endless.{endless}
use Rattle.claims.proofs.Examples.{examples}
use Rattle.claims.proofs.Housed.{housed}
use Rattle.claims.proofs.Lasting.{lasting}
use Rattle.claims.proofs.Looks.{looks}
use Rattle.claims.proofs.MainLoop.{main_loop}
use Rattle.claims.proofs.Order.{order}
use Rattle.claims.proofs.Packets.{packets}
use Rattle.claims.proofs.Pinned.{pinned}
use Rattle.claims.proofs.Places.{places}
use Rattle.claims.proofs.Preferred.{not_deprecated}
use Rattle.claims.proofs.Refusals.{refusals}
use Rattle.claims.proofs.RoundTrips.{round_trips}
use Rattle.claims.proofs.RoutesArrive.{routes_arrive}
use Rattle.claims.proofs.SameSource.{same_source}
use Rattle.claims.proofs.Traces.{traces}
use Rattle.claims.proofs.Wake.{wake}
use Rattle.claims.proofs.WakePoll.{wake_poll}
use Rattle.claims.specs.Claims.{Claims}
use Rattle.neighbor.proofs.Distinct.{keys_once}
use Rattle.pending.proofs.Count.{accounted}
use Rattle.time.proofs.Forward.{forward_law}

pub claims : Claims
claims = record {
  demand3 = demand3;
  traces = traces;
  on_caches = on_caches;
  packets = packets;
  places = places;
  looks = looks;
  keys_once = keys_once;
  accounted = accounted;
  counts = counts;
  either_order = either_order;
  addresses_once = addresses_once;
  forward = forward_law;
  clocks = clocks;
  wake = wake;
  wake_poll = wake_poll;
  same_source = same_source;
  main_loop = main_loop;
  not_early = not_early;
  arrives = arrives;
  routes_arrive = routes_arrive;
  cleared = cleared;
  housed = housed;
  lasting = lasting;
  not_deprecated = not_deprecated;
  never_goes = never_goes;
  endless = endless;
  examples = examples;
  pinned = pinned;
  round_trips = round_trips;
  order = order;
  refusals = refusals;
  determined = determined;
}
