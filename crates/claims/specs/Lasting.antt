-- No address gone early, at work, and none later either: the state in which document 01's event file ends, polled again. Assumes nothing.
use Rattle.std.specs.Prelude.{ℕ, ◌≡◌, true, false, [], ◌∷◌}
use Rattle.time.specs.declared.Expiry.TheVariants.{At}
use Rattle.iface.specs.declared.addr.IfaceAddrs.{IfaceAddrs}
use Rattle.iface.specs.AddressRules.{addrs_of, with_addrs, empty_addrs, manual_addr}
use Rattle.iface.specs.RouteRules.{routes_of, empty_routes}
use Rattle.slaac.specs.LearnedRules.{prefixes_of, routers_of}
use Rattle.autoconf.specs.declared.Polled.{Polled}
use Rattle.claims.specs.Lists.{All}
use Rattle.claims.specs.Traces.{ms}
use Rattle.claims.specs.Early.{stands, LastsTo, route_stands, RouterLastsTo}
use Rattle.claims.specs.Examples.{mac, router, formed, polls, end}

abbrev pub polled_again : ℕ → Polled
polled_again now = polls end.slaac end.addrs end.routes now

-- a table with the formed address, added by the application
abbrev pub added : IfaceAddrs
added = with_addrs empty_addrs (manual_addr formed ∷ [])

pub record Lasting : Type 0 where
  -- the formed address stands, and its prefix is valid until 3,600,500
  pub there : stands formed (addrs_of end.addrs) ≡ true
  pub long : All (LastsTo (At (ms 3600500)) mac formed) (prefixes_of end.slaac)
  -- a poll at the last millisecond before leaves it, and a poll at that time takes it
  pub before : stands formed (addrs_of (polled_again 3600499).addrs) ≡ true
  pub gone : stands formed (addrs_of (polled_again 3600500).addrs) ≡ false
  -- the same address, added by the application, stands at that time
  pub own_stays : addrs_of (polls end.slaac added empty_routes 3600500).addrs ≡ manual_addr formed ∷ []
  -- so too the default route, whose router lasts until 1,800,500
  pub route_there : route_stands 0 router (routes_of end.routes) ≡ true
  pub route_long : All (RouterLastsTo 1800500 router) (routers_of end.slaac)
  pub route_before : route_stands 0 router (routes_of (polled_again 1800499).routes) ≡ true
  pub route_gone : route_stands 0 router (routes_of (polled_again 1800500).routes) ≡ false
