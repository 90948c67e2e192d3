-- What the application added never goes: no call and no part of a call takes its addresses or its routes out, or changes them. Assumes nothing.
use Rattle.std.specs.Prelude.{ℕ, ◌≡◌, Bool, List, Ok}
use Rattle.table.specs.Table.{kept}
use Rattle.time.specs.declared.Instant.{Instant}
use Rattle.wire.specs.declared.ipv6.Ipv6Addr.{Ipv6Addr}
use Rattle.wire.specs.declared.ipv6.Ipv6Cidr.{Ipv6Cidr}
use Rattle.wire.specs.declared.ethernet.HardwareAddress.{HardwareAddress}
use Rattle.iface.specs.declared.addr.AddrOrigin.TheVariants.{Manual}
use Rattle.iface.specs.declared.addr.Preferred.{Preferred}
use Rattle.iface.specs.declared.addr.IfaceAddr.{IfaceAddr}
use Rattle.iface.specs.declared.addr.IfaceAddrs.{IfaceAddrs}
use Rattle.iface.specs.declared.addr.Added.{Added}
use Rattle.iface.specs.declared.route.RouteOrigin.TheVariants.{Manual as ManualRoute}
use Rattle.iface.specs.declared.route.Route.{Route}
use Rattle.iface.specs.declared.route.Routes.{Routes}
use Rattle.iface.specs.declared.route.AddedRoute.{AddedRoute}
use Rattle.iface.specs.AddressRules.{addrs_of, with_addrs, is_from_slaac, manual_addr, AddedTo, put_addr, drop_addr, clear_addrs}
use Rattle.iface.specs.RouteRules.{routes_of, with_routes, is_slaac, manual_route, AddedRouteTo, put_route, drop_route, clear_routes}
use Rattle.claims.specs.Early.{Host, HostCall, add_addr, add_route, Step, Run}
use Rattle.claims.specs.Lists.{Member}

-- the application's entries, in order
abbrev pub own_addrs : IfaceAddrs → List IfaceAddr
own_addrs t = kept is_from_slaac (addrs_of t)

abbrev pub is_route_from_slaac : Route → Bool
is_route_from_slaac e = is_slaac e.origin

abbrev pub own_routes : Routes → List Route
own_routes t = kept is_route_from_slaac (routes_of t)

pub record NeverGoes : Type 0 where
  -- An address of the application's is there, the very same entry, after any run of calls on its interface, turning SLAAC off among them.
  pub address : (i : ℕ) (hw : HardwareAddress) (e : IfaceAddr) (x y : Host) (cs : List HostCall) → Run i hw x cs y
      → e.origin ≡ Manual → Member e (addrs_of x.addrs) → Member e (addrs_of y.addrs)
  -- The same for a route of the application's, of whichever interface, whichever interfaces are polled and wherever SLAAC is turned off.
  pub route : (i : ℕ) (hw : HardwareAddress) (e : Route) (x y : Host) (cs : List HostCall) → Run i hw x cs y
      → e.origin ≡ ManualRoute → Member e (routes_of x.routes) → Member e (routes_of y.routes)
  -- So it is from the call on that added it: "What the application adds has no expiry."
  pub address_added : (t : IfaceAddrs) (i : ℕ) (c : Ipv6Cidr) (r : Added) → AddedTo t i c r → r.outcome ≡ Ok tt → Member (manual_addr c) (addrs_of r.addrs)
  pub route_added : (t : Routes) (i : ℕ) (c : Ipv6Cidr) (via : Ipv6Addr) (r : AddedRoute) → AddedRouteTo t i c via r → r.outcome ≡ Ok tt
      → Member (manual_route i c via) (routes_of r.routes)
  -- Nor does any other call add one or change their order: the application's entries are the same list after it.
  pub addresses_alike : (i : ℕ) (hw : HardwareAddress) (x y : Host) (c : HostCall) → Step i hw x c y → (c ≡ add_addr → ⊥)
      → own_addrs y.addrs ≡ own_addrs x.addrs
  pub routes_alike : (i : ℕ) (hw : HardwareAddress) (x y : Host) (c : HostCall) → Step i hw x c y → (c ≡ add_route → ⊥)
      → own_routes y.routes ≡ own_routes x.routes
  -- Parts of calls. Some functions are public only because another crate's call is made of them; an application has no use for them. Of
  -- these, `IfaceAddrs::drop_addr` and `clear_slaac`, `Routes::drop_route` and `clear_slaac` of `iface` are given
  -- addresses or routes, and they too leave what the application added; `process_prefix`, `process_router`, `store_flags`, `is_sync_due`,
  -- `update_slaac_state` and `Discovery::solicit` of `slaac` are given only what was learned; and `autoconf`'s sync is private.
  pub dropped_address : (e : IfaceAddr) (t : IfaceAddrs) (c : Ipv6Cidr) → e.origin ≡ Manual → Member e (addrs_of t)
      → Member e (addrs_of (with_addrs t (drop_addr c (addrs_of t))))
  pub cleared_addresses : (e : IfaceAddr) (t : IfaceAddrs) → e.origin ≡ Manual → Member e (addrs_of t) → Member e (addrs_of (clear_addrs t).addrs)
  pub dropped_route : (e : Route) (t : Routes) (i : ℕ) (via : Ipv6Addr) → e.origin ≡ ManualRoute → Member e (routes_of t)
      → Member e (routes_of (with_routes t (drop_route i via (routes_of t))))
  pub cleared_routes : (e : Route) (t : Routes) (i : ℕ) → e.origin ≡ ManualRoute → Member e (routes_of t)
      → Member e (routes_of (with_routes t (clear_routes i (routes_of t))))
  -- nor does the sync put an entry of its own in its place
  pub put_address : (e : IfaceAddr) (t : IfaceAddrs) (c : Ipv6Cidr) (p : Preferred) → e.origin ≡ Manual → Member e (addrs_of t)
      → Member e (addrs_of (with_addrs t (put_addr c p (addrs_of t))))
  pub put_route_lem : (e : Route) (t : Routes) (i : ℕ) (via : Ipv6Addr) (end : Instant) → e.origin ≡ ManualRoute → Member e (routes_of t)
      → Member e (routes_of (with_routes t (put_route i via end (routes_of t))))
