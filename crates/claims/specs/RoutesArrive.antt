-- The same of SLAAC's default routes: each has its router, it leaves when the router's time has come, and it comes at the next poll after the
-- router's advertisement, with other calls between. Assumes nothing.
use Rattle.std.specs.Prelude.{ℕ, ◌+◌, ◌≤◌, ◌<◌, ◌≡◌, Bool, true, false, ◌||◌, List, [], ◌∷◌, ◌++◌, ◌⊎◌, length, ltb}
use Rattle.table.specs.Table.{any_of, fold_over, dropped}
use Rattle.time.specs.declared.Instant.{Instant}
use Rattle.time.specs.declared.Expiry.TheVariants.{At}
use Rattle.time.specs.ClockRules.{is_after}
use Rattle.time.specs.TimeRules.{add_of, seconds_of}
use Rattle.wire.specs.declared.ipv6.Ipv6Addr.{Ipv6Addr}
use Rattle.wire.specs.declared.ethernet.HardwareAddress.{HardwareAddress}
use Rattle.wire.specs.Rfc4291.{same_addr}
use Rattle.ndisc.specs.Rfc4861Messages.{router_advert_at}
use Rattle.iface.specs.declared.route.Routes.{Routes}
use Rattle.iface.specs.RouteRules.{routes_of, is_installed, is_learned}
use Rattle.slaac.specs.declared.Router.{Router}
use Rattle.slaac.specs.declared.Slaac.{Slaac}
use Rattle.slaac.specs.LearnedRules.{routers_of, is_router}
use Rattle.autoconf.specs.SyncRules.{sync_router}
use Rattle.claims.specs.Lists.{All, Member}
use Rattle.claims.specs.Traces.{ms, neighbour}
use Rattle.claims.specs.Early.{Host, HostCall, advertise, poll, Step, Run, Before, TakesPoll, Takes, route_stands}
use Rattle.claims.specs.Examples.{mac, router, header}
use Rattle.claims.specs.Arrives.{up_host, ra_host, end_host, second_host, both_host, hour_host}

-- a host that calls made, from one with no SLAAC route of the interface, whatever it had learned
pub record RoutesMade (i : ℕ) (hw : HardwareAddress) (y : Host) : Type 0 where
  pub start : Host
  pub calls : List HostCall
  pub run : Run i hw start calls y
  pub none_yet : any_of (is_learned i) (routes_of start.routes) ≡ false

-- SLAAC's default route of the interface by that router is not there twice
abbrev pub RouteOnce : ℕ → Ipv6Addr → Routes → Type 0
RouteOnce i via t = length (dropped (is_installed i via) (routes_of t)) ≤ 1

-- every entry of that router has ended by now; or is still valid
abbrev pub RouterEnded : Ipv6Addr → Instant → Slaac → Type 0
RouterEnded via now s = All (λ r. is_router via r ≡ true → is_after (At r.valid_until) now ≡ false) (routers_of s)

abbrev pub RouterValid : Ipv6Addr → Instant → Slaac → Type 0
RouterValid via now s = All (λ r. is_router via r ≡ true → is_after (At r.valid_until) now ≡ true) (routers_of s)

-- "the source's entry is refreshed or appended, expiring at now + lifetime": the source's entry, or room
abbrev pub has_router_place : Ipv6Addr → List Router → Bool
has_router_place source rs = any_of (is_router source) rs || ltb (length rs) 2

-- The advertisement is taken, SLAAC is on, the router's lifetime is above 0, and it finds a place.
pub record Announces (i : ℕ) (s : Slaac) (source : Ipv6Addr) (msg : List ℕ) (now : Instant) : Type 0 where
  pub taken : Takes i source msg now
  pub is_on : s.on ≡ true
  pub lifetime : 0 < (router_advert_at msg).router_lifetime
  pub place : has_router_place source (routers_of s) ≡ true

-- the entry that it asks for
abbrev pub router_by : Ipv6Addr → List ℕ → Instant → Router
router_by source msg now = record { addr = source; valid_until = add_of now (seconds_of (router_advert_at msg).router_lifetime) }

-- the router is in the table, with its time, SLAAC is on, and a sync is asked for
pub record Announced (s : Slaac) (r : Router) : Type 0 where
  pub there : Member r (routers_of s)
  pub is_on : s.on ≡ true
  pub asked : s.sync_required ≡ true

-- a call between the advertisement and the next poll: no poll of interface i that is taken, no turning off of SLAAC there, and of the
-- advertisements none of that router that is taken; any other
abbrev pub MeanwhileOf : ℕ → Ipv6Addr → HostCall → Type 0
MeanwhileOf i via call = Before (λ now. TakesPoll i now → ⊥) (λ source msg now. Takes i source msg now → same_addr source via ≡ false) call

-- the route is there, or there is room for it even if each router brings a route
abbrev pub HasRouteRoom : ℕ → Ipv6Addr → Host → Type 0
HasRouteRoom i via x = (route_stands i via (routes_of x.routes) ≡ true) ⊎ (length (routes_of x.routes) + length (routers_of x.slaac) ≤ 8)

-- or there is room when the routers before it in the table have had their turn
abbrev pub HasRoomAfter : ℕ → Instant → List Router → Host → Type 0
HasRoomAfter i now before x = length (routes_of (fold_over (sync_router i now) x.routes before)) < 8

-- A router announces itself; such calls follow, as many as there are, and then a poll that is taken, while each entry of the router is valid and
-- there is room. The host as the advertisement comes, as the poll comes, and after it.
pub record RouteOffered (i : ℕ) (hw : HardwareAddress) (via : Ipv6Addr) (between : List HostCall) (x y z : Host) : Type 0 where
  pub msg : List ℕ
  pub now : Instant
  pub later : Instant
  pub heard : Host
  pub hears : Step i hw x (advertise via msg now) heard
  pub announces : Announces i x.slaac via msg now
  pub waits : Run i hw heard between y
  pub meanwhile : All (MeanwhileOf i via) between
  pub polls : Step i hw y (poll later) z
  pub taken : TakesPoll i later
  pub valid : RouterValid via later y.slaac
  pub room : HasRouteRoom i via y

pub record RoutesArrive : Type 0 where
  -- Every SLAAC default route in a host that calls made has its router in the table, and stands once; with SLAAC off there is none.
  pub backed : (i : ℕ) (hw : HardwareAddress) (via : Ipv6Addr) (y : Host) → RoutesMade i hw y → route_stands i via (routes_of y.routes) ≡ true
      → any_of (is_router via) (routers_of y.slaac) ≡ true
  pub once : (i : ℕ) (hw : HardwareAddress) (via : Ipv6Addr) (y : Host) → RoutesMade i hw y → RouteOnce i via y.routes
  pub none_off : (i : ℕ) (hw : HardwareAddress) (via : Ipv6Addr) (y : Host) → RoutesMade i hw y → y.slaac.on ≡ false → route_stands i via (routes_of y.routes) ≡ false
  -- "Routers likewise": a poll that is taken at or after the end of every entry of the router, and there is one, leaves no route by it.
  pub leaves : (i : ℕ) (hw : HardwareAddress) (via : Ipv6Addr) (now : Instant) (x y : Host) → Step i hw x (poll now) y → TakesPoll i now → x.slaac.on ≡ true
      → RouteOnce i via x.routes → any_of (is_router via) (routers_of x.slaac) ≡ true → RouterEnded via now x.slaac
      → route_stands i via (routes_of y.routes) ≡ false
  -- In a host that calls made it leaves none whether SLAAC is on or off, and whether the router has an entry or none.
  pub leaves_made : (i : ℕ) (hw : HardwareAddress) (via : Ipv6Addr) (now : Instant) (x y : Host) → RoutesMade i hw x → Step i hw x (poll now) y → TakesPoll i now
      → RouterEnded via now x.slaac → route_stands i via (routes_of y.routes) ≡ false
  -- A router that announces itself is in the table, expiring at now + lifetime, and a sync is asked for.
  pub announced : (i : ℕ) (hw : HardwareAddress) (source : Ipv6Addr) (msg : List ℕ) (now : Instant) (x y : Host) → Step i hw x (advertise source msg now) y
      → Announces i x.slaac source msg now → Announced y.slaac (router_by source msg now)
  -- It waits there: until a poll is taken, SLAAC is turned off, or an advertisement of that router is taken, no call changes that.
  pub waits : (i : ℕ) (hw : HardwareAddress) (r : Router) (x y : Host) (cs : List HostCall) → Run i hw x cs y → All (MeanwhileOf i r.addr) cs
      → Announced x.slaac r → Announced y.slaac r
  -- A poll that is taken makes a default route of it, if each of its entries is valid and there is room.
  pub comes : (i : ℕ) (hw : HardwareAddress) (r : Router) (now : Instant) (x y : Host) → Step i hw x (poll now) y → TakesPoll i now → Announced x.slaac r
      → RouterValid r.addr now x.slaac → HasRouteRoom i r.addr x → route_stands i r.addr (routes_of y.routes) ≡ true
  -- However many routes the interfaces' table holds, it does so if there is room when the router's turn comes.
  pub in_turn : (i : ℕ) (hw : HardwareAddress) (r : Router) (now : Instant) (x y : Host) → Step i hw x (poll now) y → TakesPoll i now → Announced x.slaac r
      → RouterValid r.addr now x.slaac → (before after : List Router) → routers_of x.slaac ≡ before ++ (r ∷ after)
      → HasRoomAfter i now before x → route_stands i r.addr (routes_of y.routes) ≡ true
  -- An advertisement and the next poll, with such calls between: what is offered comes.
  pub arrives : (i : ℕ) (hw : HardwareAddress) (via : Ipv6Addr) (between : List HostCall) (x y z : Host) → RouteOffered i hw via between x y z
      → route_stands i via (routes_of z.routes) ≡ true
  -- Document 01's event file meets all this: what its router offers is in the last poll, also if another router is heard between; calls made the
  -- host that it ends with, and an hour later the router has ended and a poll is taken.
  pub file_offers : RouteOffered 0 mac router [] up_host ra_host end_host
  pub file_waits : RouteOffered 0 mac router (advertise (neighbour 2).addr header (ms 500) ∷ []) up_host second_host both_host
  pub file_made : RoutesMade 0 mac end_host
  pub file_stands : route_stands 0 router (routes_of end_host.routes) ≡ true
  pub file_ends : RouterEnded router (ms 3600500) end_host.slaac
  pub file_polls : Step 0 mac end_host (poll (ms 3600500)) hour_host
  pub file_taken : TakesPoll 0 (ms 3600500)
