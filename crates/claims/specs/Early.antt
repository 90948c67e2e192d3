-- "an address gone early": no SLAAC address and no default route leaves before its time. Assumes nothing.
use Rattle.std.specs.Prelude.{ℕ, ◌≤◌, ◌<◌, ◌≡◌, Bool, true, false, List, [], ◌∷◌, Ok}
use Rattle.table.specs.Table.{any_of, first_of}
use Rattle.time.specs.declared.Instant.{Instant}
use Rattle.time.specs.declared.Duration.{Duration}
use Rattle.time.specs.declared.Expiry.{Expiry}
use Rattle.time.specs.declared.Expiry.TheVariants.{At, Forever}
use Rattle.time.specs.declared.Clock.{Clock}
use Rattle.time.specs.TimeRules.{add_of, seconds_of}
use Rattle.wire.specs.declared.ipv6.Ipv6Addr.{Ipv6Addr}
use Rattle.wire.specs.declared.ipv6.Ipv6Cidr.{Ipv6Cidr}
use Rattle.wire.specs.declared.ipv6.Formed.TheVariants.{Addr}
use Rattle.wire.specs.declared.ethernet.HardwareAddress.{HardwareAddress}
use Rattle.wire.specs.Refusals.{time_check}
use Rattle.wire.specs.Rfc2464.{formed_of}
use Rattle.wire.specs.Rfc4291.{same_addr}
use Rattle.ndisc.specs.declared.ndiscoption.PrefixInformation.{PrefixInformation}
use Rattle.ndisc.specs.Rfc4861Messages.{router_advert_at}
use Rattle.neighbor.specs.declared.NeighborCache.{NeighborCache}
use Rattle.pending.specs.declared.PendingQueue.{PendingQueue}
use Rattle.iface.specs.declared.addr.IfaceAddr.{IfaceAddr}
use Rattle.iface.specs.declared.addr.IfaceAddrs.{IfaceAddrs}
use Rattle.iface.specs.declared.addr.Added.{Added}
use Rattle.iface.specs.declared.route.Route.{Route}
use Rattle.iface.specs.declared.route.Routes.{Routes}
use Rattle.iface.specs.declared.route.AddedRoute.{AddedRoute}
use Rattle.iface.specs.AddressRules.{addrs_of, is_addr, is_from_slaac, AddedTo}
use Rattle.iface.specs.RouteRules.{routes_of, is_installed, AddedRouteTo}
use Rattle.slaac.specs.declared.Prefix.{Prefix}
use Rattle.slaac.specs.declared.Router.{Router}
use Rattle.slaac.specs.declared.Slaac.{Slaac}
use Rattle.slaac.specs.declared.Changed.{Changed}
use Rattle.slaac.specs.LearnedRules.{prefixes_of, routers_of, is_skipped, cidr_of, prefix_of}
use Rattle.slaac.specs.DiscoveryRules.{RestartedTo, TurnedOnTo}
use Rattle.autoconf.specs.declared.Advertised.{Advertised}
use Rattle.autoconf.specs.declared.Polled.{Polled}
use Rattle.autoconf.specs.declared.PolledAt.{PolledAt}
use Rattle.autoconf.specs.declared.TurnedOff.{TurnedOff}
use Rattle.autoconf.specs.AdvertRules.{message_check, options_in, prefix_options, AdvertisedTo}
use Rattle.autoconf.specs.PollRules.{PolledTo}
use Rattle.autoconf.specs.OffRules.{TurnedOffTo}
use Rattle.lent.specs.LentRules.{PolledBy}
use Rattle.claims.specs.Lists.{All}

-- Calls, as one interface sees them

-- what SLAAC learned on the interface, its addresses, and the routes, which the interfaces share
pub record Host : Type 0 where
  pub slaac : Slaac
  pub addrs : IfaceAddrs
  pub routes : Routes

pub data HostCall : Type 0 where
  -- an advertisement: source, message, now
  advertise : Ipv6Addr → List ℕ → Instant → HostCall
  poll : Instant → HostCall
  restart : HostCall
  turn_on_is : HostCall
  -- the application adds an address, or a route of any interface
  add_addr : HostCall
  add_route : HostCall
  turn_off : HostCall
  -- another interface is polled, or SLAAC is turned off there
  poll_elsewhere : HostCall
  off_elsewhere : HostCall

-- one call that its function's promise allows, on interface i with hardware address hw; polls with the clock lent, and with it by value
pub data Step (i : ℕ) (hw : HardwareAddress) : Host → HostCall → Host → Type 0 where
  advertised : (x : Host) (c : NeighborCache) (source : Ipv6Addr) (msg : List ℕ) (now : Instant) (r : Advertised) → AdvertisedTo x.slaac c i source msg now r
      → Step i hw x (advertise source msg now) (record { slaac = r.slaac; addrs = x.addrs; routes = x.routes })
  polled : (x : Host) (up : Bool) (buf buf' : List ℕ) (k k' : Clock) (r : Polled) → PolledBy x.slaac x.addrs x.routes i up hw buf k r buf' k'
      → Step i hw x (poll k.now) (record { slaac = r.slaac; addrs = r.addrs; routes = r.routes })
  polled_at : (x : Host) (up : Bool) (buf buf' : List ℕ) (k : Clock) (r : PolledAt) → PolledTo x.slaac x.addrs x.routes i up hw buf k r buf'
      → Step i hw x (poll k.now) (record { slaac = r.polled.slaac; addrs = r.polled.addrs; routes = r.polled.routes })
  restarted : (x : Host) (r : Changed) → RestartedTo x.slaac i r → Step i hw x restart (record { slaac = r.slaac; addrs = x.addrs; routes = x.routes })
  turned_on : (x : Host) (r : Changed) → TurnedOnTo x.slaac i r → Step i hw x turn_on_is (record { slaac = r.slaac; addrs = x.addrs; routes = x.routes })
  addr_added : (x : Host) (c : Ipv6Cidr) (r : Added) → AddedTo x.addrs i c r
      → Step i hw x add_addr (record { slaac = x.slaac; addrs = r.addrs; routes = x.routes })
  route_added : (x : Host) (j : ℕ) (c : Ipv6Cidr) (via : Ipv6Addr) (r : AddedRoute) → AddedRouteTo x.routes j c via r
      → Step i hw x add_route (record { slaac = x.slaac; addrs = x.addrs; routes = r.routes })
  turned_off : (x : Host) (c : NeighborCache) (q : PendingQueue) (r : TurnedOff) → TurnedOffTo x.slaac x.addrs x.routes c q i r
      → Step i hw x turn_off (record { slaac = r.slaac; addrs = r.addrs; routes = r.routes })
  polled_elsewhere : (x : Host) (j : ℕ) (s : Slaac) (t : IfaceAddrs) (up : Bool) (h : HardwareAddress) (buf buf' : List ℕ) (k k' : Clock) (r : Polled)
      → (j ≡ i → ⊥) → PolledBy s t x.routes j up h buf k r buf' k'
      → Step i hw x poll_elsewhere (record { slaac = x.slaac; addrs = x.addrs; routes = r.routes })
  polled_at_elsewhere : (x : Host) (j : ℕ) (s : Slaac) (t : IfaceAddrs) (up : Bool) (h : HardwareAddress) (buf buf' : List ℕ) (k : Clock) (r : PolledAt)
      → (j ≡ i → ⊥) → PolledTo s t x.routes j up h buf k r buf'
      → Step i hw x poll_elsewhere (record { slaac = x.slaac; addrs = x.addrs; routes = r.polled.routes })
  off_elsewhere_lem : (x : Host) (j : ℕ) (s : Slaac) (t : IfaceAddrs) (c : NeighborCache) (q : PendingQueue) (r : TurnedOff)
      → (j ≡ i → ⊥) → TurnedOffTo s t x.routes c q j r
      → Step i hw x off_elsewhere (record { slaac = x.slaac; addrs = x.addrs; routes = r.routes })

-- calls one after the other
pub data Run (i : ℕ) (hw : HardwareAddress) : Host → List HostCall → Host → Type 0 where
  none : (x : Host) → Run i hw x [] x
  one_more : {x y z : Host} {c : HostCall} {cs : List HostCall} → Step i hw x c y → Run i hw y cs z → Run i hw x (c ∷ cs) z

-- A call in time: a poll, if its now is as `early` says, an advertisement that is as `spares` says, and any other but turning SLAAC off on the
-- interface itself, which "removes its addresses and routes"
abbrev pub Before : (Instant → Type 0) → (Ipv6Addr → List ℕ → Instant → Type 0) → HostCall → Type 0
Before early spares (advertise source msg now) = spares source msg now
Before early spares (poll now) = early now
Before early spares restart = Unit {0}
Before early spares turn_on_is = Unit {0}
Before early spares add_addr = Unit {0}
Before early spares add_route = Unit {0}
Before early spares turn_off = ⊥
Before early spares poll_elsewhere = Unit {0}
Before early spares off_elsewhere = Unit {0}

-- a poll on interface i is taken: neither its time nor the interface is refused; an advertisement, if its message is not refused either
abbrev pub TakesPoll : ℕ → Instant → Type 0
TakesPoll i now = time_check now i ≡ Ok tt

abbrev pub Takes : ℕ → Ipv6Addr → List ℕ → Instant → Type 0
Takes i source msg now = (time_check now i ≡ Ok tt) × (message_check source msg ≡ Ok tt)

-- Addresses

-- the entry of that address and length is there, and SLAAC's
abbrev pub stands : Ipv6Cidr → List IfaceAddr → Bool
stands a es = first_of (is_addr a) is_from_slaac false es

-- before v; forever is after all
abbrev pub Earlier : Expiry → Instant → Type 0
Earlier (At v) now = now.0 < v.0
Earlier Forever now = Unit {0}

-- v or longer
abbrev pub Reaches : Expiry → Expiry → Type 0
Reaches v Forever = Unit {0}
Reaches (At v) (At e) = v.0 ≤ e.0
Reaches Forever (At e) = ⊥

-- if the prefix forms the address, it is valid until v or longer
abbrev pub LastsTo : Expiry → HardwareAddress → Ipv6Cidr → Prefix → Type 0
LastsTo v hw a p = formed_of hw p.cidr ≡ Addr a → Reaches v p.valid_until

-- if the option is not skipped, and its prefix forms the address, then it says so too
abbrev pub Spares : Expiry → HardwareAddress → Ipv6Cidr → Instant → PrefixInformation → Type 0
Spares v hw a now o = is_skipped o ≡ false → LastsTo v hw a (prefix_of o now)

-- a call of interface i: a poll that is taken is before v, and the prefixes of an advertisement that is taken spare the address; or, without
-- times, none of them forms it
abbrev pub Harmless : ℕ → Expiry → HardwareAddress → Ipv6Cidr → HostCall → Type 0
Harmless i v hw a c =
    Before (λ now. TakesPoll i now → Earlier v now)
    (λ source msg now. Takes i source msg now → All (Spares v hw a now) (prefix_options (options_in msg)))
    c

abbrev pub Names : HardwareAddress → Ipv6Cidr → PrefixInformation → Type 0
Names hw a o = (is_skipped o ≡ false) × (formed_of hw (cidr_of o) ≡ Addr a)

abbrev pub Silent : ℕ → Expiry → HardwareAddress → Ipv6Cidr → HostCall → Type 0
Silent i v hw a c =
    Before (λ now. TakesPoll i now → Earlier v now)
    (λ source msg now. Takes i source msg now → All (λ o. Names hw a o → ⊥) (prefix_options (options_in msg)))
    c

-- Routes

-- the interface's default route by that router is there, and SLAAC's
abbrev pub route_stands : ℕ → Ipv6Addr → List Route → Bool
route_stands i via es = any_of (is_installed i via) es

-- if it is that router, it lasts until v or longer
abbrev pub RouterLastsTo : ℕ → Ipv6Addr → Router → Type 0
RouterLastsTo v via r = same_addr r.addr via ≡ true → v ≤ r.valid_until.0

-- if the advertisement is that router's, its lifetime ends at v or later
abbrev pub RouterSpares : ℕ → Ipv6Addr → Instant → Ipv6Addr → Duration → Type 0
RouterSpares v via now source lifetime = same_addr source via ≡ true → v ≤ (add_of now lifetime).0

abbrev pub HarmlessTo : ℕ → ℕ → Ipv6Addr → HostCall → Type 0
HarmlessTo i v via c =
    Before (λ now. TakesPoll i now → now.0 < v)
    (λ source msg now. Takes i source msg now → RouterSpares v via now source (seconds_of (router_advert_at msg).router_lifetime))
    c

-- or, without times, it is another router's
abbrev pub SilentTo : ℕ → ℕ → Ipv6Addr → HostCall → Type 0
SilentTo i v via c = Before (λ now. TakesPoll i now → now.0 < v) (λ source msg now. Takes i source msg now → same_addr source via ≡ false) c

-- The claim

pub record NotEarly : Type 0 where
  -- A SLAAC address stands, and every prefix of the table that forms it is valid until v or longer. Whatever advertisements are taken that
  -- do not say otherwise of such a prefix, whatever else comes and is refused, whatever the application adds and however often discovery
  -- restarts: short of turning SLAAC off there, before a poll at v or later is taken it stands. Where v is forever, no poll takes it.
  pub address : (i : ℕ) (hw : HardwareAddress) (a : Ipv6Cidr) (v : Expiry) (x y : Host) (cs : List HostCall) → Run i hw x cs y
      → stands a (addrs_of x.addrs) ≡ true → All (LastsTo v hw a) (prefixes_of x.slaac) → All (Harmless i v hw a) cs
      → stands a (addrs_of y.addrs) ≡ true
  -- The same for one prefix: it is the only one of the table that forms the address, and no advertisement that is taken names it or another that does.
  pub address_of : (i : ℕ) (hw : HardwareAddress) (a : Ipv6Cidr) (p : Prefix) (x y : Host) (cs : List HostCall) → Run i hw x cs y
      → stands a (addrs_of x.addrs) ≡ true → All (λ q. formed_of hw q.cidr ≡ Addr a → q ≡ p) (prefixes_of x.slaac)
      → All (Silent i p.valid_until hw a) cs
      → stands a (addrs_of y.addrs) ≡ true
  -- A router's default route stands, and the router's entry lasts until v or longer. Whatever other routers advertise, other interfaces
  -- do and the application adds: before a poll at v or later is taken it stands.
  pub route : (i : ℕ) (hw : HardwareAddress) (via : Ipv6Addr) (v : ℕ) (x y : Host) (cs : List HostCall) → Run i hw x cs y
      → route_stands i via (routes_of x.routes) ≡ true → All (RouterLastsTo v via) (routers_of x.slaac) → All (HarmlessTo i v via) cs
      → route_stands i via (routes_of y.routes) ≡ true
  -- The same for one router: it is the only entry of that address, and no advertisement that is taken is its own.
  pub route_of : (i : ℕ) (hw : HardwareAddress) (p : Router) (x y : Host) (cs : List HostCall) → Run i hw x cs y
      → route_stands i p.addr (routes_of x.routes) ≡ true → All (λ q. same_addr q.addr p.addr ≡ true → q ≡ p) (routers_of x.slaac)
      → All (SilentTo i p.valid_until.0 p.addr) cs
      → route_stands i p.addr (routes_of y.routes) ≡ true
