-- Demand 1: "Bad input is refused by number, and a refusal leaves tables and lent bytes as they were." Call by call, with the rows of document
-- 01's table that the call can fail, from the top: it answers a refusal's number exactly if one of them fails, and then the first one's. A table
-- that a call is given and does not give back it cannot change: states are values. Assumes nothing.
use Rattle.ndisc.specs.declared.ndisc.RouterAdvert.{RouterAdvert}
use Rattle.neighbor.specs.declared.Neighbor.{Neighbor}
use Rattle.pending.specs.declared.PendingPacket.{PendingPacket}
use Rattle.iface.specs.declared.addr.IfaceAddr.{IfaceAddr}
use Rattle.iface.specs.declared.route.Route.{Route}
use Rattle.slaac.specs.declared.Prefix.{Prefix}
use Rattle.slaac.specs.declared.Router.{Router}
use Rattle.std.specs.Prelude.{ℕ, ◌+◌, ◌<◌, ◌^◌, ◌≡◌, Bool, true, false, cond, not, ◌&&◌, List, [], ◌∷◌, ◌++◌, map, ◌⊎◌, length, drop, replicate, ltb, Result, Ok, Option}
use Rattle.time.specs.declared.Instant.{Instant}
use Rattle.time.specs.declared.Clock.{Clock}
use Rattle.wire.specs.declared.ethernet.HardwareAddress.{HardwareAddress}
use Rattle.wire.specs.declared.ipv6.Ipv6Addr.{Ipv6Addr}
use Rattle.wire.specs.declared.ipv6.Ipv6Cidr.{Ipv6Cidr}
use Rattle.wire.specs.declared.ipv6.Formed.{Formed}
use Rattle.wire.specs.declared.error.Refusal.{Refusal}
use Rattle.wire.specs.declared.error.Refusal.TheVariants.{Malformed, NotUnicast, TooLate, NoRoom, NotAdvertisement, NotLinkLocal, NoSuchIface, Full, Duplicate, PrefixTooLong}
use Rattle.wire.specs.Refusals.{Row, number_of, check_number, outcome_number, first_number, Tested, iface_rows, time_rows, key_rows, fill_rows}
use Rattle.wire.specs.Rfc2464.{Forms, formed_number}
use Rattle.ndisc.specs.declared.ndiscoption.Checked.{Checked}
use Rattle.ndisc.specs.declared.ndiscoption.Next.{Next}
use Rattle.ndisc.specs.declared.ndisc.Solicited.{Solicited}
use Rattle.ndisc.specs.Answers.{checked_number, written_number, walk_number, next_number, advert_number as headerNumber, solicited_number}
use Rattle.ndisc.specs.Rfc4861Options.{malformed}
use Rattle.ndisc.specs.OptionCalls.{Checks, Wrote, room, mtu_bytes}
use Rattle.ndisc.specs.OptionWalk.{Walks, Steps, malformed_option}
use Rattle.ndisc.specs.Rfc4861Messages.{Adverts, Solicits, not_advertisement}
use Rattle.neighbor.specs.declared.NeighborCache.{NeighborCache}
use Rattle.neighbor.specs.declared.Answer.{Answer}
use Rattle.neighbor.specs.declared.Changed.{Changed}
use Rattle.neighbor.specs.declared.Removed.{Removed}
use Rattle.neighbor.specs.Answers.{answer_number, got_number_is, listed_number}
use Rattle.neighbor.specs.CacheCalls.{LookedUp, StartTo, InsertTo, FillTo, ClearTo, GotBy, ListedAt, RemovedTo}
use Rattle.sweep.specs.declared.Events.{Events}
use Rattle.sweep.specs.declared.Swept.{Swept}
use Rattle.sweep.specs.SweepCalls.{SweptTo, event_list}
use Rattle.pending.specs.declared.PendingQueue.{PendingQueue}
use Rattle.pending.specs.declared.Pushed.{Pushed}
use Rattle.pending.specs.declared.Released.{Released}
use Rattle.pending.specs.declared.Purged.{Purged}
use Rattle.pending.specs.QueueCalls.{push_number, pushed_out, release_number, released_out, waiting_number, PushedTo, ReleasedTo, OrphansPurged, PurgedTo, WaitingAt}
use Rattle.iface.specs.declared.addr.IfaceAddrs.{IfaceAddrs}
use Rattle.iface.specs.declared.addr.Added.{Added}
use Rattle.iface.specs.declared.route.Routes.{Routes}
use Rattle.iface.specs.declared.route.AddedRoute.{AddedRoute}
use Rattle.iface.specs.Answers.{source_number, addr_at_number, route_at_number}
use Rattle.iface.specs.AddressRules.{addrs_of, manual_addr, no_addr, addr_rows, AddedTo, LocalOf, AddrListed}
use Rattle.iface.specs.RouteRules.{routes_of, route_rows, AddedRouteTo, RouteListed}
use Rattle.slaac.specs.declared.Slaac.{Slaac}
use Rattle.slaac.specs.declared.Changed.{Changed as Turned}
use Rattle.slaac.specs.LearnedRules.{prefix_at_number, router_at_number, PrefixListed, RouterListed, unspecified}
use Rattle.slaac.specs.DiscoveryRules.{RestartedTo, TurnedOnTo}
use Rattle.autoconf.specs.declared.AdvertAnswer.TheVariants.{Off as NotHeard}
use Rattle.autoconf.specs.declared.PollAnswer.TheVariants.{Off}
use Rattle.autoconf.specs.declared.Advertised.{Advertised}
use Rattle.autoconf.specs.declared.Polled.{Polled}
use Rattle.autoconf.specs.declared.PolledAt.{PolledAt}
use Rattle.autoconf.specs.declared.TurnedOff.{TurnedOff}
use Rattle.autoconf.specs.Answers.{advert_number, poll_number}
use Rattle.autoconf.specs.AdvertRules.{message_rows, AdvertisedTo}
use Rattle.autoconf.specs.PollRules.{PolledTo}
use Rattle.autoconf.specs.OffRules.{TurnedOffTo}
use Rattle.lent.specs.declared.Reported.{Reported}
use Rattle.lent.specs.LentRules.{ReportedTo, PolledBy}

-- of these rows one fails, none above it does, and `why` is its refusal
pub data FirstFails (why : Refusal) : List Row → Type 0 where
  here : {row : Row} {rows : List Row} → row.refusal ≡ why → row.fails ≡ true → FirstFails why (row ∷ rows)
  below : {row : Row} {rows : List Row} → row.fails ≡ false → FirstFails why rows → FirstFails why (row ∷ rows)

abbrev pub NoneFails : List Row → Type 0
NoneFails [] = Unit {0}
NoneFails (row ∷ rows) = (row.fails ≡ false) × NoneFails rows

-- A call that can fail these rows, and answered this number. AsItCame says that every table, clock and byte that it gives back is as it came.
pub record Refuses (rows : List Row) (number : ℕ) (AsItCame : Type 0) : Type 0 where
  -- "Bad input is refused by number": the number is that of the first row that fails
  pub refused : (why : Refusal) → FirstFails why rows → number ≡ number_of why
  -- and only if it is that row's
  pub only_so : (why : Refusal) → number ≡ number_of why → FirstFails why rows
  -- where none fails the number is 0
  pub taken : NoneFails rows → number ≡ 0
  -- and only there
  pub only_then : number ≡ 0 → NoneFails rows
  -- "a refusal leaves tables and lent bytes as they were"
  pub leaves : 0 < number → AsItCame

-- the call gives no table back, and no byte that it is lent is its to write
abbrev pub NothingToChange : Type 0
NothingToChange = Unit {0}

-- Rows that stand in no crate

-- 1: "malformed option"
abbrev pub malformed_row : Bool → Row
malformed_row there = record { refusal = Malformed; fails = there }

-- 4: "no room to write an option at the place"
abbrev pub write_rows : List ℕ → ℕ → List ℕ → List Row
write_rows msg at bs = record { refusal = NoRoom; fails = not (room msg at (length bs)) } ∷ []

-- "With SLAAC off this call and the poll answer Off, after 3 and 7 and before 5"
abbrev pub advert_rows : Bool → Instant → ℕ → Ipv6Addr → List ℕ → List Row
advert_rows on now iface source msg = time_rows now iface ++ cond on (message_rows source msg) []

-- What is as it came

-- an advertisement's call: SLAAC's state and the cache
abbrev pub Unheard : Slaac → NeighborCache → Advertised → Type 0
Unheard s c r = (r.slaac ≡ s) × (r.cache ≡ c)

-- a sweep: the cache and the clock; "a refused sweep is none", so there is no event
abbrev pub Unswept : NeighborCache → Clock → NeighborCache → Clock → Events → Type 0
Unswept c k c' k' events = (c' ≡ c) × (k' ≡ k) × (event_list events ≡ [])

-- a poll: SLAAC's state, the addresses, the routes, the clock and the lent bytes
abbrev pub Unpolled : Slaac → IfaceAddrs → Routes → Clock → List ℕ → Polled → Clock → List ℕ → Type 0
Unpolled s t r k buf p k' buf' = (p.slaac ≡ s) × (p.addrs ≡ t) × (p.routes ≡ r) × (k' ≡ k) × (buf' ≡ buf)

-- turning SLAAC off: all five tables; and no handle comes back
abbrev pub NotTurnedOff : Slaac → IfaceAddrs → Routes → NeighborCache → PendingQueue → TurnedOff → Type 0
NotTurnedOff s t r c q x = (x.slaac ≡ s) × (x.addrs ≡ t) × (x.routes ≡ r) × (x.cache ≡ c) × (x.queue ≡ q) × (x.handles.len ≡ 0)

-- Rows that fail, one call for each number, in the table's order

abbrev pub local : Ipv6Addr
local = record { hi = 0xfe80000000000000; lo = 1 }

abbrev pub network : ℕ → Ipv6Cidr
network len = record { address = record { hi = 0x20010db800000001; lo = 0 }; prefix_len = len }

-- an advertisement with these options
abbrev pub advert : List ℕ → List ℕ
advert options = 134 ∷ 0 ∷ replicate 14 0 ++ options

abbrev pub failing : List (List Row)
failing =
    time_rows (record { 0 = 2 ^ 62 + 1 }) 4
    ∷ time_rows (record { 0 = 2 ^ 62 }) 4
    ∷ message_rows unspecified (replicate 15 134)
    ∷ message_rows unspecified (advert (replicate 7 0))
    ∷ key_rows 3 unspecified
    ∷ message_rows local (advert (replicate 7 0))
    ∷ addr_rows 3 (network 129) (manual_addr (network 129) ∷ [])
    ∷ addr_rows 3 (network 128) (manual_addr (network 128) ∷ replicate 7 no_addr)
    ∷ addr_rows 3 (network 128) (replicate 8 no_addr)
    ∷ write_rows (replicate 7 0) 0 (mtu_bytes 1500)
    ∷ []

-- the same calls, with a time, an interface, a message and addresses that just pass
abbrev pub passing : List (List Row)
passing =
    time_rows (record { 0 = 2 ^ 62 }) 3
    ∷ message_rows local (advert [])
    ∷ key_rows 3 local
    ∷ addr_rows 3 (network 128) (replicate 7 no_addr)
    ∷ write_rows (replicate 8 0) 0 (mtu_bytes 1500)
    ∷ []

pub record Refusals : Type 0 where
  -- The table

  -- its first column
  pub numbers : map number_of (TooLate ∷ NoSuchIface ∷ NotAdvertisement ∷ NotLinkLocal ∷ NotUnicast ∷ Malformed ∷ PrefixTooLong ∷ Duplicate ∷ Full ∷ NoRoom ∷ [])
      ≡ 3 ∷ 7 ∷ 5 ∷ 6 ∷ 2 ∷ 1 ∷ 14 ∷ 9 ∷ 8 ∷ 4 ∷ []
  -- no refusal has the number of a call that is taken, and no two refusals have one number
  pub above_none : (why : Refusal) → 0 < number_of why
  pub one_each : (why other : Refusal) → number_of why ≡ number_of other → why ≡ other
  -- some row fails, and then one is the first, or none does
  pub either : (rows : List Row) → ((why : Refusal) × FirstFails why rows) ⊎ NoneFails rows
  -- each row can be the first that fails, 3 above 7, 5 above 6, 6 above 1, 14 above 9 and 9 above 8 that fail too; and there may be none
  pub each : map first_number failing ≡ 3 ∷ 7 ∷ 5 ∷ 6 ∷ 2 ∷ 1 ∷ 14 ∷ 9 ∷ 8 ∷ 4 ∷ []
  pub none : map first_number passing ≡ 0 ∷ 0 ∷ 0 ∷ 0 ∷ 0 ∷ []
  -- a test of a call's arguments alone
  pub check : (rows : List Row) (r : Result (Unit {0}) Refusal) → Tested rows r → Refuses rows (check_number r) NothingToChange
  -- The neighbour cache

  pub lookup : (c : NeighborCache) (iface : ℕ) (addr : Ipv6Addr) (r : Result Answer Refusal) → LookedUp c iface addr r
      → Refuses (key_rows iface addr) (answer_number r) NothingToChange
  pub start_resolution : (c : NeighborCache) (iface : ℕ) (addr : Ipv6Addr) (r : Changed) → StartTo c iface addr r
      → Refuses (key_rows iface addr) (outcome_number r.outcome) (r.cache ≡ c)
  pub fill : (c : NeighborCache) (iface : ℕ) (addr : Ipv6Addr) (hw : HardwareAddress) (now : Instant) (r : Changed) → FillTo c iface addr hw now r
      → Refuses (fill_rows now iface addr hw) (outcome_number r.outcome) (r.cache ≡ c)
  pub insert : (c : NeighborCache) (iface : ℕ) (addr : Ipv6Addr) (hw : HardwareAddress) (expires : Instant) (r : Changed)
      → InsertTo c iface addr hw expires r → Refuses (fill_rows expires iface addr hw) (outcome_number r.outcome) (r.cache ≡ c)
  pub get : (c : NeighborCache) (iface : ℕ) (addr : Ipv6Addr) (r : Result (Option Neighbor) Refusal) → GotBy c iface addr r → Refuses (iface_rows iface) (got_number_is r) NothingToChange
  pub remove : (c : NeighborCache) (iface : ℕ) (addr : Ipv6Addr) (r : Removed) → RemovedTo c iface addr r
      → Refuses (iface_rows iface) (got_number_is r.taken) (r.cache ≡ c)
  pub clear_iface : (c : NeighborCache) (iface : ℕ) (r : Changed) → ClearTo c iface r
      → Refuses (iface_rows iface) (outcome_number r.outcome) (r.cache ≡ c)
  -- a sweep, with the clock by value and with the clock lent
  pub sweep_at : (c : NeighborCache) (k : Clock) (iface : ℕ) (r : Swept) → SweptTo c k iface r
      → Refuses (time_rows k.now iface) (outcome_number r.outcome) (Unswept c k r.cache r.clock r.events)
  pub sweep : (c : NeighborCache) (k : Clock) (iface : ℕ) (r : Reported) (k' : Clock) → ReportedTo c k iface r k'
      → Refuses (time_rows k.now iface) (outcome_number r.outcome) (Unswept c k r.cache k' r.events)
  -- Waiting packets: no handle comes back either; "the queue takes any address"

  pub push : (q : PendingQueue) (iface : ℕ) (addr : Ipv6Addr) (handle : ℕ) (r : Pushed) → PushedTo q iface addr handle r
      → Refuses (iface_rows iface) (push_number r.answer) ((r.queue ≡ q) × (pushed_out r.answer ≡ []))
  pub release : (q : PendingQueue) (iface : ℕ) (addr : Ipv6Addr) (r : Released) → ReleasedTo q iface addr r
      → Refuses (iface_rows iface) (release_number r.answer) ((r.queue ≡ q) × (released_out r.answer ≡ []))
  pub purge_iface : (q : PendingQueue) (iface : ℕ) (r : Purged) → PurgedTo q iface r
      → Refuses (iface_rows iface) (outcome_number r.outcome) ((r.queue ≡ q) × (r.handles.len ≡ 0))
  -- What the application adds

  pub add_ip_addr : (t : IfaceAddrs) (iface : ℕ) (c : Ipv6Cidr) (r : Added) → AddedTo t iface c r
      → Refuses (addr_rows iface c (addrs_of t)) (outcome_number r.outcome) (r.addrs ≡ t)
  pub add_route : (t : Routes) (iface : ℕ) (c : Ipv6Cidr) (via : Ipv6Addr) (r : AddedRoute) → AddedRouteTo t iface c via r
      → Refuses (route_rows iface c via (routes_of t)) (outcome_number r.outcome) (r.routes ≡ t)
  -- SLAAC

  pub restart : (s : Slaac) (iface : ℕ) (r : Turned) → RestartedTo s iface r → Refuses (iface_rows iface) (outcome_number r.outcome) (r.slaac ≡ s)
  pub turn_on : (s : Slaac) (iface : ℕ) (r : Turned) → TurnedOnTo s iface r → Refuses (iface_rows iface) (outcome_number r.outcome) (r.slaac ≡ s)
  pub turn_off : (s : Slaac) (t : IfaceAddrs) (r : Routes) (c : NeighborCache) (q : PendingQueue) (iface : ℕ) (x : TurnedOff)
      → TurnedOffTo s t r c q iface x → Refuses (iface_rows iface) (outcome_number x.outcome) (NotTurnedOff s t r c q x)
  -- with SLAAC on, 3 and 7 and then the message's rows; with SLAAC off, 3 and 7
  pub advertisement : (s : Slaac) (c : NeighborCache) (iface : ℕ) (source : Ipv6Addr) (msg : List ℕ) (now : Instant) (r : Advertised)
      → AdvertisedTo s c iface source msg now r → Refuses (advert_rows s.on now iface source msg) (advert_number r.answer) (Unheard s c r)
  -- a poll, with the clock by value and with the clock lent
  pub poll_at : (s : Slaac) (t : IfaceAddrs) (r : Routes) (iface : ℕ) (up : Bool) (hw : HardwareAddress) (buf : List ℕ) (k : Clock) (p : PolledAt)
      (buf' : List ℕ) → PolledTo s t r iface up hw buf k p buf'
      → Refuses (time_rows k.now iface) (poll_number p.polled.answer) (Unpolled s t r k buf p.polled p.clock buf')
  pub poll : (s : Slaac) (t : IfaceAddrs) (r : Routes) (iface : ℕ) (up : Bool) (hw : HardwareAddress) (buf : List ℕ) (k : Clock) (p : Polled)
      (buf' : List ℕ) (k' : Clock) → PolledBy s t r iface up hw buf k p buf' k'
      → Refuses (time_rows k.now iface) (poll_number p.answer) (Unpolled s t r k buf p k' buf')
  -- "With SLAAC off this call and the poll answer Off, after 3 and 7 and before 5, and do nothing.": Off is no refusal, and leaves all as it came too
  pub advertisement_off : (s : Slaac) (c : NeighborCache) (iface : ℕ) (source : Ipv6Addr) (msg : List ℕ) (now : Instant) (r : Advertised)
      → AdvertisedTo s c iface source msg now r → s.on ≡ false → NoneFails (time_rows now iface) → (r.answer ≡ Ok NotHeard) × Unheard s c r
  pub poll_at_off : (s : Slaac) (t : IfaceAddrs) (r : Routes) (iface : ℕ) (up : Bool) (hw : HardwareAddress) (buf : List ℕ) (k : Clock) (p : PolledAt)
      (buf' : List ℕ) → PolledTo s t r iface up hw buf k p buf' → s.on ≡ false → NoneFails (time_rows k.now iface)
      → (p.polled.answer ≡ Ok Off) × Unpolled s t r k buf p.polled p.clock buf'
  pub poll_off : (s : Slaac) (t : IfaceAddrs) (r : Routes) (iface : ℕ) (up : Bool) (hw : HardwareAddress) (buf : List ℕ) (k : Clock) (p : Polled)
      (buf' : List ℕ) (k' : Clock) → PolledBy s t r iface up hw buf k p buf' k' → s.on ≡ false → NoneFails (time_rows k.now iface)
      → (p.answer ≡ Ok Off) × Unpolled s t r k buf p k' buf'
  -- Messages and options

  pub router_advert : (msg : List ℕ) (r : Result RouterAdvert Refusal) → Adverts msg r → Refuses (not_advertisement msg ∷ []) (headerNumber r) NothingToChange
  pub check_option : (option : List ℕ) (r : Checked) → Checks option r → Refuses (malformed_row (malformed option) ∷ []) (checked_number r) NothingToChange
  pub check_options : (msg : List ℕ) (from : ℕ) (r : Option ℕ) → Walks msg from r → Refuses (malformed_option msg from ∷ []) (walk_number r) NothingToChange
  pub next_option : (msg : List ℕ) (at : ℕ) (r : Next) → Steps msg at r
      → Refuses (malformed_row (ltb at (length msg) && malformed (drop at msg)) ∷ []) (next_number r) NothingToChange
  -- the writers of options: no byte of the message changes
  pub write : (msg : List ℕ) (at : ℕ) (bs : List ℕ) (r : Result (Unit {0}) Refusal) (msg' : List ℕ) → Wrote msg at bs r msg'
      → Refuses (write_rows msg at bs) (written_number r) (msg' ≡ msg)
  -- a solicitation: "answers no room (no refusal) and stays"
  pub write_solicit : (buf : List ℕ) (src : Ipv6Addr) (hw : HardwareAddress) (r : Solicited) (buf' : List ℕ) → Solicits buf src hw r buf'
      → (solicited_number r ≡ 0) × (length buf < 16 → buf' ≡ buf)
  -- Calls that refuse nothing

  pub purge_orphans : (q : PendingQueue) (c : NeighborCache) (r : Purged) → OrphansPurged q c r → outcome_number r.outcome ≡ 0
  pub neighbour_at : (c : NeighborCache) (index : ℕ) (r : Option Neighbor) → ListedAt c index r → listed_number r ≡ 0
  pub packet_at : (q : PendingQueue) (index : ℕ) (r : Option PendingPacket) → WaitingAt q index r → waiting_number r ≡ 0
  pub address_at : (t : IfaceAddrs) (index : ℕ) (r : Option IfaceAddr) → AddrListed t index r → addr_at_number r ≡ 0
  pub route_at : (t : Routes) (index : ℕ) (r : Option Route) → RouteListed t index r → route_at_number r ≡ 0
  pub prefix_at : (s : Slaac) (index : ℕ) (r : Option Prefix) → PrefixListed s index r → prefix_at_number r ≡ 0
  pub router_at : (s : Slaac) (index : ℕ) (r : Option Router) → RouterListed s index r → router_at_number r ≡ 0
  pub link_local : (t : IfaceAddrs) (r : Option Ipv6Addr) → LocalOf t r → source_number r ≡ 0
  pub from_link_prefix : (hw : HardwareAddress) (c : Ipv6Cidr) (r : Formed) → Forms hw c r → formed_number r ≡ 0
