-- A card that sleeps until a poll's deadline misses nothing of SLAAC. Assumes nothing.
use Rattle.wire.specs.declared.ipv6.Ipv6Addr.{Ipv6Addr}
use Rattle.std.specs.Prelude.{ℕ, ◌≡◌, Bool, true, cond, List, [], ◌∷◌, ◌++◌, eqb, replicate, Option, Some, None, Ok}
use Rattle.time.specs.declared.Instant.{Instant}
use Rattle.time.specs.declared.Expiry.{Expiry}
use Rattle.time.specs.declared.Expiry.TheVariants.{At as EndsAt, Forever}
use Rattle.time.specs.declared.Clock.{Clock}
use Rattle.time.specs.ClockRules.{idle}
use Rattle.wire.specs.declared.ethernet.HardwareAddress.{HardwareAddress}
use Rattle.wire.specs.Refusals.{time_check}
use Rattle.neighbor.specs.declared.NeighborCache.{NeighborCache}
use Rattle.neighbor.specs.CacheCalls.{entries}
use Rattle.sweep.specs.declared.Swept.{Swept}
use Rattle.iface.specs.declared.addr.IfaceAddrs.{IfaceAddrs}
use Rattle.iface.specs.declared.route.Routes.{Routes}
use Rattle.iface.specs.RouteRules.{empty_routes}
use Rattle.slaac.specs.declared.Prefix.{Prefix}
use Rattle.slaac.specs.declared.Router.{Router}
use Rattle.slaac.specs.declared.Phase.{Phase}
use Rattle.slaac.specs.declared.Phase.TheVariants.{Start, Discovering, Maintaining}
use Rattle.slaac.specs.declared.Discovery.{Discovery}
use Rattle.slaac.specs.declared.Slaac.{Slaac}
use Rattle.slaac.specs.LearnedRules.{prefixes_of, routers_of}
use Rattle.slaac.specs.DiscoveryRules.{fresh}
use Rattle.autoconf.specs.declared.Polled.{Polled}
use Rattle.autoconf.specs.declared.PollAnswer.TheVariants.{Quiet, Solicited}
use Rattle.autoconf.specs.PollRules.{sender_in, poll_by}
use Rattle.claims.specs.Traces.{ms}
use Rattle.claims.specs.Clocks.{Poll}
use Rattle.claims.specs.Examples.{mac, addresses, polls, up, ra, end}
use Rattle.claims.specs.Wake.{Asleep, times_of, already, IsEarliest, Round, swept_on, looked_for}

-- nothing sent, and all as it came
abbrev pub quietly : Slaac → IfaceAddrs → Routes → Polled
quietly s t r = record { slaac = s; addrs = t; routes = r; answer = Ok Quiet }

-- The times that SLAAC waits for

abbrev pub end_of : Expiry → List Instant
end_of (EndsAt t) = t ∷ []
end_of Forever = []

abbrev pub ends_of : {A : Type 0} → (A → Expiry) → List A → List Instant
ends_of expiry [] = []
ends_of expiry (x ∷ xs) = end_of (expiry x) ++ ends_of expiry xs

-- the time of the next solicitation
abbrev pub retry_of : Phase → List Instant
retry_of Start = []
retry_of (Discovering retry) = retry ∷ []
retry_of Maintaining = []

-- it is waited for where there is a source to send from and solicitations are left
abbrev pub retry_from : Option Ipv6Addr → Discovery → List Instant
retry_from None d = []
retry_from (Some a) d = cond (eqb d.num_solicitations 0) [] (retry_of d.phase)

abbrev pub slaac_times : Option Ipv6Addr → Slaac → List Instant
slaac_times source s =
    retry_from source s.discovery
    ++ (ends_of (λ (x : Prefix). x.valid_until) (prefixes_of s) ++ ends_of (λ (x : Router). EndsAt x.valid_until) (routers_of s))

-- polls one after the other on one clock, of any interfaces on which SLAAC is on, each polled once, and the times that SLAAC then waits for on them
pub data Polls : Clock → List Instant → Clock → Type 0 where
  none : (k : Clock) → Polls k [] k
  one_more : {i : ℕ} {up : Bool} {hw : HardwareAddress} {s : Slaac} {t : IfaceAddrs} {r : Routes} {buf : List ℕ} {k : Clock} {p : Polled} {buf' : List ℕ} {k' k'' : Clock} {times : List Instant}
      → Poll i up hw s t r buf k p buf' k' → time_check k.now i ≡ Ok tt → s.on ≡ true → Polls k' times k'' → Polls k (slaac_times (sender_in up t) p.slaac ++ times) k''

-- the clock after a poll of interface 0 on a new clock, as in document 01's event file
abbrev pub clock_after : Slaac → IfaceAddrs → Routes → ℕ → Clock
clock_after s t r now = (poll_by (time_check (ms now) 0) s t r 0 true mac (replicate 16 0) (idle (ms now))).clock

-- two sweeps on that clock, of a neighbour that was just looked for
abbrev pub then_swept : Swept
then_swept = swept_on looked_for (clock_after (fresh true) addresses empty_routes 0)

abbrev pub swept_twice : Swept
swept_twice = swept_on then_swept.cache then_swept.clock

pub record WakePoll : Type 0 where
  -- The deadline after a poll that is taken, SLAAC being on, is exactly the earliest of the times that SLAAC then waits for and the deadline before.
  pub exact : (i : ℕ) (up : Bool) (hw : HardwareAddress) (s : Slaac) (t : IfaceAddrs) (r : Routes) (buf : List ℕ) (k : Clock) (p : Polled) (buf' : List ℕ) (k' : Clock)
      → Poll i up hw s t r buf k p buf' k' → time_check k.now i ≡ Ok tt → s.on ≡ true
      → IsEarliest k'.deadline (already k.deadline ++ slaac_times (sender_in up t) p.slaac)
  -- A card does not spin. A clock that has a deadline after now, or none, has one after now, or none, after any poll, with SLAAC off and a refused one too.
  pub later : (i : ℕ) (up : Bool) (hw : HardwareAddress) (s : Slaac) (t : IfaceAddrs) (r : Routes) (buf : List ℕ) (k : Clock) (p : Polled) (buf' : List ℕ) (k' : Clock)
      → Poll i up hw s t r buf k p buf' k' → Asleep k.deadline k.now → Asleep k'.deadline k.now
  -- After a poll that is taken, SLAAC being on, no poll of what it left before its deadline sends, learns or forgets anything: each that is taken
  -- answers Quiet and leaves SLAAC, the addresses, the routes and the buffer as they came. The clock may have had any deadline before; the addresses
  -- and routes may have changed since, and the link too, if only the source to send from is the same.
  pub misses_nothing : (i : ℕ) (up : Bool) (hw : HardwareAddress) (s : Slaac) (t : IfaceAddrs) (r : Routes) (buf : List ℕ) (k : Clock) (p : Polled) (buf' : List ℕ) (k' : Clock)
      → Poll i up hw s t r buf k p buf' k' → time_check k.now i ≡ Ok tt → s.on ≡ true
      → (up2 : Bool) (hw2 : HardwareAddress) (t2 : IfaceAddrs) (r2 : Routes) (buf2 : List ℕ) (next : Clock) (q : Polled) (buf2' : List ℕ) (next' : Clock)
      → Poll i up2 hw2 p.slaac t2 r2 buf2 next q buf2' next' → time_check next.now i ≡ Ok tt
      → sender_in up2 t2 ≡ sender_in up t → Asleep k'.deadline next.now
      → (q ≡ quietly p.slaac t2 r2) × (buf2' ≡ buf2)
  -- A card's turn on one clock: polls, and then a round of sweeps. The deadline is exactly the earliest time that is waited for after them;
  pub turn : (k k' k'' : Clock) (times : List Instant) → Polls k times k' → (c d : NeighborCache) (is : List ℕ) (j : ℕ) → Round c k' is j d k''
      → IsEarliest k''.deadline (already k.deadline ++ (times ++ times_of (entries d)))
  -- on a new clock it is after now, or there is none;
  pub later_turn : (now : Instant) (k' k'' : Clock) (times : List Instant) → Polls (idle now) times k' → (c d : NeighborCache) (is : List ℕ) (j : ℕ) → Round c k' is j d k''
      → Asleep k''.deadline now
  -- and before it no sweep does anything (`Wake`), nor a poll after any of those polls, whichever polls followed it.
  pub turn_quiet : (i : ℕ) (up : Bool) (hw : HardwareAddress) (s : Slaac) (t : IfaceAddrs) (r : Routes) (buf : List ℕ) (k : Clock) (p : Polled) (buf' : List ℕ) (k1 : Clock)
      → Poll i up hw s t r buf k p buf' k1 → time_check k.now i ≡ Ok tt → s.on ≡ true
      → (k2 k3 : Clock) (times : List Instant) → Polls k1 times k2 → (c d : NeighborCache) (is : List ℕ) (j : ℕ) → Round c k2 is j d k3
      → (up2 : Bool) (hw2 : HardwareAddress) (t2 : IfaceAddrs) (r2 : Routes) (buf2 : List ℕ) (next : Clock) (q : Polled) (buf2' : List ℕ) (next' : Clock)
      → Poll i up2 hw2 p.slaac t2 r2 buf2 next q buf2' next' → time_check next.now i ≡ Ok tt
      → sender_in up2 t2 ≡ sender_in up t → Asleep k3.deadline next.now
      → (q ≡ quietly p.slaac t2 r2) × (buf2' ≡ buf2)
  -- The event file's first poll, which solicits: it waits for 4,000, has the same source after it, is quiet before that time and solicits at it, and
  -- then waits for 8,000.
  pub waits_for_retry : (clock_after (fresh true) addresses empty_routes 0).deadline ≡ Some (ms 4000)
  pub same_source : sender_in true up.addrs ≡ sender_in true addresses
  pub quiet_before : polls up.slaac up.addrs up.routes 3999 ≡ quietly up.slaac up.addrs up.routes
  pub sends_then : (polls up.slaac up.addrs up.routes 4000).answer ≡ Ok Solicited
  pub waits_anew : (clock_after up.slaac up.addrs up.routes 4000).deadline ≡ Some (ms 8000)
  -- With a neighbour that was just looked for the first turn waits for its due time, which is before 4,000.
  pub waits_for_neighbour : swept_twice.clock.deadline ≡ Some (ms 1000)
  -- The event file's last poll waits for the end of the router, which is before that of the prefix.
  pub waits_for_router : (clock_after ra.slaac up.addrs up.routes 500).deadline ≡ Some (ms 1800500)
  pub same_source_too : sender_in true end.addrs ≡ sender_in true addresses
  pub quiet_too : polls end.slaac end.addrs end.routes 1800499 ≡ quietly end.slaac end.addrs end.routes
