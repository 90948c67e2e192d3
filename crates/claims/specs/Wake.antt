-- A card that sleeps until the clock's deadline misses nothing of its neighbours: when that is so, when not, and which deadline it then has.
-- Assumes nothing.
use Rattle.std.specs.Prelude.{ℕ, ◌≤◌, ◌<◌, ◌^◌, ◌≡◌, List, [], ◌∷◌, ◌++◌, Option, Some, None, Ok}
use Rattle.time.specs.declared.Instant.{Instant}
use Rattle.time.specs.declared.Clock.{Clock}
use Rattle.time.specs.ClockRules.{idle}
use Rattle.time.specs.Forward.{NotLater}
use Rattle.wire.specs.Refusals.{key_check, time_check}
use Rattle.neighbor.specs.declared.State.{State}
use Rattle.neighbor.specs.declared.State.TheVariants.{Started, Incomplete, Reachable, Stale}
use Rattle.neighbor.specs.declared.Entry.{Entry}
use Rattle.neighbor.specs.declared.NeighborCache.{NeighborCache}
use Rattle.neighbor.specs.NeighborRules.{Table, entry}
use Rattle.neighbor.specs.CacheCalls.{entries, empty, put_in, change_by}
use Rattle.sweep.specs.declared.ProbeEvent.{ProbeEvent}
use Rattle.sweep.specs.declared.ProbeEvent.TheVariants.{Retransmit}
use Rattle.sweep.specs.declared.Swept.{Swept}
use Rattle.sweep.specs.SweepRules.{TableEvents, expire_clocks, sweep_table}
use Rattle.sweep.specs.SweepCalls.{event_list, sweep_check, sweep_by}
use Rattle.claims.specs.Lists.{All, Member}
use Rattle.claims.specs.Traces.{ms, neighbour}
use Rattle.claims.specs.Clocks.{Sweep}

-- a time before the deadline; where there is none, every time
abbrev pub Asleep : Option Instant → Instant → Type 0
Asleep None now = Unit {0}
Asleep (Some d) now = now.0 < d.0

-- Entries

-- a resolution that is not due
abbrev pub NotDue : Instant → State → Type 0
NotDue now Started = Unit {0}
NotDue now (Incomplete p d) = now.0 < d.0
NotDue now (Reachable h e) = Unit {0}
NotDue now (Stale h) = Unit {0}

abbrev pub NotDueOn : ℕ → Instant → Entry → Type 0
NotDueOn i now e = i ≡ e.iface → NotDue now e.state

abbrev pub NoneDue : Instant → Entry → Type 0
NoneDue now e = NotDue now e.state

abbrev pub nothing_done : Table → TableEvents
nothing_done t = record { events = []; table = t }

-- a resolution whose time has come
abbrev pub overdue : Table
overdue = entry (neighbour 1) (Incomplete 1 (ms 1000)) ∷ []

-- The times that a table waits for

-- a resolution's due time, a reachable neighbour's expiry; what is Stale waits for nothing, and what is Started for a sweep
abbrev pub waits_for : State → List Instant
waits_for Started = []
waits_for (Incomplete p d) = d ∷ []
waits_for (Reachable h e) = e ∷ []
waits_for (Stale h) = []

abbrev pub times_of : Table → List Instant
times_of [] = []
times_of (e ∷ t) = waits_for e.state ++ times_of t

-- the time that a clock has for a deadline before it is lent
abbrev pub already : Option Instant → List Instant
already None = []
already (Some t) = t ∷ []

-- the deadline is one of the times, and none of them is before it; or there is no time, and no deadline
abbrev pub IsEarliest : Option Instant → List Instant → Type 0
IsEarliest None times = times ≡ []
IsEarliest (Some d) times = Member d times × All (λ t. d.0 ≤ t.0) times

-- Sweeps of caches

-- sweeps one after the other, each of an interface, on one clock
pub data Sweeps : NeighborCache → Clock → List ℕ → NeighborCache → Clock → Type 0 where
  none : (c : NeighborCache) (k : Clock) → Sweeps c k [] c k
  one_more : {c c' c'' : NeighborCache} {k k' k'' : Clock} {i : ℕ} {is : List ℕ} {events : List ProbeEvent}
      → Sweep c k i events c' k' → Sweeps c' k' is c'' k'' → Sweeps c k (i ∷ is) c'' k''

-- a round: every interface that has neighbours is swept at the clock's time, and then one interface, any, once more on the same clock
pub record Round (c : NeighborCache) (k : Clock) (is : List ℕ) (j : ℕ) (d : NeighborCache) (k' : Clock) : Type 0 where
  pub all : All (λ e. Member e.iface is) (entries c)
  pub taken : All (λ i. time_check k.now i ≡ Ok tt) (j ∷ is)
  -- the cache and the clock before the last sweep
  pub cache : NeighborCache
  pub clock : Clock
  pub each : Sweeps c k is cache clock
  pub events : List ProbeEvent
  pub last : Sweep cache clock j events d k'

-- The trap as calls: fe80::1 is looked for on interface 0, and swept at 0, at 1,000 on a new clock, and at 1,000 once more on that clock

abbrev pub swept_on : NeighborCache → Clock → Swept
swept_on c k = sweep_by (sweep_check k 0) c k 0

abbrev pub looked_for : NeighborCache
looked_for = (change_by (key_check 0 (neighbour 1).addr) empty (put_in empty (neighbour 1) Started)).cache

abbrev pub at0 : Swept
at0 = swept_on looked_for (idle (ms 0))

abbrev pub at1000 : Swept
at1000 = swept_on at0.cache (idle (ms 1000))

abbrev pub once_more_is : Swept
once_more_is = swept_on at1000.cache at1000.clock

pub record Wake : Type 0 where
  -- a sweep of an interface leaves none of its resolutions due at that time
  pub settles : (i : ℕ) (now : Instant) (t : Table) → now.0 ≤ 2 ^ 62 → All (NotDueOn i now) (sweep_table i now t).table
  -- nor does a sweep of any interface make one due
  pub keeps : (i j : ℕ) (now : Instant) (t : Table) → now.0 ≤ 2 ^ 62 → All (NotDueOn j now) t → All (NotDueOn j now) (sweep_table i now t).table
  -- Where no resolution of any interface is due, a sweep leaves a deadline before which no sweep of any interface does anything.
  pub misses_nothing : (i : ℕ) (k : Clock) (t : Table) → k.now.0 ≤ 2 ^ 62 → All (NoneDue k.now) t
      → (j : ℕ) (next : Instant) → Asleep (expire_clocks k t).deadline next
      → sweep_table j next (sweep_table i k.now t).table ≡ nothing_done (sweep_table i k.now t).table
  -- It is not so of a sweep that retransmits: "the events come back in order and do not touch the clock". Due again at 2,000, and nobody waits for it.
  pub sends_again : sweep_table 0 (ms 1000) overdue ≡ record { events = Retransmit (neighbour 1).addr ∷ []; table = entry (neighbour 1) (Incomplete 2 (ms 2000)) ∷ [] }
  pub oversleeps : (expire_clocks (idle (ms 1000)) overdue).deadline ≡ None
  -- a second sweep at the same time finds it
  pub wakes : (expire_clocks (idle (ms 1000)) (sweep_table 0 (ms 1000) overdue).table).deadline ≡ Some (ms 2000)
  -- the same as calls, from the start on
  pub waits_first : at0.clock.deadline ≡ Some (ms 1000)
  pub silent_first : event_list at0.events ≡ []
  pub sends_second : event_list at1000.events ≡ Retransmit (neighbour 1).addr ∷ []
  pub sleeps_for_ever : at1000.clock.deadline ≡ None
  pub wakes_again : once_more_is.clock.deadline ≡ Some (ms 2000)
  pub silent_last : event_list once_more_is.events ≡ []
  -- that is a round, at 1,000
  pub a_round : Round at0.cache (idle (ms 1000)) (0 ∷ []) 0 once_more_is.cache once_more_is.clock
  -- There is only one earliest deadline of given times.
  pub one_earliest : (d e : Option Instant) (times : List Instant) → IsEarliest d times → IsEarliest e times → d ≡ e
  -- So a card ends with a round: the deadline is then exactly the earliest due time or expiry of the cache, or none where the cache has none;
  pub exact : (c d : NeighborCache) (now : Instant) (k' : Clock) (is : List ℕ) (j : ℕ)
      → Round c (idle now) is j d k'
      → IsEarliest k'.deadline (times_of (entries d))
  -- and where the clock had a deadline before, as from a poll, the earlier of both.
  pub exact_lent : (c d : NeighborCache) (k k' : Clock) (is : List ℕ) (j : ℕ) → Round c k is j d k'
      → IsEarliest k'.deadline (already k.deadline ++ times_of (entries d))
  -- The last sweep of a round reports nothing, so a loop may throw its events away,
  pub last_silent : (c d : NeighborCache) (k k' : Clock) (is : List ℕ) (j : ℕ) → (round : Round c k is j d k') → round.events ≡ []
  -- and leaves the very cache that the sweep before it left.
  pub last_same : (c d : NeighborCache) (k k' : Clock) (i : ℕ) (is : List ℕ) (j : ℕ) → (round : Round c k (i ∷ is) j d k') → d ≡ round.cache
  -- A card does not spin. A clock that has a deadline after now, or none, has one after now, or none, after any sweep, a refused one too,
  pub later : (c d : NeighborCache) (k k' : Clock) (i : ℕ) (events : List ProbeEvent) → Sweep c k i events d k' → Asleep k.deadline k.now
      → Asleep k'.deadline k.now
  -- and so after a round, on a new clock and on one that was lent.
  pub later_round : (c d : NeighborCache) (now : Instant) (k' : Clock) (is : List ℕ) (j : ℕ) → Round c (idle now) is j d k' → Asleep k'.deadline now
  pub later_lent : (c d : NeighborCache) (k k' : Clock) (is : List ℕ) (j : ℕ) → Round c k is j d k' → Asleep k.deadline k.now → Asleep k'.deadline k.now
  -- No resolution is left that has no due time.
  pub none_started : (c d : NeighborCache) (k k' : Clock) (is : List ℕ) (j : ℕ) → Round c k is j d k' → All (λ e. e.state ≡ Started → ⊥) (entries d)
  -- Before that deadline no sweep of the cache that it left, of any interface and on any clock, reports anything, and each leaves the very cache;
  pub asleep : (c d : NeighborCache) (k k' : Clock) (is : List ℕ) (j : ℕ) → Round c k is j d k'
      → (next next' : Clock) (i : ℕ) (events : List ProbeEvent) (e : NeighborCache) → Asleep k'.deadline next.now → Sweep d next i events e next'
      → (events ≡ []) × (e ≡ d)
  -- and a single one, if it is taken, has the exact deadline again: on a new clock the same as the round had on a new clock.
  pub exact_asleep : (c d : NeighborCache) (k k' : Clock) (is : List ℕ) (j : ℕ) → Round c k is j d k'
      → (next next' : Clock) (i : ℕ) (events : List ProbeEvent) (e : NeighborCache) → Asleep k'.deadline next.now → Sweep d next i events e next'
      → time_check next.now i ≡ Ok tt → IsEarliest next'.deadline (already next.deadline ++ times_of (entries e))
  pub same_asleep : (c d : NeighborCache) (first : Instant) (k' : Clock) (is : List ℕ) (j : ℕ) → Round c (idle first) is j d k'
      → (next : Instant) (next' : Clock) (i : ℕ) (events : List ProbeEvent) (e : NeighborCache) → Asleep k'.deadline next → Sweep d (idle next) i events e next'
      → time_check next i ≡ Ok tt → next'.deadline ≡ k'.deadline
  -- Nor is anything missed that the clock waited for before the round.
  pub before_round : (c d : NeighborCache) (k k' : Clock) (is : List ℕ) (j : ℕ) → Round c k is j d k'
      → (next : Instant) → Asleep k'.deadline next → Asleep k.deadline next
  -- A clock that was lent twice has the earliest of the times of both.
  pub joined : (d e : Option Instant) (these those : List Instant) → IsEarliest d these → IsEarliest e (already d ++ those) → IsEarliest e (these ++ those)
  -- Whoever has the clock next only brings the deadline forward (`Clocks`): a time before an earlier deadline is before a later one.
  pub earlier : (d e : Option Instant) (now : Instant) → NotLater d e → Asleep d now → Asleep e now
