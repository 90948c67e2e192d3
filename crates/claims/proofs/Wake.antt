-- When a card may sleep. Assumes nothing.
use Prim.Native.Nat.{ℕ, zero, suc, ◌≤◌, ◌^◌}
use lib.ListN.{length, set, take, drop, length-append, take-append-drop}
use lib.Seq.{length-take-le, drop-length}
use mathlib.Core.Bool.{Bool, true, false, cond}
use mathlib.Core.List.{List, [], ◌∷◌, ◌++◌, map}
use mathlib.Core.Logic.{◌⊎◌, inl, inr}
use mathlib.Core.Path.{◌≡◌, refl, sym, ap, ◌∙◌, subst}
use native.Mathlib.Omega.{arith}
use Rattle.std.specs.Prelude.{Option, Some, None, Result, Ok, Err}
use Rattle.wire.specs.declared.error.Refusal.{Refusal}
use Rattle.claims.proofs.Ahead.{sweep_ahead}
use Rattle.sweep.proofs.SweepLaws.{listed_events}
use Rattle.claims.proofs.Clocks.{fine_time, clocks}
use Rattle.claims.proofs.Lists.{all_append, all_weaken, some_after, some_append, all_member}
use Rattle.claims.proofs.WakeTable.{settles, keeps, walk_same, left, still, still_all, calm_all, all_covered, before as sooner, Covered, Came, swept_came, same_ifaces, misses_nothing, earliest, none_due_on, Expired, all_expired, expired_same, none_happen}
use Rattle.claims.specs.Clocks.{Sweep, swept, swept_at}
use Rattle.claims.specs.Lists.{All, Member}
use Rattle.claims.specs.Wake.{Asleep, NotDueOn, NoneDue, times_of, already, IsEarliest, Sweeps, none, one_more, Round, at0, at1000, once_more_is, Wake}
use Rattle.claims.specs.Traces.{ms}
use Rattle.lent.specs.LentRules.{report_of}
use Rattle.lent.specs.declared.Reported.{Reported}
use Rattle.neighbor.specs.CacheCalls.{entries, with_entries}
use Rattle.neighbor.specs.NeighborRules.{Table, same_key, find, before, insert_state, on_iface}
use Rattle.neighbor.specs.declared.Entry.{Entry}
use Rattle.neighbor.specs.declared.NeighborCache.{NeighborCache}
use Rattle.neighbor.specs.declared.State.TheVariants.{Started}
use Rattle.sweep.proofs.Entries.{sweep_entries, sweep_events}
use Rattle.sweep.specs.SweepCalls.{ProbeIn, nothing, happens, probe_in_at, probe_in, EventsIn, and_then_in, events_in, event_list, events_table, probe_all, swept_in, sweep_by}
use Rattle.sweep.specs.SweepRules.{expire, expire_all, expire_clocks, due, spent, probed, probe, TableEvents, events_from, sweep_table}
use Rattle.sweep.specs.declared.ProbeEvent.TheVariants.{Retransmit, Failed}
use Rattle.sweep.specs.declared.ProbeEvent.{ProbeEvent}
use Rattle.sweep.specs.declared.Swept.{Swept}
use Rattle.table.specs.Table.{first_from, swap_remove}
use Rattle.time.proofs.Forward.{same, after, unmoved, then}
use Rattle.time.specs.ClockRules.{idle}
use Rattle.time.specs.Forward.{NotLater, Forward}
use Rattle.time.specs.declared.Clock.{Clock}
use Rattle.time.specs.declared.Instant.{Instant}
use Rattle.wire.specs.Refusals.{time_check}

-- One sweep that is taken

record Took (c : NeighborCache) (k : Clock) (i : ℕ) (events : List ProbeEvent) (d : NeighborCache) (k' : Clock) : Type 0 where
  tells : events ≡ event_list (swept_in c k i).events
  cache : d ≡ (swept_in c k i).cache
  clock : k' ≡ (swept_in c k i).clock

took : {c d : NeighborCache} {k k' : Clock} {i : ℕ} {events : List ProbeEvent} → Sweep c k i events d k' → time_check k.now i ≡ Ok tt → Took c k i events d k'
took (swept c k k' i r h) ok =
    record { tells = ap (λ (q : Reported). event_list q.events) is; cache = ap (λ (q : Reported). q.cache) is; clock = h.clock ∙ ap (λ (x : Result (Unit {0}) Refusal). (sweep_by x c k i).clock) ok }
  where
    is : r ≡ report_of (swept_in c k i)
    is = h.is ∙ ap (λ (x : Result (Unit {0}) Refusal). report_of (sweep_by x c k i)) ok
took (swept_at c k i r h) ok =
    record { tells = ap (λ (q : Swept). event_list q.events) is; cache = ap (λ (q : Swept). q.cache) is; clock = ap (λ (q : Swept). q.clock) is }
  where
    is : r ≡ swept_in c k i
    is = h.is ∙ ap (λ (x : Result (Unit {0}) Refusal). sweep_by x c k i) ok

moves : {c d : NeighborCache} {k k' : Clock} {i : ℕ} {events : List ProbeEvent} → Sweep c k i events d k' → Forward k k'
moves (swept c k k' i r h) = clocks.sweep c k k' i r h
moves (swept_at c k i r h) = clocks.sweep_at c k i r h

-- Sweeps at one time

module _ (now : Instant) (late : now.0 ≤ 2 ^ 62) where
  module _ {c d : NeighborCache} {k k' : Clock} {i : ℕ} {events : List ProbeEvent} (s : Sweep c k i events d k') (same : k.now ≡ now) (ok : time_check now i ≡ Ok tt) where
    this : Took c k i events d k'
    this = took s (subst (λ (n : Instant). time_check n i ≡ Ok tt) (sym same) ok)

    one_table : entries d ≡ (sweep_table i now (entries c)).table
    one_table = ap entries this.cache ∙ sweep_entries c k i ∙ ap (λ (n : Instant). (sweep_table i n (entries c)).table) same

    one_clock : k' ≡ expire_clocks k (entries c)
    unfolding swept_in
    one_clock = this.clock

    one_came : (base : Option Instant) → Came now base (entries c) k.deadline → Came now base (entries d) k'.deadline
    one_came base h =
        subst (λ (t : Table). Came now base t k'.deadline) (sym one_table)
        (subst (λ (m : Clock). Came now base (sweep_table i now (entries c)).table m.deadline) (sym one_clock) (swept_came now late base i k (entries c) same h))

  all_now : {c d : NeighborCache} {k m : Clock} {is : List ℕ} → Sweeps c k is d m → k.now ≡ now → m.now ≡ now
  all_now (none c k) same = same
  all_now (one_more s r) same = all_now r ((moves s).now ∙ same)

  all_forward : {c d : NeighborCache} {k m : Clock} {is : List ℕ} → Sweeps c k is d m → Forward k m
  all_forward (none c k) = unmoved k
  all_forward (one_more {k = k} {k' = k'} {k'' = k''} s r) = then k k' k'' (moves s) (all_forward r)

  -- what every sweep keeps
  all_keep : (P : Table → Type 0) → ((i : ℕ) (t : Table) → P t → P (sweep_table i now t).table)
      → {c d : NeighborCache} {k m : Clock} {is : List ℕ} → Sweeps c k is d m → k.now ≡ now → All (λ i. time_check now i ≡ Ok tt) is → P (entries c) → P (entries d)
  all_keep P keep (none c k) same ok h = h
  all_keep P keep (one_more {c = c} {i = i} s r) same ok h =
      all_keep P keep r ((moves s).now ∙ same) ok.1 (subst P (sym (one_table s same ok.0)) (keep i (entries c) h))

  all_came : (base : Option Instant) → {c d : NeighborCache} {k m : Clock} {is : List ℕ} → Sweeps c k is d m → k.now ≡ now → All (λ i. time_check now i ≡ Ok tt) is
      → Came now base (entries c) k.deadline → Came now base (entries d) m.deadline
  all_came base (none c k) same ok h = h
  all_came base (one_more s r) same ok h = all_came base r ((moves s).now ∙ same) ok.1 (one_came s same ok.0 base h)

  all_settled : {c d : NeighborCache} {k m : Clock} {is : List ℕ} → Sweeps c k is d m → k.now ≡ now → All (λ i. time_check now i ≡ Ok tt) is
      → All (λ i. All (NotDueOn i now) (entries d)) is
  all_settled (none c k) same ok = tt
  all_settled (one_more {c = c} {i = i} s r) same ok = (
    all_keep (All (NotDueOn i now)) (λ j t h. keeps j now late i t h) r ((moves s).now ∙ same) ok.1
        (subst (All (NotDueOn i now)) (sym (one_table s same ok.0)) (settles i now late (entries c))),
    all_settled r ((moves s).now ∙ same) ok.1,
  )

-- every interface of the table was swept, so nothing of it is due
all_tails : (now : Instant) (e : Entry) (t : Table) (is : List ℕ) → All (λ i. All (NotDueOn i now) (e ∷ t)) is → All (λ i. All (NotDueOn i now) t) is
all_tails now e t [] h = tt
all_tails now e t (i ∷ is) h = (h.0.1, all_tails now e t is h.1)

none_due : (now : Instant) (is : List ℕ) (t : Table) → All (λ e. Member e.iface is) t → All (λ i. All (NotDueOn i now) t) is → All (NoneDue now) t
none_due now is [] m h = tt
none_due now is (e ∷ t) m h =
    ((all_member (λ i. All (NotDueOn i now) (e ∷ t)) e.iface is m.0 h).0 refl, none_due now is t m.1 (all_tails now e t is h))

-- The slots of a cache: a sweep leaves one whose count is within them, and then its own entries change nothing of it

abbrev pub Fits : NeighborCache → Type 0
Fits c = c.len ≤ length c.slots

with_fits : (c : NeighborCache) (t : Table) → Fits (with_entries c t)
with_fits c t = omega (arith, length-append t (drop (length t) c.slots))

abbrev FitsIn : ProbeIn → Type 0
FitsIn nothing = Unit {0}
FitsIn (happens v c place) = Fits c

probe_fits : (now : Instant) (j : ℕ) (c : NeighborCache) (r : Table) → FitsIn (probe_in_at now j c r)
probe_fits now j c [] = tt
probe_fits now j c (e ∷ r) = go (spent e)
  where
    go : (x : Bool)
        → FitsIn (cond x (happens (Failed e.addr) (with_entries c (swap_remove j (entries c))) j)
        (happens (Retransmit e.addr) (with_entries c (set (entries c) j (probed now e))) (suc j)))
    go true = with_fits c (swap_remove j (entries c))
    go false = with_fits c (set (entries c) j (probed now e))

-- the events from a probe on
abbrev after_probe : ℕ → ℕ → Instant → NeighborCache → ProbeIn → EventsIn
after_probe n i now c x =
    elim x [
      | nothing ↦ record { events = []; cache = c }
      | happens v c' place' ↦ and_then_in v (events_in n i now c' place')
    ]

events_fit : (n i : ℕ) (now : Instant) (c : NeighborCache) (place : ℕ) → Fits c → Fits (events_in n i now c place).cache
unfolding events_in probe_in
events_fit zero i now c place h = h
events_fit (suc n) i now c place h =
    go (probe_in i now c place) (probe_fits now (first_from (due i now) place (entries c)) c (drop (first_from (due i now) place (entries c)) (entries c)))
    (λ c' place' g. events_fit n i now c' place' g)
  where
    go : (x : ProbeIn) → FitsIn x → ((c' : NeighborCache) (place' : ℕ) → Fits c' → Fits (events_in n i now c' place').cache)
        → Fits (after_probe n i now c x).cache
    go nothing g f = h
    go (happens v c' place') g f = f c' place' g

pub swept_fits : (c : NeighborCache) (k : Clock) (i : ℕ) → Fits (swept_in c k i).cache
unfolding swept_in probe_all
swept_fits c k i = events_fit _ i k.now (with_entries c (expire_all k.now (entries c))) 0 (with_fits c (expire_all k.now (entries c)))

same_count : (n : ℕ) (l : Table) → n ≤ length l → l ≡ take n l ++ drop (length (take n l)) l
same_count n l h = rw (length-take-le n l h) (sym (take-append-drop n l))

own_entries : (c : NeighborCache) → Fits c → with_entries c (entries c) ≡ c
own_entries c h = λ i. record { slots = sym (same_count c.len c.slots h) i; len = length-take-le c.len c.slots h i }

none_first : (i : ℕ) (now : Instant) (t : Table) → All (λ e. due i now e ≡ false) t → first_from (due i now) 0 t ≡ length t
none_first i now [] h = refl
none_first i now (e ∷ t) h = rw (h.0, none_first i now t h.1)

no_probe : (i : ℕ) (now : Instant) (c : NeighborCache) → All (λ e. due i now e ≡ false) (entries c) → probe_in i now c 0 ≡ nothing
unfolding probe_in
no_probe i now c h = rw (none_first i now (entries c) h, drop-length (entries c))

no_events : (n i : ℕ) (now : Instant) (c : NeighborCache) → All (λ e. due i now e ≡ false) (entries c) → events_in n i now c 0 ≡ record { events = []; cache = c }
unfolding events_in
no_events zero i now c h = refl
no_events (suc n) i now c h = ap (after_probe n i now c) (no_probe i now c h)

same_cache : (c : NeighborCache) (k : Clock) (i : ℕ) → Fits c → map (expire k.now) (entries c) ≡ entries c → All (λ e. due i k.now e ≡ false) (entries c)
    → (swept_in c k i).cache ≡ c
unfolding swept_in probe_all expire_all
same_cache c k i fits same calm =
    ap (λ (x : NeighborCache). (events_in (length (entries x)) i k.now x 0).cache) (ap (with_entries c) same ∙ own_entries c fits)
    ∙ ap (λ (r : EventsIn). r.cache) (no_events (length (entries c)) i k.now c calm)

-- after a sweep at least
sweeps_ahead : {c d : NeighborCache} {k m : Clock} {is : List ℕ} → Sweeps c k is d m → Asleep k.deadline k.now → Asleep m.deadline k.now
sweeps_ahead (none c k) a = a
sweeps_ahead (one_more {k' = k'} {k'' = k''} s r) a =
    subst (λ (n : Instant). Asleep k''.deadline n) (moves s).now
    (sweeps_ahead r (subst (λ (n : Instant). Asleep k'.deadline n) (sym (moves s).now) (sweep_ahead s a)))

module _ (now : Instant) (late : now.0 ≤ 2 ^ 62) where
  still_fit : {c d : NeighborCache} {k m : Clock} {is : List ℕ} → Sweeps c k is d m → k.now ≡ now → All (λ i. time_check now i ≡ Ok tt) is → Fits c → Fits d
  still_fit (none c k) same ok h = h
  still_fit (one_more {c = c} {k = k} {i = i} s r) same ok h =
      still_fit r ((moves s).now ∙ same) ok.1 (subst Fits (sym (this now late s same ok.0).cache) (swept_fits c k i))

  all_fit : {c d : NeighborCache} {k m : Clock} {i : ℕ} {is : List ℕ} → Sweeps c k (i ∷ is) d m → k.now ≡ now → All (λ i. time_check now i ≡ Ok tt) (i ∷ is)
      → Fits d × All (Expired now) (entries d)
  all_fit (one_more {c = c} {k = k} {i = i} s r) same ok = (
    still_fit r ((moves s).now ∙ same) ok.1 (subst Fits (sym (this now late s same ok.0).cache) (swept_fits c k i)),
    all_keep now late (All (Expired now)) (λ j t h. all_expired j now t) r ((moves s).now ∙ same) ok.1
        (subst (All (Expired now)) (sym (one_table now late s same ok.0)) (all_expired i now (entries c))),
  )

-- After every interface and one once more

record Rested (base : Option Instant) (d : NeighborCache) (m : Clock) : Type 0 where
  covered : All (λ e. Covered m.deadline e.state) (entries d)
  earliest_of : IsEarliest m.deadline (already base ++ times_of (entries d))
  fits : Fits d

module _ (now : Instant) (late : now.0 ≤ 2 ^ 62) {c d : NeighborCache} {k m : Clock} {i : ℕ} {events : List ProbeEvent} (s : Sweep c k i events d m) (same : k.now ≡ now) (ok : time_check now i ≡ Ok tt) where
  -- a sweep where nothing is due
  rests : (base : Option Instant) → All (NoneDue now) (entries c) → Came now base (entries c) k.deadline → NotLater k.deadline base → Rested base d m
  unfolding expire_clocks
  rests base calm from h =
      record {
        covered = cov;
        earliest_of =
            earliest now base (entries d) m.deadline (one_came now late s same ok base from)
            (after m.deadline k.deadline base (moves s).deadline h) cov;
        fits = subst Fits (sym (this now late s same ok).cache) (swept_fits c k i);
      }
    where
      table : entries d ≡ map (expire now) (entries c)
      table = one_table now late s same ok ∙ left i now late (entries c) calm

      cov : All (λ e. Covered m.deadline e.state) (entries d)
      cov =
          subst (λ (t : Table). All (λ e. Covered m.deadline e.state) t) (sym table)
          (subst (λ (n : Clock). All (λ e. Covered n.deadline e.state) (map (expire now) (entries c))) (sym (one_clock now late s same ok))
          (all_covered now k (entries c) same calm))

-- a round, before its last sweep
module _ (c d : NeighborCache) (k k' : Clock) (is : List ℕ) (j : ℕ) (h : Round c k is j d k') where
  not_late : k.now.0 ≤ 2 ^ 62
  not_late = fine_time k.now j h.taken.0

  last_now : h.clock.now ≡ k.now
  last_now = all_now k.now not_late h.each refl

  none_left : All (NoneDue k.now) (entries h.cache)
  none_left =
      none_due k.now is (entries h.cache)
      (all_keep k.now not_late (All (λ e. Member e.iface is)) (λ i t g. same_ifaces (λ n. Member n is) i k.now t g) h.each refl h.taken.1 h.all)
      (all_settled k.now not_late h.each refl h.taken.1)

  last_took : Took h.cache h.clock j h.events d k'
  last_took = this k.now not_late h.last last_now h.taken.0

  rested : Rested k.deadline d k'
  rested =
      rests k.now not_late h.last last_now h.taken.0 k.deadline none_left
      (all_came k.now not_late k.deadline h.each refl h.taken.1 (inl refl))
      (all_forward k.now not_late h.each).deadline

  last_silent : h.events ≡ []
  last_silent =
      last_took.tells ∙ ap event_list (sweep_events h.cache h.clock j) ∙ listed_events (sweep_table j h.clock.now (entries h.cache)).events
      ∙ ap (λ (n : Instant). (sweep_table j n (entries h.cache)).events) last_now
      ∙ none_happen j k.now not_late (entries h.cache) none_left

  all_later : Asleep k.deadline k.now → Asleep k'.deadline k.now
  all_later a =
      subst (λ (n : Instant). Asleep k'.deadline n) last_now
      (sweep_ahead h.last (subst (λ (n : Instant). Asleep h.clock.deadline n) (sym last_now) (sweeps_ahead h.each a)))

last_same : (c d : NeighborCache) (k k' : Clock) (i : ℕ) (is : List ℕ) (j : ℕ) → (h : Round c k (i ∷ is) j d k') → d ≡ h.cache
last_same c d k k' i is j h =
    (last_took c d k k' (i ∷ is) j h).cache
    ∙ same_cache h.cache h.clock j after_one.0
    (subst (λ (n : Instant). map (expire n) (entries h.cache) ≡ entries h.cache) (sym at) (expired_same k.now (entries h.cache) after_one.1))
    (subst (λ (n : Instant). All (λ e. due j n e ≡ false) (entries h.cache)) (sym at)
    (none_due_on j k.now (entries h.cache) (none_left c d k k' (i ∷ is) j h)))
  where
    at : h.clock.now ≡ k.now
    at = last_now c d k k' (i ∷ is) j h

    after_one : Fits h.cache × All (Expired k.now) (entries h.cache)
    after_one = all_fit k.now (not_late c d k k' (i ∷ is) j h) h.each refl h.taken.1

-- a sweep before the deadline, by its check
quiet : (x : Result (Unit {0}) Refusal) (base : Option Instant) (c : NeighborCache) (m k : Clock) (i : ℕ) → Rested base c m → Asleep m.deadline k.now
    → (event_list (sweep_by x c k i).events ≡ []) × ((sweep_by x c k i).cache ≡ c)
quiet (Err why) base c m k i r a = (listed_events [], refl)
quiet (Ok tt) base c m k i r a = (
  ap event_list (sweep_events c k i) ∙ listed_events (sweep_table i k.now (entries c)).events
      ∙ ap (λ (v : TableEvents). v.events) (walk_same i k.now (entries c) same calm),
  same_cache c k i r.fits same calm,
)
  where
    same : map (expire k.now) (entries c) ≡ entries c
    same = still_all m.deadline k.now a (entries c) r.covered

    calm : All (λ e. due i k.now e ≡ false) (entries c)
    calm = calm_all m.deadline i k.now a (entries c) r.covered

quietly : {c d : NeighborCache} {k k' : Clock} {i : ℕ} {events : List ProbeEvent} (base : Option Instant) (m : Clock) → Rested base c m → Asleep m.deadline k.now
    → Sweep c k i events d k' → (events ≡ []) × (d ≡ c)
quietly base m r a (swept c k k' i v h) =
    let q = quiet (time_check k.now i) base c m k i r a in
    (ap (λ (x : Reported). event_list x.events) h.is ∙ q.0, ap (λ (x : Reported). x.cache) h.is ∙ q.1)
quietly base m r a (swept_at c k i v h) =
    let q = quiet (time_check k.now i) base c m k i r a in
    (ap (λ (x : Swept). event_list x.events) h.is ∙ q.0, ap (λ (x : Swept). x.cache) h.is ∙ q.1)

-- and nothing is due at it
asleep_calm : (d : Option Instant) (next : Instant) → Asleep d next → (t : Table) → All (λ e. Covered d e.state) t → All (NoneDue next) t
asleep_calm d next a [] h = tt
asleep_calm d next a (e ∷ t) h = ((still d next e.state h.0 a).1, asleep_calm d next a t h.1)

no_member : (x : Instant) (times : List Instant) → Member x times → times ≡ [] → ⊥
no_member x times m q = subst (Member x) q m

one_earliest : (d e : Option Instant) (times : List Instant) → IsEarliest d times → IsEarliest e times → d ≡ e
one_earliest None None times h g = refl
one_earliest None (Some e) times h g = absurd (no_member e times g.0 h)
one_earliest (Some d) None times h g = absurd (no_member d times h.0 g)
one_earliest (Some d) (Some e) times h g = λ i. Some (record { 0 = equal i })
  where
    first : d.0 ≤ e.0
    first = all_member (λ t. d.0 ≤ t.0) e times g.0 h.1

    second : e.0 ≤ d.0
    second = all_member (λ t. e.0 ≤ t.0) d times h.0 g.1

    equal : d.0 ≡ e.0
    equal = omega (arith, first, second)

earlier : (d e : Option Instant) (now : Instant) → NotLater d e → Asleep d now → Asleep e now
earlier d None now h a = tt
earlier d (Some e) now h a = sooner d e now h a

nothing_earlier : (d : Option Instant) (those : List Instant) → already d ++ those ≡ [] → (d ≡ None) × (those ≡ [])
nothing_earlier None those h = (refl, h)
nothing_earlier (Some t) those h = absurd (omega (arith, ap length h))

joined : (d e : Option Instant) (these those : List Instant) → IsEarliest d these → IsEarliest e (already d ++ those) → IsEarliest e (these ++ those)
joined d None these those h g = subst (λ (x : Option Instant). IsEarliest x these → these ++ those ≡ []) (sym z.0) (λ q. rw (q, z.1)) h
  where
    z : (d ≡ None) × (those ≡ [])
    z = nothing_earlier d those g
joined None (Some e) these those h g = rw h g
joined (Some d) (Some e) these those h g = (
  one_of g.0,
  all_append (λ t. e.0 ≤ t.0) these those (all_weaken (λ t. d.0 ≤ t.0) (λ t. e.0 ≤ t.0) (λ t q. omega (arith, g.1.0)) these h.1) g.1.1,
)
  where
    one_of : (d ≡ e) ⊎ Member e those → Member e (these ++ those)
    one_of (inl q) = some_append (λ y. y ≡ e) these those (subst (λ (t : Instant). Member t these) q h.0)
    one_of (inr m) = some_after (λ y. y ≡ e) these those m

-- the cache d, and a sweep of it before the deadline
exact_asleep : (c d : NeighborCache) (k k' : Clock) (is : List ℕ) (j : ℕ) → Round c k is j d k'
    → (next next' : Clock) (i : ℕ) (events : List ProbeEvent) (e : NeighborCache) → Asleep k'.deadline next.now → Sweep d next i events e next'
    → time_check next.now i ≡ Ok tt → IsEarliest next'.deadline (already next.deadline ++ times_of (entries e))
exact_asleep c d k k' is j h next next' i events e a s ok =
    (rests next.now (fine_time next.now i ok) s refl ok next.deadline
    (asleep_calm k'.deadline next.now a (entries d) (rested c d k k' is j h).covered) (inl refl) (same next.deadline)).earliest_of

same_asleep : (c d : NeighborCache) (now : Instant) (k' : Clock) (is : List ℕ) (j : ℕ) → Round c (idle now) is j d k'
    → (next : Instant) (next' : Clock) (i : ℕ) (events : List ProbeEvent) (e : NeighborCache) → Asleep k'.deadline next → Sweep d (idle next) i events e next'
    → time_check next i ≡ Ok tt → next'.deadline ≡ k'.deadline
same_asleep c d now k' is j h next next' i events e a s ok =
    one_earliest next'.deadline k'.deadline (times_of (entries d))
    (subst (λ (x : NeighborCache). IsEarliest next'.deadline (times_of (entries x))) (quietly (idle now).deadline k' (rested c d (idle now) k' is j h) a s).1
    (exact_asleep c d (idle now) k' is j h (idle next) next' i events e a s ok))
    (rested c d (idle now) k' is j h).earliest_of

before_round : (c d : NeighborCache) (k k' : Clock) (is : List ℕ) (j : ℕ) → Round c k is j d k' → (next : Instant) → Asleep k'.deadline next → Asleep k.deadline next
before_round c d k k' is j h next a =
    earlier k'.deadline k.deadline next
    (after k'.deadline h.clock.deadline k.deadline (moves h.last).deadline (all_forward k.now (fine_time k.now j h.taken.0) h.each).deadline) a

none_started : (d : Option Instant) (t : Table) → All (λ e. Covered d e.state) t → All (λ e. e.state ≡ Started → ⊥) t
none_started d [] h = tt
none_started d (e ∷ t) h = (λ q. subst (Covered d) q h.0, none_started d t h.1)

pub wake : Wake
unfolding expire_all expire_clocks due spent same_key find before insert_state on_iface probe events_from sweep_table events_in probe_in probe_all swept_in events_table
wake = record {
  settles = λ i now t late. settles i now late t;
  keeps = λ i j now t late h. keeps i now late j t h;
  misses_nothing = misses_nothing;
  sends_again = refl;
  oversleeps = refl;
  wakes = refl;
  waits_first = refl;
  silent_first = refl;
  sends_second = refl;
  sleeps_for_ever = refl;
  wakes_again = refl;
  silent_last = refl;
  a_round =
      record {
        all = (inl refl, tt);
        taken = (refl, (refl, tt));
        cache = at1000.cache;
        clock = at1000.clock;
        each = one_more (swept_at at0.cache (idle (ms 1000)) 0 at1000 (record { is = refl; number = refl; tells = refl })) (none at1000.cache at1000.clock);
        events = [];
        last = swept_at at1000.cache at1000.clock 0 once_more_is (record { is = refl; number = refl; tells = refl });
      };
  one_earliest = one_earliest;
  exact = λ c d now k' is j h. (rested c d (idle now) k' is j h).earliest_of;
  exact_lent = λ c d k k' is j h. (rested c d k k' is j h).earliest_of;
  asleep = λ c d k k' is j h next next' i events e a s. quietly k.deadline k' (rested c d k k' is j h) a s;
  last_silent = last_silent;
  last_same = last_same;
  later = λ c d k k' i events s a. sweep_ahead s a;
  later_round = λ c d now k' is j h. all_later c d (idle now) k' is j h tt;
  later_lent = all_later;
  none_started = λ c d k k' is j h. none_started k'.deadline (entries d) (rested c d k k' is j h).covered;
  exact_asleep = exact_asleep;
  same_asleep = same_asleep;
  before_round = before_round;
  joined = joined;
  earlier = earlier;
}
