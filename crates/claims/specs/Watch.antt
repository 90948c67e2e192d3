-- What demand 3 says of one key: an automaton that sees the sweeps and what is done to the key itself, and nothing else. Assumes nothing.
use Rattle.std.specs.Prelude.{ℕ, ◌+◌, Bool, true, false, cond, not, ◌&&◌, ◌||◌, List, [], ◌∷◌, ◌++◌, T, leb, eqb}
use Rattle.time.specs.declared.Instant.{Instant}
use Rattle.neighbor.specs.declared.State.{State}
use Rattle.neighbor.specs.declared.State.TheVariants.{Started, Incomplete, Reachable, Stale}
use Rattle.neighbor.specs.NeighborRules.{Table, Key, same_key, entries_of}
use Rattle.neighbor.specs.CacheCalls.{key}
use Rattle.sweep.specs.declared.ProbeEvent.{ProbeEvent}
use Rattle.sweep.specs.declared.ProbeEvent.TheVariants.{Retransmit, Failed}
use Rattle.claims.specs.Calls.{Call, Effect, nothing, puts, removes, clears, sweeps, effect, next, Answer, refused, done, looked, got, swept, not_of_the_cache}

-- so many milliseconds later
abbrev pub later : Instant → ℕ → Instant
later t d = record { 0 = t.0 + d }

-- What is reported of a key

pub data Report : Type 0 where
  retransmission : Report
  failure : Report

-- an event of a sweep of interface i is for the key (i, its address)
abbrev pub report_of : Key → ℕ → ProbeEvent → List Report
report_of k i (Retransmit a) = cond (same_key k (key i a)) (retransmission ∷ []) []
report_of k i (Failed a) = cond (same_key k (key i a)) (failure ∷ []) []

abbrev pub reports_of : Key → ℕ → List ProbeEvent → List Report
reports_of k i [] = []
reports_of k i (v ∷ vs) = report_of k i v ++ reports_of k i vs

abbrev pub reports_in : Key → Answer → List Report
reports_in k (refused why) = []
reports_in k done = []
reports_in k (looked f) = []
reports_in k (got g) = []
reports_in k (swept i vs) = reports_of k i vs
reports_in k not_of_the_cache = []

abbrev pub reports_all : Key → List Answer → List (List Report)
reports_all k [] = []
reports_all k (a ∷ as') = reports_in k a ∷ reports_all k as'

-- The automaton

-- a key: its resolution is started and not yet swept; it is due at a time, with so many probes sent; it is filled; or it has no entry
pub data Watch : Type 0 where
  waiting : Watch
  due_at : ℕ → Instant → Watch
  filled : Watch
  gone : Watch

-- what the table holds of a key
abbrev pub watch_of_state : State → Watch
watch_of_state Started = waiting
watch_of_state (Incomplete p d) = due_at p d
watch_of_state (Reachable h e) = filled
watch_of_state (Stale h) = filled

abbrev pub watch_of : List State → Watch
watch_of [] = gone
watch_of (s ∷ r) = watch_of_state s

-- a sweep at now, of the key's own interface or of another: where the key is then, and what is reported of it
abbrev pub watch_sweep : Bool → Instant → Watch → Watch
watch_sweep own now waiting = due_at 1 (later now 1000)
watch_sweep own now (due_at p d) =
    cond (own && leb d.0 now.0) (cond (leb 3 p) gone (due_at (p + 1) (later now 1000))) (due_at p d)
watch_sweep own now filled = filled
watch_sweep own now gone = gone

abbrev pub told : Bool → Instant → Watch → List Report
told own now waiting = []
told own now (due_at p d) = cond (own && leb d.0 now.0) (cond (leb 3 p) (failure ∷ []) (retransmission ∷ [])) []
told own now filled = []
told own now gone = []

-- an effect, seen from k
abbrev pub watch_effect : Key → Effect → Watch → Watch
watch_effect k nothing w = w
watch_effect k (puts j s) w = cond (same_key k j) (watch_of_state s) w
watch_effect k (removes j) w = cond (same_key k j) gone w
watch_effect k (clears i) w = cond (eqb i k.iface) gone w
watch_effect k (sweeps i now) w = watch_sweep (eqb i k.iface) now w

abbrev pub told_effect : Key → Effect → Watch → List Report
told_effect k nothing w = []
told_effect k (puts j s) w = []
told_effect k (removes j) w = []
told_effect k (clears i) w = []
told_effect k (sweeps i now) w = told (eqb i k.iface) now w

abbrev pub watch_call : Key → Call → Watch → Watch
watch_call k c w = watch_effect k (effect c) w

abbrev pub told_by : Key → Call → Watch → List Report
told_by k c w = told_effect k (effect c) w

abbrev pub watch_all : Key → List Call → Watch → Watch
watch_all k [] w = w
watch_all k (c ∷ cs) w = watch_all k cs (watch_call k c w)

abbrev pub told_all : Key → List Call → Watch → List (List Report)
told_all k [] w = []
told_all k (c ∷ cs) w = told_by k c w ∷ told_all k cs (watch_call k c w)

-- Kinds of call

-- "filled by any call, started again, removed, cleared"
abbrev pub owns_effect : Key → Effect → Bool
owns_effect k nothing = false
owns_effect k (puts j s) = same_key k j
owns_effect k (removes j) = same_key k j
owns_effect k (clears i) = eqb i k.iface
owns_effect k (sweeps i now) = false

abbrev pub owns : Key → Call → Bool
owns k c = owns_effect k (effect c)

abbrev pub is_sweep_effect : Effect → Bool
is_sweep_effect nothing = false
is_sweep_effect (puts j s) = false
is_sweep_effect (removes j) = false
is_sweep_effect (clears i) = false
is_sweep_effect (sweeps i now) = true

abbrev pub is_sweep : Call → Bool
is_sweep c = is_sweep_effect (effect c)

-- the calls that put an entry of another key
abbrev pub puts_other_effect : Key → Effect → Bool
puts_other_effect k nothing = false
puts_other_effect k (puts j s) = not (same_key k j)
puts_other_effect k (removes j) = false
puts_other_effect k (clears i) = false
puts_other_effect k (sweeps i now) = false

-- Eviction, by what can be seen: a call puts an entry of another key, k had an entry before it and has none after it

abbrev pub held : List State → Bool
held [] = false
held (s ∷ r) = true

abbrev pub evicts : Key → Call → Table → Bool
evicts k c t = puts_other_effect k (effect c) && (held (entries_of k t) && not (held (entries_of k (next c t))))

-- no call of the run evicts k
abbrev pub Kept : Key → List Call → Table → Type 0
Kept k [] t = Unit {0}
Kept k (c ∷ cs) t = T (not (evicts k c t)) × Kept k cs (next c t)

-- the watch of a whole run, where an eviction ends the resolution
abbrev pub told_run : Key → List Call → Table → Watch → List (List Report)
told_run k [] t w = []
told_run k (c ∷ cs) t w = told_by k c w ∷ told_run k cs (next c t) (cond (evicts k c t) gone (watch_call k c w))

-- an entry is stale or reachable
abbrev pub is_filled : State → Bool
is_filled Started = false
is_filled (Incomplete p d) = false
is_filled (Reachable h e) = true
is_filled (Stale h) = true

abbrev pub any_filled : Table → Bool
any_filled [] = false
any_filled (e ∷ t) = is_filled e.state || any_filled t
