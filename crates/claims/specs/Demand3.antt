-- Demand 3, as it is claimed: a field for each sentence, the sentence above it. `proofs/Demand3.antt` proves them all. Assumes nothing.
use Rattle.std.specs.Prelude.{ℕ, suc, ◌+◌, ◌-◌, ◌≤◌, ◌<◌, ◌≡◌, false, cond, not, ◌||◌, List, [], ◌∷◌, ◌++◌, length, replicate, T, Ok, Err}
use Rattle.time.specs.declared.Instant.{Instant}
use Rattle.wire.specs.declared.error.Refusal.{Refusal}
use Rattle.neighbor.specs.declared.State.{State}
use Rattle.neighbor.specs.declared.State.TheVariants.{Started, Incomplete}
use Rattle.neighbor.specs.NeighborRules.{Table, Key, entries_of}
use Rattle.neighbor.specs.Distinct.{Distinct}
use Rattle.claims.specs.Calls.{silence, Call, start, sweep, advertise, turn_off, check, next, answer, refused, answers, table_after}
use Rattle.claims.specs.Watch.{later, Report, retransmission, failure, Watch, waiting, due_at, filled, gone, watch_of, watch_all, told_all, told_run, reports_in, reports_all, evicts, Kept, owns, is_sweep, is_filled, any_filled}

-- a call's outcome for k: what it reports of k, and the states of k's entries after it
pub record Gives (k : Key) (c : Call) (t : Table) (rs : List Report) (ss : List State) : Type 0 where
  pub reports : reports_in k (answer c t) ≡ rs
  pub leaves : entries_of k (next c t) ≡ ss

-- the calls that count for k: its own and the sweeps
abbrev pub counting : Key → List Call → List Call
counting k [] = []
counting k (c ∷ cs) = cond (owns k c || is_sweep c) (c ∷ counting k cs) (counting k cs)

abbrev pub joined : List (List Report) → List Report
joined [] = []
joined (r ∷ rs) = r ++ joined rs

-- of what each call reported, what those that count did
abbrev pub counted : Key → List Call → List (List Report) → List (List Report)
counted k [] rs = []
counted k (c ∷ cs) [] = []
counted k (c ∷ cs) (r ∷ rs) = cond (owns k c || is_sweep c) (r ∷ counted k cs rs) (counted k cs rs)

-- what a resolution has still to report, if nothing ends it
abbrev pub left : Watch → List Report
left waiting = replicate 2 retransmission ++ (failure ∷ [])
left (due_at p d) = replicate (3 - p) retransmission ++ (failure ∷ [])
left filled = []
left gone = []

-- how many resolutions are under way
abbrev pub under_way : Table → ℕ
under_way [] = 0
under_way (e ∷ t) = cond (is_filled e.state) (under_way t) (suc (under_way t))

-- no call of the run is k's own
abbrev pub Alone : Key → List Call → Type 0
Alone k [] = Unit {0}
Alone k (c ∷ cs) = (owns k c ≡ false) × Alone k cs

-- a sweep that is taken, on a table where k is on its way with p probes sent, due at d
pub record Sweeping (k : Key) (i : ℕ) (now : Instant) (t : Table) (p : ℕ) (d : Instant) : Type 0 where
  pub distinct : Distinct t
  pub taken : check (sweep i now) ≡ Ok tt
  pub under_way_lem : entries_of k t ≡ Incomplete p d ∷ []

pub record Demand3 : Type 0 where
  -- document 01: "demands 2 and 3 mean tables these calls made": they hold each key at most once, and at most 16 entries
  pub made : (cs : List Call) → Distinct (table_after cs []) × (length (table_after cs []) ≤ 16)
  -- "Once started": a start of k leaves it started
  pub starts : (k : Key) (t : Table) → Distinct t → check (start k) ≡ Ok tt → Gives k (start k) t [] (Started ∷ [])
  -- "until its address is filled by any call, started again, removed, cleared or evicted": no other call but a sweep changes or reports it
  pub stays : (k : Key) (c : Call) (t : Table) → Distinct t → owns k c ≡ false → is_sweep c ≡ false → T (not (evicts k c t))
      → Gives k c t [] (entries_of k t)
  -- document 01: "a refused sweep is none", nor is any other refused call
  pub refusals : (c : Call) (t : Table) (why : Refusal) → check c ≡ Err why → (answer c t ≡ refused why) × (next c t ≡ t)
  -- an advertisement that tells nothing of its sender leaves every entry; which do so says `OnCaches`: those that are refused, or come with
  -- SLAAC off, or without a unicast address
  pub unheard : (k : Key) (now : Instant) (t : Table) → next (advertise k now silence) t ≡ t
  -- document 01: "if an address went, the interface's neighbours .. are cleared"; if none did, none is (`OnCaches` says when)
  pub none_went : (i : ℕ) (t : Table) → next (turn_off i false) t ≡ t
  -- "the first sweep on any interface makes it due 1,000 ms later"
  pub first : (k : Key) (i : ℕ) (now : Instant) (t : Table) → Distinct t → check (sweep i now) ≡ Ok tt → entries_of k t ≡ Started ∷ []
      → Gives k (sweep i now) t [] (Incomplete 1 (later now 1000) ∷ [])
  -- "Each later sweep of its own interface reports it exactly once if due, else not at all": before its time, or of another interface
  pub early : (k : Key) (i : ℕ) (now : Instant) (t : Table) (p : ℕ) (d : Instant) → Sweeping k i now t p d → now.0 < d.0
      → Gives k (sweep i now) t [] (Incomplete p d ∷ [])
  pub elsewhere : (k : Key) (i : ℕ) (now : Instant) (t : Table) (p : ℕ) (d : Instant) → Sweeping k i now t p d → (i ≡ k.iface → ⊥)
      → Gives k (sweep i now) t [] (Incomplete p d ∷ [])
  -- "The first two reports are retransmissions, each making it due 1,000 ms after that sweep"
  pub again : (k : Key) (now : Instant) (t : Table) (p : ℕ) (d : Instant) → Sweeping k k.iface now t p d → d.0 ≤ now.0 → p < 3
      → Gives k (sweep k.iface now) t (retransmission ∷ []) (Incomplete (p + 1) (later now 1000) ∷ [])
  -- "the third is failure and frees the entry"
  pub third : (k : Key) (now : Instant) (t : Table) (p : ℕ) (d : Instant) → Sweeping k k.iface now t p d → d.0 ≤ now.0 → 3 ≤ p
      → Gives k (sweep k.iface now) t (failure ∷ []) []
  -- and so the failure comes 3,000 ms after that first sweep or later, in whatever order of time the sweeps between them came
  pub no_sooner : (k : Key) (i j : ℕ) (begun now : Instant) (cs : List Call) (t : Table) → Distinct t → check (sweep i begun) ≡ Ok tt → entries_of k t ≡ Started ∷ []
      → Alone k cs → Kept k cs (next (sweep i begun) t) → reports_in k (answer (sweep j now) (table_after cs (next (sweep i begun) t))) ≡ failure ∷ []
      → begun.0 + 3000 ≤ now.0
  -- the three of them, over any run from a start on: what was reported, and what is left to report
  pub life : (k : Key) (cs : List Call) (t : Table) → Distinct t → entries_of k t ≡ Started ∷ [] → Alone k cs → Kept k cs t
      → joined (reports_all k (answers cs t)) ++ left (watch_of (entries_of k (table_after cs t))) ≡ retransmission ∷ retransmission ∷ failure ∷ []
  -- "It is evicted only from a full table with no stale or reachable entry."
  pub evicted : (k : Key) (c : Call) (t : Table) (s : State) → Distinct t → entries_of k t ≡ s ∷ [] → is_filled s ≡ false → T (evicts k c t)
      → (16 ≤ length t) × (any_filled t ≡ false)
  -- so while fewer than 16 resolutions are under way, none of them is evicted
  pub room : (k : Key) (c : Call) (t : Table) (s : State) → Distinct t → entries_of k t ≡ s ∷ [] → is_filled s ≡ false → under_way t < 16 → evicts k c t ≡ false
  -- the whole trace: short of an eviction, the watch of k says what each call reports of k, and where k is after the run
  pub trace : (k : Key) (cs : List Call) (t : Table) → Distinct t → Kept k cs t
      → (reports_all k (answers cs t) ≡ told_all k cs (watch_of (entries_of k t)))
      × (watch_of (entries_of k (table_after cs t)) ≡ watch_all k cs (watch_of (entries_of k t)))
  -- the same where evictions come too: each ends the resolution
  pub run : (k : Key) (cs : List Call) (t : Table) → Distinct t → reports_all k (answers cs t) ≡ told_run k cs t (watch_of (entries_of k t))
  -- "Short of evicting it, traffic for other addresses can't hold a resolution back": without that traffic each call that counts reports
  -- the same of k, and k's entry is the same after them
  pub traffic : (k : Key) (cs : List Call) (t : Table) → Distinct t → Kept k cs t
      → (counted k cs (reports_all k (answers cs t)) ≡ reports_all k (answers (counting k cs) t))
      × (entries_of k (table_after cs t) ≡ entries_of k (table_after (counting k cs) t))
