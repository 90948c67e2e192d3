-- Document 02, 2026-06, "Look at each neighbour once": what the calls for events of a sweep look at, how many calls they are, and what a sweep reports
-- of it. Assumes nothing.
use Rattle.std.specs.Prelude.{ℕ, suc, ◌+◌, ◌^◌, ◌≤◌, min, ◌≡◌, Bool, cond, List, [], ◌∷◌, ◌++◌, map, length, take, Ok, Err}
use Rattle.table.specs.First.{FirstAt, NoneFrom}
use Rattle.time.specs.declared.Instant.{Instant}
use Rattle.time.specs.declared.Clock.{Clock}
use Rattle.time.specs.ClockRules.{idle}
use Rattle.wire.specs.declared.error.Refusal.{Refusal}
use Rattle.neighbor.specs.declared.State.TheVariants.{Incomplete}
use Rattle.neighbor.specs.declared.Entry.{Entry}
use Rattle.neighbor.specs.declared.NeighborCache.{NeighborCache}
use Rattle.neighbor.specs.NeighborRules.{Table, Key, entry, is_key}
use Rattle.neighbor.specs.CacheCalls.{blank, entries}
use Rattle.sweep.specs.declared.ProbeEvent.{ProbeEvent}
use Rattle.sweep.specs.declared.ProbeEvent.TheVariants.{Retransmit, Failed}
use Rattle.sweep.specs.declared.Swept.{Swept}
use Rattle.sweep.specs.SweepRules.{due, expire_all, looks_at}
use Rattle.sweep.specs.SweepCalls.{sweep_check, sweep_by, SweptTo}
use Rattle.lent.specs.declared.Reported.{Reported}
use Rattle.lent.specs.LentRules.{ReportedTo}
use Rattle.claims.specs.Places.{UntilNone}
use Rattle.claims.specs.Traces.{ms, neighbour}

-- how many entries pass
abbrev pub how_many : (Entry → Bool) → Table → ℕ
how_many test [] = 0
how_many test (e ∷ t) = cond (test e) (suc (how_many test t)) (how_many test t)

-- The calls for events over the entries t, until none: their events are vs, they look at es, and are so many
pub record Once (t : Table) (vs : List ProbeEvent) (es : Table) (calls : ℕ) : Type 0 where
  -- "from a table of n entries it is exactly n"
  pub exactly : length es ≡ length t
  -- "the calls for events are at most n + 1": each event is a call, and one more finds none
  pub calls_are : calls ≡ suc (length vs)
  pub at_most : calls ≤ suc (length t)
  -- "Look at each neighbour once": whatever is asked of an entry, as many of those looked at say yes as of the table. So each is looked at before an
  -- event changes it,
  pub each : (test : Entry → Bool) → how_many test es ≡ how_many test t
  -- and each key is looked at as often as it is there.
  pub keys : (k : Key) → how_many (is_key k) es ≡ how_many (is_key k) t

-- a sweep that its promise allows, with the clock lent or by value, and the number that it reports
pub data Reports : NeighborCache → Clock → ℕ → ℕ → Type 0 where
  lent : (c : NeighborCache) (k k' : Clock) (i : ℕ) (r : Reported) → ReportedTo c k i r k' → Reports c k i r.looked
  by_value : (c : NeighborCache) (k : Clock) (i : ℕ) (r : Swept) → SweptTo c k i r → Reports c k i r.looked

-- the calls for events of such a sweep: document 01's probe part, over what the expiry pass leaves
abbrev pub Probes : NeighborCache → Clock → ℕ → List ProbeEvent → Table → Table → ℕ → Type 0
Probes c k i vs u es calls = UntilNone i k.now (expire_all k.now (entries c)) 0 vs u es calls

-- Examples

-- fe80::n with p probes sent, due at 3,000
abbrev pub sent : ℕ → ℕ → Entry
sent p n = entry (neighbour n) (Incomplete p (ms 3000))

-- the last probe that it may send was sent
abbrev pub lost : ℕ → Entry
lost n = sent 3 n

abbrev pub fails : ℕ → ProbeEvent
fails n = Failed (neighbour n).addr

abbrev pub sixteen : List ℕ
sixteen = 1 ∷ 2 ∷ 3 ∷ 4 ∷ 5 ∷ 6 ∷ 7 ∷ 8 ∷ 9 ∷ 10 ∷ 11 ∷ 12 ∷ 13 ∷ 14 ∷ 15 ∷ 16 ∷ []

-- the order in which they stand at place 0, if each fails there and the last moves in
abbrev pub lasts_move_in : List ℕ
lasts_move_in = 1 ∷ 16 ∷ 15 ∷ 14 ∷ 13 ∷ 12 ∷ 11 ∷ 10 ∷ 9 ∷ 8 ∷ 7 ∷ 6 ∷ 5 ∷ 4 ∷ 3 ∷ 2 ∷ []

-- due a second later
abbrev pub waits : ℕ → Entry
waits n = entry (neighbour n) (Incomplete 2 (ms 4000))

-- what a sweep reports at a time, of an interface, with these slots of which so many are entries
abbrev pub looked_at : ℕ → ℕ → Table → ℕ → ℕ
looked_at now i slots len = (sweep_by (sweep_check (idle (ms now)) i) (record { slots = slots; len = len }) (idle (ms now)) i).looked

pub record Looks : Type 0 where
  -- One call
  --
  -- With the entries before its place, what a call looks at are the entries up to and with the one that it finds;
  pub found : (i : ℕ) (now : Instant) (t : Table) (place j : ℕ) → FirstAt blank (due i now) place t j
      → take place t ++ looks_at i now t place ≡ take (suc j) t
  -- if it finds none, all.
  pub none : (i : ℕ) (now : Instant) (t : Table) (place : ℕ) → NoneFrom blank (due i now) place t (length t)
      → take place t ++ looks_at i now t place ≡ t
  -- In numbers: j - place + 1; or, of n entries, n - place.
  pub found_many : (i : ℕ) (now : Instant) (t : Table) (place j : ℕ) → FirstAt blank (due i now) place t j
      → place + length (looks_at i now t place) ≡ suc j
  pub none_many : (i : ℕ) (now : Instant) (t : Table) (place : ℕ) → NoneFrom blank (due i now) place t (length t) → place ≤ length t
      → place + length (looks_at i now t place) ≡ length t
  -- The calls until none, over any table: a key may be there twice, and probes above 3
  pub until_none : (i : ℕ) (now : Instant) (t u es : Table) (vs : List ProbeEvent) (calls : ℕ) → UntilNone i now t 0 vs u es calls → Once t vs es calls
  -- Sweeps, of any cache
  --
  -- One that is taken reports as many as the cache has entries; "A count above its size reads as the size"
  pub exactly : (c : NeighborCache) (k : Clock) (i n : ℕ) → Reports c k i n → sweep_check k i ≡ Ok tt → n ≡ length (entries c)
  pub count : (c : NeighborCache) (k : Clock) (i n : ℕ) → Reports c k i n → sweep_check k i ≡ Ok tt → n ≡ min c.len (length c.slots)
  -- "That number equals the steps of document 01's definition", and the calls are at most one more. That there are such calls says `Places`, `until_none`.
  pub steps : (c : NeighborCache) (k : Clock) (i n : ℕ) → Reports c k i n → sweep_check k i ≡ Ok tt
      → (vs : List ProbeEvent) (u es : Table) (calls : ℕ) → Probes c k i vs u es calls → (n ≡ length es) × (calls ≤ suc n)
  -- Each key of the cache is looked at as often as the cache has it.
  pub keys : (c : NeighborCache) (k : Clock) (i : ℕ) (vs : List ProbeEvent) (u es : Table) (calls : ℕ) → Probes c k i vs u es calls
      → (of : Key) → how_many (is_key of) es ≡ how_many (is_key of) (entries c)
  -- "Refused sweeps report 0."
  pub refused : (c : NeighborCache) (k : Clock) (i n : ℕ) → Reports c k i n → (why : Refusal) → sweep_check k i ≡ Err why → n ≡ 0
  -- Values
  --
  -- all sixteen fail: 16 looks in 17 calls
  pub all_fail : UntilNone 0 (ms 3000) (map lost sixteen) 0 (map fails lasts_move_in) [] (map lost lasts_move_in) 17
  -- none is due, or none is of the interface: 16 looks in one call
  pub none_due : UntilNone 0 (ms 2999) (map lost sixteen) 0 [] (map lost sixteen) (map lost sixteen) 1
  pub none_here : UntilNone 1 (ms 3000) (map lost sixteen) 0 [] (map lost sixteen) (map lost sixteen) 1
  -- the second of four fails; the last moves in, is retransmitted, and is looked at before the third
  pub moved_in : UntilNone 0 (ms 3000) (waits 1 ∷ lost 2 ∷ waits 3 ∷ sent 1 4 ∷ []) 0 (fails 2 ∷ Retransmit (neighbour 4).addr ∷ []) (waits 1 ∷ waits 4 ∷ waits 3 ∷ [])
      (waits 1 ∷ lost 2 ∷ sent 1 4 ∷ waits 3 ∷ []) 3
  pub empty : UntilNone 0 (ms 0) [] 0 [] [] [] 1
  -- what a sweep reports: slots past the count are not looked at, and a count above 16 reads as 16
  pub three : looked_at 3000 0 (map lost sixteen) 3 ≡ 3
  pub above : looked_at 3000 0 (map lost sixteen) 17 ≡ 16
  -- of a key that is there twice, both, whatever probes were sent
  pub twice : looked_at 3000 0 (map (sent 255) (1 ∷ 1 ∷ [])) 2 ≡ 2
  -- refused by 3 and by 7
  pub too_late : looked_at (2 ^ 62 + 1) 0 (map lost sixteen) 16 ≡ 0
  pub nowhere : looked_at 3000 4 (map lost sixteen) 16 ≡ 0
