-- The probe events of a sweep as one walk over the entries, and what it does to one key. Assumes nothing.
use Prim.Native.Nat.{ℕ, zero, suc, ◌≤◌}
use borrow.Author.Tests.{eqb-true}
use lib.Dec.{eqb}
use lib.ListN.{length}
use mathlib.Core.Bool.{Bool, true, false, cond, ◌&&◌}
use mathlib.Core.List.{List, [], ◌∷◌, ◌++◌}
use mathlib.Core.Path.{◌≡◌, refl, ap, ◌∙◌}
use native.Mathlib.Omega.{arith}
use Rattle.claims.proofs.Lists.{length_last_first}
use Rattle.claims.specs.Watch.{Report, retransmission, failure, reports_of}
use Rattle.neighbor.proofs.Keys.{and_true, same_key_true, entries_last_first, tail_few}
use Rattle.neighbor.specs.CacheCalls.{key}
use Rattle.neighbor.specs.NeighborRules.{Table, Key, same_key, key_of, is_key, on_iface, entries_of}
use Rattle.neighbor.specs.declared.Entry.{Entry}
use Rattle.neighbor.specs.declared.State.{State}
use Rattle.sweep.specs.SweepRules.{due_state, due, spent_state, spent, probed_state, probed, TableEvents as Events, and_then}
use Rattle.sweep.specs.declared.ProbeEvent.TheVariants.{Retransmit, Failed}
use Rattle.table.specs.Table.{last_first}
use Rattle.time.specs.declared.Instant.{Instant}

abbrev pub keep : Entry → Events → Events
keep e r = record { events = r.events; table = e ∷ r.table }

-- what a visit to the entry e gives: fails by the walk over what is left with the last entry in its place, goes on by the walk over the rest
abbrev pub visit : ℕ → Instant → Entry → Events → Events → Events
visit i now e fails goes =
    cond (due i now e) (cond (spent e) (and_then (Failed e.addr) fails) (and_then (Retransmit e.addr) (keep (probed now e) goes)))
    (keep e goes)

abbrev pub walk : ℕ → ℕ → Instant → Table → Events
walk zero i now r = record { events = []; table = r }
walk (suc n) i now [] = record { events = []; table = [] }
walk (suc n) i now (e ∷ r) = visit i now e (walk n i now (last_first r)) (walk n i now r)

-- the same for the states of one key: own says that the swept interface is the key's
abbrev pub visit_state : Bool → Instant → State → List State → List State
visit_state own now s r = cond (own && due_state now s) (cond (spent_state s) r (probed_state now s ∷ r)) (s ∷ r)

abbrev pub visit_states : Bool → Instant → List State → List State
visit_states own now [] = []
visit_states own now (s ∷ r) = visit_state own now s (visit_states own now r)

abbrev pub tell_state : Bool → Instant → State → List Report
tell_state own now s = cond (own && due_state now s) (cond (spent_state s) (failure ∷ []) (retransmission ∷ [])) []

abbrev pub tell_states : Bool → Instant → List State → List Report
tell_states own now [] = []
tell_states own now (s ∷ r) = tell_state own now s ++ tell_states own now r

-- a visit to an entry of key k, and one to an entry of another key
due_own : (k : Key) (i : ℕ) (now : Instant) (e : Entry) → is_key k e ≡ true → due i now e ≡ (eqb i k.iface && due_state now e.state)
unfolding due on_iface
due_own k i now e same = rw (same_key_true k (key_of e) same)

visit_own : (k : Key) (i : ℕ) (now : Instant) (e : Entry) (fails goes : Events) (l : List State)
    → is_key k e ≡ true → entries_of k fails.table ≡ l → entries_of k goes.table ≡ l
    → entries_of k (visit i now e fails goes).table ≡ visit_state (eqb i k.iface) now e.state l
unfolding spent
visit_own k i now e fails goes l same hf hg = rw (due_own k i now e same) (step (eqb i k.iface && due_state now e.state) (spent e))
  where
    step : (x y : Bool)
        → entries_of k (cond x (cond y (and_then (Failed e.addr) fails) (and_then (Retransmit e.addr) (keep (probed now e) goes))) (keep e goes)).table
        ≡ cond x (cond y l (probed_state now e.state ∷ l)) (e.state ∷ l)
    step true true = hf
    step true false = rw (same, hg)
    step false y = rw (same, hg)

visit_other : (k : Key) (i : ℕ) (now : Instant) (e : Entry) (fails goes : Events) (l : List State)
    → is_key k e ≡ false → entries_of k fails.table ≡ l → entries_of k goes.table ≡ l
    → entries_of k (visit i now e fails goes).table ≡ l
visit_other k i now e fails goes l other hf hg = step (due i now e) (spent e)
  where
    step : (x y : Bool)
        → entries_of k (cond x (cond y (and_then (Failed e.addr) fails) (and_then (Retransmit e.addr) (keep (probed now e) goes))) (keep e goes)).table
        ≡ l
    step true true = hf
    step true false = rw (other, hg)
    step false y = rw (other, hg)

-- an event's key is the key of the entry that was due
event_key : (k : Key) (i : ℕ) (now : Instant) (e : Entry) → due i now e ≡ true → same_key k (key i e.addr) ≡ is_key k e
unfolding due on_iface
event_key k i now e h = ap (λ n. same_key k (key n e.addr)) (eqb-true i e.iface (and_true _ _ h).0)

tells_own : (k : Key) (i : ℕ) (now : Instant) (e : Entry) (fails goes : Events) (l : List Report)
    → is_key k e ≡ true → reports_of k i fails.events ≡ l → reports_of k i goes.events ≡ l
    → reports_of k i (visit i now e fails goes).events ≡ tell_state (eqb i k.iface) now e.state ++ l
unfolding spent
tells_own k i now e fails goes l same hf hg = rw (due_own k i now e same) (step (eqb i k.iface && due_state now e.state) (spent e) (due_own k i now e same))
  where
    step : (x y : Bool) → due i now e ≡ x
        → reports_of k i (cond x (cond y (and_then (Failed e.addr) fails) (and_then (Retransmit e.addr) (keep (probed now e) goes))) (keep e goes)).events
        ≡ cond x (cond y (failure ∷ []) (retransmission ∷ [])) [] ++ l
    step true true d = rw (event_key k i now e d, same, hf)
    step true false d = rw (event_key k i now e d, same, hg)
    step false y d = hg

tells_other : (k : Key) (i : ℕ) (now : Instant) (e : Entry) (fails goes : Events) (l : List Report)
    → is_key k e ≡ false → reports_of k i fails.events ≡ l → reports_of k i goes.events ≡ l
    → reports_of k i (visit i now e fails goes).events ≡ l
tells_other k i now e fails goes l other hf hg = step (due i now e) (spent e) refl
  where
    step : (x y : Bool) → due i now e ≡ x
        → reports_of k i (cond x (cond y (and_then (Failed e.addr) fails) (and_then (Retransmit e.addr) (keep (probed now e) goes))) (keep e goes)).events
        ≡ l
    step true true d = rw (event_key k i now e d, other, hf)
    step true false d = rw (event_key k i now e d, other, hg)
    step false y d = hg

-- what a walk does to the entries of a key, and what it reports of it
pub walk_entries : (n : ℕ) (k : Key) (i : ℕ) (now : Instant) (r : Table) → length r ≤ n → length (entries_of k r) ≤ 1
    → entries_of k (walk n i now r).table ≡ visit_states (eqb i k.iface) now (entries_of k r)
walk_entries zero k i now [] h d = refl
walk_entries zero k i now (e ∷ r) h d = absurd (omega arith)
walk_entries (suc n) k i now [] h d = refl
walk_entries (suc n) k i now (e ∷ r) h d =
    go (is_key k e) refl
    (walk_entries n k i now (last_first r) (omega (arith, length_last_first r)) (rw (entries_last_first k r few) few)
    ∙ ap (visit_states (eqb i k.iface) now) (entries_last_first k r few))
    (walk_entries n k i now r (omega arith) few)
  where
    few : length (entries_of k r) ≤ 1
    few = tail_few k e r d

    go : (x : Bool) → is_key k e ≡ x
        → entries_of k (walk n i now (last_first r)).table ≡ visit_states (eqb i k.iface) now (entries_of k r)
        → entries_of k (walk n i now r).table ≡ visit_states (eqb i k.iface) now (entries_of k r)
        → entries_of k (walk (suc n) i now (e ∷ r)).table
        ≡ visit_states (eqb i k.iface) now (cond x (e.state ∷ entries_of k r) (entries_of k r))
    go true same fails goes = visit_own k i now e _ _ _ same fails goes
    go false other fails goes = visit_other k i now e _ _ _ other fails goes

pub walk_tells : (n : ℕ) (k : Key) (i : ℕ) (now : Instant) (r : Table) → length r ≤ n → length (entries_of k r) ≤ 1
    → reports_of k i (walk n i now r).events ≡ tell_states (eqb i k.iface) now (entries_of k r)
walk_tells zero k i now [] h d = refl
walk_tells zero k i now (e ∷ r) h d = absurd (omega arith)
walk_tells (suc n) k i now [] h d = refl
walk_tells (suc n) k i now (e ∷ r) h d =
    go (is_key k e) refl
    (walk_tells n k i now (last_first r) (omega (arith, length_last_first r)) (rw (entries_last_first k r few) few)
    ∙ ap (tell_states (eqb i k.iface) now) (entries_last_first k r few))
    (walk_tells n k i now r (omega arith) few)
  where
    few : length (entries_of k r) ≤ 1
    few = tail_few k e r d

    go : (x : Bool) → is_key k e ≡ x
        → reports_of k i (walk n i now (last_first r)).events ≡ tell_states (eqb i k.iface) now (entries_of k r)
        → reports_of k i (walk n i now r).events ≡ tell_states (eqb i k.iface) now (entries_of k r)
        → reports_of k i (walk (suc n) i now (e ∷ r)).events
        ≡ tell_states (eqb i k.iface) now (cond x (e.state ∷ entries_of k r) (entries_of k r))
    go true same fails goes = tells_own k i now e _ _ _ same fails goes
    go false other fails goes = tells_other k i now e _ _ _ other fails goes

-- a walk leaves no more entries than it found
pub walk_length : (n : ℕ) (i : ℕ) (now : Instant) (r : Table) → length r ≤ n → length (walk n i now r).table ≤ length r
walk_length zero i now r h = omega arith
walk_length (suc n) i now [] h = omega arith
walk_length (suc n) i now (e ∷ r) h =
    go (due i now e) (spent e) (walk_length n i now (last_first r) (omega (arith, length_last_first r))) (walk_length n i now r (omega arith))
  where
    fails : Events
    fails = walk n i now (last_first r)

    goes : Events
    goes = walk n i now r

    go : (x y : Bool) → length fails.table ≤ length (last_first r) → length goes.table ≤ length r
        → length (cond x (cond y (and_then (Failed e.addr) fails) (and_then (Retransmit e.addr) (keep (probed now e) goes))) (keep e goes)).table
        ≤ suc (length r)
    go true true hf hg = omega (arith, length_last_first r)
    go true false hf hg = omega arith
    go false y hf hg = omega arith
