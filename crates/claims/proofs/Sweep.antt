-- What a sweep does to one key, and what it reports of it. Assumes nothing.
use Prim.Native.Nat.{ℕ, suc, ◌+◌, ◌^◌, ◌≤◌, min}
use borrow.Author.Tests.{lt-leb}
use lib.Dec.{leb, eqb}
use lib.ListN.{length, length-map}
use mathlib.Core.Bool.{Bool, true, false, cond, ◌&&◌}
use mathlib.Core.List.{List, [], ◌∷◌, map}
use mathlib.Core.Path.{◌≡◌, refl, ap, ◌∙◌}
use native.Mathlib.Omega.{arith}
use Rattle.claims.proofs.Events.{events_walk}
use Rattle.claims.proofs.Lists.{append-nil}
use Rattle.claims.proofs.Walk.{walk, visit_state, visit_states, tell_state, tell_states, walk_entries, walk_tells, walk_length}
use Rattle.claims.specs.Watch.{later, reports_of, due_at, filled, gone, watch_of, watch_sweep, told}
use Rattle.neighbor.specs.NeighborRules.{Table, Key, is_key, entries_of}
use Rattle.neighbor.specs.declared.State.TheVariants.{Started, Incomplete, Reachable, Stale}
use Rattle.neighbor.specs.declared.State.{State}
use Rattle.sweep.specs.SweepRules.{expire_state, expire, expire_all, due_state, spent_state, probed_state, TableEvents as Events, sweep_table}
use Rattle.time.specs.declared.Instant.{Instant}
use Rattle.wire.specs.declared.ethernet.HardwareAddress.{HardwareAddress}

pub sweep_walk : (i : ℕ) (now : Instant) (t : Table) → sweep_table i now t ≡ walk (length t) i now (map (expire now) t)
unfolding sweep_table expire_all
sweep_walk i now t =
    events_walk (length t) (length t) i now [] (map (expire now) t) (omega (arith, length-map t (expire now))) (omega (arith, length-map t (expire now)))

entries_expire : (k : Key) (now : Instant) (t : Table) → entries_of k (map (expire now) t) ≡ map (expire_state now) (entries_of k t)
entries_expire k now [] = refl
entries_expire k now (e ∷ t) = step (is_key k e) (entries_expire k now t)
  where
    step : (x : Bool) → entries_of k (map (expire now) t) ≡ map (expire_state now) (entries_of k t)
        → cond x (expire_state now e.state ∷ entries_of k (map (expire now) t)) (entries_of k (map (expire now) t))
        ≡ map (expire_state now) (cond x (e.state ∷ entries_of k t) (entries_of k t))
    step true h = rw h
    step false h = h

few_expired : (k : Key) (now : Instant) (t : Table) → length (entries_of k t) ≤ 1 → length (entries_of k (map (expire now) t)) ≤ 1
few_expired k now t d = rw (entries_expire k now t, length-map (entries_of k t) (expire_state now)) d

pub sweep_entries : (k : Key) (i : ℕ) (now : Instant) (t : Table) → length (entries_of k t) ≤ 1
    → entries_of k (sweep_table i now t).table ≡ visit_states (eqb i k.iface) now (map (expire_state now) (entries_of k t))
sweep_entries k i now t d =
    ap (λ (r : Events). entries_of k r.table) (sweep_walk i now t)
    ∙ walk_entries (length t) k i now (map (expire now) t) (omega (arith, length-map t (expire now))) (few_expired k now t d)
    ∙ ap (visit_states (eqb i k.iface) now) (entries_expire k now t)

pub sweep_tells : (k : Key) (i : ℕ) (now : Instant) (t : Table) → length (entries_of k t) ≤ 1
    → reports_of k i (sweep_table i now t).events ≡ tell_states (eqb i k.iface) now (map (expire_state now) (entries_of k t))
sweep_tells k i now t d =
    ap (λ (r : Events). reports_of k i r.events) (sweep_walk i now t)
    ∙ walk_tells (length t) k i now (map (expire now) t) (omega (arith, length-map t (expire now))) (few_expired k now t d)
    ∙ ap (tell_states (eqb i k.iface) now) (entries_expire k now t)

-- the same as the automaton has it
-- the sum of a call that is taken is far from the last point in time
pub ample : (now : Instant) → now.0 ≤ 2 ^ 62 → min (now.0 + 1000) 0xffff_ffff_ffff_ffff ≡ now.0 + 1000
ample now h = omega arith

pub not_yet : (own : Bool) (now : Instant) → (own && leb (now.0 + 1000) now.0) ≡ false
not_yet true now = lt-leb (now.0 + 1000) now.0 (omega arith)
not_yet false now = refl

-- a filled entry, stale or reachable, is visited in vain
stale_stays : (own : Bool) (now : Instant) (a : HardwareAddress) → (watch_of (visit_state own now (Stale a) []) ≡ filled) × (tell_state own now (Stale a) ≡ [])
stale_stays true now a = (refl, refl)
stale_stays false now a = (refl, refl)

reachable_stays : (own late : Bool) (now : Instant) (a : HardwareAddress) (e : Instant)
    → (watch_of (visit_state own now (cond late (Stale a) (Reachable a e)) []) ≡ filled) × (tell_state own now (cond late (Stale a) (Reachable a e)) ≡ [])
reachable_stays own true now a e = stale_stays own now a
reachable_stays true false now a e = (refl, refl)
reachable_stays false false now a e = (refl, refl)

pub watch_sweeps : (own : Bool) (now : Instant) (l : List State) → now.0 ≤ 2 ^ 62 → length l ≤ 1
    → watch_of (visit_states own now (map (expire_state now) l)) ≡ watch_sweep own now (watch_of l)
watch_sweeps own now [] late h = refl
watch_sweeps own now (s ∷ s' ∷ l) late h = absurd (omega arith)
watch_sweeps own now (Started ∷ []) late h = rw (ample now late, not_yet own now)
watch_sweeps own now (Incomplete p d ∷ []) late h = rw (ample now late) (step (own && leb d.0 now.0) (leb 3 p))
  where
    step : (x y : Bool)
        → watch_of (cond x (cond y [] (Incomplete (p + 1) (later now 1000) ∷ [])) (Incomplete p d ∷ []))
        ≡ cond x (cond y gone (due_at (p + 1) (later now 1000))) (due_at p d)
    step true true = refl
    step true false = refl
    step false y = refl
watch_sweeps own now (Reachable a e ∷ []) late h = (reachable_stays own (leb e.0 now.0) now a e).0
watch_sweeps own now (Stale a ∷ []) late h = (stale_stays own now a).0

pub told_sweeps : (own : Bool) (now : Instant) (l : List State) → now.0 ≤ 2 ^ 62 → length l ≤ 1 → tell_states own now (map (expire_state now) l) ≡ told own now (watch_of l)
told_sweeps own now [] late h = refl
told_sweeps own now (s ∷ s' ∷ l) late h = absurd (omega arith)
told_sweeps own now (Started ∷ []) late h = rw (ample now late, not_yet own now)
told_sweeps own now (Incomplete p d ∷ []) late h = append-nil (tell_state own now (Incomplete p d))
told_sweeps own now (Reachable a e ∷ []) late h = rw (reachable_stays own (leb e.0 now.0) now a e).1
told_sweeps own now (Stale a ∷ []) late h = rw (stale_stays own now a).1

-- a key's entries are no more after a sweep than before it
few_visited : (own : Bool) (now : Instant) (l : List State) → length (visit_states own now l) ≤ length l
few_visited own now [] = omega arith
few_visited own now (s ∷ l) = step (own && due_state now s) (spent_state s) (few_visited own now l)
  where
    r : List State
    r = visit_states own now l

    step : (x y : Bool) → length r ≤ length l → length (cond x (cond y r (probed_state now s ∷ r)) (s ∷ r)) ≤ suc (length l)
    step true true h = omega arith
    step true false h = omega arith
    step false y h = omega arith

pub sweep_few : (k : Key) (i : ℕ) (now : Instant) (t : Table) → length (entries_of k t) ≤ 1 → length (entries_of k (sweep_table i now t).table) ≤ 1
sweep_few k i now t d =
    rw (sweep_entries k i now t d)
    (omega (arith, few_visited (eqb i k.iface) now (map (expire_state now) (entries_of k t)), length-map (entries_of k t) (expire_state now)))

pub sweep_length : (i : ℕ) (now : Instant) (t : Table) → length (sweep_table i now t).table ≤ length t
sweep_length i now t =
    rw (sweep_walk i now t)
    (omega (arith, walk_length (length t) i now (map (expire now) t) (omega (arith, length-map t (expire now))), length-map t (expire now)))
