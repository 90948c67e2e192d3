-- What each call, and each run of calls, does to one key. Assumes nothing.
use Prim.Native.Nat.{ℕ, ◌^◌, ◌≤◌}
use borrow.Author.Tests.{ltb-false}
use lib.Dec.{T, ltb, eqb}
use lib.ListN.{length}
use mathlib.Core.Bool.{Bool, true, false, cond, not, ◌&&◌, true≢false}
use mathlib.Core.List.{List, [], ◌∷◌}
use mathlib.Core.Logic.{◌⊎◌, inl, inr}
use mathlib.Core.Path.{◌≡◌, refl, ap, ◌∙◌}
use native.Mathlib.Omega.{arith}
use Rattle.std.specs.Prelude.{Result, Ok, Err}
use Rattle.wire.specs.declared.error.Refusal.{Refusal}
use Rattle.claims.proofs.Lists.{kept_length}
use Rattle.claims.proofs.Put.{Evicted, put_apart, put_length, remove_length}
use Rattle.claims.proofs.Sweep.{sweep_entries, sweep_tells, watch_sweeps, told_sweeps, sweep_few, sweep_length}
use Rattle.claims.specs.Calls.{silence, address, Call, lookup, start, fill, insert, get, at, remove, clear, sweep, advertise, turn_off, check, Effect, nothing, puts, removes, clears, sweeps, if_taken, effect_by, effect, does, next, reply, answer_by, answer, answers, table_after}
use Rattle.claims.specs.Watch.{reports_in, reports_all, gone, watch_of_state, watch_of, watch_effect, told_effect, watch_call, told_by, watch_all, told_all, owns_effect, owns, is_sweep_effect, is_sweep, puts_other_effect, held, evicts, Kept, told_run, is_filled, any_filled}
use Rattle.neighbor.proofs.Distinct.{distinct_put, distinct_remove, distinct_clear}
use Rattle.neighbor.proofs.Keys.{same_key_true}
use Rattle.neighbor.proofs.OneKey.{put_own, remove_own, remove_other, clear_own, clear_other}
use Rattle.wire.specs.Refusals.{fill_check, key_check, iface_check, first_refusal, too_late, no_such_iface}
use Rattle.neighbor.specs.Distinct.{Distinct}
use Rattle.neighbor.specs.NeighborRules.{Table, Key, same_key, insert_state, remove_key, on_iface, clear_iface, entries_of}
use Rattle.neighbor.specs.declared.State.{State}
use Rattle.table.specs.Table.{kept}
use Rattle.time.specs.declared.Instant.{Instant}
use Rattle.wire.specs.declared.error.Refusal.TheVariants.{TooLate, NoSuchIface}

-- Effects

abbrev effect_evicts : Key → Effect → Table → Bool
effect_evicts k v t = puts_other_effect k v && (held (entries_of k t) && not (held (entries_of k (does v t))))

-- the time of a sweep that is taken
abbrev pub InTime : Effect → Type 0
InTime nothing = Unit {0}
InTime (puts k s) = Unit {0}
InTime (removes k) = Unit {0}
InTime (clears i) = Unit {0}
InTime (sweeps i now) = now.0 ≤ 2 ^ 62

-- keys stay distinct
pub distinct_does : (v : Effect) (t : Table) → Distinct t → Distinct (does v t)
distinct_does nothing t d = d
distinct_does (puts j s) t d = distinct_put j s t d
distinct_does (removes j) t d = distinct_remove j t d
distinct_does (clears i) t d = distinct_clear i t d
distinct_does (sweeps i now) t d = record { once = λ k. sweep_few k i now t (d.once k) }

-- a table holds at most 16 entries
fits_does : (v : Effect) (t : Table) → length t ≤ 16 → length (does v t) ≤ 16
fits_does nothing t h = h
fits_does (puts j s) t h = put_length j s t h
fits_does (removes j) t h = omega (arith, remove_length j t)
fits_does (clears i) t h = omega (arith, kept_length (on_iface i) t)
fits_does (sweeps i now) t h = omega (arith, sweep_length i now t)

-- a put of another key that does not evict k leaves k's entry as it was
put_keeps : (k j : Key) (s : State) (t : Table) → Distinct t → same_key k j ≡ false
    → T (not (not (same_key k j) && (held (entries_of k t) && not (held (entries_of k (insert_state j s t))))))
    → entries_of k (insert_state j s t) ≡ entries_of k t
put_keeps k j s t d other kept = go (put_apart k j s t other (d.once k))
  where
    none : (l : List State) → T (not (held l && true)) → [] ≡ l
    none [] h = refl
    none (s ∷ l) h = absurd h

    go : (entries_of k (insert_state j s t) ≡ entries_of k t) ⊎ Evicted k t (insert_state j s t) → entries_of k (insert_state j s t) ≡ entries_of k t
    go (inl h) = h
    go (inr h) = h.freed ∙ none (entries_of k t) (rw (other, h.freed) at kept)

-- (a) An effect that is neither k's own nor a sweep leaves k's entry exactly as it was, unless it evicts it.
pub does_keeps : (k : Key) (v : Effect) (t : Table) → Distinct t → owns_effect k v ≡ false → is_sweep_effect v ≡ false → T (not (effect_evicts k v t))
    → entries_of k (does v t) ≡ entries_of k t
does_keeps k nothing t d own sw kept = refl
does_keeps k (puts j s) t d own sw kept = put_keeps k j s t d own kept
does_keeps k (removes j) t d own sw kept = remove_other k j t own (d.once k)
does_keeps k (clears i) t d own sw kept = clear_other k i t own
does_keeps k (sweeps i now) t d own sw kept = absurd (true≢false sw)

-- (b) k is evicted only from a full table; and if its entry was not filled, the table held no stale and no reachable entry.
put_evicts : (k j : Key) (s : State) (t : Table) → Distinct t
    → T (not (same_key k j) && (held (entries_of k t) && not (held (entries_of k (insert_state j s t)))))
    → Evicted k t (insert_state j s t)
put_evicts k j s t d ev = go (same_key k j) refl ev
  where
    never : (l : List State) → T (held l && not (held l)) → ⊥
    never [] h = h
    never (s ∷ l) h = h

    by : (entries_of k (insert_state j s t) ≡ entries_of k t) ⊎ Evicted k t (insert_state j s t)
        → T (held (entries_of k t) && not (held (entries_of k (insert_state j s t))))
        → Evicted k t (insert_state j s t)
    by (inl h) e = absurd (never (entries_of k t) (rw h at e))
    by (inr h) e = h

    go : (x : Bool) → same_key k j ≡ x → T (not x && (held (entries_of k t) && not (held (entries_of k (insert_state j s t))))) → Evicted k t (insert_state j s t)
    go true h e = absurd e
    go false h e = by (put_apart k j s t h (d.once k)) e

pub does_evicts : (k : Key) (v : Effect) (t : Table) → Distinct t → T (effect_evicts k v t)
    → (16 ≤ length t) × ((s : State) → entries_of k t ≡ s ∷ [] → is_filled s ≡ false → any_filled t ≡ false)
does_evicts k nothing t d ev = absurd ev
does_evicts k (puts j s) t d ev = let e = put_evicts k j s t d ev in (e.full, e.unfilled)
does_evicts k (removes j) t d ev = absurd ev
does_evicts k (clears i) t d ev = absurd ev
does_evicts k (sweeps i now) t d ev = absurd ev

-- (c) Each effect moves k's entry as the automaton says.
put_watch : (k j : Key) (s : State) (t : Table) → Distinct t
    → T (not (not (same_key k j) && (held (entries_of k t) && not (held (entries_of k (insert_state j s t))))))
    → watch_of (entries_of k (insert_state j s t)) ≡ cond (same_key k j) (watch_of_state s) (watch_of (entries_of k t))
put_watch k j s t d kept = go (same_key k j) refl
  where
    go : (x : Bool) → same_key k j ≡ x → watch_of (entries_of k (insert_state j s t)) ≡ cond x (watch_of_state s) (watch_of (entries_of k t))
    go true h = rw (same_key_true k j h, put_own j s t (d.once j))
    go false h = ap watch_of (put_keeps k j s t d h kept)

does_watch : (k : Key) (v : Effect) (t : Table) → InTime v → Distinct t → T (not (effect_evicts k v t))
    → watch_of (entries_of k (does v t)) ≡ watch_effect k v (watch_of (entries_of k t))
does_watch k nothing t late d kept = refl
does_watch k (puts j s) t late d kept = put_watch k j s t d kept
does_watch k (removes j) t late d kept = go (same_key k j) refl
  where
    go : (x : Bool) → same_key k j ≡ x → watch_of (entries_of k (remove_key j t)) ≡ cond x gone (watch_of (entries_of k t))
    go true h = rw (same_key_true k j h, remove_own j t (d.once j))
    go false h = ap watch_of (remove_other k j t h (d.once k))
does_watch k (clears i) t late d kept = go (eqb i k.iface) refl
  where
    go : (x : Bool) → eqb i k.iface ≡ x → watch_of (entries_of k (clear_iface i t)) ≡ cond x gone (watch_of (entries_of k t))
    go true h = ap watch_of (clear_own k i t h)
    go false h = ap watch_of (clear_other k i t h)
does_watch k (sweeps i now) t late d kept =
    ap watch_of (sweep_entries k i now t (d.once k)) ∙ watch_sweeps (eqb i k.iface) now (entries_of k t) late (d.once k)

-- Calls

-- a sweep that is taken is in time
pub in_time : (now : Instant) (i : ℕ) → InTime (effect_by (first_refusal (too_late now ∷ no_such_iface i ∷ [])) (sweep i now))
in_time now i = go (ltb (2 ^ 62) now.0) (ltb 3 i) refl
  where
    go : (x y : Bool) → ltb (2 ^ 62) now.0 ≡ x
        → InTime (effect_by (cond x (Err TooLate) (cond y (Err NoSuchIface) (Ok tt))) (sweep i now))
    go true y h = tt
    go false true h = tt
    go false false h = ltb-false (2 ^ 62) now.0 h

-- a call that means no sweep is always in time
calm : (c : Call) (x : Result (Unit {0}) Refusal) → InTime (if_taken c) → InTime (effect_by x c)
calm c (Err why) h = tt
calm c (Ok tt) h = h

pub called_in_time : (c : Call) → InTime (effect c)
unfolding check
called_in_time (lookup k) = calm (lookup k) (key_check k.iface k.addr) tt
called_in_time (start k) = calm (start k) (key_check k.iface k.addr) tt
called_in_time (fill k h now) = calm (fill k h now) (fill_check now k.iface k.addr h) tt
called_in_time (insert k h expires) = calm (insert k h expires) (fill_check expires k.iface k.addr h) tt
called_in_time (get k) = calm (get k) (iface_check k.iface) tt
called_in_time (at n) = tt
called_in_time (remove k) = calm (remove k) (iface_check k.iface) tt
called_in_time (clear i) = calm (clear i) (iface_check i) tt
called_in_time (sweep i now) = in_time now i
called_in_time (advertise k now silence) = tt
called_in_time (advertise k now (address h)) = tt
called_in_time (turn_off i false) = tt
called_in_time (turn_off i true) = tt

-- what a call reports of k, by what it does
replies : (k : Key) (c : Call) (t : Table) → InTime (if_taken c) → Distinct t → reports_in k (reply c t) ≡ told_effect k (if_taken c) (watch_of (entries_of k t))
replies k (lookup j) t late d = refl
replies k (start j) t late d = refl
replies k (fill j h now) t late d = refl
replies k (insert j h e) t late d = refl
replies k (get j) t late d = refl
replies k (at n) t late d = refl
replies k (remove j) t late d = refl
replies k (clear i) t late d = refl
replies k (sweep i now) t late d = sweep_tells k i now t (d.once k) ∙ told_sweeps (eqb i k.iface) now (entries_of k t) late (d.once k)
replies k (advertise j now silence) t late d = refl
replies k (advertise j now (address h)) t late d = refl
replies k (turn_off i false) t late d = refl
replies k (turn_off i true) t late d = refl

pub distinct_next : (c : Call) (t : Table) → Distinct t → Distinct (next c t)
distinct_next c t d = distinct_does (effect c) t d

pub fits_next : (c : Call) (t : Table) → length t ≤ 16 → length (next c t) ≤ 16
fits_next c t h = fits_does (effect c) t h

module _ (k : Key) (c : Call) (t : Table) (d : Distinct t) where
  pub others_keep : owns k c ≡ false → is_sweep c ≡ false → T (not (evicts k c t)) → entries_of k (next c t) ≡ entries_of k t
  others_keep own sw kept = does_keeps k (effect c) t d own sw kept

  pub evicted_only : T (evicts k c t) → (16 ≤ length t) × ((s : State) → entries_of k t ≡ s ∷ [] → is_filled s ≡ false → any_filled t ≡ false)
  evicted_only ev = does_evicts k (effect c) t d ev

  pub call_watch : T (not (evicts k c t)) → watch_of (entries_of k (next c t)) ≡ watch_call k c (watch_of (entries_of k t))
  call_watch kept = does_watch k (effect c) t (called_in_time c) d kept

  pub call_told : reports_in k (answer c t) ≡ told_by k c (watch_of (entries_of k t))
  call_told = go (check c) (called_in_time c)
    where
      go : (x : Result (Unit {0}) Refusal) → InTime (effect_by x c) → reports_in k (answer_by x c t) ≡ told_effect k (effect_by x c) (watch_of (entries_of k t))
      go (Err why) late = refl
      go (Ok tt) late = replies k c t late d

  -- an eviction too
  pub call_ends : watch_of (entries_of k (next c t)) ≡ cond (evicts k c t) gone (watch_call k c (watch_of (entries_of k t)))
  call_ends = go (evicts k c t) refl
    where
      freed : (a b : Bool) (l : List State) → (a && (b && not (held l))) ≡ true → watch_of l ≡ gone
      freed true true [] h = refl
      freed true true (s ∷ l) h = let z : ◌≡◌ {A = ℕ} 0 1 = cc in absurd (omega arith)
      freed true false l h = let z : ◌≡◌ {A = ℕ} 0 1 = cc in absurd (omega arith)
      freed false b l h = let z : ◌≡◌ {A = ℕ} 0 1 = cc in absurd (omega arith)

      go : (x : Bool) → evicts k c t ≡ x → watch_of (entries_of k (next c t)) ≡ cond x gone (watch_call k c (watch_of (entries_of k t)))
      go true h = freed (puts_other_effect k (effect c)) (held (entries_of k t)) (entries_of k (next c t)) h
      go false h = call_watch (rw h tt)

-- (d) The whole trace: whatever calls come, short of an eviction, the automaton says what is reported of k in each, and what is left of it.
pub trace_told : (k : Key) (cs : List Call) (t : Table) → Distinct t → Kept k cs t → reports_all k (answers cs t) ≡ told_all k cs (watch_of (entries_of k t))
trace_told k [] t d kept = refl
trace_told k (c ∷ cs) t d kept =
    rw (call_told k c t d, ← call_watch k c t d kept.0, trace_told k cs (next c t) (distinct_next c t d) kept.1)

pub trace_watch : (k : Key) (cs : List Call) (t : Table) → Distinct t → Kept k cs t
    → watch_of (entries_of k (table_after cs t)) ≡ watch_all k cs (watch_of (entries_of k t))
trace_watch k [] t d kept = refl
trace_watch k (c ∷ cs) t d kept = trace_watch k cs (next c t) (distinct_next c t d) kept.1 ∙ ap (watch_all k cs) (call_watch k c t d kept.0)

-- the same with the evictions
pub trace_run : (k : Key) (cs : List Call) (t : Table) → Distinct t → reports_all k (answers cs t) ≡ told_run k cs t (watch_of (entries_of k t))
trace_run k [] t d = refl
trace_run k (c ∷ cs) t d = rw (call_told k c t d, ← call_ends k c t d, trace_run k cs (next c t) (distinct_next c t d))
