-- Demand 3 holds. Assumes nothing.
use Prim.Native.Nat.{ℕ, suc, ◌+◌, ◌-◌, ◌*◌, ◌^◌, ◌≤◌, ◌<◌}
use borrow.Author.Tests.{eq-eqb, ne_eqb, le-leb, lt-leb, leb-true, leb-false}
use lib.Dec.{T, leb, eqb}
use lib.ListN.{length, replicate}
use mathlib.Core.Bool.{Bool, true, false, cond, not, ◌&&◌, ◌||◌, true≢false}
use mathlib.Core.List.{List, [], ◌∷◌, ◌++◌, map, append_assoc}
use mathlib.Core.Path.{◌≡◌, refl, sym, ap, ◌∙◌, subst}
use native.Mathlib.Omega.{arith}
use Rattle.std.specs.Prelude.{Result, Ok, Err}
use Rattle.wire.specs.declared.error.Refusal.{Refusal}
use Rattle.claims.proofs.Calls.{InTime, called_in_time, distinct_next, fits_next, others_keep, evicted_only, call_told, trace_told, trace_watch, trace_run}
use Rattle.claims.proofs.Lists.{or_none}
use Rattle.claims.proofs.Sweep.{sweep_entries, sweep_tells, ample, not_yet}
use Rattle.claims.proofs.Walk.{visit_states, tell_states}
use Rattle.claims.specs.Calls.{Call, start, sweep, check, Effect, nothing, puts, removes, clears, sweeps, if_taken, effect_by, effect, does, next, reply, answer, table_after}
use Rattle.claims.specs.Demand3.{Gives, counting, counted, under_way, joined, left, Alone, Sweeping, Demand3}
use Rattle.claims.specs.Watch.{later, Report, retransmission, failure, reports_in, Watch, waiting, due_at, filled, gone, watch_of, watch_sweep, told, watch_effect, told_effect, watch_call, told_by, watch_all, told_all, owns_effect, owns, is_sweep_effect, is_sweep, puts_other_effect, evicts, Kept, is_filled, any_filled}
use Rattle.neighbor.proofs.OneKey.{put_own, remove_own, clear_own}
use Rattle.neighbor.proofs.Keys.{same_key_true, and_true}
use Rattle.neighbor.specs.Distinct.{Distinct}
use Rattle.neighbor.specs.NeighborRules.{Table, Key, same_key, entries_of}
use Rattle.neighbor.specs.declared.State.TheVariants.{Started, Incomplete}
use Rattle.neighbor.specs.declared.State.{State}
use Rattle.sweep.specs.SweepRules.{expire_state}
use Rattle.table.specs.Table.{kept}
use Rattle.time.specs.declared.Instant.{Instant}

-- tables that the calls made
made : (cs : List Call) (t : Table) → Distinct t → length t ≤ 16 → Distinct (table_after cs t) × (length (table_after cs t) ≤ 16)
made [] t d h = (d, h)
made (c ∷ cs) t d h = made cs (next c t) (distinct_next c t d) (fits_next c t h)

empty_distinct : Distinct []
empty_distinct = record { once = λ k. omega arith }

silent : (k : Key) (c : Call) (t : Table) → is_sweep c ≡ false → told_by k c (watch_of (entries_of k t)) ≡ []
silent k c t h = go (effect c) h
  where
    go : (v : Effect) → is_sweep_effect v ≡ false → told_effect k v (watch_of (entries_of k t)) ≡ []
    go nothing e = refl
    go (puts j s) e = refl
    go (removes j) e = refl
    go (clears i) e = refl
    go (sweeps i now) e = absurd (true≢false e)

stays : (k : Key) (c : Call) (t : Table) → Distinct t → owns k c ≡ false → is_sweep c ≡ false → T (not (evicts k c t)) → Gives k c t [] (entries_of k t)
stays k c t d own sw kept = record { reports = call_told k c t d ∙ silent k c t sw; leaves = others_keep k c t d own sw kept }

-- a call that is taken, by what it means
acts : (k : Key) (c : Call) (t : Table) (rs : List Report) (ss : List State) → check c ≡ Ok tt
    → reports_in k (reply c t) ≡ rs → entries_of k (does (if_taken c) t) ≡ ss → Gives k c t rs ss
acts k c t rs ss ok hr hs = record { reports = rw ok hr; leaves = rw ok hs }

-- a sweep that is taken is in time
punctual : (i : ℕ) (now : Instant) → check (sweep i now) ≡ Ok tt → now.0 ≤ 2 ^ 62
punctual i now ok = subst (λ (x : Result (Unit {0}) Refusal). InTime (effect_by x (sweep i now))) ok (called_in_time (sweep i now))

-- a sweep, by the states that k had
swept_to : (k : Key) (i : ℕ) (now : Instant) (t : Table) (l : List State) (rs : List Report) (ss : List State) → Distinct t → check (sweep i now) ≡ Ok tt
    → entries_of k t ≡ l
    → tell_states (eqb i k.iface) now (map (expire_state now) l) ≡ rs
    → visit_states (eqb i k.iface) now (map (expire_state now) l) ≡ ss
    → Gives k (sweep i now) t rs ss
swept_to k i now t l rs ss d ok h hr hs =
    acts k (sweep i now) t rs ss ok (sweep_tells k i now t (d.once k) ∙ rw h hr) (sweep_entries k i now t (d.once k) ∙ rw h hs)

-- the test of a visit: of another interface, or before its time
test_false : (own late : Bool) → late ≡ false → (own && late) ≡ false
test_false true late h = h
test_false false late h = refl

first : (k : Key) (i : ℕ) (now : Instant) (t : Table) → Distinct t → check (sweep i now) ≡ Ok tt → entries_of k t ≡ Started ∷ []
    → Gives k (sweep i now) t [] (Incomplete 1 (later now 1000) ∷ [])
first k i now t d ok h =
    swept_to k i now t (Started ∷ []) [] (Incomplete 1 (later now 1000) ∷ []) d ok h
    (rw (ample now (punctual i now ok), not_yet (eqb i k.iface) now))
    (rw (ample now (punctual i now ok), not_yet (eqb i k.iface) now))

module _ (k : Key) (i : ℕ) (now : Instant) (t : Table) (p : ℕ) (d : Instant) (s : Sweeping k i now t p d) where
  passed_by : (eqb i k.iface && leb d.0 now.0) ≡ false → Gives k (sweep i now) t [] (Incomplete p d ∷ [])
  passed_by e = swept_to k i now t _ _ _ s.distinct s.taken s.under_way_lem (rw e) (rw e)

  early : now.0 < d.0 → Gives k (sweep i now) t [] (Incomplete p d ∷ [])
  early l = passed_by (test_false (eqb i k.iface) _ (lt-leb d.0 now.0 l))

  elsewhere : (i ≡ k.iface → ⊥) → Gives k (sweep i now) t [] (Incomplete p d ∷ [])
  elsewhere n = passed_by (rw (ne_eqb i k.iface n))

module _ (k : Key) (now : Instant) (t : Table) (p : ℕ) (d : Instant) (s : Sweeping k k.iface now t p d) (l : d.0 ≤ now.0) where
  again : p < 3 → Gives k (sweep k.iface now) t (retransmission ∷ []) (Incomplete (p + 1) (later now 1000) ∷ [])
  again g =
      swept_to k k.iface now t (Incomplete p d ∷ []) (retransmission ∷ []) (Incomplete (p + 1) (later now 1000) ∷ []) s.distinct s.taken s.under_way_lem
      (rw (eq-eqb k.iface k.iface refl, le-leb d.0 now.0 l, lt-leb 3 p g))
      (rw (eq-eqb k.iface k.iface refl, le-leb d.0 now.0 l, lt-leb 3 p g, ample now (punctual k.iface now s.taken)))

  third : 3 ≤ p → Gives k (sweep k.iface now) t (failure ∷ []) []
  third g =
      swept_to k k.iface now t _ _ _ s.distinct s.taken s.under_way_lem
      (rw (eq-eqb k.iface k.iface refl, le-leb d.0 now.0 l, le-leb 3 p g))
      (rw (eq-eqb k.iface k.iface refl, le-leb d.0 now.0 l, le-leb 3 p g))

or-true : (a : Bool) → (a || false) ≡ true → a ≡ true
or-true true h = refl
or-true false h = h

-- the calls that do not count for k
idle : (k : Key) (v : Effect) (w : Watch) → (owns_effect k v || is_sweep_effect v) ≡ false → (watch_effect k v w ≡ w) × (told_effect k v w ≡ [])
idle k nothing w h = (refl, refl)
idle k (puts j s) w h = (rw (or_none (same_key k j) false h).0, refl)
idle k (removes j) w h = (rw (or_none (same_key k j) false h).0, refl)
idle k (clears i) w h = (rw (or_none (eqb i k.iface) false h).0, refl)
idle k (sweeps i now) w h = absurd (true≢false h)

told_counting : (k : Key) (cs : List Call) (w : Watch) → counted k cs (told_all k cs w) ≡ told_all k (counting k cs) w
told_counting k [] w = refl
told_counting k (c ∷ cs) w = go (owns k c || is_sweep c) refl (λ v. told_counting k cs v)
  where
    go : (x : Bool) → (owns k c || is_sweep c) ≡ x → ((v : Watch) → counted k cs (told_all k cs v) ≡ told_all k (counting k cs) v)
        → cond x (told_by k c w ∷ counted k cs (told_all k cs (watch_call k c w))) (counted k cs (told_all k cs (watch_call k c w)))
        ≡ told_all k (cond x (c ∷ counting k cs) (counting k cs)) w
    go true h ih = rw (ih (watch_call k c w))
    go false h ih = rw (idle k (effect c) w h).0 (ih w)

-- a call that counts does the same to k's entry, whatever else the table holds
same_effect : (k : Key) (v : Effect) (t u : Table) → Distinct t → Distinct u → (owns_effect k v || is_sweep_effect v) ≡ true → entries_of k t ≡ entries_of k u
    → entries_of k (does v t) ≡ entries_of k (does v u)
same_effect k nothing t u d e h q = absurd (true≢false (sym h))
same_effect k (puts j s) t u d e h q =
    let y = same_key_true k j (or-true (same_key k j) h) in
    rw (y, put_own j s t (d.once j), put_own j s u (e.once j))
same_effect k (removes j) t u d e h q =
    let y = same_key_true k j (or-true (same_key k j) h) in
    rw (y, remove_own j t (d.once j), remove_own j u (e.once j))
same_effect k (clears i) t u d e h q = clear_own k i t (or-true (eqb i k.iface) h) ∙ sym (clear_own k i u (or-true (eqb i k.iface) h))
same_effect k (sweeps i now) t u d e h q =
    sweep_entries k i now t (d.once k)
    ∙ ap (λ (l : List State). visit_states (eqb i k.iface) now (map (expire_state now) l)) q
    ∙ sym (sweep_entries k i now u (e.once k))

alike : (k : Key) (cs : List Call) (t u : Table) → Distinct t → Distinct u → entries_of k t ≡ entries_of k u → Kept k cs t
    → entries_of k (table_after cs t) ≡ entries_of k (table_after (counting k cs) u)
alike k [] t u d e q kept = q
alike k (c ∷ cs) t u d e q kept = go (owns k c || is_sweep c) refl (λ u' e' q'. alike k cs (next c t) u' (distinct_next c t d) e' q' kept.1)
  where
    go : (x : Bool) → (owns k c || is_sweep c) ≡ x
        → ((u' : Table) → Distinct u' → entries_of k (next c t) ≡ entries_of k u' → entries_of k (table_after cs (next c t)) ≡ entries_of k (table_after (counting k cs) u'))
        → entries_of k (table_after cs (next c t)) ≡ entries_of k (table_after (cond x (c ∷ counting k cs) (counting k cs)) u)
    go true h ih = ih (next c u) (distinct_next c u e) (same_effect k (effect c) t u d e h q)
    go false h ih = ih u e (others_keep k c t d (or_none (owns k c) (is_sweep c) h).0 (or_none (owns k c) (is_sweep c) h).1 kept.0 ∙ q)

none_filled : (t : Table) → any_filled t ≡ false → under_way t ≡ length t
none_filled [] h = refl
none_filled (e ∷ t) h = go (is_filled e.state) h (none_filled t)
  where
    go : (x : Bool) → (x || any_filled t) ≡ false → (any_filled t ≡ false → under_way t ≡ length t) → cond x (under_way t) (suc (under_way t)) ≡ suc (length t)
    go true q g = absurd (true≢false q)
    go false q g = ap suc (g q)

room : (k : Key) (c : Call) (t : Table) (s : State) → Distinct t → entries_of k t ≡ s ∷ [] → is_filled s ≡ false → under_way t < 16 → evicts k c t ≡ false
room k c t s d h u l = go (evicts k c t) refl
  where
    go : (x : Bool) → evicts k c t ≡ x → x ≡ false
    go false q = refl
    go true q =
        let g = evicted_only k c t d (rw q tt) in
        let w = g.0 in
        let z = none_filled t (g.1 s h u) in
        absurd (omega arith)

-- and those that do evict nothing
own_puts : (k : Key) (v : Effect) → (owns_effect k v || is_sweep_effect v) ≡ true → puts_other_effect k v ≡ false
own_puts k nothing h = refl
own_puts k (puts j s) h = rw (or-true (same_key k j) h)
own_puts k (removes j) h = refl
own_puts k (clears i) h = refl
own_puts k (sweeps i now) h = refl

kept_counting : (k : Key) (cs : List Call) (t : Table) → Kept k (counting k cs) t
kept_counting k [] t = tt
kept_counting k (c ∷ cs) t = go (owns k c || is_sweep c) refl (λ u. kept_counting k cs u)
  where
    go : (x : Bool) → (owns k c || is_sweep c) ≡ x → ((u : Table) → Kept k (counting k cs) u) → Kept k (cond x (c ∷ counting k cs) (counting k cs)) t
    go true h ih = (rw (own_puts k (effect c) h) tt, ih (next c t))
    go false h ih = ih t

-- what is reported and what is left
sweep_left : (own : Bool) (now : Instant) (w : Watch) → told own now w ++ left (watch_sweep own now w) ≡ left w
sweep_left own now waiting = refl
sweep_left own now (due_at p d) = go (own && leb d.0 now.0) (leb 3 p) refl
  where
    go : (x y : Bool) → leb 3 p ≡ y
        → cond x (cond y (failure ∷ []) (retransmission ∷ [])) [] ++ left (cond x (cond y gone (due_at (p + 1) (later now 1000))) (due_at p d))
        ≡ replicate (3 - p) retransmission ++ (failure ∷ [])
    go true true h = let z : 3 - p ≡ 0 = omega (arith, leb-true) in rw z
    go true false h = let z : 3 - p ≡ suc (3 - (p + 1)) = omega (arith, leb-false) in rw z
    go false y h = refl
sweep_left own now filled = refl
sweep_left own now gone = refl

effect_left : (k : Key) (v : Effect) (w : Watch) → owns_effect k v ≡ false → told_effect k v w ++ left (watch_effect k v w) ≡ left w
effect_left k nothing w h = refl
effect_left k (puts j s) w h = rw h
effect_left k (removes j) w h = rw h
effect_left k (clears i) w h = rw h
effect_left k (sweeps i now) w h = sweep_left (eqb i k.iface) now w

run_left : (k : Key) (cs : List Call) (w : Watch) → Alone k cs → joined (told_all k cs w) ++ left (watch_all k cs w) ≡ left w
run_left k [] w h = refl
run_left k (c ∷ cs) w h = simp append_assoc (rw (run_left k cs (watch_call k c w) h.1) (effect_left k (effect c) w h.0))

-- whether a failure comes first
abbrev ends_it : List Report → Bool
ends_it [] = false
ends_it (retransmission ∷ rs) = false
ends_it (failure ∷ rs) = true

-- no failure before 3,000 ms: each report's time comes 1,000 ms after the last
module _ (begun : Instant) where
  abbrev Behind : Watch → Type 0
  Behind waiting = ⊥
  Behind (due_at p d) = begun.0 + 1000 * p ≤ d.0
  Behind filled = Unit {0}
  Behind gone = Unit {0}

  sweep_behind : (own : Bool) (now : Instant) (w : Watch) → Behind w → Behind (watch_sweep own now w)
  sweep_behind own now waiting h = absurd h
  sweep_behind own now (due_at p d) h = go (own && leb d.0 now.0) (leb 3 p) refl
    where
      go : (x y : Bool) → (own && leb d.0 now.0) ≡ x → Behind (cond x (cond y gone (due_at (p + 1) (later now 1000))) (due_at p d))
      go true true e = tt
      go true false e = omega (arith, leb-true d.0 now.0 (and_true own (leb d.0 now.0) e).1)
      go false y e = h
  sweep_behind own now filled h = tt
  sweep_behind own now gone h = tt

  effect_behind : (k : Key) (v : Effect) (w : Watch) → owns_effect k v ≡ false → Behind w → Behind (watch_effect k v w)
  effect_behind k nothing w own h = h
  effect_behind k (puts j s) w own h = rw own h
  effect_behind k (removes j) w own h = rw own h
  effect_behind k (clears i) w own h = rw own h
  effect_behind k (sweeps i now) w own h = sweep_behind (eqb i k.iface) now w h

  run_behind : (k : Key) (cs : List Call) (w : Watch) → Alone k cs → Behind w → Behind (watch_all k cs w)
  run_behind k [] w al h = h
  run_behind k (c ∷ cs) w al h = run_behind k cs (watch_call k c w) al.1 (effect_behind k (effect c) w al.0 h)

  fails_late : (own : Bool) (now : Instant) (w : Watch) → Behind w → told own now w ≡ failure ∷ [] → begun.0 + 3000 ≤ now.0
  fails_late own now waiting h e = absurd h
  fails_late own now (due_at p d) h e = go (own && leb d.0 now.0) (leb 3 p) refl refl e
    where
      go : (x y : Bool) → (own && leb d.0 now.0) ≡ x → leb 3 p ≡ y → cond x (cond y (failure ∷ []) (retransmission ∷ [])) [] ≡ failure ∷ [] → begun.0 + 3000 ≤ now.0
      go true true a b r = omega (arith, leb-true d.0 now.0 (and_true own (leb d.0 now.0) a).1, leb-true 3 p b)
      go true false a b r = absurd (true≢false (sym (ap ends_it r)))
      go false y a b r = absurd (true≢false (sym (ap ends_it r)))
  fails_late own now filled h e = absurd (true≢false (sym (ap ends_it e)))
  fails_late own now gone h e = absurd (true≢false (sym (ap ends_it e)))

pub distinct_after : (cs : List Call) (t : Table) → Distinct t → Distinct (table_after cs t)
distinct_after [] t d = d
distinct_after (c ∷ cs) t d = distinct_after cs (next c t) (distinct_next c t d)

no_sooner : (k : Key) (i j : ℕ) (begun now : Instant) (cs : List Call) (t : Table) → Distinct t → check (sweep i begun) ≡ Ok tt → entries_of k t ≡ Started ∷ []
    → Alone k cs → Kept k cs (next (sweep i begun) t) → reports_in k (answer (sweep j now) (table_after cs (next (sweep i begun) t))) ≡ failure ∷ []
    → begun.0 + 3000 ≤ now.0
no_sooner k i j begun now cs t d ok h al kept e = go (check (sweep j now)) (sym (call_told k (sweep j now) u (distinct_after cs next_t (distinct_next (sweep i begun) t d))) ∙ e)
  where
    next_t : Table
    next_t = next (sweep i begun) t

    u : Table
    u = table_after cs next_t

    under_way_lem : watch_of (entries_of k u) ≡ watch_all k cs (due_at 1 (later begun 1000))
    under_way_lem = trace_watch k cs next_t (distinct_next (sweep i begun) t d) kept ∙ ap (λ (l : List State). watch_all k cs (watch_of l)) (first k i begun t d ok h).leaves

    behind : Behind begun (watch_of (entries_of k u))
    behind = subst (Behind begun) (sym under_way_lem) (run_behind begun k cs (due_at 1 (later begun 1000)) al (omega arith))

    go : (x : Result (Unit {0}) Refusal) → told_effect k (effect_by x (sweep j now)) (watch_of (entries_of k u)) ≡ failure ∷ [] → begun.0 + 3000 ≤ now.0
    go (Err why) r = absurd (true≢false (sym (ap ends_it r)))
    go (Ok tt) r = fails_late begun (eqb j k.iface) now (watch_of (entries_of k u)) behind r

pub demand3 : Demand3
unfolding check
demand3 = record {
  made = λ cs. made cs [] empty_distinct (omega arith);
  starts = λ k t d ok. acts k (start k) t [] (Started ∷ []) ok refl (put_own k Started t (d.once k));
  stays = stays;
  refusals = λ c t why h. (rw h, rw h);
  unheard = λ k now t. refl;
  none_went = λ i t. refl;
  first = first;
  early = early;
  elsewhere = elsewhere;
  again = again;
  third = third;
  no_sooner = λ k i j begun now cs t d ok h al kept e. omega (arith, no_sooner k i j begun now cs t d ok h al kept e);
  life = λ k cs t d h al kept. rw (trace_told k cs t d kept, trace_watch k cs t d kept, h) (run_left k cs waiting al);
  evicted = λ k c t s d h u e. let g = evicted_only k c t d e in (g.0, g.1 s h u);
  room = λ k c t s d h u l. room k c t s d h u (omega arith);
  trace = λ k cs t d kept. (trace_told k cs t d kept, trace_watch k cs t d kept);
  run = trace_run;
  traffic =
      λ k cs t d kept. (
        ap (counted k cs) (trace_told k cs t d kept)
            ∙ told_counting k cs (watch_of (entries_of k t))
            ∙ sym (trace_told k (counting k cs) t d (kept_counting k cs t)),
        alike k cs t t d d refl kept,
      );
}
