-- The calls for events look at each entry once. Assumes nothing.
use Prim.Native.Nat.{ℕ, zero, suc, ◌+◌, ◌≤◌}
use lib.ListN.{length, take, drop, set, length-append, length-take, length-drop}
use lib.Seq.{length-take-le, take_all, drop-length, drop-set-lt}
use mathlib.Core.Bool.{Bool, true, false, cond}
use mathlib.Core.List.{List, [], ◌∷◌, ◌++◌, map}
use mathlib.Core.Logic.{◌⊎◌, inl, inr}
use mathlib.Core.Path.{◌≡◌, refl, sym, ap, ◌∙◌}
use native.Mathlib.Omega.{arith}
use Rattle.std.specs.Prelude.{Result, Ok, Err}
use Rattle.claims.proofs.Places.{expired_length, places}
use Rattle.claims.specs.Looks.{how_many, Reports, lent, by_value, Probes, sent, lost, sixteen, waits, Looks}
use Rattle.claims.specs.Places.{UntilNone, over, more}
use Rattle.claims.specs.Traces.{ms}
use Rattle.lent.specs.declared.Reported.{Reported}
use Rattle.neighbor.specs.CacheCalls.{blank, entries}
use Rattle.neighbor.specs.NeighborRules.{Table, Key, is_key, same_key, on_iface}
use Rattle.neighbor.specs.declared.Entry.{Entry}
use Rattle.neighbor.specs.declared.NeighborCache.{NeighborCache}
use Rattle.sweep.specs.SweepCalls.{sweep_check, sweep_by, swept_in}
use Rattle.sweep.specs.SweepRules.{due, spent, probed, Probe, nothing, happens, probe_at, probe, events_from, expire_all, sweep_table, up_to, looks_at, looks_from, sweep_looks}
use Rattle.sweep.specs.declared.ProbeEvent.{ProbeEvent}
use Rattle.sweep.specs.declared.ProbeEvent.TheVariants.{Retransmit, Failed}
use Rattle.sweep.specs.declared.Swept.{Swept}
use Rattle.table.proofs.First.{first_from_law, first_none}
use Rattle.table.specs.First.{FirstAt, NoneFrom}
use Rattle.table.specs.Table.{first_from, swap_remove, last_of, front_of, last_first}
use Rattle.time.specs.declared.Clock.{Clock}
use Rattle.time.specs.declared.Instant.{Instant}
use Rattle.wire.specs.declared.error.Refusal.{Refusal}

-- How many

module _ (test : Entry → Bool) where
  pick : (b : Bool) (m n : ℕ) → cond b (suc (m + n)) (m + n) ≡ cond b (suc m) m + n
  pick true m n = omega arith
  pick false m n = refl

  many_append : (xs ys : Table) → how_many test (xs ++ ys) ≡ how_many test xs + how_many test ys
  many_append [] ys = omega arith
  many_append (e ∷ xs) ys = ap (λ (n : ℕ). cond (test e) (suc n) n) (many_append xs ys) ∙ pick (test e) (how_many test xs) (how_many test ys)

  many_two : (d e : Entry) (t : Table) → how_many test (d ∷ e ∷ t) ≡ how_many test (e ∷ d ∷ t)
  many_two d e t = go (test d) (test e)
    where
      go : (x y : Bool) → cond x (suc (cond y (suc (how_many test t)) (how_many test t))) (cond y (suc (how_many test t)) (how_many test t))
          ≡ cond y (suc (cond x (suc (how_many test t)) (how_many test t))) (cond x (suc (how_many test t)) (how_many test t))
      go true true = refl
      go true false = refl
      go false true = refl
      go false false = refl

  -- the last entry moves to the front
  many_last : (e : Entry) (t : Table) → how_many test (last_of e t ∷ front_of e t) ≡ how_many test (e ∷ t)
  many_last e [] = refl
  many_last e (f ∷ t) =
      many_two (last_of f t) e (front_of f t) ∙ ap (λ (n : ℕ). cond (test e) (suc n) n) (many_last f t)

  many_moved : (t : Table) → how_many test (last_first t) ≡ how_many test t
  many_moved [] = refl
  many_moved (e ∷ t) = many_last e t

-- everything passes
all_many : (t : Table) → how_many (λ e. true) t ≡ length t
all_many [] = refl
all_many (e ∷ t) = ap suc (all_many t)

-- What stands from the place of an event on

removed_from : (j : ℕ) (t : Table) → drop j (swap_remove j t) ≡ last_first (drop (suc j) t)
removed_from zero [] = refl
removed_from (suc j) [] = refl
removed_from zero (e ∷ t) = refl
removed_from (suc j) (e ∷ t) = removed_from j t

-- nothing stands there, and so nothing after it
none_after : (j : ℕ) (t : Table) → drop j t ≡ [] → drop (suc j) t ≡ []
none_after zero [] h = refl
none_after (suc j) [] h = refl
none_after zero (e ∷ t) h = let z : ◌≡◌ {A = ℕ} 1 0 = ap (λ (l : Table). length (take 1 l)) h in absurd (omega arith)
none_after (suc j) (e ∷ t) h = none_after j t h

-- One call

module _ (test : Entry → Bool) where
  up_to_lem : (place : ℕ) (t : Table) → take place t ++ up_to test (drop place t) ≡ take (suc (first_from test place t)) t
  up_to_lem zero [] = refl
  up_to_lem (suc place) [] = refl
  up_to_lem zero (e ∷ t) = go (test e) (up_to_lem zero t)
    where
      go : (x : Bool) → up_to test t ≡ take (suc (first_from test zero t)) t
          → e ∷ cond x [] (up_to test t) ≡ take (suc (cond x 0 (suc (first_from test zero t)))) (e ∷ t)
      go true h = refl
      go false h = ap (λ (l : Table). e ∷ l) h
  up_to_lem (suc place) (e ∷ t) = ap (λ (l : Table). e ∷ l) (up_to_lem place t)

  and_after : (place : ℕ) (t : Table) → up_to test (drop place t) ++ drop (suc (first_from test place t)) t ≡ drop place t
  and_after zero [] = refl
  and_after (suc place) [] = refl
  and_after zero (e ∷ t) = go (test e) (and_after zero t)
    where
      go : (x : Bool) → up_to test t ++ drop (suc (first_from test zero t)) t ≡ t
          → e ∷ (cond x [] (up_to test t) ++ drop (suc (cond x 0 (suc (first_from test zero t)))) (e ∷ t)) ≡ e ∷ t
      go true h = refl
      go false h = ap (λ (l : Table). e ∷ l) h
  and_after (suc place) (e ∷ t) = and_after place t

module _ (i : ℕ) (now : Instant) (t : Table) (place : ℕ) where
  abbrev end : ℕ
  end = first_from (due i now) place t

  looks_up_to : take place t ++ looks_at i now t place ≡ take (suc end) t
  unfolding looks_at
  looks_up_to = up_to_lem (due i now) place t

  looks_and_after : looks_at i now t place ++ drop (suc end) t ≡ drop place t
  unfolding looks_at
  looks_and_after = and_after (due i now) place t

  found : (j : ℕ) → FirstAt blank (due i now) place t j → take place t ++ looks_at i now t place ≡ take (suc j) t
  found j h = looks_up_to ∙ ap (λ (n : ℕ). take (suc n) t) (sym (first_from_law.only blank (due i now) place t j h))

  found_many : (j : ℕ) → FirstAt blank (due i now) place t j → place + length (looks_at i now t place) ≡ suc j
  found_many j h =
      let before = length-take-le place t (omega (arith, h.from, h.inside)) in
      let upto = length-take-le (suc j) t (omega (arith, h.inside)) in
      let both = length-append (take place t) (looks_at i now t place) in
      let same = ap length (found j h) in
      omega (arith, before, upto, both, same)

  none : NoneFrom blank (due i now) place t (length t) → take place t ++ looks_at i now t place ≡ t
  none h = looks_up_to ∙ go (first_from_law.is blank (due i now) place t)
    where
      go : FirstAt blank (due i now) place t end ⊎ NoneFrom blank (due i now) place t end → take (suc end) t ≡ t
      go (inl f) =
          let z : ◌≡◌ {A = Bool} true false = sym f.passes ∙ h.none end f.from f.inside in
          let y : ◌≡◌ {A = ℕ} 1 0 = ap (λ (b : Bool). cond b 1 0) z in
          absurd (omega arith)
      go (inr n) = take_all (suc end) t (omega (arith, n.end))

  none_many : NoneFrom blank (due i now) place t (length t) → place ≤ length t → place + length (looks_at i now t place) ≡ length t
  none_many h low =
      let before = length-take-le place t low in
      let both = length-append (take place t) (looks_at i now t place) in
      let same = ap length (none h) in
      omega (arith, before, both, same)

  -- Events: what stands from the place of the next call on is what stands after the entry that was found

  abbrev event : Table → Probe
  event l = probe_at now end t l

  seen : probe i now t place ≡ event (drop end t)
  unfolding probe
  seen = refl

  over_ends : (l : Table) → event l ≡ nothing → l ≡ []
  over_ends [] h = refl
  over_ends (e ∷ l) h = go (spent e) h
    where
      go : (x : Bool) → cond x (happens (Failed e.addr) (swap_remove end t) end) (happens (Retransmit e.addr) (set t end (probed now e)) (suc end)) ≡ nothing
          → ◌≡◌ {A = Table} (e ∷ l) []
      go true q = let z : ◌≡◌ {A = ℕ} 0 1 = cc in absurd (omega arith)
      go false q = let z : ◌≡◌ {A = ℕ} 0 1 = cc in absurd (omega arith)

  over_after : probe i now t place ≡ nothing → drop (suc end) t ≡ []
  over_after h = none_after end t (over_ends (drop end t) (sym seen ∙ h))

  module _ (v : ProbeEvent) (t' : Table) (place' : ℕ) where
    more_after : (test : Entry → Bool) (l : Table) → event l ≡ happens v t' place' → how_many test (drop place' t') ≡ how_many test (drop (suc end) t)
    more_after test [] h = let z : ◌≡◌ {A = ℕ} 0 1 = cc in absurd (omega arith)
    more_after test (e ∷ l) h = go (spent e) h
      where
        go : (x : Bool) → cond x (happens (Failed e.addr) (swap_remove end t) end) (happens (Retransmit e.addr) (set t end (probed now e)) (suc end)) ≡ happens v t' place'
            → how_many test (drop place' t') ≡ how_many test (drop (suc end) t)
        go true q =
            let a : t' ≡ swap_remove end t = cc in
            let b : place' ≡ end = cc in
            rw (a, b) (ap (how_many test) (removed_from end t) ∙ many_moved test (drop (suc end) t))
        go false q =
            let a : t' ≡ set t end (probed now e) = cc in
            let b : place' ≡ suc end = cc in
            rw (a, b) (ap (how_many test) (drop-set-lt (suc end) t end (probed now e) (omega arith)))

    -- and a call that finds one looks at one at least
    looks_one : (l : Table) → drop place t ≡ l → probe i now t place ≡ happens v t' place' → 1 ≤ length (looks_at i now t place)
    unfolding looks_at
    looks_one (e ∷ l) h p = rw h (omega arith)
    looks_one [] h p =
        let past = length-drop place t in
        let nowhere : end ≡ length t = first_none blank (due i now) place t (omega (arith, past, ap length h)) in
        let z : nothing ≡ happens v t' place' = sym (ap event (ap (λ (n : ℕ). drop n t) nowhere ∙ drop-length t)) ∙ (sym seen ∙ p) in
        let y : ◌≡◌ {A = ℕ} 0 1 = cc in
        absurd (omega arith)

-- The calls until none

module _ (i : ℕ) (now : Instant) where
  each : {t u es : Table} {place calls : ℕ} {vs : List ProbeEvent} → UntilNone i now t place vs u es calls
      → (test : Entry → Bool) → how_many test es ≡ how_many test (drop place t)
  each {t = t} {place = place} (over h) test =
      let a = ap (how_many test) (looks_and_after i now t place) in
      let b = many_append test (looks_at i now t place) (drop (suc (end i now t place)) t) in
      let c = ap (how_many test) (over_after i now t place h) in
      omega (arith, a, b, c)
  each {t = t} {place = place} (more {t' = t'} {es = es} {place' = place'} {v = v} h rest) test =
      let a = ap (how_many test) (looks_and_after i now t place) in
      let b = many_append test (looks_at i now t place) (drop (suc (end i now t place)) t) in
      let c = more_after i now t place v t' place' test (drop (end i now t place) t) (sym (seen i now t place) ∙ h) in
      let d = many_append test (looks_at i now t place) es in
      let e = each rest test in
      omega (arith, a, b, c, d, e)

  exactly : {t u es : Table} {place calls : ℕ} {vs : List ProbeEvent} → UntilNone i now t place vs u es calls → length es ≡ length (drop place t)
  exactly {t = t} {es = es} {place = place} h = sym (all_many es) ∙ (each h (λ e. true) ∙ all_many (drop place t))

  calls_are : {t u es : Table} {place calls : ℕ} {vs : List ProbeEvent} → UntilNone i now t place vs u es calls → calls ≡ suc (length vs)
  calls_are (over h) = refl
  calls_are (more h rest) = ap suc (calls_are rest)

  calls_most : {t u es : Table} {place calls : ℕ} {vs : List ProbeEvent} → UntilNone i now t place vs u es calls → calls ≤ suc (length es)
  calls_most (over h) = omega arith
  calls_most {t = t} {place = place} (more {t' = t'} {es = es} {place' = place'} {v = v} h rest) =
      let a = looks_one i now t place v t' place' (drop place t) refl h in
      let b = length-append (looks_at i now t place) es in
      let c = calls_most rest in
      omega (arith, a, b, c)

-- Sweeps

module _ (i : ℕ) (now : Instant) (t : Table) where
  as_many : length (sweep_looks i now t) ≡ length t
  as_many = exactly i now (places.until_none i now t) ∙ expired_length now t

expired_keys : (now : Instant) (k : Key) (t : Table) → how_many (is_key k) (expire_all now t) ≡ how_many (is_key k) t
unfolding expire_all
expired_keys now k [] = refl
expired_keys now k (e ∷ t) = ap (λ (n : ℕ). cond (is_key k e) (suc n) n) (expired_keys now k t)

reported_by : (c : NeighborCache) (k : Clock) (i n : ℕ) → Reports c k i n → n ≡ (sweep_by (sweep_check k i) c k i).looked
reported_by c k i n (lent _ _ _ _ r h) = ap (λ (x : Reported). x.looked) h.is
reported_by c k i n (by_value _ _ _ r h) = ap (λ (x : Swept). x.looked) h.is

module _ (c : NeighborCache) (k : Clock) (i n : ℕ) (h : Reports c k i n) where
  module _ (fine : sweep_check k i ≡ Ok tt) where
    entries_many : n ≡ length (entries c)
    unfolding swept_in
    entries_many = reported_by c k i n h ∙ (ap (λ (x : Result (Unit {0}) Refusal). (sweep_by x c k i).looked) fine ∙ as_many i k.now (entries c))

    module _ (vs : List ProbeEvent) (u es : Table) (calls : ℕ) (p : Probes c k i vs u es calls) where
      steps : n ≡ length es
      steps = entries_many ∙ sym (exactly i k.now p ∙ expired_length k.now (entries c))

      ceiling : calls ≤ suc n
      ceiling = omega (arith, calls_most i k.now p, steps)

  refused : (why : Refusal) → sweep_check k i ≡ Err why → n ≡ 0
  refused why e = reported_by c k i n h ∙ ap (λ (x : Result (Unit {0}) Refusal). (sweep_by x c k i).looked) e

pub looks : Looks
unfolding expire_all due spent same_key on_iface probe events_from sweep_table looks_at looks_from sweep_looks swept_in
looks = record {
  found = found;
  none = none;
  found_many = found_many;
  none_many = none_many;
  until_none = λ i now t u es vs calls h.
      record {
        exactly = exactly i now h;
        calls_are = calls_are i now h;
        at_most = omega (arith, calls_most i now h, exactly i now h);
        each = each i now h;
        keys = λ k. each i now h (is_key k);
      };
  exactly = entries_many;
  count = λ c k i n h fine. entries_many c k i n h fine ∙ length-take c.len c.slots;
  steps = λ c k i n h fine vs u es calls p. (steps c k i n h fine vs u es calls p, ceiling c k i n h fine vs u es calls p);
  keys = λ c k i vs u es calls h of. each i k.now h (is_key of) ∙ expired_keys k.now of (entries c);
  refused = refused;
  all_fail = places.until_none 0 (ms 3000) (map lost sixteen);
  none_due = places.until_none 0 (ms 2999) (map lost sixteen);
  none_here = places.until_none 1 (ms 3000) (map lost sixteen);
  moved_in = places.until_none 0 (ms 3000) (waits 1 ∷ lost 2 ∷ waits 3 ∷ sent 1 4 ∷ []);
  empty = places.until_none 0 (ms 0) [];
  three = refl;
  above = refl;
  twice = refl;
  too_late = refl;
  nowhere = refl;
}
