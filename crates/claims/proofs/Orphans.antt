-- Which packets are orphans, and what keeps a packet from being one. Assumes nothing.
use Prim.Native.Nat.{ℕ, ◌+◌, ◌≤◌}
use lib.Dec.{T, eqb, leb}
use lib.ListN.{length}
use mathlib.Core.Bool.{Bool, true, false, cond, not, ◌&&◌, true≢false}
use mathlib.Core.List.{List, [], ◌∷◌, ◌++◌}
use mathlib.Core.Path.{◌≡◌, refl, sym, ap, ◌∙◌, subst}
use native.Mathlib.Omega.{arith}
use Rattle.claims.proofs.Calls.{distinct_next, call_watch, call_told}
use Rattle.claims.proofs.Demand3.{distinct_after}
use Rattle.claims.proofs.Lists.{either_none, append-nil, none_append, none_parts, member_kept}
use Rattle.claims.specs.Calls.{Call, Effect, nothing, puts, removes, clears, sweeps, effect, next, answer, answers, table_after}
use Rattle.claims.specs.Demand3.{joined}
use Rattle.claims.specs.Lists.{Member}
use Rattle.claims.specs.Packets.{Numbered, Ledger, asks, purge_orphans, ledger_next, AbsentOrStale, absent, stale, is_failure, failed, takes_effect, takes, fills_effect, fills, Undisturbed, NowStale}
use Rattle.claims.specs.Watch.{later, retransmission, failure, Watch, waiting, due_at, filled, gone, watch_of_state, watch_of, watch_sweep, told, watch_effect, told_effect, reports_in, reports_all, evicts, Kept, is_filled}
use Rattle.neighbor.proofs.Keys.{same_key_true}
use Rattle.neighbor.specs.Distinct.{Distinct}
use Rattle.neighbor.specs.NeighborRules.{Table, Key, same_key, is_key, entries_of}
use Rattle.neighbor.specs.declared.State.TheVariants.{Started, Incomplete, Reachable, Stale}
use Rattle.neighbor.specs.declared.State.{State}
use Rattle.pending.specs.QueueRules.{key_of, packet, has_key, awaits, awaits_in, orphaned}
use Rattle.pending.specs.declared.PendingPacket.{PendingPacket}
use Rattle.table.specs.Table.{any_of, first_of, kept}
use Rattle.time.specs.declared.Instant.{Instant}

-- Orphans

abbrev awaited : List State → Bool
awaited [] = false
awaited (s ∷ r) = awaits s

first_awaits : (k : Key) (t : Table) → first_of (is_key k) awaits_in false t ≡ awaited (entries_of k t)
first_awaits k [] = refl
first_awaits k (e ∷ t) = go (is_key k e) (first_awaits k t)
  where
    go : (x : Bool) → first_of (is_key k) awaits_in false t ≡ awaited (entries_of k t)
        → cond x (awaits e.state) (first_of (is_key k) awaits_in false t) ≡ awaited (cond x (e.state ∷ entries_of k t) (entries_of k t))
    go true h = refl
    go false h = h

orphan_is : (t : Table) (p : PendingPacket) → orphaned t p ≡ not (awaited (entries_of (key_of p) t))
unfolding orphaned
orphan_is t p = ap not (first_awaits (key_of p) t)

absent_or_stale : (l : List State) → not (awaited l) ≡ true → AbsentOrStale l
absent_or_stale [] h = absent
absent_or_stale (Started ∷ r) h = absurd (true≢false (sym h))
absent_or_stale (Incomplete p d ∷ r) h = absurd (true≢false (sym h))
absent_or_stale (Reachable a e ∷ r) h = absurd (true≢false (sym h))
absent_or_stale (Stale a ∷ r) h = stale a r

not_awaited : {l : List State} → AbsentOrStale l → not (awaited l) ≡ true
not_awaited absent = refl
not_awaited (stale h others) = refl

pub orphan_means : (t : Table) (p : PendingPacket)
    → (orphaned t p ≡ true → AbsentOrStale (entries_of (key_of p) t)) × (AbsentOrStale (entries_of (key_of p) t) → orphaned t p ≡ true)
orphan_means t p =
    ((λ h. absent_or_stale (entries_of (key_of p) t) (sym (orphan_is t p) ∙ h)), (λ a. orphan_is t p ∙ not_awaited a))

-- of a key's packets all go, if one is an orphan
none_left : (k : Key) (t : Table) (ns : List Numbered) → not (awaited (entries_of k t)) ≡ true
    → any_of (asks (has_key k)) (kept (asks (orphaned t)) ns) ≡ false
none_left k t [] e = refl
none_left k t (n ∷ ns) e = go (orphaned t n.packet) (has_key k n.packet) refl refl (none_left k t ns e)
  where
    rest : List Numbered
    rest = kept (asks (orphaned t)) ns

    go : (x y : Bool) → orphaned t n.packet ≡ x → has_key k n.packet ≡ y → any_of (asks (has_key k)) rest ≡ false
        → any_of (asks (has_key k)) (cond x rest (n ∷ rest)) ≡ false
    go true y o h r = r
    go false false o h r = rw h r
    go false true o h r =
        absurd (true≢false
        (sym (orphan_is t n.packet ∙ ap (λ (j : Key). not (awaited (entries_of j t))) (sym (same_key_true k (key_of n.packet) h)) ∙ e) ∙ o))

pub purged : (k : Key) (t : Table) (l : Ledger) → AbsentOrStale (entries_of k t) → any_of (asks (has_key k)) (ledger_next purge_orphans t l).waiting ≡ false
purged k t l a =
    ap (any_of (asks (has_key k))) (append-nil (kept (asks (orphaned t)) l.waiting)) ∙ none_left k t l.waiting (not_awaited a)

pub stays : (n : Numbered) (t : Table) (l : Ledger) → Member n l.waiting → orphaned t n.packet ≡ false → Member n (ledger_next purge_orphans t l).waiting
stays n t l w h = subst (λ (ns : List Numbered). Member n ns) (sym (append-nil (kept (asks (orphaned t)) l.waiting))) (member_kept n (asks (orphaned t)) h l.waiting w)

-- What the watch of a key says, while nothing takes its entry

-- there is an entry, and it is not filled
abbrev resolving : Watch → Bool
resolving waiting = true
resolving (due_at p d) = true
resolving filled = false
resolving gone = false

abbrev there : Watch → Bool
there waiting = true
there (due_at p d) = true
there filled = true
there gone = false

sweep_resolving : (own : Bool) (now : Instant) (w : Watch) → resolving w ≡ true → failed (told own now w) ≡ false → resolving (watch_sweep own now w) ≡ true
sweep_resolving own now waiting h f = refl
sweep_resolving own now (due_at p d) h f = go (own && leb d.0 now.0) (leb 3 p) f
  where
    go : (x y : Bool) → failed (cond x (cond y (failure ∷ []) (retransmission ∷ [])) []) ≡ false
        → resolving (cond x (cond y gone (due_at (p + 1) (later now 1000))) (due_at p d)) ≡ true
    go true true e = absurd (true≢false e)
    go true false e = refl
    go false y e = refl
sweep_resolving own now filled h f = absurd (true≢false (sym h))
sweep_resolving own now gone h f = absurd (true≢false (sym h))

sweep_there : (own : Bool) (now : Instant) (w : Watch) → there w ≡ true → failed (told own now w) ≡ false → there (watch_sweep own now w) ≡ true
sweep_there own now waiting h f = refl
sweep_there own now (due_at p d) h f = go (own && leb d.0 now.0) (leb 3 p) f
  where
    go : (x y : Bool) → failed (cond x (cond y (failure ∷ []) (retransmission ∷ [])) []) ≡ false
        → there (cond x (cond y gone (due_at (p + 1) (later now 1000))) (due_at p d)) ≡ true
    go true true e = absurd (true≢false e)
    go true false e = refl
    go false y e = refl
sweep_there own now filled h f = refl
sweep_there own now gone h f = absurd (true≢false (sym h))

put_resolving : (b : Bool) (s : State) (w : Watch) → (b && is_filled s) ≡ false → resolving w ≡ true → resolving (cond b (watch_of_state s) w) ≡ true
put_resolving true Started w e h = refl
put_resolving true (Incomplete p d) w e h = refl
put_resolving true (Reachable a x) w e h = absurd (true≢false e)
put_resolving true (Stale a) w e h = absurd (true≢false e)
put_resolving false s w e h = h

put_there : (b : Bool) (s : State) (w : Watch) → there w ≡ true → there (cond b (watch_of_state s) w) ≡ true
put_there true Started w h = refl
put_there true (Incomplete p d) w h = refl
put_there true (Reachable a x) w h = refl
put_there true (Stale a) w h = refl
put_there false s w h = h

effect_resolving : (k : Key) (v : Effect) (w : Watch) → takes_effect k v ≡ false → fills_effect k v ≡ false → failed (told_effect k v w) ≡ false
    → resolving w ≡ true → resolving (watch_effect k v w) ≡ true
effect_resolving k nothing w e g f h = h
effect_resolving k (puts j s) w e g f h = put_resolving (same_key k j) s w g h
effect_resolving k (removes j) w e g f h = rw e h
effect_resolving k (clears i) w e g f h = rw e h
effect_resolving k (sweeps i now) w e g f h = sweep_resolving (eqb i k.iface) now w h f

effect_there : (k : Key) (v : Effect) (w : Watch) → takes_effect k v ≡ false → failed (told_effect k v w) ≡ false → there w ≡ true
    → there (watch_effect k v w) ≡ true
effect_there k nothing w e f h = h
effect_there k (puts j s) w e f h = put_there (same_key k j) s w h
effect_there k (removes j) w e f h = rw e h
effect_there k (clears i) w e f h = rw e h
effect_there k (sweeps i now) w e f h = sweep_there (eqb i k.iface) now w h f

-- one call
module _ (k : Key) (c : Call) (t : Table) (d : Distinct t) (kept : T (not (evicts k c t))) (e : takes k c ≡ false)
    (f : failed (reports_in k (answer c t)) ≡ false) where
  call_resolving : fills k c ≡ false → resolving (watch_of (entries_of k t)) ≡ true → resolving (watch_of (entries_of k (next c t))) ≡ true
  call_resolving g h =
      ap resolving (call_watch k c t d kept)
      ∙ effect_resolving k (effect c) (watch_of (entries_of k t)) e g (ap failed (sym (call_told k c t d)) ∙ f) h

  call_there : there (watch_of (entries_of k t)) ≡ true → there (watch_of (entries_of k (next c t))) ≡ true
  call_there h =
      ap there (call_watch k c t d kept)
      ∙ effect_there k (effect c) (watch_of (entries_of k t)) e (ap failed (sym (call_told k c t d)) ∙ f) h

-- what is asked of the calls
record Spared (k : Key) (cs : List Call) (t : Table) : Type 0 where
  distinct : Distinct t
  not_taken : any_of (takes k) cs ≡ false
  not_evicted : Kept k cs t
  not_failed : failed (joined (reports_all k (answers cs t))) ≡ false

spared_next : (k : Key) (c : Call) (cs : List Call) (t : Table) → Spared k (c ∷ cs) t → Spared k cs (next c t)
spared_next k c cs t s =
    record {
      distinct = distinct_next c t s.distinct;
      not_taken = (either_none (takes k c) (any_of (takes k) cs) s.not_taken).1;
      not_evicted = s.not_evicted.1;
      not_failed = (none_parts is_failure (reports_in k (answer c t)) (joined (reports_all k (answers cs (next c t)))) s.not_failed).1;
    }

module _ (k : Key) (c : Call) (cs : List Call) (t : Table) (s : Spared k (c ∷ cs) t) where
  spared_resolving : any_of (fills k) (c ∷ cs) ≡ false → resolving (watch_of (entries_of k t)) ≡ true
      → resolving (watch_of (entries_of k (next c t))) ≡ true
  spared_resolving g h =
      call_resolving k c t s.distinct s.not_evicted.0 (either_none (takes k c) (any_of (takes k) cs) s.not_taken).0
      (none_parts is_failure (reports_in k (answer c t)) (joined (reports_all k (answers cs (next c t)))) s.not_failed).0
      (either_none (fills k c) (any_of (fills k) cs) g).0 h

  spared_there : there (watch_of (entries_of k t)) ≡ true → there (watch_of (entries_of k (next c t))) ≡ true
  spared_there h =
      call_there k c t s.distinct s.not_evicted.0 (either_none (takes k c) (any_of (takes k) cs) s.not_taken).0
      (none_parts is_failure (reports_in k (answer c t)) (joined (reports_all k (answers cs (next c t)))) s.not_failed).0 h

run_resolving : (k : Key) (cs : List Call) (t : Table) → Spared k cs t → any_of (fills k) cs ≡ false → resolving (watch_of (entries_of k t)) ≡ true
    → resolving (watch_of (entries_of k (table_after cs t))) ≡ true
run_resolving k [] t s g h = h
run_resolving k (c ∷ cs) t s g h =
    run_resolving k cs (next c t) (spared_next k c cs t s) (either_none (fills k c) (any_of (fills k) cs) g).1 (spared_resolving k c cs t s g h)

run_there : (k : Key) (cs : List Call) (t : Table) → Spared k cs t → there (watch_of (entries_of k t)) ≡ true
    → there (watch_of (entries_of k (table_after cs t))) ≡ true
run_there k [] t s h = h
run_there k (c ∷ cs) t s h = run_there k cs (next c t) (spared_next k c cs t s) (spared_there k c cs t s h)

-- and of the entry
unfilled_resolving : (l : List State) (s : State) → l ≡ s ∷ [] → is_filled s ≡ false → resolving (watch_of l) ≡ true
unfilled_resolving l Started e u = rw e
unfilled_resolving l (Incomplete p d) e u = rw e
unfilled_resolving l (Reachable a x) e u = absurd (true≢false u)
unfilled_resolving l (Stale a) e u = absurd (true≢false u)

resolving_there : (w : Watch) → resolving w ≡ true → there w ≡ true
resolving_there waiting h = refl
resolving_there (due_at p d) h = refl
resolving_there filled h = refl
resolving_there gone h = h

resolving_awaited : (l : List State) → resolving (watch_of l) ≡ true → not (awaited l) ≡ false
resolving_awaited [] h = absurd (true≢false (sym h))
resolving_awaited (Started ∷ r) h = refl
resolving_awaited (Incomplete p d ∷ r) h = refl
resolving_awaited (Reachable a e ∷ r) h = refl
resolving_awaited (Stale a ∷ r) h = absurd (true≢false (sym h))

resolving_safe : (k : Key) (t : Table) (p : PendingPacket) → key_of p ≡ k → resolving (watch_of (entries_of k t)) ≡ true → orphaned t p ≡ false
resolving_safe k t p e h =
    orphan_is t p ∙ ap (λ (j : Key). not (awaited (entries_of j t))) e ∙ resolving_awaited (entries_of k t) h

module _ (k : Key) (cs : List Call) (t : Table) (u : Undisturbed k cs t) where
  undisturbed_spared : Spared k cs t
  undisturbed_spared =
      record { distinct = u.distinct; not_taken = u.not_taken; not_evicted = u.not_evicted; not_failed = u.not_failed }

  undisturbed_resolving : resolving (watch_of (entries_of k t)) ≡ true
  undisturbed_resolving = unfilled_resolving (entries_of k t) u.state u.entry u.unfilled

  pub safe : (h : ℕ) → any_of (fills k) cs ≡ false → orphaned (table_after cs t) (packet k h) ≡ false
  safe h g =
      resolving_safe k (table_after cs t) (packet k h) refl (run_resolving k cs t undisturbed_spared g undisturbed_resolving)

  still_there : there (watch_of (entries_of k (table_after cs t))) ≡ true
  still_there = run_there k cs t undisturbed_spared (resolving_there (watch_of (entries_of k t)) undisturbed_resolving)

  now_stale : not (awaited (entries_of k (table_after cs t))) ≡ true → NowStale k (table_after cs t)
  now_stale h = go (entries_of k (table_after cs t)) refl ((distinct_after cs t u.distinct).once k) still_there h
    where
      go : (l : List State) → entries_of k (table_after cs t) ≡ l → length l ≤ 1 → there (watch_of l) ≡ true → not (awaited l) ≡ true → NowStale k (table_after cs t)
      go [] e few th na = absurd (true≢false (sym th))
      go (s ∷ s' ∷ r) e few th na = absurd (omega arith)
      go (Started ∷ []) e few th na = absurd (true≢false (sym na))
      go (Incomplete p d ∷ []) e few th na = absurd (true≢false (sym na))
      go (Reachable a x ∷ []) e few th na = absurd (true≢false (sym na))
      go (Stale a ∷ []) e few th na = record { hardware = a; is = e }

  pub filled_stale : (h : ℕ) → orphaned (table_after cs t) (packet k h) ≡ true → (any_of (fills k) cs ≡ true) × NowStale k (table_after cs t)
  filled_stale h o = (go (any_of (fills k) cs) refl, now_stale (sym (orphan_is (table_after cs t) (packet k h)) ∙ o))
    where
      go : (b : Bool) → any_of (fills k) cs ≡ b → b ≡ true
      go true e = refl
      go false e = absurd (true≢false (sym o ∙ safe h e))

-- the first of the calls

kept_prefix : (k : Key) (cs ds : List Call) (t : Table) → Kept k (cs ++ ds) t → Kept k cs t
kept_prefix k [] ds t h = tt
kept_prefix k (c ∷ cs) ds t h = (h.0, kept_prefix k cs ds (next c t) h.1)

failed_prefix : (k : Key) (cs ds : List Call) (t : Table) → failed (joined (reports_all k (answers (cs ++ ds) t))) ≡ false
    → failed (joined (reports_all k (answers cs t))) ≡ false
failed_prefix k [] ds t h = refl
failed_prefix k (c ∷ cs) ds t h =
    let both = none_parts is_failure (reports_in k (answer c t)) (joined (reports_all k (answers (cs ++ ds) (next c t)))) h in
    none_append is_failure (reports_in k (answer c t)) (joined (reports_all k (answers cs (next c t)))) both.0 (failed_prefix k cs ds (next c t) both.1)

pub undisturbed_prefix : (k : Key) (cs ds : List Call) (t : Table) → Undisturbed k (cs ++ ds) t → Undisturbed k cs t
undisturbed_prefix k cs ds t u =
    record {
      distinct = u.distinct;
      state = u.state;
      entry = u.entry;
      unfilled = u.unfilled;
      not_taken = (none_parts (takes k) cs ds u.not_taken).0;
      not_evicted = kept_prefix k cs ds t u.not_evicted;
      not_failed = failed_prefix k cs ds t u.not_failed;
    }
