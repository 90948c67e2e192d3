-- What a sweep leaves due, and what its deadline covers, on the entries. Assumes nothing.
use Prim.Native.Nat.{ℕ, zero, suc, ◌≤◌, ◌<◌, ◌^◌}
use borrow.Author.Tests.{eqb-true, eq-eqb, lt-leb, leb-false}
use lib.Dec.{ltb, leb, eqb}
use lib.ListN.{length, length-map}
use mathlib.Core.Bool.{Bool, true, false, cond, ◌&&◌, true≢false}
use mathlib.Core.List.{[], ◌∷◌, ◌++◌, map}
use mathlib.Core.Logic.{◌⊎◌, inl, inr}
use mathlib.Core.Path.{◌≡◌, refl, sym, ap, ◌∙◌, subst}
use native.Mathlib.Omega.{arith}
use Rattle.std.specs.Prelude.{Option, None, Some as Just}
use Rattle.claims.proofs.Lists.{length_last_first, all_last_first, all_map, all_weaken, some_after, some_last_first, some_map}
use Rattle.claims.proofs.Sweep.{sweep_walk}
use Rattle.claims.proofs.Walk.{keep, walk}
use Rattle.claims.proofs.Clocks.{expiry_forward, pass_forward}
use Rattle.claims.specs.Lists.{All, Some, Member}
use Rattle.claims.specs.Wake.{Asleep, NotDue, NotDueOn, NoneDue, nothing_done, waits_for, times_of, already, IsEarliest}
use Rattle.neighbor.specs.NeighborRules.{Table, on_iface}
use Rattle.neighbor.specs.declared.Entry.{Entry}
use Rattle.neighbor.specs.declared.State.TheVariants.{Started, Incomplete, Reachable, Stale}
use Rattle.neighbor.specs.declared.State.{State}
use Rattle.sweep.specs.SweepRules.{due_from, expire_state, expire, expire_clock_state, expire_clock, expire_clocks, due_state, due, spent, probed_state, probed, TableEvents as Events, and_then, sweep_table}
use Rattle.sweep.specs.declared.ProbeEvent.TheVariants.{Retransmit, Failed}
use Rattle.table.specs.Table.{last_first, fold_over}
use Rattle.time.proofs.Forward.{after, forward_law}
use Rattle.time.specs.ClockRules.{sooner, scheduled_of}
use Rattle.time.specs.declared.Answer.{Answer}
use Rattle.time.specs.Forward.{NotLater, Forward}
use Rattle.time.specs.declared.Clock.{Clock}
use Rattle.time.specs.declared.Instant.{Instant}

-- One entry

ahead : (now : Instant) → now.0 ≤ 2 ^ 62 → now.0 < (due_from now).0
ahead now h = omega arith

probed_on : (now : Instant) (s : State) → now.0 ≤ 2 ^ 62 → NotDue now (probed_state now s)
probed_on now Started h = tt
probed_on now (Incomplete p d) h = ahead now h
probed_on now (Reachable a e) h = tt
probed_on now (Stale a) h = tt

expired_on : (now : Instant) (s : State) → now.0 ≤ 2 ^ 62 → NotDue now s → NotDue now (expire_state now s)
expired_on now Started h g = ahead now h
expired_on now (Incomplete p d) h g = g
expired_on now (Reachable a e) h g = go (leb e.0 now.0)
  where
    go : (x : Bool) → NotDue now (cond x (Stale a) (Reachable a e))
    go true = tt
    go false = tt
expired_on now (Stale a) h g = tt

calm : (now : Instant) (s : State) → NotDue now s → due_state now s ≡ false
calm now Started h = refl
calm now (Incomplete p d) h = lt-leb d.0 now.0 h
calm now (Reachable a e) h = refl
calm now (Stale a) h = refl

calmed : (now : Instant) (s : State) → due_state now s ≡ false → NotDue now s
calmed now Started h = tt
calmed now (Incomplete p d) h = leb-false d.0 now.0 h
calmed now (Reachable a e) h = tt
calmed now (Stale a) h = tt

not_due : (i : ℕ) (now : Instant) (e : Entry) → NotDueOn i now e → due i now e ≡ false
unfolding due on_iface
not_due i now e h = go (eqb i e.iface) refl
  where
    go : (x : Bool) → eqb i e.iface ≡ x → (x && due_state now e.state) ≡ false
    go true q = calm now e.state (h (eqb-true i e.iface q))
    go false q = refl

due_not : (i : ℕ) (now : Instant) (e : Entry) → due i now e ≡ false → NotDueOn i now e
unfolding due on_iface
due_not i now e h same = calmed now e.state (go (eqb i e.iface) (eq-eqb i e.iface same) h)
  where
    go : (x : Bool) → x ≡ true → (x && due_state now e.state) ≡ false → due_state now e.state ≡ false
    go true q g = g
    go false q g = absurd (true≢false (sym q))

-- The walk

walk_quiet : (i : ℕ) (now : Instant) (t : Table) → All (λ e. due i now e ≡ false) t → walk (length t) i now t ≡ nothing_done t
walk_quiet i now [] h = refl
walk_quiet i now (e ∷ t) h = rw (h.0, walk_quiet i now t h.1)

module _ (i : ℕ) (now : Instant) (late : now.0 ≤ 2 ^ 62) where
  walk_settles : (n : ℕ) (r : Table) → length r ≤ n → All (NotDueOn i now) (walk n i now r).table
  walk_settles zero [] h = tt
  walk_settles zero (e ∷ r) h = absurd (omega arith)
  walk_settles (suc n) [] h = tt
  walk_settles (suc n) (e ∷ r) h =
      go (due i now e) (spent e) refl (walk_settles n (last_first r) (omega (arith, length_last_first r))) (walk_settles n r (omega arith))
    where
      fails : Events
      fails = walk n i now (last_first r)

      goes : Events
      goes = walk n i now r

      go : (x y : Bool) → due i now e ≡ x → All (NotDueOn i now) fails.table → All (NotDueOn i now) goes.table
          → All (NotDueOn i now) (cond x (cond y (and_then (Failed e.addr) fails) (and_then (Retransmit e.addr) (keep (probed now e) goes))) (keep e goes)).table
      go true true q a b = a
      go true false q a b = (λ same. probed_on now e.state late, b)
      go false y q a b = (due_not i now e q, b)

  walk_keeps : (j n : ℕ) (r : Table) → length r ≤ n → All (NotDueOn j now) r → All (NotDueOn j now) (walk n i now r).table
  walk_keeps j zero [] h g = tt
  walk_keeps j zero (e ∷ r) h g = absurd (omega arith)
  walk_keeps j (suc n) [] h g = tt
  walk_keeps j (suc n) (e ∷ r) h g =
      go (due i now e) (spent e)
      (walk_keeps j n (last_first r) (omega (arith, length_last_first r)) (all_last_first (NotDueOn j now) r g.1))
      (walk_keeps j n r (omega arith) g.1)
    where
      fails : Events
      fails = walk n i now (last_first r)

      goes : Events
      goes = walk n i now r

      go : (x y : Bool) → All (NotDueOn j now) fails.table → All (NotDueOn j now) goes.table
          → All (NotDueOn j now) (cond x (cond y (and_then (Failed e.addr) fails) (and_then (Retransmit e.addr) (keep (probed now e) goes))) (keep e goes)).table
      go true true a b = a
      go true false a b = (λ same. probed_on now e.state late, b)
      go false y a b = (g.0, b)

  pub settles : (t : Table) → All (NotDueOn i now) (sweep_table i now t).table
  settles t = rw (sweep_walk i now t) (walk_settles (length t) (map (expire now) t) (omega (arith, length-map t (expire now))))

  pub keeps : (j : ℕ) (t : Table) → All (NotDueOn j now) t → All (NotDueOn j now) (sweep_table i now t).table
  keeps j t h =
      rw (sweep_walk i now t)
      (walk_keeps j (length t) (map (expire now) t) (omega (arith, length-map t (expire now)))
      (all_map (NotDueOn j now) (NotDueOn j now) (expire now) (λ e g same. expired_on now e.state late (g same)) t h))

-- A sweep of a table of which nothing is to be done

pub walk_same : (i : ℕ) (now : Instant) (t : Table) → map (expire now) t ≡ t → All (λ e. due i now e ≡ false) t → sweep_table i now t ≡ nothing_done t
walk_same i now t same h = sweep_walk i now t ∙ ap (walk (length t) i now) same ∙ walk_quiet i now t h

-- What the deadline covers

abbrev pub Covered : Option Instant → State → Type 0
Covered d Started = ⊥
Covered d (Incomplete p t) = NotLater d (Just t)
Covered d (Reachable a e) = NotLater d (Just e)
Covered d (Stale a) = Unit {0}

sooner_covers : (a b : Option Instant) (s : State) → NotLater a b → Covered b s → Covered a s
sooner_covers a b Started h c = c
sooner_covers a b (Incomplete p d) h c = after a b (Just d) h c
sooner_covers a b (Reachable x e) h c = after a b (Just e) h c
sooner_covers a b (Stale x) h c = tt

one_covered : (k : Clock) (s : State) → NotDue k.now s → Covered (expire_clock_state k s).deadline (expire_state k.now s)
one_covered k Started h = forward_law.kept k (due_from k.now)
one_covered k (Incomplete p d) h = forward_law.covers k d (rw (lt-leb d.0 k.now.0 h))
one_covered k (Reachable a e) h = go (leb e.0 k.now.0) refl
  where
    go : (x : Bool) → leb e.0 k.now.0 ≡ x → Covered (expire_clock_state k (Reachable a e)).deadline (cond x (Stale a) (Reachable a e))
    go true q = tt
    go false q = forward_law.covers k e (rw q)
one_covered k (Stale a) h = tt

pub all_covered : (now : Instant) (k : Clock) (t : Table) → k.now ≡ now → All (NoneDue now) t → All (λ e. Covered (fold_over expire_clock k t).deadline e.state) (map (expire now) t)
unfolding expire_clocks
all_covered now k [] same h = tt
all_covered now k (e ∷ t) same h = (
  sooner_covers (fold_over expire_clock (expire_clock k e) t).deadline (expire_clock k e).deadline (expire_state now e.state) rest.deadline here,
  all_covered now (expire_clock k e) t ((expiry_forward k e.state).now ∙ same) h.1,
)
  where
    rest : Forward (expire_clock k e) (fold_over expire_clock (expire_clock k e) t)
    rest = pass_forward (expire_clock k e) t

    here : Covered (expire_clock k e).deadline (expire_state now e.state)
    here =
        subst (λ (n : Instant). Covered (expire_clock k e).deadline (expire_state n e.state)) same
        (one_covered k e.state (subst (λ (n : Instant). NotDue n e.state) (sym same) h.0))

-- Before the deadline nothing is to be done

pub before : (d : Option Instant) (t next : Instant) → NotLater d (Just t) → Asleep d next → next.0 < t.0
before None t next h a = absurd h
before (Just d) t next h a = omega arith

pub still : (d : Option Instant) (next : Instant) (s : State) → Covered d s → Asleep d next → (expire_state next s ≡ s) × NotDue next s
still d next Started c a = absurd c
still d next (Incomplete p t) c a = (refl, before d t next c a)
still d next (Reachable x e) c a = (rw (lt-leb e.0 next.0 (before d e next c a)), tt)
still d next (Stale x) c a = (refl, tt)

pub still_all : (d : Option Instant) (next : Instant) → Asleep d next → (t : Table) → All (λ e. Covered d e.state) t → map (expire next) t ≡ t
still_all d next a [] h = refl
still_all d next a (e ∷ t) h = rw ((still d next e.state h.0 a).0, still_all d next a t h.1)

pub none_due_on : (i : ℕ) (now : Instant) (t : Table) → All (NoneDue now) t → All (λ e. due i now e ≡ false) t
none_due_on i now t h = all_weaken (NoneDue now) (λ e. due i now e ≡ false) (λ e g. not_due i now e (λ same. g)) t h

pub calm_all : (d : Option Instant) (j : ℕ) (next : Instant) → Asleep d next → (t : Table) → All (λ e. Covered d e.state) t → All (λ e. due j next e ≡ false) t
calm_all d j next a [] h = tt
calm_all d j next a (e ∷ t) h = (not_due j next e (λ same. (still d next e.state h.0 a).1), calm_all d j next a t h.1)

quiet_all : (i : ℕ) (now : Instant) → now.0 ≤ 2 ^ 62 → (t : Table) → All (NoneDue now) t → All (λ e. due i now e ≡ false) (map (expire now) t)
quiet_all i now late t h = all_map (NoneDue now) (λ e. due i now e ≡ false) (expire now) (λ e g. not_due i now (expire now e) (λ same. expired_on now e.state late g)) t h

left_all : (i : ℕ) (now : Instant) → now.0 ≤ 2 ^ 62 → (t : Table) → All (NoneDue now) t → sweep_table i now t ≡ nothing_done (map (expire now) t)
left_all i now late t h =
    sweep_walk i now t
    ∙ ap (λ (n : ℕ). walk n i now (map (expire now) t)) (sym (length-map t (expire now)))
    ∙ walk_quiet i now (map (expire now) t) (quiet_all i now late t h)

pub left : (i : ℕ) (now : Instant) → now.0 ≤ 2 ^ 62 → (t : Table) → All (NoneDue now) t → (sweep_table i now t).table ≡ map (expire now) t
left i now late t h = ap (λ (r : Events). r.table) (left_all i now late t h)

pub misses_nothing : (i : ℕ) (k : Clock) (t : Table) → k.now.0 ≤ 2 ^ 62 → All (NoneDue k.now) t
    → (j : ℕ) (next : Instant) → Asleep (expire_clocks k t).deadline next
    → sweep_table j next (sweep_table i k.now t).table ≡ nothing_done (sweep_table i k.now t).table
unfolding expire_clocks
misses_nothing i k t late h j next a =
    let c = all_covered k.now k t refl h in
    rw (left i k.now late t h)
    (walk_same j next (map (expire k.now) t) (still_all _ next a (map (expire k.now) t) c) (calm_all _ j next a (map (expire k.now) t) c))

-- A time after now that an entry waits for is waited for after a sweep at now

abbrev pub WaitsAt : Instant → State → Type 0
WaitsAt x Started = ⊥
WaitsAt x (Incomplete p d) = d ≡ x
WaitsAt x (Reachable a e) = e ≡ x
WaitsAt x (Stale a) = ⊥

abbrev pub WaitsEntry : Instant → Entry → Type 0
WaitsEntry x e = WaitsAt x e.state

module _ (now x : Instant) (ahead_of : now.0 < x.0) where
  waits_calm : (s : State) → WaitsAt x s → NotDue now s
  waits_calm Started h = tt
  waits_calm (Incomplete p d) h = subst (λ (y : Instant). now.0 < y.0) (sym h) ahead_of
  waits_calm (Reachable a e) h = tt
  waits_calm (Stale a) h = tt

  waits_on : (s : State) → WaitsAt x s → WaitsAt x (expire_state now s)
  waits_on Started h = absurd h
  waits_on (Incomplete p d) h = h
  waits_on (Reachable a e) h = rw (lt-leb e.0 now.0 (subst (λ (y : Instant). now.0 < y.0) (sym h) ahead_of)) h
  waits_on (Stale a) h = absurd h

  walk_waits : (i n : ℕ) (r : Table) → length r ≤ n → Some (WaitsEntry x) r → Some (WaitsEntry x) (walk n i now r).table
  walk_waits i zero r h w = w
  walk_waits i (suc n) [] h w = absurd w
  walk_waits i (suc n) (e ∷ r) h w =
      go (due i now e) (spent e) refl w
      (λ z. walk_waits i n (last_first r) (omega (arith, length_last_first r)) (some_last_first (WaitsEntry x) r z))
      (λ z. walk_waits i n r (omega arith) z)
    where
      fails : Events
      fails = walk n i now (last_first r)

      goes : Events
      goes = walk n i now r

      go : (a b : Bool) → due i now e ≡ a → Some (WaitsEntry x) (e ∷ r)
          → (Some (WaitsEntry x) r → Some (WaitsEntry x) fails.table) → (Some (WaitsEntry x) r → Some (WaitsEntry x) goes.table)
          → Some (WaitsEntry x) (cond a (cond b (and_then (Failed e.addr) fails) (and_then (Retransmit e.addr) (keep (probed now e) goes))) (keep e goes)).table
      go true b q (inl z) f g = absurd (true≢false (sym q ∙ not_due i now e (λ same. waits_calm e.state z)))
      go true true q (inr z) f g = f z
      go true false q (inr z) f g = inr (g z)
      go false b q (inl z) f g = inl z
      go false b q (inr z) f g = inr (g z)

  expire_waits : (t : Table) → Some (WaitsEntry x) t → Some (WaitsEntry x) (map (expire now) t)
  expire_waits t w = some_map (WaitsEntry x) (WaitsEntry x) (expire now) (λ e h. waits_on e.state h) t w

  after_pass : (i : ℕ) (t : Table) → Some (WaitsEntry x) (map (expire now) t) → Some (WaitsEntry x) (sweep_table i now t).table
  after_pass i t w = rw (sweep_walk i now t) (walk_waits i (length t) (map (expire now) t) (omega (arith, length-map t (expire now))) w)

-- Where a deadline came from: it was there before, or the table waits for it

pub record Waiting (now : Instant) (t : Table) (d : Option Instant) : Type 0 where
  pub time : Instant
  pub is : d ≡ Just time
  pub later : now.0 < time.0
  pub somewhere : Some (WaitsEntry time) t

abbrev pub Came : Instant → Option Instant → Table → Option Instant → Type 0
Came now base t d = (d ≡ base) ⊎ Waiting now t d

record WaitingOn (now : Instant) (s : State) (d : Option Instant) : Type 0 where
  time : Instant
  is : d ≡ Just time
  later : now.0 < time.0
  waits : WaitsAt time s

pub sooner_one : (d : Option Instant) (t : Instant) → (sooner d t ≡ d) ⊎ (sooner d t ≡ Just t)
sooner_one None t = inr refl
sooner_one (Just e) t = go (ltb t.0 e.0)
  where
    go : (x : Bool) → (cond {A = Option Instant} x (Just t) (Just e) ≡ Just e) ⊎ (cond {A = Option Instant} x (Just t) (Just e) ≡ Just t)
    go true = inr refl
    go false = inl refl

joins : (k : Clock) (t : Instant) (s : State) → k.now.0 < t.0 → WaitsAt t s → ((scheduled_of k t).deadline ≡ k.deadline) ⊎ WaitingOn k.now s (scheduled_of k t).deadline
joins k t s h w = go (sooner_one k.deadline t)
  where
    go : (sooner k.deadline t ≡ k.deadline) ⊎ (sooner k.deadline t ≡ Just t) → ((scheduled_of k t).deadline ≡ k.deadline) ⊎ WaitingOn k.now s (scheduled_of k t).deadline
    go (inl q) = inl q
    go (inr q) = inr (record { time = t; is = q; later = h; waits = w })

one_came : (k : Clock) (s : State) → k.now.0 ≤ 2 ^ 62
    → ((expire_clock_state k s).deadline ≡ k.deadline) ⊎ WaitingOn k.now (expire_state k.now s) (expire_clock_state k s).deadline
one_came k Started late = joins k (due_from k.now) (Incomplete 1 (due_from k.now)) (ahead k.now late) refl
one_came k (Incomplete p d) late = go (leb d.0 k.now.0) refl
  where
    go : (x : Bool) → leb d.0 k.now.0 ≡ x
        → ((cond {A = Answer} x (record { expired = true; clock = k }) (record { expired = false; clock = scheduled_of k d })).clock.deadline ≡ k.deadline)
        ⊎ WaitingOn k.now (Incomplete p d) (cond {A = Answer} x (record { expired = true; clock = k }) (record { expired = false; clock = scheduled_of k d })).clock.deadline
    go true q = inl refl
    go false q = joins k d (Incomplete p d) (leb-false d.0 k.now.0 q) refl
one_came k (Reachable a e) late = go (leb e.0 k.now.0) refl
  where
    go : (x : Bool) → leb e.0 k.now.0 ≡ x
        → ((cond {A = Answer} x (record { expired = true; clock = k }) (record { expired = false; clock = scheduled_of k e })).clock.deadline ≡ k.deadline)
        ⊎ WaitingOn k.now (cond x (Stale a) (Reachable a e)) (cond {A = Answer} x (record { expired = true; clock = k }) (record { expired = false; clock = scheduled_of k e })).clock.deadline
    go true q = inl refl
    go false q = joins k e (Reachable a e) (leb-false e.0 k.now.0 q) refl
one_came k (Stale a) late = inl refl

pass_came : (now : Instant) → now.0 ≤ 2 ^ 62 → (k : Clock) (t : Table) → k.now ≡ now → Came now k.deadline (map (expire now) t) (fold_over expire_clock k t).deadline
pass_came now late k [] same = inl refl
pass_came now late k (e ∷ t) same = go here_came (pass_came now late (expire_clock k e) t ((expiry_forward k e.state).now ∙ same))
  where
    here_came : ((expire_clock k e).deadline ≡ k.deadline) ⊎ WaitingOn now (expire_state now e.state) (expire_clock k e).deadline
    here_came =
        subst (λ (n : Instant). ((expire_clock k e).deadline ≡ k.deadline) ⊎ WaitingOn n (expire_state n e.state) (expire_clock k e).deadline) same
        (one_came k e.state (subst (λ (n : Instant). n.0 ≤ 2 ^ 62) (sym same) late))

    go : ((expire_clock k e).deadline ≡ k.deadline) ⊎ WaitingOn now (expire_state now e.state) (expire_clock k e).deadline
        → Came now (expire_clock k e).deadline (map (expire now) t) (fold_over expire_clock (expire_clock k e) t).deadline
        → Came now k.deadline (map (expire now) (e ∷ t)) (fold_over expire_clock (expire_clock k e) t).deadline
    go a (inr w) = inr (record { time = w.time; is = w.is; later = w.later; somewhere = inr w.somewhere })
    go (inl p) (inl q) = inl (q ∙ p)
    go (inr w) (inl q) = inr (record { time = w.time; is = q ∙ w.is; later = w.later; somewhere = inl w.waits })

-- a sweep at now, of any interface
pub swept_came : (now : Instant) → now.0 ≤ 2 ^ 62 → (base : Option Instant) (i : ℕ) (k : Clock) (t : Table) → k.now ≡ now → Came now base t k.deadline
    → Came now base (sweep_table i now t).table (expire_clocks k t).deadline
unfolding expire_clocks
swept_came now late base i k t same c = go c (pass_came now late k t same)
  where
    go : Came now base t k.deadline → Came now k.deadline (map (expire now) t) (fold_over expire_clock k t).deadline
        → Came now base (sweep_table i now t).table (fold_over expire_clock k t).deadline
    go b (inr w) = inr (record { time = w.time; is = w.is; later = w.later; somewhere = after_pass now w.time w.later i t w.somewhere })
    go (inl p) (inl q) = inl (q ∙ p)
    go (inr w) (inl q) =
        inr (record {
          time = w.time;
          is = q ∙ w.is;
          later = w.later;
          somewhere = after_pass now w.time w.later i t (expire_waits now w.time w.later t w.somewhere);
        })

-- what a probe keeps of an entry, the walk keeps of all
walk_all : (P : Entry → Type 0) (i : ℕ) (now : Instant) → ((e : Entry) → P e → P (probed now e)) → (n : ℕ) (r : Table) → All P r → All P (walk n i now r).table
walk_all P i now f zero r h = h
walk_all P i now f (suc n) [] h = tt
walk_all P i now f (suc n) (e ∷ r) h =
    go (due i now e) (spent e) (walk_all P i now f n (last_first r) (all_last_first P r h.1)) (walk_all P i now f n r h.1)
  where
    fails : Events
    fails = walk n i now (last_first r)

    goes : Events
    goes = walk n i now r

    go : (x y : Bool) → All P fails.table → All P goes.table
        → All P (cond x (cond y (and_then (Failed e.addr) fails) (and_then (Retransmit e.addr) (keep (probed now e) goes))) (keep e goes)).table
    go true true a b = a
    go true false a b = (f e h.0, b)
    go false y a b = (h.0, b)

-- a sweep keeps the interfaces of its entries
pub same_ifaces : (P : ℕ → Type 0) (i : ℕ) (now : Instant) (t : Table) → All (λ e. P e.iface) t → All (λ e. P e.iface) (sweep_table i now t).table
same_ifaces P i now t h =
    rw (sweep_walk i now t)
    (walk_all (λ e. P e.iface) i now (λ e h. h) (length t) (map (expire now) t) (all_map (λ e. P e.iface) (λ e. P e.iface) (expire now) (λ e g. g) t h))

-- a sweep leaves nothing to expire at that time
abbrev pub Expired : Instant → Entry → Type 0
Expired now e = expire_state now e.state ≡ e.state

expired_once : (now : Instant) (s : State) → expire_state now (expire_state now s) ≡ expire_state now s
expired_once now Started = refl
expired_once now (Incomplete p d) = refl
expired_once now (Reachable a e) = go (leb e.0 now.0) refl
  where
    go : (x : Bool) → leb e.0 now.0 ≡ x → expire_state now (cond x (Stale a) (Reachable a e)) ≡ cond x (Stale a) (Reachable a e)
    go true q = refl
    go false q = rw q refl
expired_once now (Stale a) = refl

expired_probed : (now : Instant) (s : State) → expire_state now s ≡ s → expire_state now (probed_state now s) ≡ probed_state now s
expired_probed now Started h = h
expired_probed now (Incomplete p d) h = refl
expired_probed now (Reachable a e) h = h
expired_probed now (Stale a) h = refl

pub all_expired : (i : ℕ) (now : Instant) (t : Table) → All (Expired now) (sweep_table i now t).table
all_expired i now t =
    rw (sweep_walk i now t)
    (walk_all (Expired now) i now (λ e h. expired_probed now e.state h) (length t) (map (expire now) t) (each t))
  where
    each : (r : Table) → All (Expired now) (map (expire now) r)
    each [] = tt
    each (e ∷ r) = (expired_once now e.state, each r)

pub expired_same : (now : Instant) (t : Table) → All (Expired now) t → map (expire now) t ≡ t
expired_same now [] h = refl
expired_same now (e ∷ t) h = rw (h.0, expired_same now t h.1)

-- nor, where nothing was due, an event
pub none_happen : (i : ℕ) (now : Instant) → now.0 ≤ 2 ^ 62 → (t : Table) → All (NoneDue now) t → (sweep_table i now t).events ≡ []
none_happen i now late t h = ap (λ (r : Events). r.events) (left_all i now late t h)

-- The earliest time

member_times : (x : Instant) (t : Table) → Some (WaitsEntry x) t → Member x (times_of t)
member_times x [] w = absurd w
member_times x (e ∷ t) (inl w) = go e.state w
  where
    go : (s : State) → WaitsAt x s → Member x (waits_for s ++ times_of t)
    go Started h = absurd h
    go (Incomplete p d) h = inl h
    go (Reachable a d) h = inl h
    go (Stale a) h = absurd h
member_times x (e ∷ t) (inr w) = some_after (λ y. y ≡ x) (waits_for e.state) (times_of t) (member_times x t w)

no_times : (t : Table) → All (λ e. Covered None e.state) t → times_of t ≡ []
no_times [] h = refl
no_times (e ∷ t) h = go e.state h.0 (no_times t h.1)
  where
    go : (s : State) → Covered None s → times_of t ≡ [] → waits_for s ++ times_of t ≡ []
    go Started c q = absurd c
    go (Incomplete p d) c q = absurd c
    go (Reachable a d) c q = absurd c
    go (Stale a) c q = q

all_times : (d : Instant) (t : Table) → All (λ e. Covered (Just d) e.state) t → All (λ x. d.0 ≤ x.0) (times_of t)
all_times d [] h = tt
all_times d (e ∷ t) h = go e.state h.0 (all_times d t h.1)
  where
    go : (s : State) → Covered (Just d) s → All (λ x. d.0 ≤ x.0) (times_of t) → All (λ x. d.0 ≤ x.0) (waits_for s ++ times_of t)
    go Started c q = absurd c
    go (Incomplete p x) c q = (c, q)
    go (Reachable a x) c q = (c, q)
    go (Stale a) c q = q

pub earliest : (now : Instant) (base : Option Instant) (t : Table) (d : Option Instant) → Came now base t d → NotLater d base → All (λ e. Covered d e.state) t
    → IsEarliest d (already base ++ times_of t)
earliest now None t None c h g = no_times t g
earliest now (Just b) t None c h g = absurd h
earliest now base t (Just d) c h g = (is_one c, none_before base h)
  where
    is_one : Came now base t (Just d) → Member d (already base ++ times_of t)
    is_one (inl q) = subst (λ (b : Option Instant). Member d (already b ++ times_of t)) q (inl refl)
    is_one (inr w) = some_after (λ y. y ≡ d) (already base) (times_of t) (member_times d t (subst (λ (y : Instant). Some (WaitsEntry y) t) (sym (at_same w.is)) w.somewhere))
      where
        time_in : Option Instant → Instant
        time_in None = d
        time_in (Just y) = y

        at_same : {y : Instant} → Just d ≡ Just y → d ≡ y
        at_same q = ap time_in q

    none_before : (b : Option Instant) → NotLater (Just d) b → All (λ x. d.0 ≤ x.0) (already b ++ times_of t)
    none_before None q = all_times d t g
    none_before (Just b) q = (q, all_times d t g)
