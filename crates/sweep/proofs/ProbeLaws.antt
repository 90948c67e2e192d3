-- Laws of the probe events. Assumes nothing.
use Prim.Native.Nat.{ℕ, zero, suc, ◌+◌, ◌-◌, ◌<◌, ◌≤◌}
use lib.ListN.{length, get_or, set, take, drop, replicate, length-set}
use lib.Seq.{length-take-le, drop-length}
use mathlib.Core.Bool.{Bool, true, false, cond}
use mathlib.Core.List.{List, [], ◌∷◌}
use mathlib.Core.Path.{◌≡◌, refl, ap, ap₂, sym, ◌∙◌}
use native.Mathlib.Numerals.{add-one}
use native.Mathlib.Omega.{arith}
use Rattle.neighbor.specs.CacheCalls.{with_entries, blank}
use Rattle.neighbor.specs.declared.Entry.{Entry}
use Rattle.neighbor.specs.declared.NeighborCache.{NeighborCache}
use Rattle.sweep.proofs.Entries.{seen, seen_probe}
use Rattle.sweep.proofs.LookLaws.{looked_at_lem, looked_at_none, looked_past}
use Rattle.sweep.specs.SweepCalls.{ProbeIn, nothing, happens, probe_in_at, probe_in, EventsIn, and_then_in, events_in, events_table, probe_all, blank_event}
use Rattle.sweep.specs.SweepParts.{timer_of}
use Rattle.sweep.specs.SweepRules.{due, spent, probed, nothing as no_probe, happens as there-is, probe, looks_from}
use Rattle.sweep.specs.declared.Events.{Events}
use Rattle.sweep.specs.declared.ProbeEvent.TheVariants.{Retransmit, Failed}
use Rattle.sweep.specs.declared.ProbeEvent.{ProbeEvent}
use Rattle.sweep.specs.declared.Timer.TheVariants.{NotDue, Spent, Rearmed}
use Rattle.table.proofs.First.{first_here, first_later, first_none}
use Rattle.table.proofs.Laws.{entry_at, entries_from, over, moved_in, moved_count, Collecting, collect, collected}
use Rattle.table.specs.Table.{swap_remove, filled}
use Rattle.time.specs.declared.Instant.{Instant}
use Rattle.table.proofs.Laws as table

-- What one step of events leaves to do

module _ (i : ℕ) (now : Instant) where
  abbrev goes_on : ℕ → NeighborCache → ProbeIn → EventsIn
  goes_on f c x =
      elim x [
        | nothing ↦ record { events = []; cache = c }
        | happens v c' p' ↦ and_then_in v (events_in f i now c' p')
      ]

  unfolds : (f : ℕ) (c : NeighborCache) (p : ℕ) → events_in (suc f) i now c p ≡ goes_on f c (probe_in i now c p)
  unfolding events_in
  unfolds f c p = refl

  pub event_first : (f : ℕ) (c c' : NeighborCache) (p p' : ℕ) (v : ProbeEvent) → probe_in i now c p ≡ happens v c' p'
      → events_in (suc f) i now c p ≡ and_then_in v (events_in f i now c' p')
  event_first f c c' p p' v e = unfolds f c p ∙ ap (goes_on f c) e

  pub no_event : (f : ℕ) (c : NeighborCache) (p : ℕ) → probe_in i now c p ≡ nothing
      → ◌≡◌ {A = EventsIn} (events_in f i now c p) (record { events = []; cache = c })
  unfolding events_in
  no_event zero c p e = refl
  no_event (suc f) c p e = unfolds f c p ∙ ap (goes_on f c) e

  pub same_place : (f : ℕ) (c : NeighborCache) (p p' : ℕ) → probe_in i now c p ≡ probe_in i now c p'
      → events_in f i now c p ≡ events_in f i now c p'
  unfolding events_in
  same_place zero c p p' e = refl
  same_place (suc f) c p p' e = unfolds f c p ∙ (ap (goes_on f c) e ∙ sym (unfolds f c p'))

-- The first event, from a place of the slots `s`, of which `k` are entries

abbrev pub cache_of : List Entry → ℕ → NeighborCache
cache_of s k = record { slots = s; len = k }

module _ (i : ℕ) (now : Instant) (s : List Entry) (k p : ℕ) (count : k ≡ length (take k s)) where
  module _ (h : p < k) where
    inside : p < length (take k s)
    inside = omega arith

    at : (test : Entry → Bool) (b : Bool) → test (get_or s p blank) ≡ b → test (get_or (take k s) p blank) ≡ b
    at test b g = ap test (entry_at blank s k p inside) ∙ g

    -- the entry waits: it is stepped over
    pub passed_over : due i now (get_or s p blank) ≡ false → probe_in i now (cache_of s k) p ≡ probe_in i now (cache_of s k) (p + 1)
    unfolding probe_in
    passed_over g =
        ap (λ (j : ℕ). probe_in_at now j (cache_of s k) (drop j (take k s)))
        (first_later blank (due i now) p (take k s) inside (at (due i now) false g))

    module _ (g : due i now (get_or s p blank) ≡ true) where
      here : probe_in i now (cache_of s k) p ≡ probe_in_at now p (cache_of s k) (get_or s p blank ∷ drop (p + 1) (take k s))
      unfolding probe_in
      here =
          ap (λ (j : ℕ). probe_in_at now j (cache_of s k) (drop j (take k s)))
          (first_here blank (due i now) p (take k s) inside (at (due i now) true g))
          ∙ ap (probe_in_at now p (cache_of s k)) (entries_from blank s k p inside)

      pub fails : spent (get_or s p blank) ≡ true
          → probe_in i now (cache_of s k) p ≡ happens (Failed (get_or s p blank).addr) (cache_of (set s p (get_or s (k - 1) blank)) (k - 1)) p
      fails t =
          let a : probe_in_at now p (cache_of s k) (get_or s p blank ∷ drop (p + 1) (take k s))
          ≡ happens (Failed (get_or s p blank).addr) (with_entries (cache_of s k) (swap_remove p (take k s))) p = simp t in
          let b : with_entries (cache_of s k) (swap_remove p (take k s)) ≡ cache_of (set s p (get_or s (k - 1) blank)) (k - 1) =
          ap₂ (λ (x : List Entry) (y : ℕ). cache_of x y) (sym (moved_in s k k count blank p h)) (moved_count s k k count blank p h) in
          here ∙ (a ∙ ap (λ (x : NeighborCache). happens (Failed (get_or s p blank).addr) x p) b)

      pub retransmits : spent (get_or s p blank) ≡ false
          → probe_in i now (cache_of s k) p
          ≡ happens (Retransmit (get_or s p blank).addr) (cache_of (set s p (probed now (get_or s p blank))) k) (suc p)
      retransmits t =
          let y : Entry = probed now (get_or s p blank) in
          let a : probe_in_at now p (cache_of s k) (get_or s p blank ∷ drop (p + 1) (take k s))
          ≡ happens (Retransmit (get_or s p blank).addr) (with_entries (cache_of s k) (set (take k s) p y)) (suc p) = simp t in
          let b : with_entries (cache_of s k) (set (take k s) p y) ≡ cache_of (set s p y) k =
          ap₂ (λ (x : List Entry) (z : ℕ). cache_of x z) (sym (over s k k count p y h)) (length-set (take k s) p y ∙ sym count) in
          here ∙ (a ∙ ap (λ (x : NeighborCache). happens (Retransmit (get_or s p blank).addr) x (suc p)) b)

  -- no entry is left
  pub none_left : k ≤ p → probe_in i now (cache_of s k) p ≡ nothing
  unfolding probe_in
  none_left h =
      ap (λ (j : ℕ). probe_in_at now j (cache_of s k) (drop j (take k s))) (first_none blank (due i now) p (take k s) (omega arith))
      ∙ ap (probe_in_at now (length (take k s)) (cache_of s k)) (drop-length (take k s))

-- What the timer of an entry says of it

module _ (i : ℕ) (now : Instant) (e : Entry) where
  waiting : (a b : Bool) (y : Entry) → cond a (cond b Spent (Rearmed y)) NotDue ≡ NotDue → a ≡ false
  waiting true true y p = let z : ◌≡◌ {A = ℕ} 0 1 = cc in absurd (omega arith)
  waiting true false y p = let z : ◌≡◌ {A = ℕ} 0 1 = cc in absurd (omega arith)
  waiting false b y p = refl

  running_out : (a b : Bool) (y : Entry) → cond a (cond b Spent (Rearmed y)) NotDue ≡ Spent → (a ≡ true) × (b ≡ true)
  running_out true true y p = (refl, refl)
  running_out true false y p = let z : ◌≡◌ {A = ℕ} 0 1 = cc in absurd (omega arith)
  running_out false b y p = let z : ◌≡◌ {A = ℕ} 0 1 = cc in absurd (omega arith)

  set_again : (a b : Bool) (y z : Entry) → cond a (cond b Spent (Rearmed y)) NotDue ≡ Rearmed z → (a ≡ true) × ((b ≡ false) × (z ≡ y))
  set_again true true y z p = let w : ◌≡◌ {A = ℕ} 0 1 = cc in absurd (omega arith)
  set_again true false y z p = (refl, (refl, cc))
  set_again false b y z p = let w : ◌≡◌ {A = ℕ} 0 1 = cc in absurd (omega arith)

  pub not_due : timer_of i now e ≡ NotDue → due i now e ≡ false
  unfolding timer_of
  not_due p = waiting (due i now e) (spent e) (probed now e) p

  pub is_spent : timer_of i now e ≡ Spent → (due i now e ≡ true) × (spent e ≡ true)
  unfolding timer_of
  is_spent p = running_out (due i now e) (spent e) (probed now e) p

  pub is_rearmed : (y : Entry) → timer_of i now e ≡ Rearmed y → (due i now e ≡ true) × ((spent e ≡ false) × (y ≡ probed now e))
  unfolding timer_of
  is_rearmed y p = set_again (due i now e) (spent e) (probed now e) y p

-- The loop: the events from place `p` on, over the first `k` of the slots `s`, are all that is left of the events over the
-- first `k₀` of `s₀`; `m` events stand in `b`, which was `b₀`; `l` entries were looked at, and what is left to look at makes up the rest

pub record Probing (i : ℕ) (now : Instant) (s₀ : List Entry) (k₀ : ℕ) (b₀ b : List ProbeEvent) (s : List Entry) (k m l p : ℕ) : Type 0 where
  pub low : p ≤ k
  pub most : k ≤ 16
  pub room : m + k ≤ 16 + p
  pub steps : l + k ≤ 16 + p
  pub full : length s ≡ 16
  pub blanks : length b₀ ≡ 16
  pub fuel : ℕ
  pub enough : k ≤ p + fuel
  pub cache : (events_in fuel i now (cache_of s k) p).cache ≡ (probe_all i now (cache_of s₀ k₀)).cache
  pub events : Collecting ((probe_all i now (cache_of s₀ k₀)).events) b₀ b m ((events_in fuel i now (cache_of s k) p).events)
  pub looks : l + length (looks_from fuel i now (take k s) p) ≡ length (looks_from (length (take k₀ s₀)) i now (take k₀ s₀) 0)

pub probing : (i : ℕ) (now : Instant) (s : List Entry) (k : ℕ) (b : List ProbeEvent) → length s ≡ 16 → k ≤ 16 → length b ≡ 16
    → Probing i now s k b b s k 0 0 0
unfolding probe_all
probing i now s k b full most blanks =
    let count : k ≡ length (take k s) = sym (length-take-le k s (omega arith)) in
    record {
      low = omega arith;
      most = most;
      room = omega arith;
      steps = omega arith;
      full = full;
      blanks = blanks;
      fuel = length (take k s);
      enough = omega arith;
      cache = refl;
      events = record { so_far = refl; rest = refl; long = refl };
      looks = omega arith;
    }

module _ (i : ℕ) (now : Instant) (s₀ : List Entry) (k₀ : ℕ) (b₀ b : List ProbeEvent) (s : List Entry) (k m l p : ℕ)
    (inv : Probing i now s₀ k₀ b₀ b s k m l p) where
  number : k ≡ length (take k s)
  number = sym (length-take-le k s (omega (arith, inv.most, inv.full)))

  abbrev goal : EventsIn
  goal = probe_all i now (cache_of s₀ k₀)

  module _ (h : p < k) where
    inside_count : p < length (take k s)
    inside_count = omega (arith, number)

    abbrev f : ℕ
    f = inv.fuel - 1

    one_more : inv.fuel ≡ suc f
    one_more = omega (arith, inv.enough)

    due_at_lem : (x : Bool) → due i now (get_or s p blank) ≡ x → due i now (get_or (take k s) p blank) ≡ x
    due_at_lem x g = ap (due i now) (entry_at blank s k p inside_count) ∙ g

    -- the entry is stepped over
    pub stepped_over : timer_of i now (get_or s p blank) ≡ NotDue → Probing i now s₀ k₀ b₀ b s k m (l + 1) (p + 1)
    stepped_over t =
        let e : events_in inv.fuel i now (cache_of s k) p ≡ events_in inv.fuel i now (cache_of s k) (p + 1) =
        same_place i now inv.fuel (cache_of s k) p (p + 1)
        (passed_over i now s k p number h (not_due i now (get_or s p blank) t)) in
        let d : probe i now (take k s) p ≡ probe i now (take k s) (p + 1) =
        sym (seen_probe i now (cache_of s k) p)
        ∙ (ap seen (passed_over i now s k p number h (not_due i now (get_or s p blank) t)) ∙ seen_probe i now (cache_of s k) (p + 1)) in
        let o : length (looks_from inv.fuel i now (take k s) p) ≡ suc (length (looks_from inv.fuel i now (take k s) (p + 1))) =
        ap (λ (x : ℕ). length (looks_from x i now (take k s) p)) one_more
        ∙ (looked_past i now (take k s) p inside_count (due_at_lem false (not_due i now (get_or s p blank) t)) f d
        ∙ ap (λ (x : ℕ). suc (length (looks_from x i now (take k s) (p + 1)))) (sym one_more)) in
        record {
          low = omega arith;
          most = inv.most;
          room = omega (arith, inv.room);
          steps = omega (arith, inv.steps);
          full = inv.full;
          blanks = inv.blanks;
          fuel = inv.fuel;
          enough = omega (arith, inv.enough);
          cache = sym (ap (λ (x : EventsIn). x.cache) e) ∙ inv.cache;
          events = table.nothing _ _ _ _ _ inv.events _ (ap (λ (x : EventsIn). x.events) e);
          looks = omega (arith, o, inv.looks);
        }

    -- an event happens: `s'`, `k'` and `p'` are the slots, the count and the place after it
    module _ (v : ProbeEvent) (s' : List Entry) (k' p' : ℕ) (w : probe_in i now (cache_of s k) p ≡ happens v (cache_of s' k') p')
        (full : length s' ≡ 16) (low : p' ≤ k') (less : k' + p + 1 ≡ k + p') (most : k' ≤ k) (g : due i now (get_or s p blank) ≡ true) where
      happened : Probing i now s₀ k₀ b₀ (set b m (v)) s' k' (m + 1) (l + 1) p'
      happened =
          let e : events_in inv.fuel i now (cache_of s k) p ≡ and_then_in v (events_in f i now (cache_of s' k') p') =
          ap (λ (x : ℕ). events_in x i now (cache_of s k) p) one_more ∙ event_first i now f (cache_of s k) (cache_of s' k') p p' v w in
          let d : probe i now (take k s) p ≡ there-is v (take k' s') p' = sym (seen_probe i now (cache_of s k) p) ∙ ap seen w in
          let o : length (looks_from inv.fuel i now (take k s) p) ≡ suc (length (looks_from f i now (take k' s') p')) =
          ap (λ (x : ℕ). length (looks_from x i now (take k s) p)) one_more
          ∙ looked_at_lem i now (take k s) p inside_count (due_at_lem true g) f v (take k' s') p' d in
          record {
            low = low;
            most = omega (arith, inv.most);
            room = omega (arith, inv.room);
            steps = omega (arith, inv.steps);
            full = full;
            blanks = inv.blanks;
            fuel = f;
            enough = omega (arith, inv.enough);
            cache = sym (ap (λ (x : EventsIn). x.cache) e) ∙ inv.cache;
            events =
                collect _ _ _ _ _ inv.events (v) ((events_in f i now (cache_of s' k') p').events)
                (ap (λ (x : EventsIn). x.events) e) (omega (arith, inv.room, inv.blanks));
            looks = omega (arith, o, inv.looks);
          }

    pub failed : timer_of i now (get_or s p blank) ≡ Spent
        → Probing i now s₀ k₀ b₀ (set b m ((Failed (get_or s p blank).addr))) (set s p (get_or s (k - 1) blank)) (k - 1) (m + 1) (l + 1) p
    failed t =
        let q = is_spent i now (get_or s p blank) t in
        happened (Failed (get_or s p blank).addr) (set s p (get_or s (k - 1) blank)) (k - 1) p
        (fails i now s k p number h q.0 q.1) (length-set s p (get_or s (k - 1) blank) ∙ inv.full) (omega arith) (omega arith) (omega arith) q.0

    pub retransmitted : (y : Entry) → timer_of i now (get_or s p blank) ≡ Rearmed y
        → Probing i now s₀ k₀ b₀ (set b m ((Retransmit (get_or s p blank).addr))) (set s p y) k (m + 1) (l + 1) (p + 1)
    retransmitted y t =
        let q = is_rearmed i now (get_or s p blank) y t in
        let w : probe_in i now (cache_of s k) p ≡ happens (Retransmit (get_or s p blank).addr) (cache_of (set s p y) k) (p + 1) =
        rw (q.1.1, add-one p) (retransmits i now s k p number h q.0 q.1.0) in
        happened (Retransmit (get_or s p blank).addr) (set s p y) k (p + 1) w (length-set s p y ∙ inv.full) (omega arith) (omega arith) (omega arith) q.0

  -- no entry is left
  module _ (h : k ≤ p) where
    ended : ◌≡◌ {A = EventsIn} (events_in inv.fuel i now (cache_of s k) p) (record { events = []; cache = cache_of s k })
    ended = no_event i now inv.fuel (cache_of s k) p (none_left i now s k p number h)

    pub cache_after : cache_of s k ≡ goal.cache
    cache_after = sym (ap (λ (x : EventsIn). x.cache) ended) ∙ inv.cache

    pub events_after : b₀ ≡ replicate 16 blank_event → ◌≡◌ {A = Events} (record { slots = b; len = m }) (events_table goal.events)
    unfolding events_table
    events_after z =
        let d = collected _ _ _ _ _ inv.events (ap (λ (x : EventsIn). x.events) ended) (omega (arith, inv.room, inv.low, inv.blanks)) in
        ap₂ (λ (x : List ProbeEvent) (y : ℕ). record { slots = x; len = y })
        (d.0 ∙ ap (λ (l : List ProbeEvent). filled l (goal.events)) z) (d.1 ∙ refl)

    pub looked_after : l ≡ length (looks_from (length (take k₀ s₀)) i now (take k₀ s₀) 0)
    looked_after =
        let none : probe i now (take k s) p ≡ no_probe = sym (seen_probe i now (cache_of s k) p) ∙ ap seen (none_left i now s k p number h) in
        let z : length (looks_from inv.fuel i now (take k s) p) ≡ 0 =
        ap length (looked_at_none i now (take k s) p (omega (arith, number)) none inv.fuel) in
        omega (arith, z, inv.looks)
