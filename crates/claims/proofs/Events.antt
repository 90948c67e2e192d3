-- The probe events from a place until none are the walk over what stands from that place on. Assumes nothing.
use Prim.Native.Nat.{ℕ, zero, suc, ◌≤◌}
use lib.ListN.{length}
use lib.Seq.{append_snoc, drop-length, drop-append_seam, set-append_seam}
use mathlib.Core.Bool.{Bool, true, false, cond}
use mathlib.Core.List.{[], ◌∷◌, ◌++◌}
use mathlib.Core.Path.{◌≡◌, refl, ap, ◌∙◌}
use native.Mathlib.Omega.{arith}
use Rattle.claims.proofs.Lists.{append-nil, length_last_first}
use Rattle.claims.proofs.Walk.{keep, walk}
use Rattle.neighbor.specs.NeighborRules.{Table}
use Rattle.neighbor.specs.declared.Entry.{Entry}
use Rattle.sweep.specs.SweepRules.{due, spent, probed, nothing as no_probe, happens, probe, TableEvents as Events, and_then, events_from}
use Rattle.sweep.specs.declared.ProbeEvent.TheVariants.{Retransmit, Failed}
use Rattle.sweep.specs.declared.ProbeEvent.{ProbeEvent}
use Rattle.table.specs.Table.{first_from, swap_remove, last_first}
use Rattle.time.specs.declared.Instant.{Instant}

first_none : (p : Entry → Bool) (a : Table) → first_from p (length a) a ≡ length a
first_none p [] = refl
first_none p (x ∷ a) = ap suc (first_none p a)

first_here : (p : Entry → Bool) (a : Table) (e : Entry) (r : Table) → p e ≡ true → first_from p (length a) (a ++ e ∷ r) ≡ length a
first_here p [] e r h = rw h
first_here p (x ∷ a) e r h = ap suc (first_here p a e r h)

first_skip : (p : Entry → Bool) (a : Table) (e : Entry) (r : Table) → p e ≡ false
    → first_from p (length a) (a ++ e ∷ r) ≡ first_from p (length (a ++ (e ∷ []))) (a ++ e ∷ r)
first_skip p [] e r h = rw h
first_skip p (x ∷ a) e r h = ap suc (first_skip p a e r h)

swap_remove_seam : (a : Table) (e : Entry) (r : Table) → swap_remove (length a) (a ++ e ∷ r) ≡ a ++ last_first r
swap_remove_seam [] e r = refl
swap_remove_seam (x ∷ a) e r = ap {B = Table} (λ l. x ∷ l) (swap_remove_seam a e r)

probe_none : (i : ℕ) (now : Instant) (a : Table) → probe i now a (length a) ≡ no_probe
unfolding probe
probe_none i now a = rw (first_none (due i now) a, drop-length a)

probe_skip : (i : ℕ) (now : Instant) (a : Table) (e : Entry) (r : Table) → due i now e ≡ false
    → probe i now (a ++ e ∷ r) (length a) ≡ probe i now (a ++ e ∷ r) (length (a ++ (e ∷ [])))
unfolding probe
probe_skip i now a e r h = rw (first_skip (due i now) a e r h)

probe_fails : (i : ℕ) (now : Instant) (a : Table) (e : Entry) (r : Table) → due i now e ≡ true → spent e ≡ true
    → probe i now (a ++ e ∷ r) (length a) ≡ happens (Failed e.addr) (a ++ last_first r) (length a)
unfolding probe
probe_fails i now a e r h g = rw (first_here (due i now) a e r h, drop-append_seam a (e ∷ r), g, swap_remove_seam a e r)

probe_sends : (i : ℕ) (now : Instant) (a : Table) (e : Entry) (r : Table) → due i now e ≡ true → spent e ≡ false
    → probe i now (a ++ e ∷ r) (length a) ≡ happens (Retransmit e.addr) (a ++ probed now e ∷ r) (suc (length a))
unfolding probe
probe_sends i now a e r h g = rw (first_here (due i now) a e r h, drop-append_seam a (e ∷ r), g, set-append_seam a e r (probed now e))

events_none : (n : ℕ) (i : ℕ) (now : Instant) (a : Table) → events_from n i now a (length a) ≡ record { events = []; table = a }
unfolding events_from
events_none zero i now a = refl
events_none (suc n) i now a = rw (probe_none i now a, events_from)

pub events_one : (n : ℕ) (i : ℕ) (now : Instant) (t : Table) (place : ℕ) (v : ProbeEvent) (t' : Table) (place' : ℕ)
    → probe i now t place ≡ happens v t' place' → events_from (suc n) i now t place ≡ and_then v (events_from n i now t' place')
unfolding events_from
events_one n i now t place v t' place' h = rw (h, events_from)

events_same : (n : ℕ) (i : ℕ) (now : Instant) (t : Table) (place place' : ℕ)
    → probe i now t place ≡ probe i now t place' → events_from (suc n) i now t place ≡ events_from (suc n) i now t place'
unfolding events_from
events_same n i now t place place' h = rw (h, events_from)

length_snoc : (a : Table) (e : Entry) → length (a ++ (e ∷ [])) ≡ suc (length a)
length_snoc [] e = refl
length_snoc (x ∷ a) e = ap suc (length_snoc a e)

-- the table of a walk, behind what stands before it
abbrev pub behind : Table → Events → Events
behind a w = record { events = w.events; table = a ++ w.table }

-- one entry more before the place
behind_snoc : (a : Table) (e : Entry) (w : Events) → behind (a ++ (e ∷ [])) w ≡ behind a (keep e w)
behind_snoc a e w = rw (append_snoc a e w.table)

pub events_walk : (m n : ℕ) (i : ℕ) (now : Instant) (a r : Table) → length r ≤ m → length r ≤ n
    → events_from n i now (a ++ r) (length a) ≡ behind a (walk m i now r)
events_walk zero n i now a [] h g = rw (append-nil a, events_none n i now a)
events_walk zero n i now a (e ∷ r) h g = absurd (omega arith)
events_walk (suc m) n i now a [] h g = rw (append-nil a, events_none n i now a)
events_walk (suc m) zero i now a (e ∷ r) h g = absurd (omega arith)
events_walk (suc m) (suc n) i now a (e ∷ r) h g =
    go (due i now e) (spent e) refl refl
    (events_walk m (suc n) i now (a ++ (e ∷ [])) r (omega arith) (omega arith))
    (events_walk m n i now a (last_first r) (omega (arith, length_last_first r)) (omega (arith, length_last_first r)))
    (events_walk m n i now (a ++ (probed now e ∷ [])) r (omega arith) (omega arith))
  where
    fails : Events
    fails = walk m i now (last_first r)

    goes : Events
    goes = walk m i now r

    go : (x y : Bool) → due i now e ≡ x → spent e ≡ y
        → events_from (suc n) i now (a ++ (e ∷ []) ++ r) (length (a ++ (e ∷ []))) ≡ behind (a ++ (e ∷ [])) goes
        → events_from n i now (a ++ last_first r) (length a) ≡ behind a fails
        → events_from n i now (a ++ (probed now e ∷ []) ++ r) (length (a ++ (probed now e ∷ []))) ≡ behind (a ++ (probed now e ∷ [])) goes
        → events_from (suc n) i now (a ++ e ∷ r) (length a)
        ≡ behind a (cond x (cond y (and_then (Failed e.addr) fails) (and_then (Retransmit e.addr) (keep (probed now e) goes))) (keep e goes))
    go true true d s skipped failing sent = events_one n i now _ _ _ _ _ (probe_fails i now a e r d s) ∙ ap (and_then (Failed e.addr)) failing
    go true false d s skipped failing sent = events_one n i now _ _ _ _ _ (probe_sends i now a e r d s) ∙ ap (and_then (Retransmit e.addr)) ((rw (append_snoc a (probed now e) r, length_snoc a (probed now e)) at sent) ∙ behind_snoc a (probed now e) goes)
    go false y d s skipped failing sent = events_same n i now _ _ _ (probe_skip i now a e r d) ∙ (rw (append_snoc a e r) at skipped) ∙ behind_snoc a e goes
