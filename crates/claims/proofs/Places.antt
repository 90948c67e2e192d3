-- The places of the cache, in words. Assumes nothing.
use Prim.Native.Nat.{ℕ, zero, suc, ◌+◌, ◌≤◌}
use borrow.Author.Tests.{eqb-true, eq-eqb, leb-true, le-leb}
use lib.Dec.{eqb}
use lib.ListN.{length, get_or, set, drop, length-set, length-map}
use lib.Seq.{drop-cons, drop-length}
use mathlib.Core.Bool.{Bool, true, false, true≢false}
use mathlib.Core.List.{[], ◌∷◌, ◌++◌}
use mathlib.Core.Logic.{◌⊎◌, inl, inr}
use mathlib.Core.Path.{◌≡◌, refl, sym, ap, ◌∙◌}
use native.Mathlib.Omega.{arith}
use Rattle.claims.proofs.Events.{events_one}
use Rattle.claims.proofs.Lists.{swap_one}
use Rattle.claims.specs.Places.{DueNow, NoneLeft, UntilNone, over, more, Places}
use Rattle.neighbor.proofs.Scans.{first_of_law, lookup_law, get_law, remove_law}
use Rattle.pending.proofs.Scans.{release_law, orphan_law}
use Rattle.neighbor.proofs.Eviction.{eviction_law, find_law}
use Rattle.neighbor.proofs.Keys.{and_true}
use Rattle.neighbor.specs.CacheCalls.{blank}
use Rattle.neighbor.specs.NeighborRules.{Table, on_iface}
use Rattle.neighbor.specs.declared.Entry.{Entry}
use Rattle.neighbor.specs.declared.State.TheVariants.{Started, Incomplete, Reachable, Stale}
use Rattle.neighbor.specs.declared.State.{State}
use Rattle.sweep.specs.SweepRules.{due_state, due, spent_state, spent, probed, nothing, happens, probe_at, probe, events_from, expire, expire_all, sweep_table, looks_at, looks_from, sweep_looks}
use Rattle.sweep.specs.declared.ProbeEvent.{ProbeEvent}
use Rattle.sweep.specs.declared.ProbeEvent.TheVariants.{Retransmit, Failed}
use Rattle.table.proofs.First.{first_from_law}
use Rattle.table.specs.First.{FirstAt, NoneFrom}
use Rattle.table.specs.Table.{swap_remove, first_from}
use Rattle.time.specs.declared.Instant.{Instant}

-- The tests

is_due : (i : ℕ) (now : Instant) (e : Entry) → due i now e ≡ true → DueNow i now e
unfolding due on_iface
is_due i now e h = go e.state refl (and_true (eqb i e.iface) (due_state now e.state) h).1
  where
    here : i ≡ e.iface
    here = eqb-true i e.iface (and_true (eqb i e.iface) (due_state now e.state) h).0

    go : (s : State) → e.state ≡ s → due_state now s ≡ true → DueNow i now e
    go Started q d = absurd (true≢false (sym d))
    go (Incomplete p t) q d = record { of_iface = here; probes = p; time = t; incomplete = q; come = leb-true t.0 now.0 d }
    go (Reachable x t) q d = absurd (true≢false (sym d))
    go (Stale x) q d = absurd (true≢false (sym d))

due_is : (i : ℕ) (now : Instant) (e : Entry) → DueNow i now e → due i now e ≡ true
unfolding due on_iface
due_is i now e h = rw (h.incomplete, eq-eqb i e.iface h.of_iface, le-leb h.time.0 now.0 h.come)

is_spent : (e : Entry) → spent e ≡ true → NoneLeft e
unfolding spent
is_spent e h = go e.state refl h
  where
    go : (s : State) → e.state ≡ s → spent_state s ≡ true → NoneLeft e
    go Started q d = absurd (true≢false (sym d))
    go (Incomplete p t) q d = record { probes = p; time = t; incomplete = q; three = leb-true 3 p d }
    go (Reachable x t) q d = absurd (true≢false (sym d))
    go (Stale x) q d = absurd (true≢false (sym d))

spent_is : (e : Entry) → NoneLeft e → spent e ≡ true
unfolding spent
spent_is e h = rw (h.incomplete, le-leb 3 h.probes h.three)

-- The probe

module _ (i : ℕ) (now : Instant) (t : Table) (place j : ℕ) (h : FirstAt blank (due i now) place t j) where
  found : probe i now t place ≡ probe_at now j t (get_or t j blank ∷ drop (suc j) t)
  unfolding probe
  found =
      ap (λ (n : ℕ). probe_at now n t (drop n t)) (sym (first_from_law.only blank (due i now) place t j h))
      ∙ ap (probe_at now j t) (drop-cons t j blank h.inside)

  fails : spent (get_or t j blank) ≡ true → probe i now t place ≡ happens (Failed (get_or t j blank).addr) (swap_remove j t) j
  fails s = found ∙ rw s

  sends : spent (get_or t j blank) ≡ false → probe i now t place ≡ happens (Retransmit (get_or t j blank).addr) (set t j (probed now (get_or t j blank))) (suc j)
  sends s = found ∙ rw s

none : (i : ℕ) (now : Instant) (t : Table) (place : ℕ) → NoneFrom blank (due i now) place t (length t) → probe i now t place ≡ nothing
unfolding probe
none i now t place h = go (first_from_law.is blank (due i now) place t)
  where
    at_end : first_from (due i now) place t ≡ length t → probe_at now (first_from (due i now) place t) t (drop (first_from (due i now) place t) t) ≡ nothing
    at_end e = rw (e, drop-length t)

    go : FirstAt blank (due i now) place t (first_from (due i now) place t) ⊎ NoneFrom blank (due i now) place t (first_from (due i now) place t)
        → probe_at now (first_from (due i now) place t) t (drop (first_from (due i now) place t) t) ≡ nothing
    go (inl f) = absurd (true≢false (sym f.passes ∙ h.none (first_from (due i now) place t) f.from f.inside))
    go (inr n) = at_end n.end

-- Until none

pub expired_length : (now : Instant) (t : Table) → length (expire_all now t) ≡ length t
unfolding expire_all
expired_length now t = length-map t (expire now)

ended : (n i : ℕ) (now : Instant) (t : Table) (place : ℕ) → probe i now t place ≡ nothing → events_from n i now t place ≡ record { events = []; table = t }
unfolding events_from
ended zero i now t place h = refl
ended (suc n) i now t place h = rw (h, events_from)

looks_ended : (n i : ℕ) (now : Instant) (t : Table) (place : ℕ) → probe i now t place ≡ nothing → looks_from n i now t place ≡ looks_at i now t place
unfolding looks_from
looks_ended zero i now t place h = refl
looks_ended (suc n) i now t place h = rw (h, looks_from)

looks_one : (n i : ℕ) (now : Instant) (t : Table) (place : ℕ) (v : ProbeEvent) (t' : Table) (place' : ℕ) → probe i now t place ≡ happens v t' place'
    → looks_from (suc n) i now t place ≡ looks_at i now t place ++ looks_from n i now t' place'
unfolding looks_from
looks_one n i now t place v t' place' h = rw (h, looks_from)

abbrev Goes : ℕ → ℕ → Instant → Table → ℕ → Type 0
Goes n i now t place =
    UntilNone i now t place (events_from n i now t place).events (events_from n i now t place).table (looks_from n i now t place)
    (suc (length (events_from n i now t place).events))

module _ (i : ℕ) (now : Instant) (t : Table) (place : ℕ) where
  goes_none : (n j : ℕ) → NoneFrom blank (due i now) place t j → Goes n i now t place
  goes_none n j x =
      let p = none i now t place (record { end = refl; none = x.none }) in
      rw (ended n i now t place p, looks_ended n i now t place p) (over p)

  module _ (m : ℕ) (then : (t' : Table) (place' : ℕ) → length t' ≤ m + place' → Goes m i now t' place') where
    goes_one : (v : ProbeEvent) (t' : Table) (place' : ℕ) → probe i now t place ≡ happens v t' place' → length t' ≤ m + place' → Goes (suc m) i now t place
    goes_one v t' place' p k = rw (events_one m i now t place v t' place' p, looks_one m i now t place v t' place' p) (more p (then t' place' k))

    goes_first : (j : ℕ) → length t ≤ suc m + place → FirstAt blank (due i now) place t j → (x : Bool) → spent (get_or t j blank) ≡ x → Goes (suc m) i now t place
    goes_first j k f true s =
        let l = swap_one j t f.inside in
        let o = f.from in
        goes_one (Failed (get_or t j blank).addr) (swap_remove j t) j (fails i now t place j f s) (omega arith)
    goes_first j k f false s =
        let l = length-set t j (probed now (get_or t j blank)) in
        let o = f.from in
        goes_one (Retransmit (get_or t j blank).addr) (set t j (probed now (get_or t j blank))) (suc j) (sends i now t place j f s) (omega arith)

    goes_on : (j : ℕ) → length t ≤ suc m + place → FirstAt blank (due i now) place t j ⊎ NoneFrom blank (due i now) place t j → Goes (suc m) i now t place
    goes_on j k (inl f) = goes_first j k f (spent (get_or t j blank)) refl
    goes_on j k (inr x) = goes_none (suc m) j x

  goes_out : (j : ℕ) → length t ≤ place → FirstAt blank (due i now) place t j ⊎ NoneFrom blank (due i now) place t j → Goes zero i now t place
  goes_out j k (inl f) = let a = f.from in let b = f.inside in absurd (omega arith)
  goes_out j k (inr x) = goes_none zero j x

-- n rounds are enough for the entries from the place on
until : (n i : ℕ) (now : Instant) (t : Table) (place : ℕ) → length t ≤ n + place → Goes n i now t place
until zero i now t place h = goes_out i now t place (first_from (due i now) place t) (omega arith) (first_from_law.is blank (due i now) place t)
until (suc m) i now t place h =
    goes_on i now t place m (λ t' place' k. until m i now t' place' k) (first_from (due i now) place t) h (first_from_law.is blank (due i now) place t)

until_none : (i : ℕ) (now : Instant) (t : Table)
    → UntilNone i now (expire_all now t) 0 (sweep_table i now t).events (sweep_table i now t).table (sweep_looks i now t) (suc (length (sweep_table i now t).events))
unfolding sweep_table sweep_looks
until_none i now t = until (length t) i now (expire_all now t) 0 (let e = expired_length now t in omega arith)

pub places : Places
places = record {
  evicted = eviction_law;
  key = find_law;
  first = first_from_law;
  first_of = first_of_law;
  lookup = lookup_law;
  get = get_law;
  remove = remove_law;
  release = release_law;
  orphans = orphan_law;
  due_means = λ i now e. (is_due i now e, due_is i now e);
  spent_means = λ e. (is_spent e, spent_is e);
  fails = fails;
  sends = sends;
  none = none;
  until_none = until_none;
}
