-- Keys are never twice. Assumes nothing.
use Prim.Native.Nat.{ℕ, ◌≤◌}
use lib.Dec.{ltb, eqb}
use lib.ListN.{length, drop, get_or}
use lib.Seq.{take-append_seam}
use mathlib.Core.Bool.{Bool, true, false, cond}
use mathlib.Core.Logic.{◌⊎◌, inl, inr}
use mathlib.Core.Path.{◌≡◌, refl, sym, subst}
use native.Mathlib.Omega.{arith}
use Rattle.std.specs.Prelude.{None, Result, Ok, Err}
use Rattle.wire.specs.declared.error.Refusal.{Refusal}
use Rattle.neighbor.proofs.Keys.{same_key_true}
use Rattle.neighbor.proofs.OneKey.{Freed, put_own, put_other, remove_own, remove_other, clear_own, clear_other}
use Rattle.neighbor.specs.CacheCalls.{entries, with_entries, blank, key, change_by, ChangedTo, shown, remove_by}
use Rattle.wire.specs.Refusals.{iface_check}
use Rattle.neighbor.specs.Distinct.{Distinct, Once, KeysOnce}
use Rattle.neighbor.specs.NeighborRules.{Table, Key, same_key, find, insert_state, remove_key, clear_iface, entries_of}
use Rattle.neighbor.specs.declared.Changed.{Changed}
use Rattle.neighbor.specs.declared.NeighborCache.{NeighborCache}
use Rattle.neighbor.specs.declared.Removed.{Removed}
use Rattle.neighbor.specs.declared.State.TheVariants.{Started, Reachable}
use Rattle.neighbor.specs.declared.State.{State}

-- On the entries

put_few : (k j : Key) (s : State) (t : Table) → Distinct t → length (entries_of k (insert_state j s t)) ≤ 1
put_few k j s t d = go (same_key k j) refl
  where
    other : (entries_of k (insert_state j s t) ≡ entries_of k t) ⊎ Freed k t (insert_state j s t) → length (entries_of k (insert_state j s t)) ≤ 1
    other (inl h) = rw h (d.once k)
    other (inr h) = rw h.freed (omega arith)

    go : (x : Bool) → same_key k j ≡ x → length (entries_of k (insert_state j s t)) ≤ 1
    go true h = rw (same_key_true k j h, put_own j s t (d.once j)) (omega arith)
    go false h = other (put_other k j s t h (d.once k))

pub distinct_put : (j : Key) (s : State) (t : Table) → Distinct t → Distinct (insert_state j s t)
distinct_put j s t d = record { once = λ k. put_few k j s t d }

remove_few : (k j : Key) (t : Table) → Distinct t → length (entries_of k (remove_key j t)) ≤ 1
remove_few k j t d = go (same_key k j) refl
  where
    go : (x : Bool) → same_key k j ≡ x → length (entries_of k (remove_key j t)) ≤ 1
    go true h = rw (same_key_true k j h, remove_own j t (d.once j)) (omega arith)
    go false h = rw (remove_other k j t h (d.once k)) (d.once k)

pub distinct_remove : (j : Key) (t : Table) → Distinct t → Distinct (remove_key j t)
distinct_remove j t d = record { once = λ k. remove_few k j t d }

clear_few : (k : Key) (i : ℕ) (t : Table) → Distinct t → length (entries_of k (clear_iface i t)) ≤ 1
clear_few k i t d = go (eqb i k.iface) refl
  where
    go : (x : Bool) → eqb i k.iface ≡ x → length (entries_of k (clear_iface i t)) ≤ 1
    go true h = rw (clear_own k i t h) (omega arith)
    go false h = rw (clear_other k i t h) (d.once k)

pub distinct_clear : (i : ℕ) (t : Table) → Distinct t → Distinct (clear_iface i t)
distinct_clear i t d = record { once = λ k. clear_few k i t d }

-- On the cache

pub entries_of_lem : (c : NeighborCache) (xs : Table) → entries (with_entries c xs) ≡ xs
entries_of_lem c xs = take-append_seam xs (drop (length xs) c.slots)

changes : (check : Result (Unit {0}) Refusal) (c : NeighborCache) (xs : Table) → Once c → Distinct xs → Once (change_by check c (with_entries c xs)).cache
changes (Err why) c xs d e = d
changes (Ok tt) c xs d e = rw (entries_of_lem c xs) e

kept_once : (check : Result (Unit {0}) Refusal) (c : NeighborCache) (xs : Table) (r : Changed) → ChangedTo check c (with_entries c xs) r → Once c → Distinct xs → Once r.cache
kept_once check c xs r p d e = subst (λ (x : Changed). Once x.cache) (sym p.is) (changes check c xs d e)

removes : (check : Result (Unit {0}) Refusal) (c : NeighborCache) (k : Key) → Once c → Once (remove_by check c k).cache
removes (Err why) c k d = d
removes (Ok tt) c k d = go (ltb (find k (entries c)) (length (entries c)))
  where
    go : (x : Bool) → Once (cond {A = Removed} x
        (record { cache = with_entries c (remove_key k (entries c)); taken = shown (get_or (entries c) (find k (entries c)) blank) })
        (record { cache = c; taken = Ok None })).cache
    go true = rw (entries_of_lem c (remove_key k (entries c))) (distinct_remove k (entries c) d)
    go false = d

pub keys_once : KeysOnce
keys_once =
    record {
      new = record { once = λ k. omega arith };
      start_resolution = λ c iface addr r p d. kept_once _ c _ r p d (distinct_put (key iface addr) Started (entries c) d);
      fill = λ c iface addr hw now r p d. kept_once _ c _ r p d (distinct_put (key iface addr) _ (entries c) d);
      insert = λ c iface addr hw expires r p d. kept_once _ c _ r p d (distinct_put (key iface addr) (Reachable hw expires) (entries c) d);
      remove = λ c iface addr r p d.
          subst (λ (x : Removed). Once x.cache) (sym p.is) (removes (iface_check iface) c (key iface addr) d);
      clear_iface = λ c iface r p d. kept_once _ c _ r p d (distinct_clear iface (entries c) d);
    }
