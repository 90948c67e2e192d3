-- What the calls that put or remove an entry do to one key. Assumes nothing.
use Prim.Native.Nat.{ℕ, zero, suc, ◌≤◌, ◌<◌}
use borrow.Author.Tests.{ltb-true, ltb-false}
use lib.Dec.{ltb, eqb}
use lib.ListN.{length, set, drop, length-drop}
use mathlib.Core.Bool.{Bool, true, false, cond, true≢false}
use mathlib.Core.List.{List, [], ◌∷◌, ◌++◌, append-nil}
use mathlib.Core.Logic.{◌⊎◌, inl, inr}
use mathlib.Core.Path.{◌≡◌, refl, sym, ap, ◌∙◌}
use native.Mathlib.Omega.{arith}
use Rattle.neighbor.proofs.Eviction.{victim_evicted}
use Rattle.neighbor.proofs.Keys.{same_key_true, same_key_refl, entries_append, entries_last_first, tail_few, not_both, empty_of}
use Rattle.neighbor.specs.Eviction.{state_at}
use Rattle.neighbor.specs.NeighborRules.{Table, Key, same_key, key_of, is_key, entry, find, victim, insert_state, remove_key, clear_iface, on_iface, entries_of}
use Rattle.neighbor.specs.declared.Entry.{Entry}
use Rattle.neighbor.specs.declared.State.{State}
use Rattle.table.specs.Table.{first_from, swap_remove}

-- over an entry of key k: nothing changes for another key
over_other : (j k : Key) (s : State) (t : Table) → same_key j k ≡ false → entries_of j (set t (find k t) (entry k s)) ≡ entries_of j t
unfolding find
over_other j k s [] other = refl
over_other j k s (e ∷ t) other = go (is_key k e) refl (over_other j k s t other)
  where
    go : (x : Bool) → is_key k e ≡ x
        → entries_of j (set t (first_from (is_key k) 0 t) (entry k s)) ≡ entries_of j t
        → entries_of j (set (e ∷ t) (cond x 0 (suc (first_from (is_key k) 0 t))) (entry k s)) ≡ entries_of j (e ∷ t)
    go true same h = rw (other, not_both j k e other same)
    go false away h = rw h

over_own : (k : Key) (s : State) (t : Table) → find k t < length t → entries_of k (set t (find k t) (entry k s)) ≡ s ∷ drop 1 (entries_of k t)
unfolding find
over_own k s [] h = absurd (omega arith)
over_own k s (e ∷ t) h = go (is_key k e) refl (over_own k s t) h
  where
    go : (x : Bool) → is_key k e ≡ x
        → (first_from (is_key k) 0 t < length t → entries_of k (set t (first_from (is_key k) 0 t) (entry k s)) ≡ s ∷ drop 1 (entries_of k t))
        → cond x 0 (suc (first_from (is_key k) 0 t)) < suc (length t)
        → entries_of k (set (e ∷ t) (cond x 0 (suc (first_from (is_key k) 0 t))) (entry k s))
        ≡ s ∷ drop 1 (cond x (e.state ∷ entries_of k t) (entries_of k t))
    go true same ih g = rw (same_key_refl k)
    go false away ih g = rw away (ih (omega arith))

pub absent : (k : Key) (t : Table) → length t ≤ find k t → entries_of k t ≡ []
unfolding find
absent k [] h = refl
absent k (e ∷ t) h = go (is_key k e) (absent k t) h
  where
    go : (x : Bool) → (length t ≤ first_from (is_key k) 0 t → entries_of k t ≡ [])
        → suc (length t) ≤ cond x 0 (suc (first_from (is_key k) 0 t))
        → cond x (e.state ∷ entries_of k t) (entries_of k t) ≡ []
    go true ih g = absurd (omega arith)
    go false ih g = ih (omega arith)

-- no entry of key k
none_cons : (k : Key) (e : Entry) (t : Table) → entries_of k (e ∷ t) ≡ [] → (is_key k e ≡ false) × (entries_of k t ≡ [])
none_cons k e t h = go (is_key k e) refl h
  where
    go : (x : Bool) → is_key k e ≡ x → cond x (e.state ∷ entries_of k t) (entries_of k t) ≡ [] → (is_key k e ≡ false) × (entries_of k t ≡ [])
    go true same g = let z : ◌≡◌ {A = ℕ} 0 1 = cc in absurd (omega arith)
    go false away g = (away, g)

-- over any entry of a table that has none of key k
evict_own : (k : Key) (s : State) (t : Table) (v : ℕ) → entries_of k t ≡ [] → v < length t → entries_of k (set t v (entry k s)) ≡ s ∷ []
evict_own k s [] v h l = absurd (omega arith)
evict_own k s (e ∷ t) zero h l = rw (same_key_refl k, (none_cons k e t h).1)
evict_own k s (e ∷ t) (suc v) h l = rw (none_cons k e t h).0 (evict_own k s t v (none_cons k e t h).1 (omega arith))

-- over any entry: another key keeps its entry, or that entry was its own
abbrev GoneAt : Key → Key → State → Table → ℕ → Type 0
GoneAt j k s t v = (entries_of j (set t v (entry k s)) ≡ []) × (entries_of j t ≡ state_at t v ∷ [])

evict_other : (j k : Key) (s : State) (t : Table) (v : ℕ) → same_key j k ≡ false → v < length t → length (entries_of j t) ≤ 1
    → (entries_of j (set t v (entry k s)) ≡ entries_of j t) ⊎ GoneAt j k s t v
evict_other j k s [] v other l few = absurd (omega arith)
evict_other j k s (e ∷ t) zero other l few = go (is_key j e) refl few
  where
    go : (x : Bool) → is_key j e ≡ x → length (cond x (e.state ∷ entries_of j t) (entries_of j t)) ≤ 1
        → (entries_of j (entry k s ∷ t) ≡ cond x (e.state ∷ entries_of j t) (entries_of j t))
        ⊎ ((entries_of j (entry k s ∷ t) ≡ []) × (cond x (e.state ∷ entries_of j t) (entries_of j t) ≡ e.state ∷ []))
    go true same g = inr (rw (other, empty_of (entries_of j t) (omega arith)), rw (empty_of (entries_of j t) (omega arith)))
    go false away g = inl (rw other)
evict_other j k s (e ∷ t) (suc v) other l few = go (is_key j e) few (evict_other j k s t v other (omega arith) (tail_few j e t few))
  where
    r : List State
    r = entries_of j (set t v (entry k s))

    go : (x : Bool) → length (cond x (e.state ∷ entries_of j t) (entries_of j t)) ≤ 1
        → (r ≡ entries_of j t) ⊎ GoneAt j k s t v
        → (cond x (e.state ∷ r) r ≡ cond x (e.state ∷ entries_of j t) (entries_of j t))
        ⊎ ((cond x (e.state ∷ r) r ≡ []) × (cond x (e.state ∷ entries_of j t) (entries_of j t) ≡ state_at t v ∷ []))
    go x g (inl h) = inl (rw h)
    go true g (inr h) = absurd (omega (arith, ap length h.1))
    go false g (inr h) = inr h

-- j's entry was the one that is evicted from a full table: t' has none of j
pub record Freed (j : Key) (t t' : Table) : Type 0 where
  pub freed : entries_of j t' ≡ []
  pub full : 16 ≤ length t
  pub was : entries_of j t ≡ state_at t (victim t) ∷ []

pub put_own : (k : Key) (s : State) (t : Table) → length (entries_of k t) ≤ 1 → entries_of k (insert_state k s t) ≡ s ∷ []
unfolding insert_state
put_own k s t few = go (ltb (find k t) (length t)) (ltb (length t) 16) refl refl
  where
    go : (x y : Bool) → ltb (find k t) (length t) ≡ x → ltb (length t) 16 ≡ y
        → entries_of k (cond x (set t (find k t) (entry k s)) (cond y (t ++ (entry k s ∷ [])) (set t (victim t) (entry k s)))) ≡ s ∷ []
    go true y h g = over_own k s t (ltb-true _ _ h) ∙ ap {B = List State} (λ l. s ∷ l) (empty_of (drop 1 (entries_of k t)) (omega (arith, length-drop 1 (entries_of k t))))
    go false true h g = entries_append k t (entry k s ∷ []) ∙ rw (absent k t (ltb-false _ _ h), same_key_refl k)
    go false false h g = evict_own k s t (victim t) (absent k t (ltb-false _ _ h)) (victim_evicted t (omega (arith, ltb-false (length t) 16 g))).within

pub put_other : (j k : Key) (s : State) (t : Table) → same_key j k ≡ false → length (entries_of j t) ≤ 1
    → (entries_of j (insert_state k s t) ≡ entries_of j t) ⊎ Freed j t (insert_state k s t)
unfolding insert_state
put_other j k s t other few = go (ltb (find k t) (length t)) (ltb (length t) 16) refl
  where
    go : (x y : Bool) → ltb (length t) 16 ≡ y
        → let t' : Table = cond x (set t (find k t) (entry k s)) (cond y (t ++ (entry k s ∷ [])) (set t (victim t) (entry k s)))
        in (entries_of j t' ≡ entries_of j t) ⊎ Freed j t t'
    go true y g = inl (over_other j k s t other)
    go false true g = inl (entries_append j t (entry k s ∷ []) ∙ rw other (append-nil (entries_of j t)))
    go false false g = freed (evict_other j k s t (victim t) other (victim_evicted t (omega (arith, full))).within few)
      where
        full : 16 ≤ length t
        full = ltb-false (length t) 16 g

        freed : (entries_of j (set t (victim t) (entry k s)) ≡ entries_of j t) ⊎ GoneAt j k s t (victim t)
            → (entries_of j (set t (victim t) (entry k s)) ≡ entries_of j t) ⊎ Freed j t (set t (victim t) (entry k s))
        freed (inl h) = inl h
        freed (inr h) = inr record { freed = h.0; full = full; was = h.1 }

-- removing a key
pub remove_own : (k : Key) (t : Table) → length (entries_of k t) ≤ 1 → entries_of k (remove_key k t) ≡ []
unfolding remove_key find
remove_own k [] few = refl
remove_own k (e ∷ t) few = go (is_key k e) refl few (remove_own k t (tail_few k e t few))
  where
    go : (x : Bool) → is_key k e ≡ x → length (cond x (e.state ∷ entries_of k t) (entries_of k t)) ≤ 1
        → entries_of k (swap_remove (first_from (is_key k) 0 t) t) ≡ []
        → entries_of k (swap_remove (cond x 0 (suc (first_from (is_key k) 0 t))) (e ∷ t)) ≡ []
    go true same g h = entries_last_first k t (omega arith) ∙ empty_of (entries_of k t) (omega arith)
    go false away g h = rw away h

pub remove_other : (j k : Key) (t : Table) → same_key j k ≡ false → length (entries_of j t) ≤ 1 → entries_of j (remove_key k t) ≡ entries_of j t
unfolding remove_key find
remove_other j k [] other few = refl
remove_other j k (e ∷ t) other few = go (is_key k e) refl (remove_other j k t other (tail_few j e t few))
  where
    go : (x : Bool) → is_key k e ≡ x
        → entries_of j (swap_remove (first_from (is_key k) 0 t) t) ≡ entries_of j t
        → entries_of j (swap_remove (cond x 0 (suc (first_from (is_key k) 0 t))) (e ∷ t)) ≡ entries_of j (e ∷ t)
    go true same h = rw (not_both j k e other same) (entries_last_first j t (tail_few j e t few))
    go false away h = rw h

-- clearing an interface
on_own : (k : Key) (i : ℕ) (e : Entry) → is_key k e ≡ true → on_iface i e ≡ eqb i k.iface
unfolding on_iface
on_own k i e same = rw (same_key_true k (key_of e) same)

pub clear_own : (k : Key) (i : ℕ) (t : Table) → eqb i k.iface ≡ true → entries_of k (clear_iface i t) ≡ []
clear_own k i [] own = refl
clear_own k i (e ∷ t) own = go (on_iface i e) (is_key k e) refl refl (clear_own k i t own)
  where
    go : (x y : Bool) → on_iface i e ≡ x → is_key k e ≡ y → entries_of k (clear_iface i t) ≡ [] → entries_of k (cond x (clear_iface i t) (e ∷ clear_iface i t)) ≡ []
    go true y hx hy h = h
    go false true hx hy h = absurd (true≢false (sym own ∙ sym (on_own k i e hy) ∙ hx))
    go false false hx hy h = rw hy h

pub clear_other : (k : Key) (i : ℕ) (t : Table) → eqb i k.iface ≡ false → entries_of k (clear_iface i t) ≡ entries_of k t
clear_other k i [] other = refl
clear_other k i (e ∷ t) other = go (on_iface i e) (is_key k e) refl refl (clear_other k i t other)
  where
    go : (x y : Bool) → on_iface i e ≡ x → is_key k e ≡ y → entries_of k (clear_iface i t) ≡ entries_of k t
        → entries_of k (cond x (clear_iface i t) (e ∷ clear_iface i t)) ≡ entries_of k (e ∷ t)
    go true true hx hy h = absurd (true≢false (sym hx ∙ on_own k i e hy ∙ other))
    go true false hx hy h = rw hy h
    go false y hx hy h = rw h
