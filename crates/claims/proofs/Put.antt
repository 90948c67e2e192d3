-- What a put of another key does to a key, and the lengths that puts and removals leave. Assumes nothing.
use Prim.Native.Nat.{ℕ, suc, ◌≤◌, ◌<◌}
use borrow.Author.Tests.{ltb-true}
use lib.Dec.{ltb}
use lib.ListN.{length, length-append, set, length-set}
use mathlib.Core.Bool.{Bool, true, false, cond, true≢false}
use mathlib.Core.List.{[], ◌∷◌, ◌++◌}
use mathlib.Core.Logic.{◌⊎◌, inl, inr}
use mathlib.Core.Path.{◌≡◌, refl}
use native.Mathlib.Omega.{arith}
use Rattle.claims.proofs.Lists.{swap_length}
use Rattle.claims.specs.Watch.{is_filled, any_filled}
use Rattle.neighbor.proofs.Eviction.{victim_kind}
use Rattle.neighbor.proofs.OneKey.{Freed, put_other}
use Rattle.neighbor.specs.Eviction.{state_at}
use Rattle.neighbor.specs.NeighborRules.{Table, Key, same_key, entry, find, kind, victim, insert_state, remove_key, entries_of}
use Rattle.neighbor.specs.declared.State.TheVariants.{Started, Incomplete, Reachable, Stale}
use Rattle.neighbor.specs.declared.State.{State}

-- stale and reachable are the first two kinds
unfilled_kind : (s : State) → is_filled s ≡ false → 2 ≤ kind s
unfilled_kind Started h = omega arith
unfilled_kind (Incomplete p d) h = omega arith
unfilled_kind (Reachable a e) h = absurd (true≢false h)
unfilled_kind (Stale a) h = absurd (true≢false h)

kind_unfilled : (s : State) → 2 ≤ kind s → is_filled s ≡ false
kind_unfilled Started h = refl
kind_unfilled (Incomplete p d) h = refl
kind_unfilled (Reachable a e) h = absurd (omega arith)
kind_unfilled (Stale a) h = absurd (omega arith)

none_filled : (t : Table) → ((j : ℕ) → j < length t → 2 ≤ kind (state_at t j)) → any_filled t ≡ false
none_filled [] h = refl
none_filled (e ∷ t) h = rw (kind_unfilled e.state (h 0 (omega arith))) (none_filled t (λ j l. h (suc j) (omega arith)))

-- a key's entry went from t, and left t' without one: the table was full, and if the entry was not filled, none was
pub record Evicted (j : Key) (t t' : Table) : Type 0 where
  pub freed : entries_of j t' ≡ []
  pub full : 16 ≤ length t
  pub unfilled : (s : State) → entries_of j t ≡ s ∷ [] → is_filled s ≡ false → any_filled t ≡ false

evicted : (j : Key) (t t' : Table) → Freed j t t' → Evicted j t t'
evicted j t t' f = record { freed = f.freed; full = f.full; unfilled = λ s e u. none_filled t (λ i l. kinds s e u i l) }
  where
    kinds : (s : State) → entries_of j t ≡ s ∷ [] → is_filled s ≡ false → (i : ℕ) → i < length t → 2 ≤ kind (state_at t i)
    kinds s e u i l =
        let same : s ≡ state_at t (victim t) = cc f.was in
        let some : 0 < length t = omega (arith, f.full) in
        omega (arith, unfilled_kind (state_at t (victim t)) (rw same at u), victim_kind t some i l)

pub put_apart : (j k : Key) (s : State) (t : Table) → same_key j k ≡ false → length (entries_of j t) ≤ 1
    → (entries_of j (insert_state k s t) ≡ entries_of j t) ⊎ Evicted j t (insert_state k s t)
put_apart j k s t other few = go (put_other j k s t other few)
  where
    go : (entries_of j (insert_state k s t) ≡ entries_of j t) ⊎ Freed j t (insert_state k s t)
        → (entries_of j (insert_state k s t) ≡ entries_of j t) ⊎ Evicted j t (insert_state k s t)
    go (inl h) = inl h
    go (inr h) = inr (evicted j t (insert_state k s t) h)

-- Lengths

pub put_length : (k : Key) (s : State) (t : Table) → length t ≤ 16 → length (insert_state k s t) ≤ 16
unfolding insert_state
put_length k s t h = go (ltb (find k t) (length t)) (ltb (length t) 16) refl
  where
    go : (x y : Bool) → ltb (length t) 16 ≡ y
        → length (cond x (set t (find k t) (entry k s)) (cond y (t ++ (entry k s ∷ [])) (set t (victim t) (entry k s)))) ≤ 16
    go true y g = omega (arith, length-set t (find k t) (entry k s))
    go false true g = omega (arith, length-append t (entry k s ∷ []), ltb-true (length t) 16 g)
    go false false g = omega (arith, length-set t (victim t) (entry k s))

pub remove_length : (k : Key) (t : Table) → length (remove_key k t) ≤ length t
unfolding remove_key
remove_length k t = swap_length (find k t) t
