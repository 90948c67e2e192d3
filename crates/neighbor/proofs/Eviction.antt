-- `victim` and `find` are the places that document 01 says, and no others are. Assumes nothing.
use Prim.Native.Nat.{ℕ, suc, ◌≤◌, ◌<◌}
use borrow.Author.Tests.{ltb-true, ltb-false, eqb-true, eqb-false}
use lib.Dec.{ltb, eqb}
use lib.ListN.{length, get_or, length-append}
use lib.Seq.{append_snoc, get_or_at}
use mathlib.Core.Bool.{Bool, true, false, cond, ◌&&◌, ◌||◌, true≢false}
use mathlib.Core.List.{[], ◌∷◌, ◌++◌, append-nil}
use mathlib.Core.Logic.{◌⊎◌, inl, inr}
use mathlib.Core.Path.{◌≡◌, refl, sym, ap, ◌∙◌}
use native.Mathlib.Omega.{arith}
use Rattle.neighbor.specs.CacheCalls.{blank}
use Rattle.neighbor.specs.Eviction.{state_at, NotAfter, Evicted, EvictionLaw, FindLaw}
use Rattle.neighbor.specs.NeighborRules.{Table, kind, time, is_key, find, before, victim_from, victim}
use Rattle.neighbor.specs.declared.Entry.{Entry}
use Rattle.neighbor.specs.declared.State.{State}
use Rattle.neighbor.specs.declared.State.TheVariants.{Started, Incomplete, Reachable, Stale}
use Rattle.table.proofs.First.{first_from_law}

-- The order of ranks

abbrev Earlier : State → State → Type 0
Earlier a b = (kind a < kind b) ⊎ ((kind a ≡ kind b) × (time a < time b))

abbrev NotLater : State → State → Type 0
NotLater a b = (kind a < kind b) ⊎ ((kind a ≡ kind b) × (time a ≤ time b))

earlier : (a b : State) → before a b ≡ true → Earlier a b
unfolding before
earlier a b e = go (ltb (kind a) (kind b)) (eqb (kind a) (kind b)) (ltb (time a) (time b)) refl refl refl e
  where
    go : (x y z : Bool) → ltb (kind a) (kind b) ≡ x → eqb (kind a) (kind b) ≡ y → ltb (time a) (time b) ≡ z → (x || (y && z)) ≡ true → Earlier a b
    go true y z p q r h = inl (ltb-true _ _ p)
    go false true true p q r h = inr (eqb-true _ _ q, ltb-true _ _ r)
    go false true false p q r h = absurd (true≢false (sym h))
    go false false z p q r h = absurd (true≢false (sym h))

not_later : (a b : State) → before b a ≡ false → NotLater a b
unfolding before
not_later a b e = go (ltb (kind b) (kind a)) (eqb (kind b) (kind a)) (ltb (time b) (time a)) refl refl refl e
  where
    go : (x y z : Bool) → ltb (kind b) (kind a) ≡ x → eqb (kind b) (kind a) ≡ y → ltb (time b) (time a) ≡ z → (x || (y && z)) ≡ false → NotLater a b
    go true y z p q r h = absurd (true≢false h)
    go false true true p q r h = absurd (true≢false h)
    go false true false p q r h = inr (sym (eqb-true _ _ q), ltb-false _ _ r)
    go false false z p q r h =
        let l : kind a ≤ kind b = ltb-false _ _ p in
        let n : kind b ≡ kind a → ⊥ = eqb-false _ _ q in
        inl (omega arith)

-- Of the first `m` entries the one at `i` goes first

record Best (u : Table) (i m : ℕ) : Type 0 where
  inside : i < m
  all : (j : ℕ) → j < m → NotLater (state_at u i) (state_at u j)
  lower : (j : ℕ) → j < i → Earlier (state_at u i) (state_at u j)

-- a ≤ b, c < a
before_all : (a b c : State) → Earlier c a → NotLater a b → Earlier c b
before_all a b c (inl p) (inl q) = inl (omega arith)
before_all a b c (inl p) (inr q) = inl (omega arith)
before_all a b c (inr p) (inl q) = inl (omega arith)
before_all a b c (inr p) (inr q) = inr (p.0 ∙ q.0, omega (arith, p.1, q.1))

weaker : (a b : State) → Earlier a b → NotLater a b
weaker a b (inl p) = inl p
weaker a b (inr p) = inr (p.0, omega (arith, p.1))

module _ (u : Table) (i m : ℕ) (best : Best u i m) where
  better : before (state_at u m) (state_at u i) ≡ true → Best u m (suc m)
  better e =
      let front : (j : ℕ) → j < m → Earlier (state_at u m) (state_at u j) =
      λ j h. before_all (state_at u i) (state_at u j) (state_at u m) (earlier (state_at u m) (state_at u i) e) (best.all j h) in
      record { inside = omega arith; all = λ j h. at j (front j) h; lower = front }
    where
      at : (j : ℕ) → (j < m → Earlier (state_at u m) (state_at u j)) → j < suc m → NotLater (state_at u m) (state_at u j)
      at j f h = split (eqb j m) refl
        where
          split : (x : Bool) → eqb j m ≡ x → NotLater (state_at u m) (state_at u j)
          split true p = let q : j ≡ m = eqb-true _ _ p in rw q (inr (refl, omega arith))
          split false p = let n : j ≡ m → ⊥ = eqb-false _ _ p in weaker (state_at u m) (state_at u j) (f (omega arith))

  as_good : before (state_at u m) (state_at u i) ≡ false → Best u i (suc m)
  as_good e = record { inside = omega (arith, best.inside); all = λ j h. at j h; lower = best.lower }
    where
      at : (j : ℕ) → j < suc m → NotLater (state_at u i) (state_at u j)
      at j h = split (eqb j m) refl
        where
          split : (x : Bool) → eqb j m ≡ x → NotLater (state_at u i) (state_at u j)
          split true p = let q : j ≡ m = eqb-true _ _ p in rw q (not_later (state_at u i) (state_at u m) e)
          split false p = let n : j ≡ m → ⊥ = eqb-false _ _ p in best.all j (omega arith)

best_from : (t a u : Table) (i m : ℕ) → a ++ t ≡ u → length a ≡ m → Best u i m → Best u (victim_from i (state_at u i) m t) (length u)
best_from [] a u i m hu hm b =
    let n : m ≡ length u = sym hm ∙ ap length (sym (append-nil a) ∙ hu) in
    rw n at b
best_from (e ∷ t) a u i m hu hm b =
    go (before e.state (state_at u i)) refl
    (λ (g : before e.state (state_at u i) ≡ true).
    rw here at (best_from t (a ++ (e ∷ [])) u m (suc m) more longer (better u i m b (rw here g))))
    (λ (g : before e.state (state_at u i) ≡ false).
    best_from t (a ++ (e ∷ [])) u i (suc m) more longer (as_good u i m b (rw here g)))
  where
    more : a ++ (e ∷ []) ++ t ≡ u
    more = append_snoc a e t ∙ hu

    longer : length (a ++ (e ∷ [])) ≡ suc m
    longer = omega (arith, length-append a (e ∷ []))

    here : state_at u m ≡ e.state
    here = ap (λ (x : Entry). x.state) (ap (λ (l : Table). get_or l m blank) (sym hu) ∙ get_or_at a e t blank m hm)

    go : (x : Bool) → before e.state (state_at u i) ≡ x
        → (before e.state (state_at u i) ≡ true → Best u (victim_from m e.state (suc m) t) (length u))
        → (before e.state (state_at u i) ≡ false → Best u (victim_from i (state_at u i) (suc m) t) (length u))
        → Best u (cond x (victim_from m e.state (suc m) t) (victim_from i (state_at u i) (suc m) t)) (length u)
    go true g f h = f g
    go false g f h = h g

best_victim : (t : Table) → 0 < length t → Best t (victim t) (length t)
best_victim [] h = absurd (omega arith)
best_victim (e ∷ t) h =
    best_from t (e ∷ []) (e ∷ t) 0 1 refl refl
    (record { inside = omega arith; all = λ j l. first j l; lower = λ j l. absurd (omega arith) })
  where
    first : (j : ℕ) → j < 1 → NotLater e.state (state_at (e ∷ t) j)
    first j l = let q : j ≡ 0 = omega arith in rw q (inr (refl, omega arith))

-- The record's fields

kind_of_lem : (a b : State) → NotLater a b → kind a ≤ kind b
kind_of_lem a b (inl p) = omega arith
kind_of_lem a b (inr p) = omega (arith, p.0)

-- ranks are what the states say
ranked : (a b : State) → NotLater a b → NotAfter a b
ranked (Stale h) b l = tt
ranked (Reachable h e) (Stale h') (inl p) = absurd (omega arith)
ranked (Reachable h e) (Stale h') (inr p) = absurd (omega (arith, p.0))
ranked (Reachable h e) (Reachable h' e') (inl p) = absurd (omega arith)
ranked (Reachable h e) (Reachable h' e') (inr p) = p.1
ranked (Reachable h e) (Incomplete p d) l = tt
ranked (Reachable h e) Started l = tt
ranked (Incomplete p d) (Stale h) (inl l) = absurd (omega arith)
ranked (Incomplete p d) (Stale h) (inr l) = absurd (omega (arith, l.0))
ranked (Incomplete p d) (Reachable h e) (inl l) = absurd (omega arith)
ranked (Incomplete p d) (Reachable h e) (inr l) = absurd (omega (arith, l.0))
ranked (Incomplete p d) (Incomplete p' d') (inl l) = absurd (omega arith)
ranked (Incomplete p d) (Incomplete p' d') (inr l) = l.1
ranked (Incomplete p d) Started l = tt
ranked Started (Stale h) (inl l) = absurd (omega arith)
ranked Started (Stale h) (inr l) = absurd (omega (arith, l.0))
ranked Started (Reachable h e) (inl l) = absurd (omega arith)
ranked Started (Reachable h e) (inr l) = absurd (omega (arith, l.0))
ranked Started (Incomplete p d) (inl l) = absurd (omega arith)
ranked Started (Incomplete p d) (inr l) = absurd (omega (arith, l.0))
ranked Started Started l = tt

-- and what goes before another does not go when that one does
not_tied : (a b : State) → Earlier a b → NotAfter b a → ⊥
not_tied (Stale h) (Stale h') (inl p) n = omega arith
not_tied (Stale h) (Stale h') (inr p) n = omega (arith, p.1)
not_tied (Stale h) (Reachable h' e) l n = n
not_tied (Stale h) (Incomplete p d) l n = n
not_tied (Stale h) Started l n = n
not_tied (Reachable h e) (Stale h') (inl p) n = omega arith
not_tied (Reachable h e) (Stale h') (inr p) n = omega (arith, p.0)
not_tied (Reachable h e) (Reachable h' e') (inl p) n = omega arith
not_tied (Reachable h e) (Reachable h' e') (inr p) n = omega (arith, p.1)
not_tied (Reachable h e) (Incomplete p d) l n = n
not_tied (Reachable h e) Started l n = n
not_tied (Incomplete p d) (Stale h) (inl l) n = omega arith
not_tied (Incomplete p d) (Stale h) (inr l) n = omega (arith, l.0)
not_tied (Incomplete p d) (Reachable h e) (inl l) n = omega arith
not_tied (Incomplete p d) (Reachable h e) (inr l) n = omega (arith, l.0)
not_tied (Incomplete p d) (Incomplete p' d') (inl l) n = omega arith
not_tied (Incomplete p d) (Incomplete p' d') (inr l) n = omega (arith, l.1)
not_tied (Incomplete p d) Started l n = n
not_tied Started (Stale h) (inl l) n = omega arith
not_tied Started (Stale h) (inr l) n = omega (arith, l.0)
not_tied Started (Reachable h e) (inl l) n = omega arith
not_tied Started (Reachable h e) (inr l) n = omega (arith, l.0)
not_tied Started (Incomplete p d) (inl l) n = omega arith
not_tied Started (Incomplete p d) (inr l) n = omega (arith, l.0)
not_tied Started Started (inl l) n = omega arith
not_tied Started Started (inr l) n = omega (arith, l.1)

pub victim_kind : (t : Table) → 0 < length t → (j : ℕ) → j < length t → kind (state_at t (victim t)) ≤ kind (state_at t j)
victim_kind t h j l = kind_of_lem (state_at t (victim t)) (state_at t j) ((best_victim t h).all j l)

pub victim_evicted : (t : Table) → 0 < length t → Evicted t (victim t)
victim_evicted t h =
    let v : ℕ = victim t in
    let b : Best t v (length t) = best_victim t h in
    record {
      within = b.inside;
      first = λ j l. ranked (state_at t v) (state_at t j) (b.all j l);
      lowest = λ j l e.
          let n : j < v → ⊥ = λ g. not_tied (state_at t v) (state_at t j) (b.lower j g) e in
          omega arith;
    }

one_place : (t : Table) (i v : ℕ) → Evicted t i → Evicted t v → i ≡ v
one_place t i v a b = omega (arith, a.lowest v b.within (b.first i a.within), b.lowest i a.within (a.first v b.within))

pub only_victim : (t : Table) (i : ℕ) → Evicted t i → i ≡ victim t
only_victim t i a = one_place t i (victim t) a (victim_evicted t (omega (arith, a.within)))

pub eviction_law : EvictionLaw
eviction_law = record { is = victim_evicted; only = only_victim }

pub find_law : FindLaw
unfolding find
find_law =
    record {
      is = λ k t. first_from_law.is blank (is_key k) 0 t;
      only = λ k t i f. first_from_law.only blank (is_key k) 0 t i f;
    }
