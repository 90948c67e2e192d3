-- Facts of keys, and of the entries of one key. Assumes nothing.
use Prim.Native.Nat.{ℕ, ◌≤◌}
use borrow.Author.Tests.{eqb-true, eq-eqb}
use lib.Dec.{eqb}
use lib.ListN.{length, length-append}
use mathlib.Core.Bool.{Bool, true, false, cond, ◌&&◌}
use mathlib.Core.List.{List, [], ◌∷◌, ◌++◌, append-nil}
use mathlib.Core.Path.{◌≡◌, refl, sym, ap, ◌∙◌}
use native.Mathlib.Omega.{arith}
use Rattle.neighbor.specs.NeighborRules.{Table, Key, same_key, key_of, is_key, entries_of}
use Rattle.neighbor.specs.declared.Entry.{Entry}
use Rattle.table.specs.Table.{last_of, front_of, last_first}

pub and_true : (a b : Bool) → (a && b) ≡ true → (a ≡ true) × (b ≡ true)
and_true true b e = (refl, e)
and_true false b e = let z : ◌≡◌ {A = ℕ} 0 1 = cc in absurd (omega arith)

-- equal keys, tested and stated
pub same_key_true : (a b : Key) → same_key a b ≡ true → a ≡ b
unfolding same_key
same_key_true a b e = λ i. record {
  iface = eqb-true a.iface b.iface e₁.0 i;
  addr = record { hi = eqb-true a.addr.hi b.addr.hi e₂.0 i; lo = eqb-true a.addr.lo b.addr.lo e₂.1 i };
}
  where
    e₁ : (eqb a.iface b.iface ≡ true) × ((eqb a.addr.hi b.addr.hi && eqb a.addr.lo b.addr.lo) ≡ true)
    e₁ = and_true _ _ e

    e₂ : (eqb a.addr.hi b.addr.hi ≡ true) × (eqb a.addr.lo b.addr.lo ≡ true)
    e₂ = and_true _ _ e₁.1

pub same_key_refl : (a : Key) → same_key a a ≡ true
unfolding same_key
same_key_refl a = rw (eq-eqb a.iface a.iface refl, eq-eqb a.addr.hi a.addr.hi refl, eq-eqb a.addr.lo a.addr.lo refl)

-- entries of a list in two parts
pub entries_append : (k : Key) (a b : Table) → entries_of k (a ++ b) ≡ entries_of k a ++ entries_of k b
entries_append k [] b = refl
entries_append k (e ∷ a) b = step (is_key k e) (entries_append k a b)
  where
    step : (x : Bool) → entries_of k (a ++ b) ≡ entries_of k a ++ entries_of k b
        → cond x (e.state ∷ entries_of k (a ++ b)) (entries_of k (a ++ b)) ≡ cond x (e.state ∷ entries_of k a) (entries_of k a) ++ entries_of k b
    step true h = rw h
    step false h = h

-- two parts that have at most one element between them can change places
pub swap_parts : {A : Type 0} (a b : List A) → length (a ++ b) ≤ 1 → a ++ b ≡ b ++ a
swap_parts [] b h = sym (append-nil b)
swap_parts (x ∷ a) [] h = append-nil (x ∷ a)
swap_parts (x ∷ a) (y ∷ b) h = absurd (omega (arith, length-append a (y ∷ b)))

pub front_last : (e : Entry) (t : Table) → front_of e t ++ (last_of e t ∷ []) ≡ e ∷ t
front_last e [] = refl
front_last e (f ∷ t) = rw (front_last f t)

pub entries_last_first : (k : Key) (t : Table) → length (entries_of k t) ≤ 1 → entries_of k (last_first t) ≡ entries_of k t
entries_last_first k [] h = refl
entries_last_first k (e ∷ t) h =
    entries_append k (l ∷ []) f ∙ swap_parts (entries_of k (l ∷ [])) (entries_of k f) few ∙ sym (entries_append k f (l ∷ [])) ∙ ap (entries_of k) (front_last e t)
  where
    l : Entry
    l = last_of e t

    f : Table
    f = front_of e t

    few : length (entries_of k (l ∷ []) ++ entries_of k f) ≤ 1
    few =
        omega (
          arith,
          length-append (entries_of k (l ∷ [])) (entries_of k f),
          length-append (entries_of k f) (entries_of k (l ∷ [])),
          ap length (entries_append k f (l ∷ [])),
          ap (λ (u : Table). length (entries_of k u)) (front_last e t),
        )

pub tail_few : (k : Key) (e : Entry) (t : Table) → length (entries_of k (e ∷ t)) ≤ 1 → length (entries_of k t) ≤ 1
tail_few k e t h = step (is_key k e) h
  where
    step : (x : Bool) → length (cond x (e.state ∷ entries_of k t) (entries_of k t)) ≤ 1 → length (entries_of k t) ≤ 1
    step true g = omega arith
    step false g = g

-- an entry of key k is of no other key
pub not_both : (j k : Key) (e : Entry) → same_key j k ≡ false → is_key k e ≡ true → is_key j e ≡ false
not_both j k e other same = ap (same_key j) (sym (same_key_true k (key_of e) same)) ∙ other

pub empty_of : {A : Type 0} (l : List A) → length l ≤ 0 → l ≡ []
empty_of [] h = refl
empty_of (x ∷ l) h = absurd (omega arith)
