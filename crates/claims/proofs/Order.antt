-- The rows of every call go down the table, and then the first that fails is the topmost. Assumes nothing.
use Prim.Native.Nat.{ℕ, ◌≤◌}
use lib.Dec.{T, leb}
use mathlib.Core.Bool.{Bool, true, false, cond, ◌&&◌}
use mathlib.Core.List.{List, [], ◌∷◌}
use mathlib.Core.Path.{◌≡◌, refl, sym, ap, subst, ◌∙◌}
use native.Mathlib.Omega.{arith}
use borrow.Author.Tests.{leb-true}
use Rattle.std.specs.Prelude.{Result, Ok, Err}
use Rattle.neighbor.proofs.NeverRefused.{never_refused}
use Rattle.claims.specs.Order.{NoneAbove, Order}
use Rattle.wire.specs.Refusals.{Row, row_of, ascends, first_refusal}
use Rattle.wire.specs.declared.error.Refusal.{Refusal}

both : (x y : Bool) → x && y ≡ true → (x ≡ true) × (y ≡ true)
both true y e = (refl, e)
both false y e = absurd (subst T (sym e) tt)

rest_ascends : (row : Row) (rows : List Row) → ascends (row ∷ rows) ≡ true → ascends rows ≡ true
rest_ascends row [] e = refl
rest_ascends row (next ∷ rows) e = (both (leb (row_of row.refusal) (row_of next.refusal)) (ascends (next ∷ rows)) e).1

-- nothing of rows that go down the table stands above the first of them
below : (top : Refusal) (rows : List Row) (row : Row) → row_of top ≤ row_of row.refusal → ascends (row ∷ rows) ≡ true → NoneAbove top (row ∷ rows)
below top [] row h e = (λ _. h, tt)
below top (next ∷ rows) row h e =
    let first : row_of row.refusal ≤ row_of next.refusal = leb-true _ _ (both (leb (row_of row.refusal) (row_of next.refusal)) (ascends (next ∷ rows)) e).0 in
    (λ _. h, below top rows next (omega arith) (rest_ascends row (next ∷ rows) e))

abbrev row_in : Result (Unit {0}) Refusal → ℕ
row_in (Err why) = row_of why
row_in (Ok tt) = 0

topmost : (rows : List Row) → ascends rows ≡ true → (why : Refusal) → first_refusal rows ≡ Err why → NoneAbove why rows
topmost [] e why h = tt
topmost (row ∷ rows) e why h = go row.fails refl h (topmost rows (rest_ascends row rows e) why)
  where
    go : (x : Bool) → row.fails ≡ x → cond x (Err row.refusal) (first_refusal rows) ≡ Err why
        → (first_refusal rows ≡ Err why → NoneAbove why rows) → NoneAbove why (row ∷ rows)
    go true f g on = let same : row_of row.refusal ≡ row_of why = ap row_in g in below why rows row (omega (arith, same)) e
    go false f g on = (λ t. absurd (subst T (sym (sym f ∙ t)) tt), on g)

pub order : Order
order = record {
  topmost = topmost;
  lookup_start = λ iface addr. refl;
  fill_insert = λ t iface addr hw. refl;
  sweep_poll = λ t iface. refl;
  advertisement = λ t iface source msg. refl;
  add_ip_addr = λ iface c es. refl;
  add_route = λ iface c via es. refl;
  on_an_interface = λ iface. refl;
  never_refused = never_refused;
}
