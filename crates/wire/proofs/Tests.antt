-- Tests of a call's arguments, by parts: what the first rows refuse is refused, and where they refuse nothing the others decide. Assumes nothing.
use mathlib.Core.Bool.{Bool, true, false, cond}
use mathlib.Core.List.{List, [], ◌∷◌, ◌++◌}
use mathlib.Core.Path.{◌≡◌, refl, ap, sym, ◌∙◌}
use Rattle.std.specs.Prelude.{Result, Ok, Err}
use Rattle.wire.specs.Refusals.{Row, number_of, check_number, first_refusal, first_number, Tested}
use Rattle.wire.specs.declared.error.Refusal.{Refusal}

first_number_lem : (rows : List Row) → check_number (first_refusal rows) ≡ first_number rows
first_number_lem [] = refl
first_number_lem (row ∷ rows) = go row.fails (first_number_lem rows)
  where
    go : (x : Bool) → check_number (first_refusal rows) ≡ first_number rows
        → check_number (cond x (Err row.refusal) (first_refusal rows)) ≡ cond x (number_of row.refusal) (first_number rows)
    go true h = refl
    go false h = h

pub tested : {rows : List Row} {r : Result (Unit {0}) Refusal} → r ≡ first_refusal rows → Tested rows r
tested {rows} e = record { is = e; number = ap check_number e ∙ first_number_lem rows }

-- one row, then others
pub row_fails : (row : Row) (rows : List Row) → row.fails ≡ true → first_refusal (row ∷ rows) ≡ Err row.refusal
row_fails row rows e = ap (λ (x : Bool). cond x (Err row.refusal) (first_refusal rows)) e

pub row_holds : (row : Row) (rows : List Row) → row.fails ≡ false → first_refusal (row ∷ rows) ≡ first_refusal rows
row_holds row rows e = ap (λ (x : Bool). cond x (Err row.refusal) (first_refusal rows)) e

-- some rows, then others
abbrev pub or_else : Result (Unit {0}) Refusal → Result (Unit {0}) Refusal → Result (Unit {0}) Refusal
or_else (Err why) r = Err why
or_else (Ok tt) r = r

pub parts : (rows others : List Row) → first_refusal (rows ++ others) ≡ or_else (first_refusal rows) (first_refusal others)
parts [] others = refl
parts (row ∷ rows) others = go row.fails (parts rows others)
  where
    go : (x : Bool) → first_refusal (rows ++ others) ≡ or_else (first_refusal rows) (first_refusal others)
        → cond x (Err row.refusal) (first_refusal (rows ++ others))
        ≡ or_else (cond x (Err row.refusal) (first_refusal rows)) (first_refusal others)
    go true h = refl
    go false h = h

pub part_fails : (rows others : List Row) {r : Result (Unit {0}) Refusal} {why : Refusal} → Tested rows r → r ≡ Err why → first_refusal (rows ++ others) ≡ Err why
part_fails rows others t e = parts rows others ∙ ap (λ (r : Result (Unit {0}) Refusal). or_else r (first_refusal others)) (sym t.is ∙ e)

pub part_holds : (rows others : List Row) {r : Result (Unit {0}) Refusal} → Tested rows r → r ≡ Ok tt → first_refusal (rows ++ others) ≡ first_refusal others
part_holds rows others t e = parts rows others ∙ ap (λ (r : Result (Unit {0}) Refusal). or_else r (first_refusal others)) (sym t.is ∙ e)
