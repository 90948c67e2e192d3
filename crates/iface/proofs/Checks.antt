-- Laws of the application's checks: what a call tests of its arguments comes first, then what it tests of the table. Assumes nothing.
use Prim.Native.Nat.{ℕ, ◌<◌}
use borrow.Author.Tests.{lt-leb, le-leb}
use lib.ListN.{length}
use mathlib.Core.Bool.{Bool, true, false}
use mathlib.Core.List.{List, [], ◌∷◌, ◌++◌}
use mathlib.Core.Path.{◌≡◌, ◌∙◌}
use native.Mathlib.Omega.{arith}
use Rattle.std.specs.Prelude.{Result, Ok, Err}
use Rattle.wire.specs.declared.error.Refusal.{Refusal}
use Rattle.iface.specs.Answers.{duplicate, no_room_is}
use Rattle.wire.proofs.Tests.{row_fails, row_holds, part_holds}
use Rattle.wire.specs.Refusals.{Row, first_refusal, Tested}
use Rattle.wire.specs.declared.error.Refusal.TheVariants.{Duplicate, Full}

module _ {A : Type 0} (rows : List Row) {r : Result (Unit {0}) Refusal} (test : Tested rows r) (there : Bool) (es : List A) where
  abbrev pub table_rows : List Row
  table_rows = duplicate there ∷ no_room_is 8 es ∷ []

  module _ (fine : r ≡ Ok tt) where
    pub is_duplicate : there ≡ true → first_refusal (rows ++ table_rows) ≡ Err Duplicate
    is_duplicate d = part_holds rows table_rows test fine ∙ row_fails (duplicate there) (no_room_is 8 es ∷ []) d

    module _ (absent : there ≡ false) (k : ℕ) (e : k ≡ length es) where
      up_to_room : first_refusal (rows ++ table_rows) ≡ first_refusal (no_room_is 8 es ∷ [])
      up_to_room = part_holds rows table_rows test fine ∙ row_holds (duplicate there) (no_room_is 8 es ∷ []) absent

      pub is_fine : k < 8 → first_refusal (rows ++ table_rows) ≡ Ok tt
      is_fine h = up_to_room ∙ row_holds (no_room_is 8 es) [] (lt-leb 8 (length es) (omega arith))

      pub is_full : k ≡ 8 → first_refusal (rows ++ table_rows) ≡ Err Full
      is_full h = up_to_room ∙ row_fails (no_room_is 8 es) [] (le-leb 8 (length es) (omega arith))
