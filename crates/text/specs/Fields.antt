-- A line's fields: one space parts two of them, and none stands at either end (docs/DECISIONS.md, 3). A second space in a row parts an
-- empty field, and no kind of field is empty. Assumes nothing.
use Rattle.std.specs.Borrow.{Bor}
use Rattle.std.specs.List.{position}
use Rattle.std.specs.Prelude.{ℕ, zero, suc, ◌+◌, ◌≡◌, ◌==◌, cond, List, [], ◌∷◌, eqb, length, Option}

-- a field: bytes with no space among them
abbrev pub Field : Type 0
Field = List ℕ

-- b comes in front of the first field
abbrev pub onto : ℕ → List Field → List Field
onto b [] = (b ∷ []) ∷ []
onto b (f ∷ fs) = (b ∷ f) ∷ fs

-- a line parted at each space
abbrev pub fields : List ℕ → List Field
fields [] = [] ∷ []
fields (b ∷ s) = cond (eqb b 32) ([] ∷ fields s) (onto b (fields s))

-- the index of the first b, or the length where there is none
abbrev pub index_of : ℕ → List ℕ → ℕ
index_of b [] = zero
index_of b (x ∷ s) = cond (eqb x b) zero (suc (index_of b s))

-- the first b's index, if there is one
abbrev pub Found : List ℕ → ℕ → Option ℕ → Type 0
Found s b r = r ≡ position (λ x. x == b) s

-- a line's first field, and the line of the fields after it; none where there is one field alone
pub record Parted (line first rest : List ℕ) : Type 0 where
  pub is : fields line ≡ first ∷ fields rest

-- where they begin: where the line does, and one past the space
pub record PartsAt (line first rest : Bor (List ℕ)) : Type 0 where
  pub front : first.ref_ptr ≡ line.ref_ptr
  pub behind : rest.ref_ptr ≡ (line.ref_ptr.0, line.ref_ptr.1 + (length first.now + 1))
