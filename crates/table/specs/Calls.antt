-- What the functions of a table that take a closure answer. Any element type; `gives x b` says that the closure may answer b of the entry x. Assumes nothing.
use Rattle.std.specs.Prelude.{ℕ, ◌≡◌, Bool, cond, not, ltb, List, length, take, Option, Some, None}
use Rattle.table.specs.Table.{filled, kept, first_from}

-- the place of the first entry that passes, if one does
unfoldable pub place_of : {A : Type 0} → (A → Bool) → List A → Option ℕ
place_of test xs = cond (ltb (first_from test 0 xs) (length xs)) (Some (first_from test 0 xs)) None

-- the answers of a closure are those of a test
abbrev pub Decides : {A : Type 0} → (A → Bool → Type 0) → (A → Bool) → Type 0
Decides {A} gives test = (x : A) (b : Bool) → gives x b → b ≡ test x

-- whatever test the answers are those of, `r` is the place of the first entry that passes it
abbrev pub Finds : {A : Type 0} → (A → Bool → Type 0) → List A → Option ℕ → Type 0
Finds {A} gives xs r = (test : A → Bool) → Decides gives test → r ≡ place_of test xs

-- whatever test the answers are the opposite of, the first n of the slots s are left without the entries that pass it, and r are left
abbrev pub Keeps : {A : Type 0} → (A → Bool → Type 0) → ℕ → List A → ℕ → List A → Type 0
Keeps {A} gives n s r s' =
    (gone : A → Bool) → Decides gives (λ x. not (gone x)) → (s' ≡ filled s (kept gone (take n s))) × (r ≡ length (kept gone (take n s)))
