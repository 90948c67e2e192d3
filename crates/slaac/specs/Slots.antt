-- A table into which an entry is put. Any element type; `gives x b` says that the closure may answer b of the entry x. Assumes nothing.
use Rattle.std.specs.Prelude.{ℕ, ◌≡◌, Bool, ◌||◌, List, take, length, ltb}
use Rattle.table.specs.Calls.{Decides}
use Rattle.slaac.specs.LearnedRules.{put_over}
use Rattle.table.specs.Table.{filled, at_first_is, any_of, if_room}

-- the entries of the slots s, of which n are used, with x in place of the first that passes, or at the end if there is room
abbrev pub put_in : {A : Type 0} → (A → Bool) → A → List A → ℕ → List A
put_in test x s n = at_first_is test (put_over x) (if_room (length s) (take n s) x) (take n s)

pub record PutTo {A : Type 0} (test : A → Bool) (x : A) (s : List A) (n : ℕ) (s' : List A) (n' : ℕ) (put : Bool) : Type 0 where
  pub slots : s' ≡ filled s (put_in test x s n)
  pub count : n' ≡ length (put_in test x s n)
  -- whether x stands there now
  pub told : put ≡ (any_of test (take n s) || ltb (length (take n s)) (length s))

-- whatever test the answers are those of
abbrev pub Puts : {A : Type 0} → (A → Bool → Type 0) → A → List A → ℕ → List A → ℕ → Bool → Type 0
Puts {A} gives x s n s' n' put = (test : A → Bool) → Decides gives test → PutTo test x s n s' n' put
