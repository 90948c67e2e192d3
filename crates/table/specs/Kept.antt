-- What is kept of a list, in words. Any element type; `gone` tells what goes. Assumes nothing.
use Rattle.std.specs.Prelude.{ℕ, ◌+◌, ◌<◌, ◌≡◌, Bool, true, false, cond, ◌||◌, not, List, [], ◌∷◌, ◌++◌, map, length, get_or}
use Rattle.table.specs.Table.{filled, kept, dropped, any_of, fold_over}

-- the third list is the first two together: each entry of it is the next of one of them
pub data Interleaved {A : Type 0} : List A → List A → List A → Type 0 where
  none : Interleaved [] [] []
  from_first : {xs ys zs : List A} (x : A) → Interleaved xs ys zs → Interleaved (x ∷ xs) ys (x ∷ zs)
  from_second : {xs ys zs : List A} (y : A) → Interleaved xs ys zs → Interleaved xs (y ∷ ys) (y ∷ zs)

-- A list of which some went, in words: it is what stays and what went, interleaved. None that stays is to go, and none that went is to stay.
pub record InOrder {A : Type 0} (gone : A → Bool) (before after went : List A) : Type 0 where
  pub order : Interleaved after went before
  pub stay : any_of gone after ≡ false
  pub go : any_of (λ x. not (gone x)) went ≡ false

pub record KeptLaw : Type 1 where
  -- what is kept passes: none of it goes
  pub passes : {A : Type 0} (d : A) (gone : A → Bool) (xs : List A) (i : ℕ) → i < length (kept gone xs) → gone (get_or (kept gone xs) i d) ≡ false
  pub none_left : {A : Type 0} (gone : A → Bool) (xs : List A) → any_of gone (kept gone xs) ≡ false
  -- where none goes all are kept, and where all go none is
  pub all_stay : {A : Type 0} (gone : A → Bool) (xs : List A) → any_of gone xs ≡ false → kept gone xs ≡ xs
  pub all_go : {A : Type 0} (gone : A → Bool) (xs : List A) → ((x : A) → gone x ≡ true) → kept gone xs ≡ []
  -- each is kept or dropped
  pub parts : {A : Type 0} (gone : A → Bool) (xs : List A) → length (kept gone xs) + length (dropped gone xs) ≡ length xs
  -- one list after another
  pub append : {A : Type 0} (gone : A → Bool) (xs ys : List A) → kept gone (xs ++ ys) ≡ kept gone xs ++ kept gone ys
  -- the same test twice is that test once; of two tests either may come first
  pub again : {A : Type 0} (gone : A → Bool) (xs : List A) → kept gone (kept gone xs) ≡ kept gone xs
  pub both : {A : Type 0} (gone other : A → Bool) (xs : List A) → kept gone (kept other xs) ≡ kept (λ x. gone x || other x) xs
  pub either : {A : Type 0} (gone other : A → Bool) (xs : List A) → kept gone (kept other xs) ≡ kept other (kept gone xs)
  -- tests that agree keep the same
  pub alike : {A : Type 0} (gone other : A → Bool) (xs : List A) → ((x : A) → gone x ≡ other x) → kept gone xs ≡ kept other xs
  -- of entries that are changed one by one
  pub mapped : {A B : Type 0} (gone : B → Bool) (f : A → B) (xs : List A) → kept gone (map f xs) ≡ map f (kept (λ x. gone (f x)) xs)
  -- entry by entry, in order: what goes is passed over
  pub folded : {A B : Type 0} (step : B → A → B) (gone : A → Bool) (b : B) (xs : List A)
      → fold_over step b (kept gone xs) ≡ fold_over (λ c x. cond (gone x) c (step c x)) b xs
  -- of what a test kept the same test drops nothing; and another test, by which none of the same entries go, drops of it what it drops of the whole list
  pub dropped_again : {A : Type 0} (gone : A → Bool) (xs : List A) → dropped gone (kept gone xs) ≡ []
  pub dropped_apart : {A : Type 0} (gone other : A → Bool) (xs : List A) → ((x : A) → gone x ≡ true → other x ≡ false)
      → dropped other (kept gone xs) ≡ dropped other xs
  -- what is kept and what is dropped are in order, and no other two lists are
  pub in_order : {A : Type 0} (gone : A → Bool) (xs : List A) → InOrder gone xs (kept gone xs) (dropped gone xs)
  pub only : {A : Type 0} (gone : A → Bool) (before after went : List A) → InOrder gone before after went
      → (after ≡ kept gone before) × (went ≡ dropped gone before)
  -- slots that are given the entries that stand in front of them already stay as they are
  pub filled_again : {A : Type 0} (slots xs : List A) → filled (filled slots xs) xs ≡ filled slots xs
