-- "the first entry there or later that ..": what `first_from` gives, in words. Any element type; `d` is what is read past the end. Assumes nothing.
use Rattle.std.specs.Prelude.{ℕ, ◌≤◌, ◌<◌, ◌≡◌, Bool, true, false, List, ◌⊎◌, length, get_or}
use Rattle.table.specs.Table.{first_from}

-- an entry at or after n passes, j is its place, and none between n and it passes
pub record FirstAt {A : Type 0} (d : A) (test : A → Bool) (n : ℕ) (xs : List A) (j : ℕ) : Type 0 where
  pub from : n ≤ j
  pub inside : j < length xs
  pub passes : test (get_or xs j d) ≡ true
  pub first : (i : ℕ) → n ≤ i → i < j → test (get_or xs i d) ≡ false

-- none passes, and j is the number of entries
pub record NoneFrom {A : Type 0} (d : A) (test : A → Bool) (n : ℕ) (xs : List A) (j : ℕ) : Type 0 where
  pub end : j ≡ length xs
  pub none : (i : ℕ) → n ≤ i → i < length xs → test (get_or xs i d) ≡ false

pub record FirstFromLaw : Type 1 where
  -- `first_from` is one of the two
  pub is : {A : Type 0} (d : A) (test : A → Bool) (n : ℕ) (xs : List A)
      → FirstAt d test n xs (first_from test n xs) ⊎ NoneFrom d test n xs (first_from test n xs)
  -- and a place that is the first is what it gives
  pub only : {A : Type 0} (d : A) (test : A → Bool) (n : ℕ) (xs : List A) (j : ℕ) → FirstAt d test n xs j → j ≡ first_from test n xs
