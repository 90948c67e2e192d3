-- Document 01, "Neighbour cache": lookup, get and remove, said of places and not as scans. Assumes nothing.
use Rattle.std.specs.Prelude.{ℕ, ◌+◌, ◌-◌, ◌<◌, ◌≡◌, Bool, List, length, get_or, Ok, Some, None}
use Rattle.table.specs.First.{FirstAt, NoneFrom}
use Rattle.table.specs.Table.{first_of}
use Rattle.neighbor.specs.declared.Answer.TheVariants.{NotFound}
use Rattle.neighbor.specs.Answers.{answer_of, listed}
use Rattle.neighbor.specs.CacheCalls.{blank, answer_in, shown}
use Rattle.neighbor.specs.Eviction.{state_at}
use Rattle.neighbor.specs.NeighborRules.{Table, Key, is_key, find, remove_key}

-- `first_of` gives the value of the entry that passes and has none before it that does; if there is none, the value for none.
-- One of the two is the case: `FirstFromLaw` of table.
pub record FirstOfLaw : Type 1 where
  pub first : {A B : Type 0} (d : A) (test : A → Bool) (f : A → B) (none : B) (xs : List A) (j : ℕ)
      → FirstAt d test 0 xs j → first_of test f none xs ≡ f (get_or xs j d)
  pub none : {A B : Type 0} (d : A) (test : A → Bool) (f : A → B) (none : B) (xs : List A) (j : ℕ)
      → NoneFrom d test 0 xs j → first_of test f none xs ≡ none

-- "Lookup: Reachable is Found ..; the rest NotFound": by the state of the key's entry, and NotFound where it has none
pub record LookupLaw : Type 0 where
  pub has : (k : Key) (t : Table) (j : ℕ) → FirstAt blank (is_key k) 0 t j → first_of (is_key k) answer_in (Ok NotFound) t ≡ Ok (answer_of (state_at t j))
  pub has_not : (k : Key) (t : Table) (j : ℕ) → NoneFrom blank (is_key k) 0 t j → first_of (is_key k) answer_in (Ok NotFound) t ≡ Ok NotFound

-- "removing or listing an absent key answers Nothing", and a key that is there its entry
pub record GetLaw : Type 0 where
  pub has : (k : Key) (t : Table) (j : ℕ) → FirstAt blank (is_key k) 0 t j → first_of (is_key k) shown (Ok None) t ≡ Ok (Some (listed (get_or t j blank)))
  pub has_not : (k : Key) (t : Table) (j : ℕ) → NoneFrom blank (is_key k) 0 t j → first_of (is_key k) shown (Ok None) t ≡ Ok None

-- "Remove moves the last entry in": of a key whose entry stands at `find`
pub record RemoveLaw : Type 0 where
  -- one entry fewer
  pub fewer : (k : Key) (t : Table) → find k t < length t → length (remove_key k t) ≡ length t - 1
  -- the last entry stands where the removed one stood, unless that was the last
  pub moved : (k : Key) (t : Table) → find k t + 1 < length t → get_or (remove_key k t) (find k t) blank ≡ get_or t (length t - 1) blank
  -- the others stay where they are
  pub stay : (k : Key) (t : Table) (j : ℕ) → find k t < length t → j + 1 < length t → (j ≡ find k t → ⊥)
      → get_or (remove_key k t) j blank ≡ get_or t j blank
