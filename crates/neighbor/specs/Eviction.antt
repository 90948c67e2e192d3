-- Document 01, "Neighbour cache": where a key's entry stands, and which entry a full table evicts, said of its place and not as a scan.
-- Assumes nothing.
use Rattle.std.specs.Prelude.{ℕ, ◌≤◌, ◌<◌, ◌≡◌, ◌⊎◌, length, get_or}
use Rattle.table.specs.First.{FirstAt, NoneFrom}
use Rattle.neighbor.specs.declared.State.{State}
use Rattle.neighbor.specs.declared.State.TheVariants.{Started, Incomplete, Reachable, Stale}
use Rattle.neighbor.specs.CacheCalls.{blank}
use Rattle.neighbor.specs.NeighborRules.{Table, Key, is_key, find, victim}

-- the state of the entry at a place
abbrev pub state_at : Table → ℕ → State
state_at t i = (get_or t i blank).state

-- "A full table evicts the first kind present: Stale, Reachable by earliest expiry, Incomplete by earliest due, Started": the first of these
-- two goes no later than the second
abbrev pub NotAfter : State → State → Type 0
NotAfter (Stale h) s = Unit {0}
NotAfter (Reachable h e) (Stale h') = ⊥
NotAfter (Reachable h e) (Reachable h' e') = e.0 ≤ e'.0
NotAfter (Reachable h e) (Incomplete p d) = Unit {0}
NotAfter (Reachable h e) Started = Unit {0}
NotAfter (Incomplete p d) (Stale h) = ⊥
NotAfter (Incomplete p d) (Reachable h e) = ⊥
NotAfter (Incomplete p d) (Incomplete p' d') = d.0 ≤ d'.0
NotAfter (Incomplete p d) Started = Unit {0}
NotAfter Started (Stale h) = ⊥
NotAfter Started (Reachable h e) = ⊥
NotAfter Started (Incomplete p d) = ⊥
NotAfter Started Started = Unit {0}

pub record Evicted (t : Table) (i : ℕ) : Type 0 where
  pub within : i < length t
  -- no entry of the table is to be evicted before it
  pub first : (j : ℕ) → j < length t → NotAfter (state_at t i) (state_at t j)
  -- "ties take the lowest index"
  pub lowest : (j : ℕ) → j < length t → NotAfter (state_at t j) (state_at t i) → i ≤ j

-- `victim` is that place, and no other is.
pub record EvictionLaw : Type 0 where
  pub is : (t : Table) → 0 < length t → Evicted t (victim t)
  pub only : (t : Table) (i : ℕ) → Evicted t i → i ≡ victim t

-- `find` is the first place of the key, or the number of entries where none has the key.
pub record FindLaw : Type 0 where
  pub is : (k : Key) (t : Table) → FirstAt blank (is_key k) 0 t (find k t) ⊎ NoneFrom blank (is_key k) 0 t (find k t)
  pub only : (k : Key) (t : Table) (i : ℕ) → FirstAt blank (is_key k) 0 t i → i ≡ find k t
