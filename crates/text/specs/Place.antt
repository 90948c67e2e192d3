-- Text put at a place of a buffer. Assumes nothing.
use Rattle.std.specs.Prelude.{ℕ, ◌+◌, ◌-◌, ◌≤◌, min, ◌≡◌, List, length}
use Rattle.std.proofs.lemmas.List.Edits.{sets}

-- the bytes of bs, one after the other, from place `at` of out on; those past its end are cut
unfoldable pub put : List ℕ → ℕ → List ℕ → List ℕ
put out at bs = sets out at bs

-- bs was put at `at`, and r is the place after what was put
pub record Put (out : List ℕ) (at : ℕ) (bs : List ℕ) (r : ℕ) (out' : List ℕ) : Type 0 where
  pub is : out' ≡ put out at bs
  pub next : r ≡ at + min (length bs) (length out - at)
  pub same : length out' ≡ length out
  pub low : at ≤ r
