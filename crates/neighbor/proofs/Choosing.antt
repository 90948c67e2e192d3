-- The loop that chooses the victim. Assumes nothing.
use Prim.Native.Nat.{ℕ, ◌<◌}
use lib.Dec.{ltb, eqb}
use lib.ListN.{length, drop}
use mathlib.Core.Bool.{Bool, true, false, cond}
use mathlib.Core.Path.{◌≡◌, refl}
use Rattle.neighbor.specs.Eviction.{state_at}
use Rattle.neighbor.specs.NeighborRules.{Table, before, victim_from, victim}
use Rattle.neighbor.specs.Ranks.{rank_of}
use Rattle.neighbor.specs.contracts.RankPartialOrd.TheImpl.{partial_cmp-value}
use Rattle.neighbor.specs.declared.State.{State}
use Rattle.neighbor.specs.declared.State.TheVariants.{Started, Incomplete, Reachable, Stale}
use Rattle.std.specs.Ordering.{is_lt, partial_lt}
use Rattle.std.specs.declared.cmp.Ordering.TheVariants.{Less, Equal, Greater}

lt_of : (less same : Bool) → is_lt (cond less Less (cond same Equal Greater)) ≡ less
lt_of true same = refl
lt_of false true = refl
lt_of false false = refl

-- the derived order of ranks is the order of eviction
pub ranks_lt : (a b : State) → partial_lt partial_cmp-value.it (rank_of a) (rank_of b) ≡ before a b
unfolding before
ranks_lt (Stale h) (Stale h') = refl
ranks_lt (Stale h) (Reachable h' e') = refl
ranks_lt (Stale h) (Incomplete p' d') = refl
ranks_lt (Stale h) Started = refl
ranks_lt (Reachable h e) (Stale h') = refl
ranks_lt (Reachable h e) (Reachable h' e') = lt_of (ltb e.0 e'.0) (eqb e.0 e'.0)
ranks_lt (Reachable h e) (Incomplete p' d') = refl
ranks_lt (Reachable h e) Started = refl
ranks_lt (Incomplete p d) (Stale h') = refl
ranks_lt (Incomplete p d) (Reachable h' e') = refl
ranks_lt (Incomplete p d) (Incomplete p' d') = lt_of (ltb d.0 d'.0) (eqb d.0 d'.0)
ranks_lt (Incomplete p d) Started = refl
ranks_lt Started (Stale h') = refl
ranks_lt Started (Reachable h' e') = refl
ranks_lt Started (Incomplete p' d') = refl
ranks_lt Started Started = refl

-- of the first `i` entries the one at `index` goes first
pub record Choosing (s : Table) (i index : ℕ) : Type 0 where
  pub behind : index < 16
  pub full : length s ≡ 16
  pub same : victim_from index (state_at s index) i (drop i s) ≡ victim s
