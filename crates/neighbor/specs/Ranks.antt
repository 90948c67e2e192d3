-- What states are compared by for eviction: `before` is the derived order of these. Assumes nothing.
use Rattle.neighbor.specs.declared.Rank.{Rank}
use Rattle.neighbor.specs.declared.Rank.TheVariants.{Stale as FirstOut, Reachable as ByExpiry, Incomplete as ByDue, Started as LastOut}
use Rattle.neighbor.specs.declared.State.{State}
use Rattle.neighbor.specs.declared.State.TheVariants.{Started, Incomplete, Reachable, Stale}

abbrev pub rank_of : State → Rank
rank_of (Stale h) = FirstOut
rank_of (Reachable h e) = ByExpiry e.0
rank_of (Incomplete p d) = ByDue d.0
rank_of Started = LastOut
