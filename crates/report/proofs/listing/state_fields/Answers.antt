use Rattle.std.proofs.Common.{sym, ap}
use Rattle.text.proofs.PlaceLaws.{chain, put_as}
use Rattle.report.specs.StateLines.{neighbor_field, hardware_field}
use Rattle.report.proofs.listing.state_fields.Goals as goal

pub returns-in-Reachable-clause-adds : goal.returns-in-Reachable-clause-adds
unfolding hardware_field
returns-in-Reachable-clause-adds c = put_as (ap neighbor_field (sym c.in-Reachable.is)) (chain (chain c.word-in-Reachable.ensures.adds c.hardware.ensures.adds) c.number_field.ensures.adds)

pub returns-in-Stale-clause-adds : goal.returns-in-Stale-clause-adds
unfolding hardware_field
returns-in-Stale-clause-adds c = put_as (ap neighbor_field (sym c.in-Stale.is)) (chain (chain c.word-in-Stale.ensures.adds c.hardware-in-Stale.ensures.adds) c.word-in-Stale-2.ensures.adds)
