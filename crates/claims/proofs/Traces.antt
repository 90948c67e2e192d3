-- The runs of `Traces`, computed. Assumes nothing.
use mathlib.Core.Path.{refl}
use Rattle.claims.specs.Calls.{check}
use Rattle.claims.specs.Traces.{Traces}
use Rattle.neighbor.specs.NeighborRules.{same_key, find, before, insert_state, remove_key, on_iface}
use Rattle.sweep.specs.SweepRules.{expire_all, due, spent, probe, events_from, sweep_table}

pub traces : Traces
unfolding same_key find before insert_state remove_key on_iface expire_all due spent probe events_from sweep_table check
traces = record {
  kept = (tt, (tt, (tt, (tt, (tt, (tt, (tt, (tt, tt))))))));
  fails = refl;
  freed = refl;
  by_fill = refl;
  by_insert = refl;
  by_advertisement = refl;
  by_remove = refl;
  by_clear = refl;
  by_off = refl;
  full = refl;
  evicted = refl;
}
