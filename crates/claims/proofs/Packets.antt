-- What becomes of each packet. Assumes nothing.
use mathlib.Core.Path.{refl}
use Rattle.claims.proofs.Demand3.{demand3}
use Rattle.claims.proofs.Ledger.{sound, once, no_other}
use Rattle.claims.proofs.Follows.{follows, room}
use Rattle.claims.proofs.Orphans.{orphan_means, purged, stays, safe, filled_stale}
use Rattle.claims.proofs.Ways.{ways, spared}
use Rattle.claims.specs.Calls.{check}
use Rattle.claims.specs.Packets.{calls_of, queued, resolving_table, Packets}
use Rattle.neighbor.specs.Distinct.{Distinct}
use Rattle.neighbor.specs.NeighborRules.{same_key, find, before, insert_state, on_iface}
use Rattle.neighbor.specs.declared.State.TheVariants.{Started}
use Rattle.pending.specs.QueueRules.{orphaned, on_iface as itsIface}
use Rattle.sweep.specs.SweepRules.{expire_all, due, spent, probe, events_from, sweep_table}

resolving : Distinct resolving_table
resolving = (demand3.made (calls_of queued)).0

pub packets : Packets
unfolding same_key find before insert_state expire_all due spent probe events_from sweep_table on_iface check orphaned itsIface
packets = record {
  follows = follows;
  once = once;
  no_other = no_other;
  numbered = λ moves t q. ((sound moves t q).waiting, (sound moves t q).left);
  ways = ways;
  room = room;
  eight = refl;
  nine = refl;
  refused = refl;
  orphan_means = orphan_means;
  purged = purged;
  stays = stays;
  safe = λ k h cs t u g. safe k cs t u h g;
  filled = λ k h cs t u o. filled_stale k cs t u h o;
  spared = spared;
  goes_on = record {
    distinct = resolving;
    state = Started;
    entry = refl;
    unfilled = refl;
    not_taken = refl;
    not_evicted = (tt, (tt, (tt, (tt, (tt, tt)))));
    not_failed = refl;
  };
  goes_on_unfilled = refl;
  waits_on = refl;
  turns_stale = record {
    distinct = resolving;
    state = Started;
    entry = refl;
    unfilled = refl;
    not_taken = refl;
    not_evicted = (tt, (tt, (tt, tt)));
    not_failed = refl;
  };
  stale_back = refl;
  failed_back = refl;
  release_back = refl;
  purge_back = refl;
  off_back = refl;
  off_handed = refl;
  pushed_out_lem = refl;
  still_waits = refl;
  comes_back = refl;
}
