-- The story, computed. Assumes nothing.
use mathlib.Core.Path.{refl}
use Rattle.neighbor.specs.NeighborRules.{same_key, find, insert_state, on_iface}
use Rattle.sweep.specs.SweepRules.{expire_all, expire_clocks, due, spent}
use Rattle.sweep.specs.SweepCalls.{probe_in, events_in, events_table, probe_all, swept_in}
use Rattle.pending.specs.QueueRules.{push_list, push_answer, release_list, release_answer, orphaned, dropped_handles}
use Rattle.pending.specs.QueueCalls.{purged_of}
use Rattle.iface.specs.AddressRules.{first_local}
use Rattle.ndisc.specs.OptionWalk.{walked, options_of}
use Rattle.slaac.specs.DiscoveryRules.{due as timeDue, sent as onceSent, solicitation}
use Rattle.slaac.specs.ExpiryRules.{sync_due, leave_expired}
use Rattle.slaac.specs.LearnedRules.{add_router, process_router_is}
use Rattle.autoconf.specs.AdvertRules.{step2, last_source}
use Rattle.autoconf.specs.PollRules.{turn_of, buffer_of, sync_turn, poll_on}
use Rattle.autoconf.specs.SyncRules.{sync_addrs}
use Rattle.mainloop.specs.LoopRules.{releases, ready_of, push_of, start_of, sent, fill_of, filled, learned, heard, poll_of, settled, turned, buffer_after, turn_buffer, run_over}
use Rattle.mainloop.specs.Story.{Story}

pub story : Story
unfolding same_key find insert_state on_iface expire_all expire_clocks due spent probe_in events_in events_table probe_all swept_in push_list push_answer release_list release_answer orphaned dropped_handles purged_of first_local timeDue onceSent solicitation walked options_of sync_due leave_expired add_router process_router_is step2 last_source turn_of buffer_of sync_turn poll_on sync_addrs releases ready_of push_of start_of sent fill_of filled learned heard poll_of settled turned run_over buffer_after turn_buffer
story =
    record {
      waits = refl;
      until_1000 = refl;
      too_early = refl;
      again = refl;
      until_2000 = refl;
      once_more = refl;
      until_3000 = refl;
      failed = refl;
      handed_back = refl;
      for_ever = refl;
      goes = refl;
      ready = refl;
      none_back = refl;
      until_61500 = refl;
      unasked = refl;
      refused = refl;
      both_learned = refl;
      both_known = refl;
      first_only = refl;
      link = refl;
    }
