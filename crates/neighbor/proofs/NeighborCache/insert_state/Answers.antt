use Rattle.std.proofs.Common.{rules, arith}
use Rattle.neighbor.proofs.Calls.{put_over_lem, put_end, put_victim}
use Rattle.neighbor.proofs.NeighborCache.insert_state.Goals.{in-Some, in-None, in-None-2}
use Rattle.neighbor.specs.NeighborRules.{key_of}
use Rattle.neighbor.proofs.NeighborCache.insert_state.Goals as goal

pub returns : goal.returns
returns c =
    elim c.match-find.branch [
      | in-Some w ↦ rw w.at-is (put_over_lem c.args.self (key_of c.args.entry) c.args.entry.state _ (search rules) c.count_of-count.ensures _ w.in-Some.ensures.place)
      | in-None w ↦ rw w.at-is (put_end c.args.self (key_of c.args.entry) c.args.entry.state _ (search rules) c.count_of-count.ensures w.in-None.ensures.place (omega arith))
      | in-None-2 w ↦
          rw w.at-is (put_victim c.args.self (key_of c.args.entry) c.args.entry.state _ (search rules) c.count_of-count.ensures w.in-None.ensures.place _ (omega arith) w.evicted.ensures.0 w.evicted.ensures.1)
    ]
