use Rattle.std.proofs.Common.{rules, length, ◌≡◌, refl}
use Rattle.autoconf.proofs.SyncLaws.{stepped}
use Rattle.autoconf.specs.SyncRules.{sync_addrs}
use Rattle.slaac.specs.LearnedRules.{no_prefix}
use Rattle.table.proofs.Laws.{mapped}
use Rattle.autoconf.proofs.sync.sync_addrs.Goals as goal

pub returns : goal.returns
unfolding sync_addrs
returns c =
    let s = c.args.slaac in
    let full : length s.prefixes ≡ 4 = search (rules, mapped) in
    stepped no_prefix c.loop-prefix.invariant s.prefixes s.prefix_count 4 _ refl full c.count_of-count.ensures c.loop-prefix-test.false
