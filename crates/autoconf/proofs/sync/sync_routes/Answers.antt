use Rattle.std.proofs.Common.{rules, length, ◌≡◌, refl}
use Rattle.autoconf.proofs.SyncLaws.{stepped}
use Rattle.autoconf.specs.SyncRules.{sync_routes}
use Rattle.slaac.specs.LearnedRules.{no_router}
use Rattle.table.proofs.Laws.{mapped}
use Rattle.autoconf.proofs.sync.sync_routes.Goals as goal

pub returns : goal.returns
unfolding sync_routes
returns c =
    let s = c.args.slaac in
    let full : length s.routers ≡ 2 = search (rules, mapped) in
    stepped no_router c.loop-router.invariant s.routers s.router_count 2 _ refl full c.count_of-count.ensures c.loop-router-test.false
