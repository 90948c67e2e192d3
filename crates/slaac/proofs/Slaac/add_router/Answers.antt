use Rattle.std.proofs.Common.{rules, length, ◌≡◌}
use Rattle.slaac.proofs.LearnedLaws.{router_put}
use Rattle.slaac.specs.LearnedRules.{is_router}
use Rattle.table.proofs.Laws.{mapped}
use Rattle.slaac.proofs.Slaac.add_router.Goals as goal

pub returns : goal.returns
returns c =
    let s = c.args.self in
    let full : length s.routers ≡ 2 = search (rules, mapped) in
    router_put _ _ _ _ _ full (c.put-stands.ensures (is_router c.args.router.addr) (λ x b q. search rules))
