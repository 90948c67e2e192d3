use Rattle.std.proofs.Common.{rules, length, ◌≡◌}
use Rattle.slaac.proofs.ExpiryLaws.{all_left, stays}
use Rattle.slaac.specs.ExpiryRules.{prefix_gone, router_gone}
use Rattle.table.proofs.Laws.{mapped}
use Rattle.slaac.proofs.Slaac.update_slaac_state.Goals as goal

pub returns : goal.returns
returns c =
    let s = c.args.self in
    let full : length s.prefixes ≡ 4 = search (rules, mapped) in
    let full' : length s.routers ≡ 2 = search (rules, mapped) in
    all_left s _ _ full full' c.count_of-prefix_count.ensures c.count_of-router_count.ensures c.args.now _ _ _ _
    (c.retain.ensures (prefix_gone c.args.now) (λ x b q. stays _ _ (search rules)))
    (c.retain-2.ensures (router_gone c.args.now) (λ x b q. stays _ _ (search rules)))
