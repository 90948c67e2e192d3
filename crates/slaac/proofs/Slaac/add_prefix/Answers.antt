use Rattle.std.proofs.Common.{rules, length, ◌≡◌}
use Rattle.slaac.proofs.LearnedLaws.{prefix_put}
use Rattle.slaac.specs.LearnedRules.{is_prefix}
use Rattle.table.proofs.Laws.{mapped}
use Rattle.slaac.proofs.Slaac.add_prefix.Goals as goal

pub returns : goal.returns
returns c =
    let s = c.args.self in
    let full : length s.prefixes ≡ 4 = search (rules, mapped) in
    prefix_put _ _ _ _ _ full (c.put-stands.ensures (is_prefix c.args.prefix.cidr) (λ x b q. search rules))
