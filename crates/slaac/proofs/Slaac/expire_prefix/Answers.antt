use Rattle.std.proofs.Common.{rules, arith, length, ◌≡◌}
use Rattle.slaac.proofs.LearnedLaws.{prefix_found, prefix_absent}
use Rattle.slaac.proofs.SlotLaws.{placed}
use Rattle.slaac.specs.LearnedRules.{is_prefix}
use Rattle.table.proofs.Laws.{mapped}
use Rattle.slaac.proofs.Slaac.expire_prefix.Goals as goal

pub offset_bounds-self-at : goal.offset_bounds-self-at
offset_bounds-self-at c =
    let w = placed _ _ _ _ (c.position.ensures (is_prefix c.args.cidr) (λ x b q. search rules)) _ c.in-Some.is in
    omega arith

pub bounds-self-at : goal.bounds-self-at
bounds-self-at c =
    let w = placed _ _ _ _ (c.position.ensures (is_prefix c.args.cidr) (λ x b q. search rules)) _ c.in-Some.is in
    omega arith

pub returns-in-Some : goal.returns-in-Some
returns-in-Some c =
    let s = c.args.self in
    let full : length s.prefixes ≡ 4 = search (rules, mapped) in
    prefix_found s _ c.args.now _ _ full c.count_of.ensures (c.position.ensures (is_prefix c.args.cidr) (λ x b q. search rules)) _ c.in-Some.is

pub returns-in_default : goal.returns-in_default
returns-in_default c =
    let s = c.args.self in
    let full : length s.prefixes ≡ 4 = search (rules, mapped) in
    prefix_absent s _ c.args.now _ _ full c.count_of.ensures (c.position.ensures (is_prefix c.args.cidr) (λ x b q. search rules)) c.in_default.is
