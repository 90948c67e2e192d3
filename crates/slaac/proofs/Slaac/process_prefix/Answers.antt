use Rattle.std.proofs.Common.{sym, ◌∙◌}
use Rattle.slaac.proofs.LearnedLaws.{not-true, not-false, prefix_skipped, prefix_added, prefix_expired}
use Rattle.slaac.proofs.Slaac.process_prefix.Goals as goal

pub returns-then-info-gt0 : goal.returns-then-info-gt0
returns-then-info-gt0 c =
    prefix_added _ _ _ _ _ (not-true _ (sym c.is_valid_prefix_info.ensures ∙ c.if-is_valid_prefix_info.true)) c.if-info-gt0.true
    c.from_prefix.ensures c.add_prefix.ensures

pub returns-then-is_valid_prefix_info : goal.returns-then-is_valid_prefix_info
returns-then-is_valid_prefix_info c =
    prefix_expired _ _ c.args.info _ _ (not-true _ (sym c.is_valid_prefix_info.ensures ∙ c.if-is_valid_prefix_info.true)) c.if-info-gt0.false
    c.cidr_of.ensures c.expire_prefix.ensures

pub returns : goal.returns
returns c = prefix_skipped _ _ _ (not-false _ (sym c.is_valid_prefix_info.ensures ∙ c.if-is_valid_prefix_info.false))
