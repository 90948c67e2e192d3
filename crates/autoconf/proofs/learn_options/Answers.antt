use Rattle.std.proofs.Common.{refl, sym, ◌∙◌}
use Rattle.ndisc.proofs.Walks.{option_goes}
use Rattle.autoconf.proofs.AdvertLaws.{teaching, teach_by, teach_none, taught, stops}
use Rattle.autoconf.proofs.learn_options.Goals as goal

pub loop-option-init : goal.loop-option-init
loop-option-init c = teaching _ _ _

pub loop-option-preserved-in-SourceLinkLayerAddr : goal.loop-option-preserved-in-SourceLinkLayerAddr
loop-option-preserved-in-SourceLinkLayerAddr c =
    let w = option_goes c.args.msg.now c.loop-option.at _ _ (sym c.next_option.ensures.is ∙ c.in-Option.is) in
    teach_by c.loop-option.invariant _ _ _ _ _ w.options_on c.in-SourceLinkLayerAddr.is refl refl

pub loop-option-preserved-in-PrefixInformation : goal.loop-option-preserved-in-PrefixInformation
loop-option-preserved-in-PrefixInformation c =
    let w = option_goes c.args.msg.now c.loop-option.at _ _ (sym c.next_option.ensures.is ∙ c.in-Option.is) in
    teach_by c.loop-option.invariant _ _ _ _ _ w.options_on c.in-PrefixInformation.is c.process_prefix-slaac.ensures refl

pub loop-option-preserved : goal.loop-option-preserved
loop-option-preserved c =
    let w = option_goes c.args.msg.now c.loop-option.at _ _ (sym c.next_option.ensures.is ∙ c.in-Option.is) in
    teach_none c.loop-option.invariant _ _ w.options_on c.in_default-option.not-SourceLinkLayerAddr c.in_default-option.not-PrefixInformation

pub returns : goal.returns
returns c = taught c.loop-option.invariant (stops c.args.msg.now c.loop-option.at _ c.next_option.ensures.is c.in_default.not-Option)
