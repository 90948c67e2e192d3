use Rattle.std.proofs.Common.{rules, length, ◌≡◌}
use Rattle.std.proofs.lemmas.Iterator.{YieldsList-from_slice}
use Rattle.std.proofs.lemmas.Iterator.Consumers.{fold_from_yields_List}
use Rattle.slaac.proofs.ExpiryLaws.{all_asked}
use Rattle.slaac.specs.ExpiryRules.{ask_prefix, ask_router}
use Rattle.table.proofs.Laws.{mapped}
use Rattle.slaac.proofs.Slaac.is_sync_due.Goals as goal

pub returns : goal.returns
returns c =
    let s = c.args.self in
    let full : length s.prefixes ≡ 4 = search (rules, mapped) in
    let full' : length s.routers ≡ 2 = search (rules, mapped) in
    all_asked s _ _ full full' c.count_of-prefix_count.ensures c.count_of-router_count.ensures c.args.clock _ _
    (fold_from_yields_List _ ask_prefix _ _ c.fold-asked.ensures.ran (YieldsList-from_slice _ c.iter.ensures.rest) (λ a x b q k. search rules))
    (fold_from_yields_List _ ask_router _ _ c.fold.ensures.ran (YieldsList-from_slice _ c.iter-2.ensures.rest) (λ a x b q k. search rules))
