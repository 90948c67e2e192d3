use Rattle.std.proofs.Common.{rules, arith, length, ◌≡◌, sym, ◌∙◌}
use Rattle.autoconf.proofs.SyncLaws.{sync_nothing, sync_put, sync_drop, put_refreshed, put_spared, put_end, put_none}
use Rattle.iface.specs.AddressRules.{no_addr, is_addr, refreshed, slaac_addr}
use Rattle.slaac.proofs.SlotLaws.{placed}
use Rattle.table.proofs.Laws.{mapped}
use Rattle.autoconf.proofs.sync.sync_prefix.Goals as goal

pub returns-in_default : goal.returns-in_default
returns-in_default c = sync_nothing _ _ _ _ (sym c.from_link_prefix.ensures.is ∙ c.in_default.is)

pub returns-then-not-is_valid : goal.returns-then-not-is_valid
returns-then-not-is_valid c =
    sync_drop _ _ _ _ _ _ (sym c.from_link_prefix.ensures.is ∙ c.in-Addr.is) (sym c.is_valid.ensures ∙ c.if-not-is_valid.true) c.drop_addr.ensures

pub offset_bounds-addrs-at : goal.offset_bounds-addrs-at
offset_bounds-addrs-at c =
    let w = placed _ _ _ _ (c.position.ensures (is_addr c.in-Addr.cidr) (λ x b q. search rules)) _ c.in-Some.is in
    omega arith

pub bounds-addrs-at : goal.bounds-addrs-at
bounds-addrs-at c =
    let w = placed _ _ _ _ (c.position.ensures (is_addr c.in-Addr.cidr) (λ x b q. search rules)) _ c.in-Some.is in
    omega arith

pub returns-then-is_slaac : goal.returns-then-is_slaac
returns-then-is_slaac c =
    let t = c.args.addrs.now in
    let full : length t.slots ≡ 8 = search (rules, mapped) in
    sync_put _ _ t _ _ _ _ _ (sym c.from_link_prefix.ensures.is ∙ c.in-Addr.is) (sym c.is_valid.ensures ∙ c.if-not-is_valid.false) c.still_preferred-preferred.ensures
    (put_refreshed c.in-Addr.cidr _ t.slots t.len _ _ full c.count_of-count.ensures (c.position.ensures (is_addr c.in-Addr.cidr) (λ x b q. search rules)) _ c.in-Some.is
    (sym c.is_slaac.ensures ∙ c.if-is_slaac.true))

pub returns-else-is_slaac : goal.returns-else-is_slaac
returns-else-is_slaac c =
    let t = c.args.addrs.now in
    let full : length t.slots ≡ 8 = search (rules, mapped) in
    sync_put _ _ t _ _ _ _ _ (sym c.from_link_prefix.ensures.is ∙ c.in-Addr.is) (sym c.is_valid.ensures ∙ c.if-not-is_valid.false) c.still_preferred-preferred.ensures
    (put_spared c.in-Addr.cidr _ t.slots t.len _ _ full c.count_of-count.ensures (c.position.ensures (is_addr c.in-Addr.cidr) (λ x b q. search rules)) _ c.in-Some.is
    (sym c.is_slaac.ensures ∙ c.if-is_slaac.false))

pub returns-then-count-lt-IFACE_ADDR_COUNT : goal.returns-then-count-lt-IFACE_ADDR_COUNT
returns-then-count-lt-IFACE_ADDR_COUNT c =
    let t = c.args.addrs.now in
    let full : length t.slots ≡ 8 = search (rules, mapped) in
    sync_put _ _ t _ _ _ _ _ (sym c.from_link_prefix.ensures.is ∙ c.in-Addr.is) (sym c.is_valid.ensures ∙ c.if-not-is_valid.false) c.still_preferred-preferred.ensures
    (put_end no_addr (is_addr c.in-Addr.cidr) (refreshed c.still_preferred-preferred.result) (slaac_addr c.in-Addr.cidr c.still_preferred-preferred.result) t.slots t.len _ _ full
    c.count_of-count.ensures (c.position.ensures (is_addr c.in-Addr.cidr) (λ x b q. search rules)) c.in_default-position.is c.if-count-lt-IFACE_ADDR_COUNT.true)

pub returns-else-count-lt-IFACE_ADDR_COUNT : goal.returns-else-count-lt-IFACE_ADDR_COUNT
returns-else-count-lt-IFACE_ADDR_COUNT c =
    let t = c.args.addrs.now in
    let full : length t.slots ≡ 8 = search (rules, mapped) in
    sync_put _ _ t _ _ _ _ _ (sym c.from_link_prefix.ensures.is ∙ c.in-Addr.is) (sym c.is_valid.ensures ∙ c.if-not-is_valid.false) c.still_preferred-preferred.ensures
    (put_none no_addr (is_addr c.in-Addr.cidr) (refreshed c.still_preferred-preferred.result) (slaac_addr c.in-Addr.cidr c.still_preferred-preferred.result) t.slots t.len _ _ full
    c.count_of-count.ensures (c.position.ensures (is_addr c.in-Addr.cidr) (λ x b q. search rules)) c.in_default-position.is c.if-count-lt-IFACE_ADDR_COUNT.false)
