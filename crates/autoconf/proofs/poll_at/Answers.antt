use Rattle.std.proofs.Common.{refl, sym, ◌∙◌}
use borrow.Author.Tests.{not-false}
use Rattle.autoconf.proofs.PollLaws.{poll_on_lem, sync_due_lem, sync_idle}
use Rattle.autoconf.proofs.poll_at.Goals as goal

pub returns-then-sync_due : goal.returns-then-sync_due
returns-then-sync_due c = let a = c.args in
    poll_on_lem a.slaac a.addrs a.routes a.iface a.up a.hardware_addr a.buf.now a.clock (sym c.check_time.ensures.is ∙ c.in_default.is) _ _ _ _
    (not-false a.slaac.on c.if-not-slaac.false) c.link_local_ipv6_address-source.ensures.is c.ndisc_rs_egress-turn.ensures refl
    (sync_due_lem a.slaac c.ndisc_rs_egress-turn.result.discovery _ _ _ _ _ _ _ _ c.is_sync_due-sync_due.ensures _ _ _ c.if-sync_due.true
    c.update_slaac_state.ensures c.sync_addrs.ensures c.sync_routes.ensures)

pub returns : goal.returns
returns c = let a = c.args in
    poll_on_lem a.slaac a.addrs a.routes a.iface a.up a.hardware_addr a.buf.now a.clock (sym c.check_time.ensures.is ∙ c.in_default.is) _ _ _ _
    (not-false a.slaac.on c.if-not-slaac.false) c.link_local_ipv6_address-source.ensures.is c.ndisc_rs_egress-turn.ensures refl
    (sync_idle a.slaac c.ndisc_rs_egress-turn.result.discovery _ _ _ _ _ _ _ _ c.is_sync_due-sync_due.ensures c.if-sync_due.false)
