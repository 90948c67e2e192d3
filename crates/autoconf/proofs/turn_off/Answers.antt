use Rattle.std.proofs.Common.{sym, ◌∙◌}
use borrow.Author.Tests.{not-false}
use Rattle.autoconf.proofs.OffLaws.{off_plain, off_clears}
use Rattle.autoconf.proofs.turn_off.Goals as goal

pub returns-then-cleared : goal.returns-then-cleared
returns-then-cleared c = let a = c.args in
    off_clears a.slaac a.addrs a.routes a.cache a.queue a.iface (sym c.check_iface.ensures.is ∙ c.in_default.is) (not-false c.args.slaac.on c.if-not-slaac.false) _ c.off.ensures _
    c.clear_slaac-cleared.ensures _ c.clear_slaac.ensures c.if-cleared.true _ c.clear_iface.ensures _ c.purge_iface-purged.ensures

pub returns : goal.returns
returns c = let a = c.args in
    off_plain a.slaac a.addrs a.routes a.cache a.queue a.iface (sym c.check_iface.ensures.is ∙ c.in_default.is) (not-false c.args.slaac.on c.if-not-slaac.false) _ c.off.ensures _
    c.clear_slaac-cleared.ensures _ c.clear_slaac.ensures c.if-cleared.false _ c.new.ensures
