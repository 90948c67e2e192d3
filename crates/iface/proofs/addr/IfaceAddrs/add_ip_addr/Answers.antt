use Rattle.std.proofs.Common.{rules, refl, sym, ◌∙◌, arith}
use Rattle.iface.proofs.Addresses.{add_duplicate, add_full, add_end}
use Rattle.iface.proofs.addr.IfaceAddrs.add_ip_addr.Goals as goal

pub returns-then-is_some : goal.returns-then-is_some
returns-then-is_some c =
    add_duplicate c.args.self _ c.args.cidr _ c.check_prefix.ensures c.in_default.is _ (search rules) refl _ c.place_of.ensures (sym c.is_some.ensures ∙ c.if-is_some.true)

pub returns-then-count-eq-IFACE_ADDR_COUNT : goal.returns-then-count-eq-IFACE_ADDR_COUNT
returns-then-count-eq-IFACE_ADDR_COUNT c =
    add_full c.args.self _ c.args.cidr _ c.check_prefix.ensures c.in_default.is _ (search rules) c.count_of-count.ensures _ c.place_of.ensures (sym c.is_some.ensures ∙ c.if-is_some.false)
    c.if-count-eq-IFACE_ADDR_COUNT.true

pub returns : goal.returns
returns c =
    add_end c.args.self _ c.args.cidr _ c.check_prefix.ensures c.in_default.is _ (search rules) c.count_of-count.ensures _ c.place_of.ensures _ c.manual.ensures
    (sym c.is_some.ensures ∙ c.if-is_some.false) (omega (arith, c.count_of-count.ensures, c.if-count-eq-IFACE_ADDR_COUNT.false))
