use Rattle.std.proofs.Common.{rules, arith, length, ◌≡◌, refl, sym, ◌∙◌}
use Rattle.autoconf.proofs.SyncLaws.{route_put, route_drop, put_over_lem, put_end, put_none}
use Rattle.iface.specs.RouteRules.{no_route, is_installed, slaac_route, extended}
use Rattle.slaac.proofs.SlotLaws.{placed}
use Rattle.table.proofs.Laws.{mapped}
use Rattle.autoconf.proofs.sync.sync_router.Goals as goal

pub returns-then-not-is_valid : goal.returns-then-not-is_valid
returns-then-not-is_valid c = route_drop _ _ _ _ _ (sym c.is_valid.ensures ∙ c.if-not-is_valid.true) c.drop_route.ensures

pub offset_bounds-routes-at : goal.offset_bounds-routes-at
offset_bounds-routes-at c =
    let w = placed _ _ _ _ (c.position.ensures (is_installed c.args.iface c.args.router.addr) (λ x b q. search rules)) _ c.in-Some.is in
    omega arith

pub bounds-routes-at : goal.bounds-routes-at
bounds-routes-at c =
    let w = placed _ _ _ _ (c.position.ensures (is_installed c.args.iface c.args.router.addr) (λ x b q. search rules)) _ c.in-Some.is in
    omega arith

pub returns-in-Some : goal.returns-in-Some
returns-in-Some c =
    let t = c.args.routes.now in
    let full : length t.slots ≡ 8 = search (rules, mapped) in
    route_put _ _ t _ _ _ (sym c.is_valid.ensures ∙ c.if-not-is_valid.false)
    (put_over_lem no_route (is_installed c.args.iface c.args.router.addr) (extended c.args.router.valid_until) (slaac_route c.args.iface c.args.router.addr c.args.router.valid_until)
    t.slots t.len _ _ full c.count_of-count.ensures (c.position.ensures (is_installed c.args.iface c.args.router.addr) (λ x b q. search rules)) _ c.in-Some.is _ refl)

pub returns-then-count-lt-ROUTE_COUNT : goal.returns-then-count-lt-ROUTE_COUNT
returns-then-count-lt-ROUTE_COUNT c =
    let t = c.args.routes.now in
    let full : length t.slots ≡ 8 = search (rules, mapped) in
    route_put _ _ t _ _ _ (sym c.is_valid.ensures ∙ c.if-not-is_valid.false)
    (put_end no_route (is_installed c.args.iface c.args.router.addr) (extended c.args.router.valid_until) (slaac_route c.args.iface c.args.router.addr c.args.router.valid_until)
    t.slots t.len _ _ full c.count_of-count.ensures (c.position.ensures (is_installed c.args.iface c.args.router.addr) (λ x b q. search rules)) c.in_default.is c.if-count-lt-ROUTE_COUNT.true)

pub returns-else-count-lt-ROUTE_COUNT : goal.returns-else-count-lt-ROUTE_COUNT
returns-else-count-lt-ROUTE_COUNT c =
    let t = c.args.routes.now in
    let full : length t.slots ≡ 8 = search (rules, mapped) in
    route_put _ _ t _ _ _ (sym c.is_valid.ensures ∙ c.if-not-is_valid.false)
    (put_none no_route (is_installed c.args.iface c.args.router.addr) (extended c.args.router.valid_until) (slaac_route c.args.iface c.args.router.addr c.args.router.valid_until)
    t.slots t.len _ _ full c.count_of-count.ensures (c.position.ensures (is_installed c.args.iface c.args.router.addr) (λ x b q. search rules)) c.in_default.is c.if-count-lt-ROUTE_COUNT.false)
