-- Laws of the table of routes: what each arm of a call leaves is what its rule says. Assumes nothing.
use Prim.Native.Nat.{ℕ, ◌+◌, ◌-◌, ◌<◌, min}
use lib.ListN.{length, length-append, set, take}
use mathlib.Core.Bool.{true, false, true≢false}
use mathlib.Core.List.{List, [], ◌∷◌, ◌++◌}
use mathlib.Core.Path.{◌≡◌, refl, ap, ap₂, sym, ◌∙◌}
use native.Mathlib.Omega.{arith}
use Rattle.std.specs.Prelude.{Result, Ok, Err}
use Rattle.iface.proofs.Checks.{is_duplicate, is_fine, is_full}
use Rattle.iface.specs.Answers.{prefix_rows}
use Rattle.iface.specs.RouteRules.{routes_of, with_routes, no_route, is_manual_route, manual_route, route_check, add_route_by, AddedRouteTo, is_learned, is_installed, none_left_is, drop_route, clear_routes}
use Rattle.iface.specs.declared.route.Route.{Route}
use Rattle.iface.specs.declared.route.Routes.{Routes}
use Rattle.table.proofs.Laws.{Made, at_end, counted, take_count, Finding, found_goes, found_any, absent_stays, absent_any}
use Rattle.std.proofs.Common.{Option, Some, None, is_some}
use Rattle.table.proofs.Placed.{placed_below, placed_passes, placed_finding, absent_finding}
use Rattle.table.proofs.Calls.{removed}
use Rattle.table.specs.Calls.{place_of}
use Rattle.table.specs.Table.{filled, kept, without}
use Rattle.wire.specs.Refusals.{check_number, Tested}
use Rattle.wire.specs.declared.error.Refusal.TheVariants.{Duplicate, Full}
use Rattle.wire.specs.declared.error.Refusal.{Refusal}
use Rattle.wire.specs.declared.ipv6.Ipv6Addr.{Ipv6Addr}
use Rattle.wire.specs.declared.ipv6.Ipv6Cidr.{Ipv6Cidr}

pub routes_made : (t : Routes) (es s : List Route) (n : ℕ) → Made t.slots es s n
    → ◌≡◌ {A = Routes} (record { slots = s; len = n }) (with_routes t es)
routes_made t es s n m = ap₂ (λ (a : List Route) (b : ℕ). record { slots = a; len = b }) m.slots m.count

-- The application's call

module _ (t : Routes) (iface : ℕ) (c : Ipv6Cidr) (via : Ipv6Addr) (x : Result (Unit {0}) Refusal) (test : Tested (prefix_rows iface c) x) where
  refuses : (why : Refusal) → route_check iface c via (routes_of t) ≡ Err why
      → AddedRouteTo t iface c via (record { routes = t; outcome = Err why })
  refuses why z = record { is = sym (ap (λ (y : Result (Unit {0}) Refusal). add_route_by y t (manual_route iface c via)) z); number = sym (ap check_number z) }

  module _ (f : x ≡ Ok tt) (k : ℕ) (full : length t.slots ≡ 8) (e : k ≡ min t.len 8) (r : Option ℕ)
      (place : r ≡ place_of (is_manual_route iface c via) (routes_of t)) where
    pub add_duplicate : is_some r ≡ true → AddedRouteTo t iface c via (record { routes = t; outcome = Err Duplicate })
    add_duplicate h = go r place h
      where
        go : (r : Option ℕ) → r ≡ place_of (is_manual_route iface c via) (routes_of t) → is_some r ≡ true
            → AddedRouteTo t iface c via (record { routes = t; outcome = Err Duplicate })
        go None p h = absurd (true≢false (sym h))
        go (Some i) p h =
            let inv = placed_finding no_route (is_manual_route iface c via) t.slots t.len full e (sym p) none_left_is [] in
            refuses Duplicate (is_duplicate (prefix_rows iface c) test _ (routes_of t) f
            (found_any no_route inv (placed_below no_route (is_manual_route iface c via) t.slots t.len full e (sym p))
            (placed_passes no_route (is_manual_route iface c via) t.slots t.len full e (sym p))))

    missing : is_some r ≡ false → Finding 8 (is_manual_route iface c via) none_left_is [] t.slots t.len k k
    missing h = go r place h
      where
        go : (r : Option ℕ) → r ≡ place_of (is_manual_route iface c via) (routes_of t) → is_some r ≡ false
            → Finding 8 (is_manual_route iface c via) none_left_is [] t.slots t.len k k
        go None p h = absent_finding no_route (is_manual_route iface c via) t.slots t.len full e (sym p) none_left_is []
        go (Some i) p h = absurd (true≢false h)

    pub add_full : is_some r ≡ false → k ≡ 8 → AddedRouteTo t iface c via (record { routes = t; outcome = Err Full })
    add_full h l =
        let inv = missing h in
        refuses Full (is_full (prefix_rows iface c) test _ (routes_of t) f (absent_any no_route inv (omega arith)) k inv.count l)

    pub add_end : (y : Route) → y ≡ manual_route iface c via → is_some r ≡ false → k < 8
        → AddedRouteTo t iface c via (record { routes = record { slots = set t.slots k y; len = k + 1 }; outcome = Ok tt })
    add_end y q h l =
        let inv = missing h in
        let new : Route = manual_route iface c via in
        let z : route_check iface c via (routes_of t) ≡ Ok tt =
        is_fine (prefix_rows iface c) test _ (routes_of t) f (absent_any no_route inv (omega arith)) k inv.count l in
        let n : k + 1 ≡ length (routes_of t ++ (new ∷ [])) = simp length-append (omega (arith, inv.count)) in
        let s : set t.slots k y ≡ _ = ap (λ (w : Route). set t.slots k w) q ∙ at_end t.slots t.len k inv.count new (omega (arith, inv.full)) in
        let m : Made t.slots (routes_of t ++ (new ∷ [])) (set t.slots k y) (k + 1) = record { slots = s; count = n } in
        record {
          is =
              ap (λ (a : Routes). record { routes = a; outcome = Ok tt }) (routes_made t _ _ (k + 1) m)
              ∙ sym (ap (λ (y : Result (Unit {0}) Refusal). add_route_by y t new) z);
          number = sym (ap check_number z);
        }

-- SLAAC's calls

module _ (t : Routes) (iface : ℕ) (via : Ipv6Addr) (k : ℕ) (full : length t.slots ≡ 8) (e : k ≡ min t.len 8) where
  module _ (i : ℕ) (p : place_of (is_installed iface via) (routes_of t) ≡ Some i) where
    pub drop_at : i < k
    drop_at = placed_below no_route (is_installed iface via) t.slots t.len full e p

    pub drop_out : (s : List Route) → s ≡ filled t.slots (without (take k t.slots) i)
        → ◌≡◌ {A = Routes} (record { slots = s; len = k - 1 }) (with_routes t (drop_route iface via (routes_of t)))
    unfolding drop_route
    drop_out s q =
        let here = placed_finding no_route (is_installed iface via) t.slots t.len full e p none_left_is [] in
        let m : Made t.slots (without (routes_of t) i) s (k - 1) = removed t.slots t.len k i here.count drop_at s q in
        routes_made t _ s (k - 1) m
        ∙ ap (λ (es : List Route). with_routes t es)
        (found_goes no_route here drop_at (placed_passes no_route (is_installed iface via) t.slots t.len full e p) refl)

  pub drop_none : place_of (is_installed iface via) (routes_of t) ≡ None
      → ◌≡◌ {A = Routes} (record { slots = t.slots; len = k }) (with_routes t (drop_route iface via (routes_of t)))
  unfolding drop_route
  drop_none p =
      routes_made t _ _ k (absent_stays no_route (absent_finding no_route (is_installed iface via) t.slots t.len full e p none_left_is []) (omega arith) refl)

pub routes_cleared : (t : Routes) (iface k : ℕ) → length t.slots ≡ 8 → k ≡ min t.len 8 → (s : List Route) (w : ℕ)
    → (s ≡ filled t.slots (kept (is_learned iface) (take k t.slots))) × (w ≡ length (kept (is_learned iface) (take k t.slots)))
    → ◌≡◌ {A = Routes} (record { slots = s; len = w }) (with_routes t (clear_routes iface (routes_of t)))
unfolding clear_routes
routes_cleared t iface k full e s w m =
    let es : take k t.slots ≡ routes_of t = take_count t.slots t.len k (counted t.slots t.len 8 k full e) in
    routes_made t _ s w
    (record {
      slots = m.0 ∙ ap (λ (l : List Route). filled t.slots (kept (is_learned iface) l)) es;
      count = m.1 ∙ ap (λ (l : List Route). length (kept (is_learned iface) l)) es;
    })
