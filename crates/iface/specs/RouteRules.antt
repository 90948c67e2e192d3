-- Document 01: the routes, what the application adds and what SLAAC's sync does to them. Rules are on the entries, a list; slots past the
-- entries keep what they held. Assumes nothing.
use Rattle.std.specs.Prelude.{ℕ, ◌≡◌, Bool, true, false, cond, ◌&&◌, not, List, [], ◌∷◌, ◌++◌, take, drop, length, get_or, replicate, ltb, eqb, Result, Ok, Err, Option, Some, None}
use Rattle.table.specs.Table.{filled, kept, at_first_is, any_of, if_room}
use Rattle.time.specs.declared.Instant.{Instant}
use Rattle.time.specs.declared.Expiry.TheVariants.{Forever, At}
use Rattle.wire.specs.declared.ipv6.Ipv6Addr.{Ipv6Addr}
use Rattle.wire.specs.declared.ipv6.Ipv6Cidr.{Ipv6Cidr}
use Rattle.wire.specs.declared.error.Refusal.{Refusal}
use Rattle.wire.specs.Rfc4291.{same_addr, same_cidr}
use Rattle.wire.specs.Refusals.{Row, first_refusal, check_number, outcome_number, decided, no_such_iface}
use Rattle.iface.specs.declared.route.RouteOrigin.{RouteOrigin}
use Rattle.iface.specs.declared.route.RouteOrigin.TheVariants.{Manual, Slaac}
use Rattle.iface.specs.declared.route.Route.{Route}
use Rattle.iface.specs.declared.route.Routes.{Routes}
use Rattle.iface.specs.declared.route.AddedRoute.{AddedRoute}
use Rattle.iface.specs.Answers.{prefix_too_long, duplicate, no_room_is, route_at_number, route_at_shown}
use Rattle.iface.specs.AddressRules.{anywhere}

-- the entries: the first `len` slots, "routes 8"; "A count above its size reads as the size"
abbrev pub routes_of : Routes → List Route
routes_of t = take t.len t.slots

-- the table with these entries, whose slots past them hold what they held
abbrev pub with_routes : Routes → List Route → Routes
with_routes t es = record { slots = filled t.slots es; len = length es }

abbrev pub is_slaac : RouteOrigin → Bool
is_slaac Manual = false
is_slaac Slaac = true

-- "What the application adds has no expiry."
abbrev pub manual_route : ℕ → Ipv6Cidr → Ipv6Addr → Route
manual_route iface c via = record { cidr = c; via_router = via; iface = iface; origin = Manual; expires_at = Forever }

-- what a slot that was never used holds
abbrev pub no_route : Route
no_route = record { cidr = anywhere; via_router = record { hi = 0; lo = 0 }; iface = 0; origin = Manual; expires_at = At (record { 0 = 0 }) }

abbrev pub empty_routes : Routes
empty_routes = record { slots = replicate 8 no_route; len = 0 }

-- "prefix, router and interface"
abbrev pub is_route : ℕ → Ipv6Cidr → Ipv6Addr → Route → Bool
is_route iface c via e = (eqb e.iface iface && same_cidr e.cidr c) && same_addr e.via_router via

-- The application's call

abbrev pub is_manual_route : ℕ → Ipv6Cidr → Ipv6Addr → Route → Bool
is_manual_route iface c via e = not (is_slaac e.origin) && is_route iface c via e

-- 7, 14, then 9: "a route equal to an application's in prefix, router and interface", then 8
abbrev pub route_rows : ℕ → Ipv6Cidr → Ipv6Addr → List Route → List Row
route_rows iface c via es = no_such_iface iface ∷ prefix_too_long c ∷ duplicate (any_of (is_manual_route iface c via) es) ∷ no_room_is 8 es ∷ []

abbrev pub route_check : ℕ → Ipv6Cidr → Ipv6Addr → List Route → Result (Unit {0}) Refusal
route_check iface c via es = first_refusal (route_rows iface c via es)

abbrev pub not_added : Routes → Refusal → AddedRoute
not_added t why = record { routes = t; outcome = Err why }

abbrev pub add_route_by : Result (Unit {0}) Refusal → Routes → Route → AddedRoute
add_route_by check t e = decided check (not_added t) (record { routes = with_routes t (routes_of t ++ (e ∷ [])); outcome = Ok tt })

pub record AddedRouteTo (t : Routes) (iface : ℕ) (c : Ipv6Cidr) (via : Ipv6Addr) (r : AddedRoute) : Type 0 where
  pub is : r ≡ add_route_by (route_check iface c via (routes_of t)) t (manual_route iface c via)
  pub number : outcome_number r.outcome ≡ check_number (route_check iface c via (routes_of t))

-- SLAAC's calls: "Routers likewise, as default routes, heeding only this interface's SLAAC routes."

-- a SLAAC route of this interface
abbrev pub is_learned : ℕ → Route → Bool
is_learned iface e = is_slaac e.origin && eqb e.iface iface

-- its default route by that router
abbrev pub is_installed : ℕ → Ipv6Addr → Route → Bool
is_installed iface via e = is_slaac e.origin && is_route iface anywhere via e

abbrev pub slaac_route : ℕ → Ipv6Addr → Instant → Route
slaac_route iface via t = record { cidr = anywhere; via_router = via; iface = iface; origin = Slaac; expires_at = At t }

abbrev pub extended : Instant → Route → List Route
extended t e = record { cidr = e.cidr; via_router = e.via_router; iface = e.iface; origin = Slaac; expires_at = At t } ∷ []

-- it takes the new time; a missing one is appended if there is room
unfoldable pub put_route : ℕ → Ipv6Addr → Instant → List Route → List Route
put_route iface via t es = at_first_is (is_installed iface via) (extended t) (if_room 8 es (slaac_route iface via t)) es

-- it goes, and later ones move down
abbrev pub none_left_is : Route → List Route
none_left_is e = []

unfoldable pub drop_route : ℕ → Ipv6Addr → List Route → List Route
drop_route iface via es = at_first_is (is_installed iface via) none_left_is [] es

-- "Turning SLAAC off removes its addresses and routes"
unfoldable pub clear_routes : ℕ → List Route → List Route
clear_routes iface es = kept (is_learned iface) es

-- Listing: the entry at an index

abbrev pub route_at : Routes → ℕ → Option Route
route_at t i = cond (ltb i (length (routes_of t))) (Some (get_or (routes_of t) i no_route)) None

pub record RouteListed (t : Routes) (i : ℕ) (r : Option Route) : Type 0 where
  pub is : r ≡ route_at t i
  pub number : route_at_number r ≡ 0
  pub shows : route_at_shown r ≡ take 1 (drop i (routes_of t))
