-- What keeps an address, a route, a prefix and a router in their tables. Assumes nothing.
use Prim.Native.Nat.{ℕ, ◌+◌, ◌≤◌, ◌<◌, min}
use borrow.Author.Tests.{eqb-true, eq-eqb, ltb-false}
use lib.Dec.{eqb, ltb}
use lib.ListN.{length}
use mathlib.Core.Bool.{Bool, true, false, cond, not, ◌&&◌, ◌||◌, true≢false}
use mathlib.Core.List.{List, [], ◌∷◌, ◌++◌}
use mathlib.Core.Path.{◌≡◌, refl, sym, ap, ◌∙◌, subst}
use native.Mathlib.Omega.{arith}
use Rattle.claims.proofs.Lists.{lift, or_none, any_append, any_first, any_kept, all_first, all_if, all_with, all_kept}
use Rattle.claims.specs.Early.{stands, Earlier, Reaches, LastsTo, route_stands, RouterLastsTo, RouterSpares}
use Rattle.claims.specs.Lists.{All}
use Rattle.autoconf.specs.AdvertRules.{options_in, prefix_options, step2, steps2to4}
use Rattle.iface.specs.AddressRules.{is_addr, is_from_slaac, slaac_addr, refreshed, gone, put_addr, drop_addr, anywhere}
use Rattle.iface.specs.RouteRules.{is_slaac, is_route, is_installed, is_learned, extended, none_left_is, put_route, drop_route, clear_routes}
use Rattle.iface.specs.declared.addr.IfaceAddr.{IfaceAddr}
use Rattle.iface.specs.declared.addr.Preferred.{Preferred}
use Rattle.iface.specs.declared.route.Route.{Route}
use Rattle.slaac.specs.ExpiryRules.{prefix_gone, router_gone, leave_expired}
use Rattle.slaac.specs.LearnedRules.{prefixes_of, routers_of, is_skipped, is_prefix, cidr_of, infinite, until_of, prefix_of, put_over, add_prefix, prefix_ends, expire_prefix, process_prefix_is, is_router, add_router, router_ends, expire_router, process_router_is}
use Rattle.table.specs.Table.{if_room, fold_over, kept, at_first_is}
use Rattle.slaac.specs.declared.Prefix.{Prefix}
use Rattle.slaac.specs.declared.Router.{Router}
use Rattle.slaac.specs.declared.Slaac.{Slaac}
use Rattle.ndisc.specs.Rfc4861Messages.{router_advert_at}
use Rattle.ndisc.specs.declared.ndiscoption.PrefixInformation.{PrefixInformation}
use Rattle.neighbor.proofs.Keys.{and_true}
use Rattle.time.specs.ClockRules.{is_after}
use Rattle.time.specs.TimeRules.{add_of, seconds_of}
use Rattle.time.specs.declared.Duration.{Duration}
use Rattle.time.specs.declared.Expiry.TheVariants.{At, Forever}
use Rattle.time.specs.declared.Expiry.{Expiry}
use Rattle.time.specs.declared.Instant.{Instant}
use Rattle.wire.specs.Rfc2464.{formed_of}
use Rattle.wire.specs.Rfc4291.{is_link_local, is_multicast, same_addr, same_cidr}
use Rattle.wire.specs.declared.ethernet.HardwareAddress.{HardwareAddress}
use Rattle.wire.specs.declared.ipv6.Formed.TheVariants.{Addr}
use Rattle.wire.specs.declared.ipv6.Ipv6Addr.{Ipv6Addr}
use Rattle.wire.specs.declared.ipv6.Ipv6Cidr.{Ipv6Cidr}

-- Equal addresses, tested and stated

pub same_addr_lem : (a b : Ipv6Addr) → same_addr a b ≡ true → a ≡ b
same_addr_lem a b e = λ i. record { hi = eqb-true a.hi b.hi x.0 i; lo = eqb-true a.lo b.lo x.1 i }
  where
    x : (eqb a.hi b.hi ≡ true) × (eqb a.lo b.lo ≡ true)
    x = and_true _ _ e

pub same_cidr_lem : (a b : Ipv6Cidr) → same_cidr a b ≡ true → a ≡ b
same_cidr_lem a b e =
    λ i. record { address = same_addr_lem a.address b.address x.0 i; prefix_len = eqb-true a.prefix_len b.prefix_len x.1 i }
  where
    x : (same_addr a.address b.address ≡ true) × (eqb a.prefix_len b.prefix_len ≡ true)
    x = and_true _ _ e

pub same_addr_refl : (a : Ipv6Addr) → same_addr a a ≡ true
same_addr_refl a = rw (eq-eqb a.hi a.hi refl, eq-eqb a.lo a.lo refl)

-- The address table

pub other : (e c a : Ipv6Cidr) → same_cidr e c ≡ true → same_cidr c a ≡ false → same_cidr e a ≡ false
other e c a p q = ap (λ (x : Ipv6Cidr). same_cidr x a) (same_cidr_lem e c p) ∙ q

first_keeps : (a c : Ipv6Cidr) (p : Preferred) (new es : List IfaceAddr) → stands a es ≡ true → stands a (at_first_is (is_addr c) (refreshed p) new es) ≡ true
first_keeps a c p new [] h = absurd (true≢false (sym h))
first_keeps a c p new (e ∷ es) h = go (is_addr c e) (first_keeps a c p new es)
  where
    same : (b : Bool) → is_from_slaac e ≡ b → stands a (cond b (slaac_addr e.cidr p ∷ []) (e ∷ []) ++ es) ≡ true
    same true q = turned (is_addr a e) (rw q at h)
      where
        turned : (y : Bool) → cond y true (stands a es) ≡ true → cond y true (stands a es) ≡ true
        turned y r = r
    same false q = h

    go : (x : Bool) → (stands a es ≡ true → stands a (at_first_is (is_addr c) (refreshed p) new es) ≡ true)
        → stands a (cond x (refreshed p e ++ es) (e ∷ at_first_is (is_addr c) (refreshed p) new es)) ≡ true
    go true f = same (is_from_slaac e) refl
    go false f = lift (is_addr a e) _ _ _ f h

pub put_stands : (a c : Ipv6Cidr) (p : Preferred) (es : List IfaceAddr) → stands a es ≡ true → stands a (put_addr c p es) ≡ true
unfolding put_addr
put_stands a c p es h = first_keeps a c p _ es h

first_drops : (a c : Ipv6Cidr) → same_cidr c a ≡ false → (es : List IfaceAddr) → stands a es ≡ true → stands a (at_first_is (is_addr c) gone [] es) ≡ true
first_drops a c n [] h = absurd (true≢false (sym h))
first_drops a c n (e ∷ es) h = go (is_addr c e) refl (first_drops a c n es)
  where
    less : (b : Bool) → is_addr c e ≡ true → stands a (cond b [] (e ∷ []) ++ es) ≡ true
    less true q = ap (λ (y : Bool). cond y (is_from_slaac e) (stands a es)) (sym (other e.cidr c a q n)) ∙ h
    less false q = h

    go : (x : Bool) → is_addr c e ≡ x → (stands a es ≡ true → stands a (at_first_is (is_addr c) gone [] es) ≡ true)
        → stands a (cond x (gone e ++ es) (e ∷ at_first_is (is_addr c) gone [] es)) ≡ true
    go true q f = less (is_from_slaac e) q
    go false q f = lift (is_addr a e) _ _ _ f h

pub drop_stands : (a c : Ipv6Cidr) → same_cidr c a ≡ false → (es : List IfaceAddr) → stands a es ≡ true → stands a (drop_addr c es) ≡ true
unfolding drop_addr
drop_stands a c n es h = first_drops a c n es h

pub add_stands : (a : Ipv6Cidr) (e : IfaceAddr) (es : List IfaceAddr) → stands a es ≡ true → stands a (es ++ (e ∷ [])) ≡ true
add_stands a e [] h = absurd (true≢false (sym h))
add_stands a e (x ∷ es) h = lift (is_addr a x) (is_from_slaac x) (stands a es) _ (add_stands a e es) h

-- The prefix table

-- what a router's entry and the flags do leaves the prefixes
router_prefixes : (now : Instant) (s : Slaac) (source : Ipv6Addr) (d : Duration) → prefixes_of (process_router_is now s source d) ≡ prefixes_of s
unfolding process_router_is add_router expire_router
router_prefixes now s source d = go (ltb 0 d.0)
  where
    go : (x : Bool) → prefixes_of (cond {A = Slaac} x (add_router s (record { addr = source; valid_until = add_of now d })) (expire_router s source now)) ≡ prefixes_of s
    go true = refl
    go false = refl

pub steps_prefixes : (s : Slaac) (source : Ipv6Addr) (msg : List ℕ) (now : Instant)
    → prefixes_of (steps2to4 s source msg now) ≡ prefixes_of (fold_over (process_prefix_is now) s (prefix_options (options_in msg)))
unfolding step2
steps_prefixes s source msg now = router_prefixes now (fold_over (process_prefix_is now) s (prefix_options (options_in msg))) source (seconds_of (router_advert_at msg).router_lifetime)

-- a lifetime of 0 that reaches v from now: now does
pub at_once : (v : Expiry) (now : Instant) (s : ℕ) → s ≤ 0 → Reaches v (until_of now s) → Reaches v (At now)
at_once v now s z h = go v (eqb s infinite) refl h
  where
    go : (v : Expiry) (b : Bool) → eqb s infinite ≡ b → Reaches v (cond b Forever (At (add_of now (seconds_of s)))) → Reaches v (At now)
    go v true e r = absurd (omega (arith, eqb-true s infinite e))
    go (At u) false e r = omega arith
    go Forever false e r = r

-- "One is skipped if prefix length > 128, .. the prefix is link-local"
pub unskipped : (o : PrefixInformation) → is_skipped o ≡ false → (o.prefix_len ≤ 128) × (is_link_local o.prefix ≡ false)
unskipped o e =
    let first = or_none (((ltb 128 o.prefix_len || not o.addrconf) || is_link_local o.prefix) || is_multicast o.prefix) _ e in
    let second = or_none ((ltb 128 o.prefix_len || not o.addrconf) || is_link_local o.prefix) _ first.0 in
    let third = or_none (ltb 128 o.prefix_len || not o.addrconf) _ second.0 in
    (ltb-false 128 o.prefix_len (or_none (ltb 128 o.prefix_len) _ third.0).0, third.1)

-- what holds of every prefix: an advertisement keeps it if it holds of each prefix that is put, and of one that an option without a lifetime ends
module _ (P : Prefix → Type 0)
    (ends : (now : Instant) (o : PrefixInformation) → o.valid_lifetime ≤ 0 → P (prefix_of o now) → (x : Prefix) → is_prefix (cidr_of o) x ≡ true → All P (prefix_ends now x)) where
  add_all : (s : Slaac) (p : Prefix) → All P (prefixes_of s) → P p → All P (prefixes_of (add_prefix s p))
  unfolding add_prefix
  add_all s p h g =
      all_with P s.prefixes (at_first_is (is_prefix p.cidr) (put_over p) (if_room 4 (prefixes_of s) p) (prefixes_of s))
      (all_first P (is_prefix p.cidr) (put_over p) (if_room 4 (prefixes_of s) p) (prefixes_of s) h (all_if P (ltb (length (prefixes_of s)) 4) p g) (λ x e q. (g, tt)))

  expire_all : (s : Slaac) (c : Ipv6Cidr) (now : Instant) → All P (prefixes_of s) → ((x : Prefix) → is_prefix c x ≡ true → All P (prefix_ends now x))
      → All P (prefixes_of (expire_prefix s c now))
  unfolding expire_prefix
  expire_all s c now h g =
      all_with P s.prefixes (at_first_is (is_prefix c) (prefix_ends now) [] (prefixes_of s))
      (all_first P (is_prefix c) (prefix_ends now) [] (prefixes_of s) h tt (λ x e q. g x e))

  pub process_all : (now : Instant) (s : Slaac) (o : PrefixInformation) → All P (prefixes_of s) → (is_skipped o ≡ false → P (prefix_of o now))
      → All P (prefixes_of (process_prefix_is now s o))
  unfolding process_prefix_is
  process_all now s o h g = go (is_skipped o) (ltb 0 o.valid_lifetime) refl refl
    where
      go : (x y : Bool) → is_skipped o ≡ x → ltb 0 o.valid_lifetime ≡ y
          → All P (prefixes_of (cond {A = Slaac} x s (cond {A = Slaac} y (add_prefix s (prefix_of o now)) (expire_prefix s (cidr_of o) now))))
      go true y ex ey = h
      go false true ex ey = add_all s (prefix_of o now) h (g ex)
      go false false ex ey = expire_all s (cidr_of o) now h (λ x e. ends now o (ltb-false 0 o.valid_lifetime ey) (g ex) x e)

  options_all : (now : Instant) (os : List PrefixInformation) (s : Slaac) → All P (prefixes_of s) → All (λ o. is_skipped o ≡ false → P (prefix_of o now)) os
      → All P (prefixes_of (fold_over (process_prefix_is now) s os))
  options_all now [] s l h = l
  options_all now (o ∷ os) s l h = options_all now os (process_prefix_is now s o) (process_all now s o l h.0) h.1

  pub learned_all : (s : Slaac) (source : Ipv6Addr) (msg : List ℕ) (now : Instant) → All P (prefixes_of s)
      → All (λ o. is_skipped o ≡ false → P (prefix_of o now)) (prefix_options (options_in msg)) → All P (prefixes_of (steps2to4 s source msg now))
  learned_all s source msg now l h = subst (All P) (sym (steps_prefixes s source msg now)) (options_all now (prefix_options (options_in msg)) s l h)

pub leave_all : (P : Prefix → Type 0) (now : Instant) (s : Slaac) → All P (prefixes_of s) → All P (prefixes_of (leave_expired now s))
unfolding leave_expired
leave_all P now s h = all_with P s.prefixes (kept (prefix_gone now) (prefixes_of s)) (all_kept P (prefix_gone now) (prefixes_of s) h)

-- The routes

-- a default route that is installed is of its interface and its router
module _ (i : ℕ) (via : Ipv6Addr) (e : Route) (h : is_installed i via e ≡ true) where
  pub installed_route : is_route i anywhere via e ≡ true
  installed_route = (and_true (is_slaac e.origin) (is_route i anywhere via e) h).1

  pub installed_here : e.iface ≡ i
  installed_here =
      eqb-true e.iface i
      (and_true (eqb e.iface i) (same_cidr e.cidr anywhere)
      (and_true (eqb e.iface i && same_cidr e.cidr anywhere) (same_addr e.via_router via) installed_route).0).0

  pub installed_via : e.via_router ≡ via
  installed_via =
      same_addr_lem e.via_router via
      (and_true (eqb e.iface i && same_cidr e.cidr anywhere) (same_addr e.via_router via) installed_route).1

-- so if it is two routers' it is one router's, of one interface
pub same_route : (i j : ℕ) (via by : Ipv6Addr) (e : Route) → is_installed j by e ≡ true → is_installed i via e ≡ true → (j ≡ i) × (by ≡ via)
same_route i j via by e p q = (sym (installed_here j by e p) ∙ installed_here i via e q, sym (installed_via j by e p) ∙ installed_via i via e q)

pub put_route_stands : (i j : ℕ) (via by : Ipv6Addr) (t : Instant) (es : List Route) → route_stands i via es ≡ true → route_stands i via (put_route j by t es) ≡ true
unfolding put_route
put_route_stands i j via by t es h = any_first (is_installed i via) (is_installed j by) (extended t) _ es h (λ x e q. rw (installed_route i via x q))

pub drop_route_stands : (i j : ℕ) (via by : Ipv6Addr) (es : List Route) → (j ≡ i → by ≡ via → ⊥) → route_stands i via es ≡ true
    → route_stands i via (drop_route j by es) ≡ true
unfolding drop_route
drop_route_stands i j via by es n h =
    any_first (is_installed i via) (is_installed j by) none_left_is [] es h (λ x e q. let z = same_route i j via by x e q in absurd (n z.0 z.1))

pub clear_route_stands : (i j : ℕ) (via : Ipv6Addr) (es : List Route) → (j ≡ i → ⊥) → route_stands i via es ≡ true → route_stands i via (clear_routes j es) ≡ true
unfolding clear_routes
clear_route_stands i j via es n h = any_kept (is_installed i via) (is_learned j) (λ x q. spared x q (is_learned j x) refl) es h
  where
    spared : (x : Route) → is_installed i via x ≡ true → (b : Bool) → is_learned j x ≡ b → b ≡ false
    spared x q true e =
        absurd (n (sym (eqb-true x.iface j (and_true (is_slaac x.origin) (eqb x.iface j) e).1) ∙ installed_here i via x q))
    spared x q false e = refl

pub add_route_stands : (i : ℕ) (via : Ipv6Addr) (e : Route) (es : List Route) → route_stands i via es ≡ true → route_stands i via (es ++ (e ∷ [])) ≡ true
add_route_stands i via e es h = any_append (is_installed i via) es (e ∷ []) h

-- The routers

module _ (v : ℕ) (via : Ipv6Addr) where
  abbrev stays : Router → Type 0
  stays = RouterLastsTo v via

  pub process_router_lem : (now : Instant) (s : Slaac) (source : Ipv6Addr) (d : Duration) → All stays (routers_of s) → RouterSpares v via now source d
      → All stays (routers_of (process_router_is now s source d))
  unfolding process_router_is add_router expire_router
  process_router_lem now s source d h g = go (ltb 0 d.0) refl
    where
      new : Router
      new = record { addr = source; valid_until = add_of now d }

      at_once : d.0 ≤ 0 → v ≤ min (now.0 + d.0) 0xffff_ffff_ffff_ffff → v ≤ now.0
      at_once z e = omega arith

      go : (x : Bool) → ltb 0 d.0 ≡ x → All stays (routers_of (cond {A = Slaac} x (add_router s new) (expire_router s source now)))
      go true e =
          all_with stays s.routers (at_first_is (is_router source) (put_over new) (if_room 2 (routers_of s) new) (routers_of s))
          (all_first stays (is_router source) (put_over new) (if_room 2 (routers_of s) new) (routers_of s) h (all_if stays (ltb (length (routers_of s)) 2) new g) (λ x e q. (g, tt)))
      go false e =
          all_with stays s.routers (at_first_is (is_router source) (router_ends now) [] (routers_of s))
          (all_first stays (is_router source) (router_ends now) [] (routers_of s) h tt
          (λ x t q. ((λ f. at_once (ltb-false 0 d.0 e) (g (subst (λ (y : Ipv6Addr). same_addr y via ≡ true) (same_addr_lem x.addr source t) f))), tt)))

  pub leave_router : (now : Instant) (s : Slaac) → All stays (routers_of s) → All stays (routers_of (leave_expired now s))
  unfolding leave_expired
  leave_router now s h = all_with stays s.routers (kept (router_gone now) (routers_of s)) (all_kept stays (router_gone now) (routers_of s) h)

-- what the options do leaves the routers
option_routers : (now : Instant) (s : Slaac) (o : PrefixInformation) → routers_of (process_prefix_is now s o) ≡ routers_of s
unfolding process_prefix_is add_prefix expire_prefix
option_routers now s o = go (is_skipped o) (ltb 0 o.valid_lifetime)
  where
    go : (x y : Bool) → routers_of (cond {A = Slaac} x s (cond {A = Slaac} y (add_prefix s (prefix_of o now)) (expire_prefix s (cidr_of o) now))) ≡ routers_of s
    go true y = refl
    go false true = refl
    go false false = refl

pub options_routers : (now : Instant) (os : List PrefixInformation) (s : Slaac) → routers_of (fold_over (process_prefix_is now) s os) ≡ routers_of s
options_routers now [] s = refl
options_routers now (o ∷ os) s = options_routers now os (process_prefix_is now s o) ∙ option_routers now s o

-- The sync, before v

-- an expired prefix forms another address
pub outlasts : (v e : Expiry) (now : Instant) → Earlier v now → Reaches v e → is_after e now ≡ false → ⊥
outlasts v Forever now early long h = true≢false h
outlasts (At v) (At e) now early long h = omega (arith, ltb-false now.0 e.0 h)
outlasts Forever (At e) now early long h = long

pub expired_other : (v : Expiry) (hw : HardwareAddress) (a c : Ipv6Cidr) (now : Instant) (p : Prefix) → Earlier v now → LastsTo v hw a p
    → formed_of hw p.cidr ≡ Addr c → is_after p.valid_until now ≡ false → same_cidr c a ≡ false
expired_other v hw a c now p early lasts f e = go (same_cidr c a) refl
  where
    go : (b : Bool) → same_cidr c a ≡ b → b ≡ false
    go true q = absurd (outlasts v p.valid_until now early (lasts (f ∙ ap Addr (same_cidr_lem c a q))) e)
    go false q = refl

-- an expired router is another
pub expired_router : (v : ℕ) (via : Ipv6Addr) (now : Instant) (r : Router) → now.0 < v → RouterLastsTo v via r
    → is_after (At r.valid_until) now ≡ false → r.addr ≡ via → ⊥
expired_router v via now r early lasts e same =
    let long : v ≤ r.valid_until.0 = lasts (rw same (same_addr_refl via)) in
    omega (arith, ltb-false now.0 r.valid_until.0 e)
