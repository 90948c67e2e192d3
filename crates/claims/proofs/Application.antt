-- What the application added never goes. Assumes nothing.
use Prim.Native.Nat.{ℕ}
use mathlib.Core.Bool.{Bool, true, false, cond, true≢false}
use mathlib.Core.List.{List, [], ◌∷◌, ◌++◌}
use lib.Dec.{eqb, ltb}
use lib.ListN.{take, length}
use mathlib.Core.Logic.{inl}
use mathlib.Core.Path.{◌≡◌, refl, sym, ap, ◌∙◌, subst}
use Rattle.std.specs.Prelude.{Result, Ok, Err}
use Rattle.wire.specs.declared.error.Refusal.{Refusal}
use Rattle.claims.proofs.Keeps.{Keeps, keep_step, keep_run}
use Rattle.claims.proofs.Lists.{entries_with, all_of, some_after, some_append, some_with, member_kept, member_first}
use Rattle.claims.specs.Application.{own_addrs, is_route_from_slaac, own_routes, NeverGoes}
use Rattle.claims.specs.Early.{Host, HostCall, add_addr, add_route, Run}
use Rattle.claims.specs.Lists.{Member}
use Rattle.iface.specs.AddressRules.{addrs_of, with_addrs, is_addr, is_slaac, is_from_slaac, slaac_addr, refreshed, gone, manual_addr, add_addr_by, addr_check, AddedTo, put_addr, drop_addr, clear_addrs, anywhere}
use Rattle.iface.specs.RouteRules.{routes_of, with_routes, is_route, is_installed, is_learned, slaac_route, extended, none_left_is, manual_route, add_route_by, route_check, AddedRouteTo, put_route, drop_route, clear_routes}
use Rattle.iface.specs.declared.addr.AddrOrigin.TheVariants.{Manual}
use Rattle.iface.specs.declared.addr.Added.{Added}
use Rattle.iface.specs.declared.addr.IfaceAddr.{IfaceAddr}
use Rattle.iface.specs.declared.addr.IfaceAddrs.{IfaceAddrs}
use Rattle.iface.specs.declared.addr.Preferred.{Preferred}
use Rattle.iface.specs.declared.route.RouteOrigin.TheVariants.{Manual as ManualRoute}
use Rattle.iface.specs.declared.route.AddedRoute.{AddedRoute}
use Rattle.iface.specs.declared.route.Route.{Route}
use Rattle.iface.specs.declared.route.Routes.{Routes}
use Rattle.neighbor.proofs.Keys.{and_true}
use Rattle.slaac.specs.LearnedRules.{prefixes_of, routers_of}
use Rattle.slaac.specs.declared.Prefix.{Prefix}
use Rattle.slaac.specs.declared.Router.{Router}
use Rattle.autoconf.specs.SyncRules.{preferred_of, sync_formed, sync_prefix, sync_router, sync_addrs, sync_routes}
use Rattle.table.specs.Table.{if_room, fold_over, filled, kept, at_first_is}
use Rattle.time.specs.ClockRules.{is_after}
use Rattle.time.specs.declared.Expiry.TheVariants.{At}
use Rattle.time.specs.declared.Instant.{Instant}
use Rattle.wire.specs.Rfc2464.{formed_of}
use Rattle.wire.specs.declared.ethernet.HardwareAddress.{HardwareAddress}
use Rattle.wire.specs.declared.ipv6.Formed.TheVariants.{Nothing, Addr}
use Rattle.wire.specs.declared.ipv6.Formed.{Formed}
use Rattle.wire.specs.declared.ipv6.Ipv6Addr.{Ipv6Addr}
use Rattle.wire.specs.declared.ipv6.Ipv6Cidr.{Ipv6Cidr}

-- what is left without those that `out` says, of which the others are kept

module _ {A : Type 0} (out : A → Bool) where
  rest_append : (xs ys : List A) → kept out (xs ++ ys) ≡ kept out xs ++ kept out ys
  rest_append [] ys = refl
  rest_append (x ∷ xs) ys = go (out x) (rest_append xs ys)
    where
      go : (b : Bool) → kept out (xs ++ ys) ≡ kept out xs ++ kept out ys
          → cond b (kept out (xs ++ ys)) (x ∷ kept out (xs ++ ys)) ≡ cond b (kept out xs) (x ∷ kept out xs) ++ kept out ys
      go true h = h
      go false h = ap (λ (l : List A). x ∷ l) h

  rest_kept : (less : A → Bool) → ((x : A) → less x ≡ true → out x ≡ true) → (xs : List A) → kept out (kept less xs) ≡ kept out xs
  rest_kept less sub [] = refl
  rest_kept less sub (x ∷ xs) = go (less x) refl (rest_kept less sub xs)
    where
      go : (b : Bool) → less x ≡ b → kept out (kept less xs) ≡ kept out xs → kept out (cond b (kept less xs) (x ∷ kept less xs)) ≡ cond (out x) (kept out xs) (x ∷ kept out xs)
      go true q h = rw (sub x q) h
      go false q h = rw h

  rest_first : (test : A → Bool) (f : A → List A) (new : List A) → ((x : A) → test x ≡ true → kept out (f x) ≡ kept out (x ∷ [])) → kept out new ≡ []
      → (xs : List A) → kept out (at_first_is test f new xs) ≡ kept out xs
  rest_first test f new same none-new [] = none-new
  rest_first test f new same none-new (x ∷ xs) = go (test x) refl (rest_first test f new same none-new xs)
    where
      go : (b : Bool) → test x ≡ b → kept out (at_first_is test f new xs) ≡ kept out xs → kept out (cond b (f x ++ xs) (x ∷ at_first_is test f new xs)) ≡ kept out (x ∷ xs)
      go true q h = rest_append (f x) xs ∙ ap (λ (l : List A). l ++ kept out xs) (same x q) ∙ sym (rest_append (x ∷ []) xs)
      go false q h = rw h

  rest_with : (slots xs ys : List A) → kept out xs ≡ ys → kept out (take (length xs) (filled slots xs)) ≡ ys
  rest_with slots xs ys h = rw (entries_with slots xs) h

  rest_if : (b : Bool) (x : A) → out x ≡ true → kept out (cond b (x ∷ []) []) ≡ []
  rest_if true x h = rw h
  rest_if false x h = refl

-- Addresses

module _ (e : IfaceAddr) (own : e.origin ≡ Manual) where
  not_slaac : is_from_slaac e ≡ false
  not_slaac = ap is_slaac own

  put_keeps : (t : IfaceAddrs) (c : Ipv6Cidr) (p : Preferred) → Member e (addrs_of t) → Member e (addrs_of (with_addrs t (put_addr c p (addrs_of t))))
  unfolding put_addr
  put_keeps t c p m =
      some_with (λ x. x ≡ e) t.slots (at_first_is (is_addr c) (refreshed p) (if_room 8 (addrs_of t) (slaac_addr c p)) (addrs_of t))
      (member_first e (is_addr c) (refreshed p) (if_room 8 (addrs_of t) (slaac_addr c p)) (λ h. rw not_slaac (inl refl)) (addrs_of t) m)

  drop_keeps : (t : IfaceAddrs) (c : Ipv6Cidr) → Member e (addrs_of t) → Member e (addrs_of (with_addrs t (drop_addr c (addrs_of t))))
  unfolding drop_addr
  drop_keeps t c m =
      some_with (λ x. x ≡ e) t.slots (at_first_is (is_addr c) gone [] (addrs_of t)) (member_first e (is_addr c) gone [] (λ h. rw not_slaac (inl refl)) (addrs_of t) m)

  clear_keeps : (t : IfaceAddrs) → Member e (addrs_of t) → Member e (addrs_of (clear_addrs t).addrs)
  unfolding clear_addrs
  clear_keeps t m = some_with (λ x. x ≡ e) t.slots (kept is_from_slaac (addrs_of t)) (member_kept e is_from_slaac not_slaac (addrs_of t) m)

  add_keeps : (x : Result (Unit {0}) Refusal) (t : IfaceAddrs) (c : Ipv6Cidr) → Member e (addrs_of t) → Member e (addrs_of (add_addr_by x t c).addrs)
  add_keeps (Err why) t c m = m
  add_keeps (Ok tt) t c m = some_with (λ x. x ≡ e) t.slots (addrs_of t ++ (manual_addr c ∷ [])) (some_append (λ x. x ≡ e) (addrs_of t) (manual_addr c ∷ []) m)

  sync_one : (hw : HardwareAddress) (now : Instant) (t : IfaceAddrs) (p : Prefix) → Member e (addrs_of t) → Member e (addrs_of (sync_prefix hw now t p))
  unfolding sync_prefix
  sync_one hw now t p m = go (formed_of hw p.cidr)
    where
      at : (c : Ipv6Cidr) (b : Bool)
          → Member e (addrs_of (cond {A = IfaceAddrs} b (with_addrs t (put_addr c (preferred_of now p.preferred_until) (addrs_of t))) (with_addrs t (drop_addr c (addrs_of t)))))
      at c true = put_keeps t c (preferred_of now p.preferred_until) m
      at c false = drop_keeps t c m

      go : (f : Formed) → Member e (addrs_of (sync_formed f now t p))
      go Nothing = m
      go (Addr c) = at c (is_after p.valid_until now)

  sync_each : (hw : HardwareAddress) (now : Instant) (ps : List Prefix) (t : IfaceAddrs) → Member e (addrs_of t)
      → Member e (addrs_of (fold_over (sync_prefix hw now) t ps))
  sync_each hw now [] t m = m
  sync_each hw now (p ∷ ps) t m = sync_each hw now ps (sync_prefix hw now t p) (sync_one hw now t p m)

-- Routes

module _ (e : Route) (own : e.origin ≡ ManualRoute) where
  not_installed : (i : ℕ) (via : Ipv6Addr) → is_installed i via e ≡ false
  not_installed i via = rw own

  put_route_keeps : (t : Routes) (i : ℕ) (via : Ipv6Addr) (end : Instant) → Member e (routes_of t)
      → Member e (routes_of (with_routes t (put_route i via end (routes_of t))))
  unfolding put_route
  put_route_keeps t i via end m =
      some_with (λ x. x ≡ e) t.slots (at_first_is (is_installed i via) (extended end) (if_room 8 (routes_of t) (slaac_route i via end)) (routes_of t))
      (member_first e (is_installed i via) (extended end) (if_room 8 (routes_of t) (slaac_route i via end))
      (λ h. absurd (true≢false (sym h ∙ not_installed i via))) (routes_of t) m)

  drop_route_keeps : (t : Routes) (i : ℕ) (via : Ipv6Addr) → Member e (routes_of t) → Member e (routes_of (with_routes t (drop_route i via (routes_of t))))
  unfolding drop_route
  drop_route_keeps t i via m =
      some_with (λ x. x ≡ e) t.slots (at_first_is (is_installed i via) none_left_is [] (routes_of t))
      (member_first e (is_installed i via) none_left_is [] (λ h. absurd (true≢false (sym h ∙ not_installed i via))) (routes_of t) m)

  clear_routes_keep : (t : Routes) (i : ℕ) → Member e (routes_of t) → Member e (routes_of (with_routes t (clear_routes i (routes_of t))))
  unfolding clear_routes
  clear_routes_keep t i m = some_with (λ x. x ≡ e) t.slots (kept (is_learned i) (routes_of t)) (member_kept e (is_learned i) (rw own) (routes_of t) m)

  add_route_keeps : (x : Result (Unit {0}) Refusal) (t : Routes) (n : Route) → Member e (routes_of t) → Member e (routes_of (add_route_by x t n).routes)
  add_route_keeps (Err why) t n m = m
  add_route_keeps (Ok tt) t n m = some_with (λ x. x ≡ e) t.slots (routes_of t ++ (n ∷ [])) (some_append (λ x. x ≡ e) (routes_of t) (n ∷ []) m)

  sync_router_lem : (i : ℕ) (now : Instant) (t : Routes) (r : Router) → Member e (routes_of t) → Member e (routes_of (sync_router i now t r))
  unfolding sync_router
  sync_router_lem i now t r m = go (is_after (At r.valid_until) now)
    where
      go : (b : Bool)
          → Member e (routes_of (cond {A = Routes} b (with_routes t (put_route i r.addr r.valid_until (routes_of t))) (with_routes t (drop_route i r.addr (routes_of t)))))
      go true = put_route_keeps t i r.addr r.valid_until m
      go false = drop_route_keeps t i r.addr m

  sync_routers : (i : ℕ) (now : Instant) (rs : List Router) (t : Routes) → Member e (routes_of t) → Member e (routes_of (fold_over (sync_router i now) t rs))
  sync_routers i now [] t m = m
  sync_routers i now (r ∷ rs) t m = sync_routers i now rs (sync_router i now t r) (sync_router_lem i now t r m)

-- Runs

module _ (e : IfaceAddr) (own : e.origin ≡ Manual) where
  here : (i : ℕ) (hw : HardwareAddress) → Keeps i hw (λ c. Unit {0}) (λ s t r. Member e (addrs_of t))
  unfolding sync_addrs
  here i hw = record {
    discovery = λ s t r d m. m;
    learns = λ s t r source msg now ok taken m. m;
    syncs = λ s t r now ok taken on m. sync_each e own hw now (prefixes_of s) t m;
    begins = λ s t r off m. m;
    adds = λ s t r c w ok p m. subst (λ (q : Added). Member e (addrs_of q.addrs)) (sym p.is) (add_keeps e own (addr_check i c (addrs_of t)) t c m);
    routes = λ s t r j c via w ok p m. m;
    clears = λ s t r ok m. clear_keeps e own t m;
    syncs_there = λ s t r j now u n m. m;
    clears_there = λ s t r j n m. m;
  }

  here_run : {i : ℕ} {hw : HardwareAddress} {x y : Host} (cs : List HostCall) → Run i hw x cs y → Member e (addrs_of x.addrs) → Member e (addrs_of y.addrs)
  here_run {i} {hw} cs r m = keep_run (λ c. Unit {0}) (λ s t r. Member e (addrs_of t)) (here i hw) r (all_of (λ c. Unit {0}) (λ c. tt) cs) m

module _ (e : Route) (own : e.origin ≡ ManualRoute) where
  routed : (i : ℕ) (hw : HardwareAddress) → Keeps i hw (λ c. Unit {0}) (λ s t r. Member e (routes_of r))
  unfolding sync_routes
  routed i hw = record {
    discovery = λ s t r d m. m;
    learns = λ s t r source msg now ok taken m. m;
    syncs = λ s t r now ok taken on m. sync_routers e own i now (routers_of s) r m;
    begins = λ s t r off m. m;
    adds = λ s t r c w ok p m. m;
    routes =
        λ s t r j c via w ok p m.
        subst (λ (q : AddedRoute). Member e (routes_of q.routes)) (sym p.is) (add_route_keeps e own (route_check j c via (routes_of r)) r (manual_route j c via) m);
    clears = λ s t r ok m. clear_routes_keep e own r i m;
    syncs_there = λ s t r j now u n m. sync_routers e own j now (routers_of u) r m;
    clears_there = λ s t r j n m. clear_routes_keep e own r j m;
  }

  routed_run : {i : ℕ} {hw : HardwareAddress} {x y : Host} (cs : List HostCall) → Run i hw x cs y → Member e (routes_of x.routes) → Member e (routes_of y.routes)
  routed_run {i} {hw} cs r m = keep_run (λ c. Unit {0}) (λ s t r. Member e (routes_of r)) (routed i hw) r (all_of (λ c. Unit {0}) (λ c. tt) cs) m

-- The application's entries, as a list

module _ (l : List IfaceAddr) where
  alike_put : (t : IfaceAddrs) (c : Ipv6Cidr) (p : Preferred) → own_addrs t ≡ l → own_addrs (with_addrs t (put_addr c p (addrs_of t))) ≡ l
  unfolding put_addr
  alike_put t c p h =
      rest_with is_from_slaac t.slots (at_first_is (is_addr c) (refreshed p) (if_room 8 (addrs_of t) (slaac_addr c p)) (addrs_of t)) l
      (rest_first is_from_slaac (is_addr c) (refreshed p) (if_room 8 (addrs_of t) (slaac_addr c p)) (λ x q. same x (is_from_slaac x) refl)
      (rest_if is_from_slaac (ltb (length (addrs_of t)) 8) (slaac_addr c p) refl) (addrs_of t) ∙ h)
    where
      same : (x : IfaceAddr) (b : Bool) → is_from_slaac x ≡ b → kept is_from_slaac (cond b (slaac_addr x.cidr p ∷ []) (x ∷ [])) ≡ kept is_from_slaac (x ∷ [])
      same x true q = rw q
      same x false q = refl

  alike_drop : (t : IfaceAddrs) (c : Ipv6Cidr) → own_addrs t ≡ l → own_addrs (with_addrs t (drop_addr c (addrs_of t))) ≡ l
  unfolding drop_addr
  alike_drop t c h =
      rest_with is_from_slaac t.slots (at_first_is (is_addr c) gone [] (addrs_of t)) l
      (rest_first is_from_slaac (is_addr c) gone [] (λ x q. same x (is_from_slaac x) refl) refl (addrs_of t) ∙ h)
    where
      same : (x : IfaceAddr) (b : Bool) → is_from_slaac x ≡ b → kept is_from_slaac (cond b [] (x ∷ [])) ≡ kept is_from_slaac (x ∷ [])
      same x true q = rw q
      same x false q = refl

  alike_one : (hw : HardwareAddress) (now : Instant) (t : IfaceAddrs) (p : Prefix) → own_addrs t ≡ l → own_addrs (sync_prefix hw now t p) ≡ l
  unfolding sync_prefix
  alike_one hw now t p h = go (formed_of hw p.cidr)
    where
      at : (c : Ipv6Cidr) (b : Bool)
          → own_addrs (cond {A = IfaceAddrs} b (with_addrs t (put_addr c (preferred_of now p.preferred_until) (addrs_of t))) (with_addrs t (drop_addr c (addrs_of t)))) ≡ l
      at c true = alike_put t c (preferred_of now p.preferred_until) h
      at c false = alike_drop t c h

      go : (f : Formed) → own_addrs (sync_formed f now t p) ≡ l
      go Nothing = h
      go (Addr c) = at c (is_after p.valid_until now)

  alike_each : (hw : HardwareAddress) (now : Instant) (ps : List Prefix) (t : IfaceAddrs) → own_addrs t ≡ l → own_addrs (fold_over (sync_prefix hw now) t ps) ≡ l
  alike_each hw now [] t h = h
  alike_each hw now (p ∷ ps) t h = alike_each hw now ps (sync_prefix hw now t p) (alike_one hw now t p h)

  alike_clear : (t : IfaceAddrs) → own_addrs t ≡ l → own_addrs (clear_addrs t).addrs ≡ l
  unfolding clear_addrs
  alike_clear t h =
      rest_with is_from_slaac t.slots (kept is_from_slaac (addrs_of t)) l (rest_kept is_from_slaac is_from_slaac (λ x q. q) (addrs_of t) ∙ h)

  alike : (i : ℕ) (hw : HardwareAddress) → Keeps i hw (λ c. c ≡ add_addr → ⊥) (λ s t r. own_addrs t ≡ l)
  unfolding sync_addrs
  alike i hw = record {
    discovery = λ s t r d h. h;
    learns = λ s t r source msg now ok taken h. h;
    syncs = λ s t r now ok taken on h. alike_each hw now (prefixes_of s) t h;
    begins = λ s t r off h. h;
    adds = λ s t r c w ok p h. absurd (ok refl);
    routes = λ s t r j c via w ok p h. h;
    clears = λ s t r ok h. alike_clear t h;
    syncs_there = λ s t r j now u n h. h;
    clears_there = λ s t r j n h. h;
  }

module _ (l : List Route) where
  installed_slaac : (i : ℕ) (via : Ipv6Addr) (x : Route) → is_installed i via x ≡ true → is_route_from_slaac x ≡ true
  installed_slaac i via x q = (and_true (is_route_from_slaac x) (is_route i anywhere via x) q).0

  alike_put_route : (t : Routes) (i : ℕ) (via : Ipv6Addr) (end : Instant) → own_routes t ≡ l → own_routes (with_routes t (put_route i via end (routes_of t))) ≡ l
  unfolding put_route
  alike_put_route t i via end h =
      rest_with is_route_from_slaac t.slots (at_first_is (is_installed i via) (extended end) (if_room 8 (routes_of t) (slaac_route i via end)) (routes_of t)) l
      (rest_first is_route_from_slaac (is_installed i via) (extended end) (if_room 8 (routes_of t) (slaac_route i via end)) (λ x q. rw (installed_slaac i via x q))
      (rest_if is_route_from_slaac (ltb (length (routes_of t)) 8) (slaac_route i via end) refl) (routes_of t) ∙ h)

  alike_drop_route : (t : Routes) (i : ℕ) (via : Ipv6Addr) → own_routes t ≡ l → own_routes (with_routes t (drop_route i via (routes_of t))) ≡ l
  unfolding drop_route
  alike_drop_route t i via h =
      rest_with is_route_from_slaac t.slots (at_first_is (is_installed i via) none_left_is [] (routes_of t)) l
      (rest_first is_route_from_slaac (is_installed i via) none_left_is [] (λ x q. rw (installed_slaac i via x q)) refl (routes_of t) ∙ h)

  alike_router : (i : ℕ) (now : Instant) (t : Routes) (r : Router) → own_routes t ≡ l → own_routes (sync_router i now t r) ≡ l
  unfolding sync_router
  alike_router i now t r h = go (is_after (At r.valid_until) now)
    where
      go : (b : Bool)
          → own_routes (cond {A = Routes} b (with_routes t (put_route i r.addr r.valid_until (routes_of t))) (with_routes t (drop_route i r.addr (routes_of t)))) ≡ l
      go true = alike_put_route t i r.addr r.valid_until h
      go false = alike_drop_route t i r.addr h

  alike_routers : (i : ℕ) (now : Instant) (rs : List Router) (t : Routes) → own_routes t ≡ l → own_routes (fold_over (sync_router i now) t rs) ≡ l
  alike_routers i now [] t h = h
  alike_routers i now (r ∷ rs) t h = alike_routers i now rs (sync_router i now t r) (alike_router i now t r h)

  alike_clear_routes : (t : Routes) (i : ℕ) → own_routes t ≡ l → own_routes (with_routes t (clear_routes i (routes_of t))) ≡ l
  unfolding clear_routes
  alike_clear_routes t i h =
      rest_with is_route_from_slaac t.slots (kept (is_learned i) (routes_of t)) l
      (rest_kept is_route_from_slaac (is_learned i) (λ x q. (and_true (is_route_from_slaac x) (eqb x.iface i) q).0) (routes_of t) ∙ h)

  routes_alike : (i : ℕ) (hw : HardwareAddress) → Keeps i hw (λ c. c ≡ add_route → ⊥) (λ s t r. own_routes r ≡ l)
  unfolding sync_routes
  routes_alike i hw = record {
    discovery = λ s t r d h. h;
    learns = λ s t r source msg now ok taken h. h;
    syncs = λ s t r now ok taken on h. alike_routers i now (routers_of s) r h;
    begins = λ s t r off h. h;
    adds = λ s t r c w ok p h. h;
    routes = λ s t r j c via w ok p h. absurd (ok refl);
    clears = λ s t r ok h. alike_clear_routes r i h;
    syncs_there = λ s t r j now u n h. alike_routers j now (routers_of u) r h;
    clears_there = λ s t r j n h. alike_clear_routes r j h;
  }

-- The application's calls

abbrev IsDone : Result (Unit {0}) Refusal → Type 0
IsDone (Err why) = ⊥
IsDone (Ok tt) = Unit {0}

new_address : (x : Result (Unit {0}) Refusal) (t : IfaceAddrs) (c : Ipv6Cidr) → IsDone (add_addr_by x t c).outcome → Member (manual_addr c) (addrs_of (add_addr_by x t c).addrs)
new_address (Err why) t c h = absurd h
new_address (Ok tt) t c h = some_with (λ x. x ≡ manual_addr c) t.slots (addrs_of t ++ (manual_addr c ∷ [])) (some_after (λ x. x ≡ manual_addr c) (addrs_of t) (manual_addr c ∷ []) (inl refl))

new_route : (x : Result (Unit {0}) Refusal) (t : Routes) (e : Route) → IsDone (add_route_by x t e).outcome → Member e (routes_of (add_route_by x t e).routes)
new_route (Err why) t e h = absurd h
new_route (Ok tt) t e h = some_with (λ x. x ≡ e) t.slots (routes_of t ++ (e ∷ [])) (some_after (λ x. x ≡ e) (routes_of t) (e ∷ []) (inl refl))

address_done : (t : IfaceAddrs) (i : ℕ) (c : Ipv6Cidr) (r : Added) → AddedTo t i c r → r.outcome ≡ Ok tt → Member (manual_addr c) (addrs_of r.addrs)
address_done t i c r p ok =
    subst (λ (q : Added). IsDone q.outcome → Member (manual_addr c) (addrs_of q.addrs)) (sym p.is) (new_address (addr_check i c (addrs_of t)) t c)
    (subst IsDone (sym ok) tt)

route_done : (t : Routes) (i : ℕ) (c : Ipv6Cidr) (via : Ipv6Addr) (r : AddedRoute) → AddedRouteTo t i c via r → r.outcome ≡ Ok tt
    → Member (manual_route i c via) (routes_of r.routes)
route_done t i c via r p ok =
    subst (λ (q : AddedRoute). IsDone q.outcome → Member (manual_route i c via) (routes_of q.routes)) (sym p.is)
    (new_route (route_check i c via (routes_of t)) t (manual_route i c via)) (subst IsDone (sym ok) tt)

pub never_goes : NeverGoes
never_goes = record {
  address = λ i hw e x y cs r own m. here_run e own cs r m;
  route = λ i hw e x y cs r own m. routed_run e own cs r m;
  address_added = address_done;
  route_added = route_done;
  addresses_alike = λ i hw x y c s n. keep_step (λ c. c ≡ add_addr → ⊥) (λ s t r. own_addrs t ≡ own_addrs x.addrs) (alike (own_addrs x.addrs) i hw) s n refl;
  routes_alike = λ i hw x y c s n. keep_step (λ c. c ≡ add_route → ⊥) (λ s t r. own_routes r ≡ own_routes x.routes) (routes_alike (own_routes x.routes) i hw) s n refl;
  dropped_address = λ e t c own m. drop_keeps e own t c m;
  cleared_addresses = λ e t own m. clear_keeps e own t m;
  dropped_route = λ e t i via own m. drop_route_keeps e own t i via m;
  cleared_routes = λ e t i own m. clear_routes_keep e own t i m;
  put_address = λ e t c p own m. put_keeps e own t c p m;
  put_route_lem = λ e t i via end own m. put_route_keeps e own t i via end m;
}
