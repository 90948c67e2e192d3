-- No address gone early, and no default route. Assumes nothing.
use Prim.Native.Nat.{ℕ, ◌≤◌, ◌<◌}
use mathlib.Core.Bool.{Bool, true, false, cond, true≢false}
use mathlib.Core.List.{List, [], ◌∷◌, ◌++◌}
use mathlib.Core.Path.{◌≡◌, refl, sym, ap, ◌∙◌, subst}
use native.Mathlib.Omega.{arith}
use Rattle.std.specs.Prelude.{Result, Ok, Err}
use Rattle.wire.specs.declared.error.Refusal.{Refusal}
use Rattle.claims.proofs.Keeps.{Keeps, keep_run}
use Rattle.claims.proofs.Lists.{entries_with, all_of, all_weaken}
use Rattle.claims.proofs.Standing.{put_stands, drop_stands, add_stands, same_cidr_lem, at_once, learned_all, leave_all, options_routers, put_route_stands, drop_route_stands, clear_route_stands, add_route_stands, process_router_lem, leave_router, expired_other, expired_router}
use Rattle.claims.specs.Early.{Host, HostCall, advertise, poll, restart, turn_on_is, add_addr, add_route, turn_off, poll_elsewhere, off_elsewhere, Run, Before, TakesPoll, Takes, stands, Earlier, Reaches, LastsTo, Spares, Harmless, Silent, route_stands, RouterLastsTo, RouterSpares, HarmlessTo, SilentTo, NotEarly}
use Rattle.claims.specs.Lists.{All}
use Rattle.iface.specs.AddressRules.{addrs_of, with_addrs, manual_addr, add_addr_by, addr_check, put_addr, drop_addr}
use Rattle.iface.specs.RouteRules.{routes_of, with_routes, manual_route, add_route_by, route_check, put_route, drop_route, clear_routes}
use Rattle.iface.specs.declared.addr.Added.{Added}
use Rattle.iface.specs.declared.addr.IfaceAddr.{IfaceAddr}
use Rattle.iface.specs.declared.addr.IfaceAddrs.{IfaceAddrs}
use Rattle.iface.specs.declared.route.AddedRoute.{AddedRoute}
use Rattle.iface.specs.declared.route.Route.{Route}
use Rattle.iface.specs.declared.route.Routes.{Routes}
use Rattle.slaac.specs.LearnedRules.{prefixes_of, routers_of, is_prefix, cidr_of, prefix_of, prefix_ends}
use Rattle.slaac.specs.declared.Prefix.{Prefix}
use Rattle.slaac.specs.declared.Router.{Router}
use Rattle.slaac.specs.declared.Slaac.{Slaac}
use Rattle.ndisc.specs.Rfc4861Messages.{router_advert_at}
use Rattle.ndisc.specs.declared.ndiscoption.PrefixInformation.{PrefixInformation}
use Rattle.autoconf.specs.AdvertRules.{options_in, prefix_options, step2, steps2to4}
use Rattle.autoconf.specs.SyncRules.{preferred_of, sync_formed, sync_prefix, sync_router, sync_addrs, sync_routes}
use Rattle.table.specs.Table.{fold_over}
use Rattle.time.specs.ClockRules.{is_after}
use Rattle.time.specs.TimeRules.{seconds_of}
use Rattle.time.specs.declared.Expiry.TheVariants.{At, Forever}
use Rattle.time.specs.declared.Expiry.{Expiry}
use Rattle.time.specs.declared.Instant.{Instant}
use Rattle.wire.specs.Rfc2464.{formed_of}
use Rattle.wire.specs.declared.ethernet.HardwareAddress.{HardwareAddress}
use Rattle.wire.specs.declared.ipv6.Formed.TheVariants.{Nothing, Addr}
use Rattle.wire.specs.declared.ipv6.Formed.{Formed}
use Rattle.wire.specs.declared.ipv6.Ipv6Addr.{Ipv6Addr}
use Rattle.wire.specs.declared.ipv6.Ipv6Cidr.{Ipv6Cidr}

-- Addresses

module _ (v : Expiry) (hw : HardwareAddress) (a : Ipv6Cidr) where
  abbrev lasts : Prefix → Type 0
  lasts = LastsTo v hw a

  stands_with : (t : IfaceAddrs) (es : List IfaceAddr) → stands a es ≡ true → stands a (addrs_of (with_addrs t es)) ≡ true
  stands_with t es h = rw (entries_with t.slots es) h

  -- a sync before v
  sync_one : (now : Instant) → Earlier v now → (t : IfaceAddrs) (p : Prefix) → lasts p → stands a (addrs_of t) ≡ true → stands a (addrs_of (sync_prefix hw now t p)) ≡ true
  unfolding sync_prefix
  sync_one now early t p l h = go (formed_of hw p.cidr) refl
    where
      at : (c : Ipv6Cidr) → formed_of hw p.cidr ≡ Addr c → (b : Bool) → is_after p.valid_until now ≡ b
          → stands a (addrs_of (cond {A = IfaceAddrs} b (with_addrs t (put_addr c (preferred_of now p.preferred_until) (addrs_of t))) (with_addrs t (drop_addr c (addrs_of t))))) ≡ true
      at c f true e =
          stands_with t (put_addr c (preferred_of now p.preferred_until) (addrs_of t)) (put_stands a c (preferred_of now p.preferred_until) (addrs_of t) h)
      at c f false e = stands_with t (drop_addr c (addrs_of t)) (drop_stands a c (expired_other v hw a c now p early l f e) (addrs_of t) h)

      go : (f : Formed) → formed_of hw p.cidr ≡ f → stands a (addrs_of (sync_formed f now t p)) ≡ true
      go Nothing f = h
      go (Addr c) f = at c f (is_after p.valid_until now) refl

  sync_each : (now : Instant) → Earlier v now → (ps : List Prefix) (t : IfaceAddrs) → All lasts ps → stands a (addrs_of t) ≡ true
      → stands a (addrs_of (fold_over (sync_prefix hw now) t ps)) ≡ true
  sync_each now early [] t l h = h
  sync_each now early (p ∷ ps) t l h = sync_each now early ps (sync_prefix hw now t p) l.1 (sync_one now early t p l.0 h)

  -- an option without a lifetime ends a prefix now, and says that of it
  ends_lasts : (now : Instant) (o : PrefixInformation) → o.valid_lifetime ≤ 0 → lasts (prefix_of o now) → (x : Prefix) → is_prefix (cidr_of o) x ≡ true
      → All lasts (prefix_ends now x)
  ends_lasts now o z g x e = ((λ f. at_once v now o.valid_lifetime z (g (ap (formed_of hw) (sym (same_cidr_lem x.cidr (cidr_of o) e)) ∙ f))), tt)

  -- what every call keeps
  record Good (s : Slaac) (t : IfaceAddrs) : Type 0 where
    there : stands a (addrs_of t) ≡ true
    long : All lasts (prefixes_of s)

  good_added : (x : Result (Unit {0}) Refusal) (s : Slaac) (t : IfaceAddrs) (c : Ipv6Cidr) → Good s t → Good s (add_addr_by x t c).addrs
  good_added (Err why) s t c g = g
  good_added (Ok tt) s t c g =
      record { there = stands_with t (addrs_of t ++ (manual_addr c ∷ [])) (add_stands a (manual_addr c) (addrs_of t) g.there); long = g.long }

  good : (i : ℕ) → Keeps i hw (Harmless i v hw a) (λ s t r. Good s t)
  unfolding sync_addrs
  good i = record {
    discovery = λ s t r d g. record { there = g.there; long = g.long };
    learns = λ s t r source msg now ok taken g. record { there = g.there; long = learned_all lasts ends_lasts s source msg now g.long (ok taken) };
    syncs =
        λ s t r now ok taken on g.
        record { there = sync_each now (ok taken) (prefixes_of s) t g.long g.there; long = leave_all lasts now s g.long };
    begins = λ s t r e g. record { there = g.there; long = tt };
    adds = λ s t r c w ok p g. subst (λ (q : Added). Good s q.addrs) (sym p.is) (good_added (addr_check i c (addrs_of t)) s t c g);
    routes = λ s t r j c via w ok p g. g;
    clears = λ s t r ok g. absurd ok;
    syncs_there = λ s t r j now u n g. g;
    clears_there = λ s t r j n g. g;
  }

  good_run : {i : ℕ} {x y : Host} {cs : List HostCall} → Run i hw x cs y → All (Harmless i v hw a) cs → Good x.slaac x.addrs → Good y.slaac y.addrs
  good_run {i} r h g = keep_run (Harmless i v hw a) (λ s t r. Good s t) (good i) r h g

-- Routes

module _ (i : ℕ) (via : Ipv6Addr) where
  route_with : (t : Routes) (es : List Route) → route_stands i via es ≡ true → route_stands i via (routes_of (with_routes t es)) ≡ true
  route_with t es h = rw (entries_with t.slots es) h

  -- a router of interface j that has expired is another one
  abbrev Other : ℕ → Instant → Router → Type 0
  Other j now r = is_after (At r.valid_until) now ≡ false → j ≡ i → r.addr ≡ via → ⊥

  sync_router_lem : (j : ℕ) (now : Instant) (t : Routes) (r : Router) → Other j now r → route_stands i via (routes_of t) ≡ true
      → route_stands i via (routes_of (sync_router j now t r)) ≡ true
  unfolding sync_router
  sync_router_lem j now t r o h = go (is_after (At r.valid_until) now) refl
    where
      go : (b : Bool) → is_after (At r.valid_until) now ≡ b
          → route_stands i via (routes_of (cond {A = Routes} b (with_routes t (put_route j r.addr r.valid_until (routes_of t))) (with_routes t (drop_route j r.addr (routes_of t)))))
          ≡ true
      go true e = route_with t (put_route j r.addr r.valid_until (routes_of t)) (put_route_stands i j via r.addr r.valid_until (routes_of t) h)
      go false e = route_with t (drop_route j r.addr (routes_of t)) (drop_route_stands i j via r.addr (routes_of t) (o e) h)

  sync_routers : (j : ℕ) (now : Instant) (rs : List Router) (t : Routes) → All (Other j now) rs → route_stands i via (routes_of t) ≡ true
      → route_stands i via (routes_of (fold_over (sync_router j now) t rs)) ≡ true
  sync_routers j now [] t o h = h
  sync_routers j now (r ∷ rs) t o h = sync_routers j now rs (sync_router j now t r) o.1 (sync_router_lem j now t r o.0 h)

  route_added_to : (x : Result (Unit {0}) Refusal) (t : Routes) (e : Route) → route_stands i via (routes_of t) ≡ true → route_stands i via (routes_of (add_route_by x t e).routes) ≡ true
  route_added_to (Err why) t e h = h
  route_added_to (Ok tt) t e h = route_with t (routes_of t ++ (e ∷ [])) (add_route_stands i via e (routes_of t) h)

-- The routers

module _ (v : ℕ) (via : Ipv6Addr) where
  abbrev stays : Router → Type 0
  stays = RouterLastsTo v via

  learned_stays : (s : Slaac) (source : Ipv6Addr) (msg : List ℕ) (now : Instant) → All stays (routers_of s)
      → RouterSpares v via now source (seconds_of (router_advert_at msg).router_lifetime) → All stays (routers_of (steps2to4 s source msg now))
  unfolding step2
  learned_stays s source msg now l h =
      process_router_lem v via now (step2 now s (options_in msg)) source (seconds_of (router_advert_at msg).router_lifetime)
      (subst (All stays) (sym (options_routers now (prefix_options (options_in msg)) s)) l) h

  -- what every call keeps, on interface i
  record Held (i : ℕ) (s : Slaac) (r : Routes) : Type 0 where
    there : route_stands i via (routes_of r) ≡ true
    long : All stays (routers_of s)

  others : (i : ℕ) (now : Instant) → now.0 < v → (rs : List Router) → All stays rs → All (Other i via i now) rs
  others i now early rs l = all_weaken stays (Other i via i now) (λ r h e same by. expired_router v via now r early h e by) rs l

  held : (i : ℕ) (hw : HardwareAddress) → Keeps i hw (HarmlessTo i v via) (λ s t r. Held i s r)
  unfolding sync_routes
  held i hw = record {
    discovery = λ s t r d g. record { there = g.there; long = g.long };
    learns = λ s t r source msg now ok taken g. record { there = g.there; long = learned_stays s source msg now g.long (ok taken) };
    syncs =
        λ s t r now ok taken on g.
        record { there = sync_routers i via i now (routers_of s) r (others i now (ok taken) (routers_of s) g.long) g.there; long = leave_router v via now s g.long };
    begins = λ s t r e g. record { there = g.there; long = tt };
    adds = λ s t r c w ok p g. g;
    routes =
        λ s t r j c by w ok p g.
        record {
          there =
              subst (λ (q : AddedRoute). route_stands i via (routes_of q.routes) ≡ true) (sym p.is)
              (route_added_to i via (route_check j c by (routes_of r)) r (manual_route j c by) g.there);
          long = g.long;
        };
    clears = λ s t r ok g. absurd ok;
    syncs_there =
        λ s t r j now u n g.
        record { there = sync_routers i via j now (routers_of u) r (all_of (Other i via j now) (λ r' e same by. n same) (routers_of u)) g.there; long = g.long };
    clears_there =
        λ s t r j n g. record { there = route_with i via r (clear_routes j (routes_of r)) (clear_route_stands i j via (routes_of r) n g.there); long = g.long };
  }

  held_run : {i : ℕ} {hw : HardwareAddress} {x y : Host} {cs : List HostCall} → Run i hw x cs y → All (HarmlessTo i v via) cs → Held i x.slaac x.routes
      → Held i y.slaac y.routes
  held_run {i} {hw} r h g = keep_run (HarmlessTo i v via) (λ s t r. Held i s r) (held i hw) r h g

-- The claim

-- calls before v, by what their advertisements are
before_map : (early : Instant → Type 0) (P Q : Ipv6Addr → List ℕ → Instant → Type 0) → ((source : Ipv6Addr) (msg : List ℕ) (now : Instant) → P source msg now → Q source msg now)
    → (c : HostCall) → Before early P c → Before early Q c
before_map early P Q f (advertise source msg now) h = f source msg now h
before_map early P Q f (poll now) h = h
before_map early P Q f restart h = h
before_map early P Q f turn_on_is h = h
before_map early P Q f add_addr h = h
before_map early P Q f add_route h = h
before_map early P Q f turn_off h = h
before_map early P Q f poll_elsewhere h = h
before_map early P Q f off_elsewhere h = h

-- an advertisement that names no prefix that forms the address spares it, whatever the time
silent_harmless : (i : ℕ) (v : Expiry) (hw : HardwareAddress) (a : Ipv6Cidr) (c : HostCall) → Silent i v hw a c → Harmless i v hw a c
silent_harmless i v hw a c h =
    before_map (λ now. TakesPoll i now → Earlier v now) _ (λ source msg now. Takes i source msg now → All (Spares v hw a now) (prefix_options (options_in msg)))
    (λ source msg now g ok. all_weaken _ (Spares v hw a now) (λ o n e f. absurd (n (e, f))) (prefix_options (options_in msg)) (g ok)) c h

silent_router : (i v : ℕ) (via : Ipv6Addr) (c : HostCall) → SilentTo i v via c → HarmlessTo i v via c
silent_router i v via c h =
    before_map (λ now. TakesPoll i now → now.0 < v) _
    (λ source msg now. Takes i source msg now → RouterSpares v via now source (seconds_of (router_advert_at msg).router_lifetime))
    (λ source msg now g ok e. absurd (true≢false (sym e ∙ g ok))) c h

router_ends_lem : (p q : Router) → q ≡ p → p.valid_until.0 ≤ q.valid_until.0
router_ends_lem p q same = rw same (omega arith)

reaches_itself : (v : Expiry) → Reaches v v
reaches_itself (At v) = omega arith
reaches_itself Forever = tt

ends : (p q : Prefix) → q ≡ p → Reaches p.valid_until q.valid_until
ends p q same = rw same (reaches_itself p.valid_until)

pub not_early : NotEarly
not_early = record {
  address = λ i hw a v x y cs r h l q. (good_run v hw a r q (record { there = h; long = l })).there;
  address_of =
      λ i hw a p x y cs r h o q.
      (good_run p.valid_until hw a r (all_weaken (Silent i p.valid_until hw a) (Harmless i p.valid_until hw a) (silent_harmless i p.valid_until hw a) cs q)
      (record {
        there = h;
        long = all_weaken _ (LastsTo p.valid_until hw a) (λ q f e. ends p q (f e)) (prefixes_of x.slaac) o;
      })).there;
  route = λ i hw via v x y cs r h l q. (held_run v via r q (record { there = h; long = l })).there;
  route_of =
      λ i hw p x y cs r h o q.
      (held_run p.valid_until.0 p.addr r
      (all_weaken (SilentTo i p.valid_until.0 p.addr) (HarmlessTo i p.valid_until.0 p.addr) (silent_router i p.valid_until.0 p.addr) cs q)
      (record {
        there = h;
        long = all_weaken _ (RouterLastsTo p.valid_until.0 p.addr) (λ q f e. router_ends_lem p q (f e)) (routers_of x.slaac) o;
      })).there;
}
