-- SLAAC's default routes have routers, leave when their time has come, and arrive. Assumes nothing.
use Prim.Native.Nat.{ℕ, ◌+◌, ◌≤◌, ◌<◌, suc, zero}
use borrow.Author.Tests.{lt-ltb, eq-eqb}
use lib.Dec.{ltb}
use lib.ListN.{length, take}
use mathlib.Core.Bool.{Bool, true, false, cond, ◌||◌, true≢false}
use mathlib.Core.List.{List, [], ◌∷◌, ◌++◌}
use mathlib.Core.Logic.{inl, inr}
use mathlib.Core.Path.{◌≡◌, refl, sym, ap, ◌∙◌, subst}
use native.Mathlib.Omega.{arith}
use Rattle.std.specs.Prelude.{Result, Ok, Err}
use Rattle.wire.specs.declared.error.Refusal.{Refusal}
use Rattle.claims.proofs.Arrives.{router_asked, call_taken, file_starts, file_hears, file_syncs, file_second, file_both, file_polls}
use Rattle.claims.proofs.Backed.{steps_on}
use Rattle.claims.proofs.Clocks.{turn_forward}
use Rattle.claims.proofs.Keeps.{turn_cases, turn_in, poll_cases, Keeps, keep_run}
use Rattle.claims.proofs.Lists.{either_none, or_left, or_right, fold_append, entries_with, first_length, if_most, any_first, first_comes, all_of, all_after, some_first, some_weaken, some_apply, some_hit, some_new, some_clash, some_any}
use Rattle.claims.proofs.Polling.{due_asked, refused_fine, synced_step, due_router}
use Rattle.claims.proofs.Routed.{any_dropped, none_dropped, ours, clear_apart, learned_of, clear_ours, add_apart, on_router, elsewhere_apart, routers_once, routers_live, lives_on}
use Rattle.claims.proofs.Standing.{same_addr_refl, same_addr_lem, put_route_stands, drop_route_stands, options_routers, installed_route}
use Rattle.claims.specs.Arrives.{start_host, up_host, ra_host, end_host, second_host, both_host}
use Rattle.claims.specs.Early.{Host, advertise, poll, Step, advertised, polled, polled_at, none, one_more, TakesPoll, Run, route_stands, HostCall}
use Rattle.claims.specs.Examples.{mac, router, network, header, offer}
use Rattle.claims.specs.Lists.{All, Some, Member}
use Rattle.claims.specs.RoutesArrive.{RoutesMade, RouterEnded, RouterValid, has_router_place, Announces, router_by, Announced, MeanwhileOf, HasRouteRoom, HasRoomAfter, RouteOffered, RoutesArrive}
use Rattle.claims.specs.Traces.{ms, neighbour}
use Rattle.autoconf.specs.AdvertRules.{options_in, prefix_options, step2, last_source, steps2to4}
use Rattle.autoconf.specs.PollRules.{sync_turn, turn_of, buffer_of, sent_of, sender_in, poll_on, poll_by}
use Rattle.autoconf.specs.SyncRules.{sync_prefix, sync_router, sync_addrs, sync_routes}
use Rattle.autoconf.specs.declared.Advertised.{Advertised}
use Rattle.autoconf.specs.declared.PollAnswer.{PollAnswer}
use Rattle.autoconf.specs.declared.Polled.{Polled}
use Rattle.autoconf.specs.declared.PolledAt.{PolledAt}
use Rattle.autoconf.specs.declared.Turn.{Turn}
use Rattle.iface.specs.AddressRules.{put_addr, drop_addr, first_local}
use Rattle.iface.specs.RouteRules.{put_route, drop_route, is_installed, is_learned, extended, none_left_is, clear_routes, slaac_route, routes_of, with_routes, manual_route, add_route_by, route_check}
use Rattle.iface.specs.declared.addr.IfaceAddrs.{IfaceAddrs}
use Rattle.iface.specs.declared.route.AddedRoute.{AddedRoute}
use Rattle.iface.specs.declared.route.Route.{Route}
use Rattle.iface.specs.declared.route.Routes.{Routes}
use Rattle.ndisc.specs.OptionCalls.{prefix_bytes}
use Rattle.ndisc.specs.OptionWalk.{walked, options_of}
use Rattle.ndisc.specs.Rfc4443Checksum.{checksum_of}
use Rattle.ndisc.specs.Rfc4861Messages.{router_advert_at}
use Rattle.ndisc.specs.declared.ndiscoption.PrefixInformation.{PrefixInformation}
use Rattle.neighbor.specs.NeighborRules.{same_key, find, before, insert_state, on_iface}
use Rattle.slaac.specs.DiscoveryRules.{due as turnDue, sent, solicitation}
use Rattle.slaac.specs.ExpiryRules.{sync_due, leave_expired, router_gone}
use Rattle.slaac.specs.Fields.{with_discovery}
use Rattle.slaac.specs.LearnedRules.{is_skipped, cidr_of, prefix_of, put_over, add_prefix, expire_prefix, process_prefix_is, add_router, expire_router, process_router_is, is_router, routers_of, router_ends}
use Rattle.slaac.specs.declared.Router.{Router}
use Rattle.slaac.specs.declared.Slaac.{Slaac}
use Rattle.table.specs.Table.{if_room, filled, at_first_is, any_of, fold_over, kept}
use Rattle.time.specs.ClockRules.{is_after}
use Rattle.time.specs.TimeRules.{add_of, seconds_of}
use Rattle.time.specs.declared.Clock.{Clock}
use Rattle.time.specs.declared.Duration.{Duration}
use Rattle.time.specs.declared.Expiry.TheVariants.{At}
use Rattle.time.specs.declared.Instant.{Instant}
use Rattle.wire.specs.Refusals.{time_check}
use Rattle.wire.specs.Rfc2464.{formed_of}
use Rattle.wire.specs.Rfc4291.{same_addr}
use Rattle.wire.specs.declared.ethernet.HardwareAddress.{HardwareAddress}
use Rattle.wire.specs.declared.ipv6.Ipv6Addr.{Ipv6Addr}
use Rattle.wire.specs.declared.ipv6.Ipv6Cidr.{Ipv6Cidr}

-- What an advertisement does to the routers

module _ (via : Ipv6Addr) where
  abbrev knows : Slaac → Bool
  knows s = any_of (is_router via) (routers_of s)

  knows_with : (s xs : List Router) → any_of (is_router via) xs ≡ true → any_of (is_router via) (take (length xs) (filled s xs)) ≡ true
  knows_with s xs h = subst (λ (l : List Router). any_of (is_router via) l ≡ true) (sym (entries_with s xs)) h

  router_known : (now : Instant) (s : Slaac) (source : Ipv6Addr) (d : Duration) → knows s ≡ true → knows (process_router_is now s source d) ≡ true
  unfolding process_router_is add_router expire_router
  router_known now s source d h = go (ltb 0 d.0)
    where
      new : Router
      new = record { addr = source; valid_until = add_of now d }

      over : (x : Router) → is_router source x ≡ true → is_router via x ≡ true → any_of (is_router via) (put_over new x) ≡ true
      over x e u =
          let z : same_addr source via ≡ true = subst (λ (a : Ipv6Addr). same_addr a via ≡ true) (same_addr_lem x.addr source e) u in
          rw z

      ends : (x : Router) → is_router source x ≡ true → is_router via x ≡ true → any_of (is_router via) (router_ends now x) ≡ true
      ends x e u = rw u

      go : (x : Bool) → knows (cond {A = Slaac} x (add_router s new) (expire_router s source now)) ≡ true
      go true =
          knows_with s.routers (at_first_is (is_router source) (put_over new) (if_room 2 (routers_of s) new) (routers_of s))
          (any_first (is_router via) (is_router source) (put_over new) (if_room 2 (routers_of s) new) (routers_of s) h over)
      go false =
          knows_with s.routers (at_first_is (is_router source) (router_ends now) [] (routers_of s))
          (any_first (is_router via) (is_router source) (router_ends now) [] (routers_of s) h ends)

  steps_known : (s : Slaac) (source : Ipv6Addr) (msg : List ℕ) (now : Instant) → knows s ≡ true → knows (steps2to4 s source msg now) ≡ true
  unfolding step2
  steps_known s source msg now h =
      router_known now (fold_over (process_prefix_is now) s (prefix_options (options_in msg))) source (seconds_of (router_advert_at msg).router_lifetime)
      (subst (λ (rs : List Router). any_of (is_router via) rs ≡ true) (sym (options_routers now (prefix_options (options_in msg)) s)) h)

-- What every call keeps, of the routes by one router

module _ (i : ℕ) (via : Ipv6Addr) where
  record Led (s : Slaac) (l : List Route) : Type 0 where
    once : length l ≤ 1
    off : s.on ≡ false → length l ≤ 0
    router : 0 < length l → knows via s ≡ true

  abbrev LedBy : Slaac → Routes → Type 0
  LedBy s r = Led s (ours i via (routes_of r))

  led_apart : (s : Slaac) (r r' : Routes) → ours i via (routes_of r') ≡ ours i via (routes_of r) → LedBy s r → LedBy s r'
  led_apart s r r' e g = subst (Led s) (sym e) g

  added_apart : (x : Result (Unit {0}) Refusal) (t : Routes) (j : ℕ) (c : Ipv6Cidr) (by : Ipv6Addr)
      → ours i via (routes_of (add_route_by x t (manual_route j c by)).routes) ≡ ours i via (routes_of t)
  added_apart (Err why) t j c by = refl
  added_apart (Ok tt) t j c by =
      ap (ours i via) (entries_with t.slots (routes_of t ++ (manual_route j c by ∷ []))) ∙ add_apart i via j c by (routes_of t)

  none_left : (r : Routes) → length (ours i via (routes_of (with_routes r (clear_routes i (routes_of r))))) ≤ 0
  none_left r = subst (λ (es : List Route). length (ours i via es) ≤ 0) (sym (entries_with r.slots (clear_routes i (routes_of r)))) (clear_ours i via (routes_of r))

  led_calls : (hw : HardwareAddress) → Keeps i hw (λ c. Unit {0}) (λ s t r. LedBy s r)
  unfolding sync_routes leave_expired
  led_calls hw = record {
    discovery = λ s t r d g. record { once = g.once; off = g.off; router = g.router };
    learns =
        λ s t r source msg now ok taken g.
        record { once = g.once; off = λ e. g.off (sym (steps_on s source msg now) ∙ e); router = λ h. steps_known via s source msg now (g.router h) };
    syncs =
        λ s t r now ok taken on g.
        record {
          once = routers_once i via now (routers_of s) r g.once;
          off = λ e. absurd (true≢false (sym on ∙ e));
          router = λ h. knows_with via s.routers (kept (router_gone now) (routers_of s)) (lives_on i via now (routers_of s) (routers_live i via now (routers_of s) r g.once g.router h));
        };
    begins = λ s t r e g. record { once = g.once; off = λ h. absurd (true≢false h); router = λ h. absurd (omega (arith, h, g.off e)) };
    adds = λ s t r c w ok p g. g;
    routes =
        λ s t r j c by w ok p g.
        led_apart s r w.routes (ap (λ (q : AddedRoute). ours i via (routes_of q.routes)) p.is ∙ added_apart (route_check j c by (routes_of r)) r j c by) g;
    clears = λ s t r ok g. record { once = omega (arith, none_left r); off = λ e. none_left r; router = λ h. absurd (omega (arith, h, none_left r)) };
    syncs_there = λ s t r j now u n g. led_apart s r (sync_routes j now r u) (elsewhere_apart i via j now n (routers_of u) r) g;
    clears_there =
        λ s t r j n g.
        led_apart s r (with_routes r (clear_routes j (routes_of r)))
        (ap (ours i via) (entries_with r.slots (clear_routes j (routes_of r))) ∙ clear_apart i via j n (routes_of r)) g;
  }

  led_run : {hw : HardwareAddress} {x y : Host} (cs : List HostCall) → Run i hw x cs y → LedBy x.slaac x.routes → LedBy y.slaac y.routes
  led_run {hw} cs r g = keep_run (λ c. Unit {0}) (λ s t r. LedBy s r) (led_calls hw) r (all_of (λ c. Unit {0}) (λ c. tt) cs) g

  none_of : (es : List Route) → any_of (is_learned i) es ≡ false → length (ours i via es) ≤ 0
  none_of [] h = omega arith
  none_of (e ∷ es) h = go (either_none (is_learned i e) (any_of (is_learned i) es) h) (none_of es)
    where
      go : (is_learned i e ≡ false) × (any_of (is_learned i) es ≡ false) → (any_of (is_learned i) es ≡ false → length (ours i via es) ≤ 0) → length (ours i via (e ∷ es)) ≤ 0
      go o ih = rw (learned_of i via e o.0) (ih o.1)

  led : (hw : HardwareAddress) (y : Host) → RoutesMade i hw y → LedBy y.slaac y.routes
  led hw y m =
      let n = none_of (routes_of m.start.routes) m.none_yet in
      led_run m.calls m.run (record { once = omega (arith, n); off = λ e. n; router = λ h. absurd (omega (arith, h, n)) })

  -- A poll that is taken after the router's end

  gone_sync : (s : Slaac) (t : IfaceAddrs) (r : Routes) (hw : HardwareAddress) (now : Instant) (k : Clock) (w : Result PollAnswer Refusal) → k.now ≡ now → LedBy s r
      → RouterEnded via now s → length (ours i via (routes_of (sync_turn s t r i hw now k w).polled.routes)) ≤ 0
  unfolding sync_routes
  gone_sync s t r hw now k w same g l =
      turn_cases (λ q. length (ours i via (routes_of q.polled.routes)) ≤ 0) s t r i hw now k w
      (λ e. none_if_not _ (λ h. some_clash (λ q. is_router via q ≡ true) (λ q. is_after (At q.valid_until) now) (routers_of s) l (routers_live i via now (routers_of s) r g.once g.router h)))
      (λ e. none_if_not _ (λ h. true≢false (sym (due h) ∙ e)))
    where
      none_if_not : (n : ℕ) → (0 < n → ⊥) → n ≤ 0
      none_if_not zero f = omega arith
      none_if_not (suc n) f = absurd (f (omega arith))

      due : 0 < length (ours i via (routes_of r)) → (sync_due s k).expired ≡ true
      due h =
          due_router s k now same
          (some_apply (λ q. is_router via q ≡ true) (λ q. is_after (At q.valid_until) now ≡ false) (routers_of s) (some_any (is_router via) (routers_of s) (g.router h)) l)

  gone_poll : (x : Result (Unit {0}) Refusal) (s : Slaac) (t : IfaceAddrs) (r : Routes) (up : Bool) (hw : HardwareAddress) (buf : List ℕ) (k : Clock) → x ≡ Ok tt → LedBy s r
      → RouterEnded via k.now s → length (ours i via (routes_of (poll_by x s t r i up hw buf k).polled.routes)) ≤ 0
  gone_poll (Err why) s t r up hw buf k fine g l = absurd (refused_fine why fine)
  gone_poll (Ok tt) s t r up hw buf k fine g l =
      poll_cases (λ q. length (ours i via (routes_of q.polled.routes)) ≤ 0) s t r i up hw buf k
      (λ e.
      gone_sync (with_discovery s u.discovery) t r hw k.now u.clock (Ok u.answer) (turn_forward s.discovery (sender_in up t) buf k).now
      (record { once = g.once; off = g.off; router = g.router }) l)
      (λ e. g.off e)
    where
      u : Turn
      u = turn_in s t up buf k

  gone_step : {hw : HardwareAddress} {x y : Host} {now : Instant} → Step i hw x (poll now) y → TakesPoll i now → LedBy x.slaac x.routes
      → RouterEnded via now x.slaac → route_stands i via (routes_of y.routes) ≡ false
  gone_step {hw} (polled x up buf buf' k k' r p) fine g l =
      subst (λ (q : Polled). route_stands i via (routes_of q.routes) ≡ false) (sym p.is)
      (none_dropped (is_installed i via) (routes_of (poll_by (time_check k.now i) x.slaac x.addrs x.routes i up hw buf k).polled.routes) (gone_poll (time_check k.now i) x.slaac x.addrs x.routes up hw buf k fine g l))
  gone_step {hw} (polled_at x up buf buf' k r p) fine g l =
      subst (λ (q : PolledAt). route_stands i via (routes_of q.polled.routes) ≡ false) (sym p.is)
      (none_dropped (is_installed i via) (routes_of (poll_by (time_check k.now i) x.slaac x.addrs x.routes i up hw buf k).polled.routes) (gone_poll (time_check k.now i) x.slaac x.addrs x.routes up hw buf k fine g l))

-- A route that is there stays while its router is valid, and comes if there is room

put_route_comes : (i : ℕ) (via : Ipv6Addr) (until : Instant) (es : List Route) → length es < 8 → route_stands i via (put_route i via until es) ≡ true
unfolding put_route
put_route_comes i via until es l =
    first_comes (is_installed i via) (extended until) (if_room 8 es (slaac_route i via until)) es (λ x e. rw (installed_route i via x e))
    (new (ltb (length es) 8) (lt-ltb (length es) 8 l))
  where
    new : (b : Bool) → b ≡ true → any_of (is_installed i via) (cond b (slaac_route i via until ∷ []) []) ≡ true
    new true e = rw (eq-eqb i i refl, same_addr_refl via)
    new false e = absurd (true≢false (sym e))

put_route_length : (i : ℕ) (via : Ipv6Addr) (until : Instant) (es : List Route) → length (put_route i via until es) ≤ length es + 1
unfolding put_route
put_route_length i via until es =
    first_length (is_installed i via) (extended until) (if_room 8 es (slaac_route i via until)) es (λ x. omega arith) (if_most (ltb (length es) 8) (slaac_route i via until))

drop_route_length : (i : ℕ) (via : Ipv6Addr) (es : List Route) → length (drop_route i via es) ≤ length es + 1
unfolding drop_route
drop_route_length i via es = first_length (is_installed i via) none_left_is [] es (λ x. omega arith) (omega arith)

module _ (i : ℕ) (via : Ipv6Addr) (now : Instant) where
  abbrev Lasts : Router → Type 0
  Lasts r = is_router via r ≡ true → is_after (At r.valid_until) now ≡ true

  step_keeps : (t : Routes) (r : Router) → Lasts r → route_stands i via (routes_of t) ≡ true → route_stands i via (routes_of (sync_router i now t r)) ≡ true
  step_keeps t r v h =
      on_router (λ es. route_stands i via es ≡ true) i now t r (λ e. put_route_stands i i via r.addr r.valid_until (routes_of t) h)
      (λ e. drop_route_stands i i via r.addr (routes_of t) (λ same by. true≢false (sym (v (subst (λ (a : Ipv6Addr). same_addr a via ≡ true) (sym by) (same_addr_refl via))) ∙ e)) h)

  step_comes : (t : Routes) (r : Router) → is_router via r ≡ true → is_after (At r.valid_until) now ≡ true → length (routes_of t) < 8
      → route_stands i via (routes_of (sync_router i now t r)) ≡ true
  step_comes t r e v l =
      on_router (λ es. route_stands i via es ≡ true) i now t r
      (λ f.
      subst (λ (a : Ipv6Addr). route_stands i via (put_route i a r.valid_until (routes_of t)) ≡ true) (sym (same_addr_lem r.addr via e))
      (put_route_comes i via r.valid_until (routes_of t) l))
      (λ f. absurd (true≢false (sym v ∙ f)))

  step_length : (t : Routes) (r : Router) → length (routes_of (sync_router i now t r)) ≤ length (routes_of t) + 1
  step_length t r =
      on_router (λ es. length es ≤ length (routes_of t) + 1) i now t r (λ e. put_route_length i r.addr r.valid_until (routes_of t))
      (λ e. drop_route_length i r.addr (routes_of t))

  fold_keeps : (rs : List Router) (t : Routes) → All Lasts rs → route_stands i via (routes_of t) ≡ true → route_stands i via (routes_of (fold_over (sync_router i now) t rs)) ≡ true
  fold_keeps [] t l h = h
  fold_keeps (r ∷ rs) t l h = fold_keeps rs (sync_router i now t r) l.1 (step_keeps t r l.0 h)

  fold_comes : (rs : List Router) (t : Routes) → All Lasts rs → Some (λ r. is_router via r ≡ true) rs → length (routes_of t) + length rs ≤ 8
      → route_stands i via (routes_of (fold_over (sync_router i now) t rs)) ≡ true
  fold_comes [] t l h n = absurd h
  fold_comes (r ∷ rs) t l (inl h) n = fold_keeps rs (sync_router i now t r) l.1 (step_comes t r h (l.0 h) (omega arith))
  fold_comes (r ∷ rs) t l (inr h) n = fold_comes rs (sync_router i now t r) l.1 h (omega (arith, n, step_length t r))

comes : (i : ℕ) (hw : HardwareAddress) (r : Router) (now : Instant) (x y : Host) → Step i hw x (poll now) y → TakesPoll i now → Announced x.slaac r
    → RouterValid r.addr now x.slaac → HasRouteRoom i r.addr x → route_stands i r.addr (routes_of y.routes) ≡ true
comes i hw r now x y s fine k v room =
    subst (λ (t : Routes). route_stands i r.addr (routes_of t) ≡ true) (sym (synced_step hw s fine k.is_on (λ c e. due_asked x.slaac c k.asked)).1) (there room)
  where
    there : HasRouteRoom i r.addr x → route_stands i r.addr (routes_of (fold_over (sync_router i now) x.routes (routers_of x.slaac))) ≡ true
    there (inl h) = fold_keeps i r.addr now (routers_of x.slaac) x.routes v h
    there (inr h) =
        fold_comes i r.addr now (routers_of x.slaac) x.routes v
        (some_weaken (λ q. q ≡ r) (λ q. is_router r.addr q ≡ true)
        (λ q e. subst (λ (a : Ipv6Addr). same_addr a r.addr ≡ true) (ap (λ (z : Router). z.addr) (sym e)) (same_addr_refl r.addr)) (routers_of x.slaac) k.there)
        (omega (arith, h))

in_turn : (i : ℕ) (hw : HardwareAddress) (r : Router) (now : Instant) (x y : Host) → Step i hw x (poll now) y → TakesPoll i now → Announced x.slaac r
    → RouterValid r.addr now x.slaac → (before after : List Router) → routers_of x.slaac ≡ before ++ (r ∷ after)
    → HasRoomAfter i now before x → route_stands i r.addr (routes_of y.routes) ≡ true
in_turn i hw r now x y s fine k v before after e room =
    subst (λ (t : Routes). route_stands i r.addr (routes_of t) ≡ true) (sym (synced_step hw s fine k.is_on (λ c e. due_asked x.slaac c k.asked)).1)
    (subst (λ (rs : List Router). route_stands i r.addr (routes_of (fold_over (sync_router i now) x.routes rs)) ≡ true) (sym e)
    (subst (λ (t : Routes). route_stands i r.addr (routes_of t) ≡ true) (sym (fold_append (sync_router i now) x.routes before (r ∷ after)))
    (fold_keeps i r.addr now after (sync_router i now turn r) rest.1 (step_comes i r.addr now turn r (same_addr_refl r.addr) (rest.0 (same_addr_refl r.addr)) room))))
  where
    turn : Routes
    turn = fold_over (sync_router i now) x.routes before

    rest : All (Lasts i r.addr now) (r ∷ after)
    rest = all_after _ before (r ∷ after) (subst (All (Lasts i r.addr now)) e v)

-- A router that announces itself

router_added : (s : Slaac) (r : Router) → has_router_place r.addr (routers_of s) ≡ true
    → Member r (routers_of (add_router s r)) × ((add_router s r).sync_required ≡ true)
unfolding add_router
router_added s r h = (
  subst (Member r) (sym (entries_with s.routers (at_first_is (is_router r.addr) (put_over r) (if_room 2 (routers_of s) r) (routers_of s))))
      (go (any_of (is_router r.addr) (routers_of s)) (ltb (length (routers_of s)) 2) refl h),
  or_right s.sync_required (has_router_place r.addr (routers_of s)) h,
)
  where
    go : (x y : Bool) → any_of (is_router r.addr) (routers_of s) ≡ x → (x || y) ≡ true
        → Member r (at_first_is (is_router r.addr) (put_over r) (cond y (r ∷ []) []) (routers_of s))
    go true y e g = some_hit (λ q. q ≡ r) (is_router r.addr) (put_over r) (λ x u. inl refl) (cond y (r ∷ []) []) (routers_of s) e
    go false true e g = some_new (λ q. q ≡ r) (is_router r.addr) (put_over r) (λ x u. inl refl) (r ∷ []) (routers_of s) (inl refl)
    go false false e g = absurd (true≢false (sym g))

router_processed : (now : Instant) (s : Slaac) (source : Ipv6Addr) (d : Duration) → 0 < d.0 → has_router_place source (routers_of s) ≡ true
    → Member (record { addr = source; valid_until = add_of now d }) (routers_of (process_router_is now s source d)) × ((process_router_is now s source d).sync_required ≡ true)
unfolding process_router_is
router_processed now s source d l h = go (ltb 0 d.0) (lt-ltb 0 d.0 l)
  where
    new : Router
    new = record { addr = source; valid_until = add_of now d }

    after : Bool → Slaac
    after x = cond x (add_router s new) (expire_router s source now)

    go : (x : Bool) → x ≡ true → Member new (routers_of (after x)) × ((after x).sync_required ≡ true)
    go true e = router_added s new h
    go false e = absurd (true≢false (sym e))

announced_steps : (i : ℕ) (s : Slaac) (source : Ipv6Addr) (msg : List ℕ) (now : Instant) → Announces i s source msg now
    → Announced (steps2to4 s source msg now) (router_by source msg now)
unfolding step2
announced_steps i s source msg now k = record { there = z.0; is_on = steps_on s source msg now ∙ k.is_on; asked = z.1 }
  where
    first : Slaac
    first = fold_over (process_prefix_is now) s (prefix_options (options_in msg))

    z : Member (router_by source msg now) (routers_of (process_router_is now first source (seconds_of (router_advert_at msg).router_lifetime)))
        × ((process_router_is now first source (seconds_of (router_advert_at msg).router_lifetime)).sync_required ≡ true)
    z =
        router_processed now first source (seconds_of (router_advert_at msg).router_lifetime) (omega (arith, k.lifetime))
        (subst (λ (rs : List Router). has_router_place source rs ≡ true) (sym (options_routers now (prefix_options (options_in msg)) s)) k.place)

announced_step : {i : ℕ} {hw : HardwareAddress} {source : Ipv6Addr} {msg : List ℕ} {now : Instant} {x y : Host}
    → Step i hw x (advertise source msg now) y → Announces i x.slaac source msg now → Announced y.slaac (router_by source msg now)
announced_step {i} (advertised x c source msg now r p) k =
    subst (λ (s : Slaac). Announced s (router_by source msg now))
    (sym (ap (λ (q : Advertised). q.slaac) p.is ∙ call_taken (time_check now i) x.slaac c i source msg now k.taken.0 k.is_on k.taken.1))
    (announced_steps i x.slaac source msg now k)

-- It waits

-- what the options do leaves a sync that is asked for
option_asked : (now : Instant) (s : Slaac) (o : PrefixInformation) → s.sync_required ≡ true → (process_prefix_is now s o).sync_required ≡ true
unfolding process_prefix_is add_prefix expire_prefix
option_asked now s o h = go (is_skipped o) (ltb 0 o.valid_lifetime)
  where
    go : (x y : Bool) → (cond {A = Slaac} x s (cond {A = Slaac} y (add_prefix s (prefix_of o now)) (expire_prefix s (cidr_of o) now))).sync_required ≡ true
    go true y = h
    go false true = or_left s.sync_required _ h
    go false false = or_left s.sync_required _ h

options_asked : (now : Instant) (os : List PrefixInformation) (s : Slaac) → s.sync_required ≡ true
    → (fold_over (process_prefix_is now) s os).sync_required ≡ true
options_asked now [] s h = h
options_asked now (o ∷ os) s h = options_asked now os (process_prefix_is now s o) (option_asked now s o h)

module _ (r : Router) where
  -- another router's entry
  other_router : (source : Ipv6Addr) (f : Router → List Router) (new xs : List Router) → same_addr source r.addr ≡ false → Member r xs
      → Member r (at_first_is (is_router source) f new xs)
  other_router source f new xs n h = some_first (λ q. q ≡ r) (is_router source) f new xs (λ x e u. absurd (twice x e u)) h
    where
      twice : (x : Router) → is_router source x ≡ true → x ≡ r → ⊥
      twice x e u =
          true≢false
          (sym (subst (λ (a : Ipv6Addr). same_addr a r.addr ≡ true) (ap (λ (w : Router). w.addr) (sym u) ∙ same_addr_lem x.addr source e) (same_addr_refl r.addr)) ∙ n)

  router_there : (now : Instant) (s : Slaac) (source : Ipv6Addr) (d : Duration) → same_addr source r.addr ≡ false → Member r (routers_of s)
      → Member r (routers_of (process_router_is now s source d))
  unfolding process_router_is add_router expire_router
  router_there now s source d n h = go (ltb 0 d.0)
    where
      new : Router
      new = record { addr = source; valid_until = add_of now d }

      go : (x : Bool) → Member r (routers_of (cond {A = Slaac} x (add_router s new) (expire_router s source now)))
      go true =
          subst (Member r) (sym (entries_with s.routers (at_first_is (is_router source) (put_over new) (if_room 2 (routers_of s) new) (routers_of s))))
          (other_router source (put_over new) (if_room 2 (routers_of s) new) (routers_of s) n h)
      go false =
          subst (Member r) (sym (entries_with s.routers (at_first_is (is_router source) (router_ends now) [] (routers_of s))))
          (other_router source (router_ends now) [] (routers_of s) n h)

  learns_other : (s : Slaac) (source : Ipv6Addr) (msg : List ℕ) (now : Instant) → same_addr source r.addr ≡ false → Announced s r
      → Announced (steps2to4 s source msg now) r
  unfolding step2
  learns_other s source msg now n k =
      record {
        there =
            router_there now first source lifetime n (subst (Member r) (sym (options_routers now (prefix_options (options_in msg)) s)) k.there);
        is_on = steps_on s source msg now ∙ k.is_on;
        asked = router_asked now first source lifetime (options_asked now (prefix_options (options_in msg)) s k.asked);
      }
    where
      first : Slaac
      first = fold_over (process_prefix_is now) s (prefix_options (options_in msg))

      lifetime : Duration
      lifetime = seconds_of (router_advert_at msg).router_lifetime

  waiting : (i : ℕ) (hw : HardwareAddress) → Keeps i hw (MeanwhileOf i r.addr) (λ s t q. Announced s r)
  waiting i hw = record {
    discovery = λ s t q d k. record { there = k.there; is_on = k.is_on; asked = k.asked };
    learns = λ s t q source msg now ok taken k. learns_other s source msg now (ok taken) k;
    syncs = λ s t q now ok taken on k. absurd (ok taken);
    begins = λ s t q e k. absurd (true≢false (sym k.is_on ∙ e));
    adds = λ s t q c a ok h k. k;
    routes = λ s t q j c via a ok h k. k;
    clears = λ s t q ok k. absurd ok;
    syncs_there = λ s t q j now u n k. k;
    clears_there = λ s t q j n k. k;
  }

waits : (i : ℕ) (hw : HardwareAddress) (r : Router) (x y : Host) (cs : List HostCall) → Run i hw x cs y → All (MeanwhileOf i r.addr) cs → Announced x.slaac r
    → Announced y.slaac r
waits i hw r x y cs run ok k = keep_run (MeanwhileOf i r.addr) (λ s t q. Announced s r) (waiting r i hw) run ok k

offered_comes : (i : ℕ) (hw : HardwareAddress) (via : Ipv6Addr) (between : List HostCall) (x y z : Host) → RouteOffered i hw via between x y z
    → route_stands i via (routes_of z.routes) ≡ true
offered_comes i hw via between x y z k =
    comes i hw r k.later y z k.polls k.taken
    (waits i hw r k.heard y between k.waits k.meanwhile (announced_step k.hears k.announces)) k.valid k.room
  where
    r : Router
    r = router_by via k.msg k.now

-- Document 01's event file

file_announces : Announces 0 up_host.slaac router (header ++ prefix_bytes (offer network 3600 1800)) (ms 500)
unfolding formed_of walked options_of checksum_of same_key find before insert_state on_iface put_addr drop_addr first_local put_route drop_route add_prefix expire_prefix process_prefix_is add_router expire_router process_router_is turnDue sent solicitation sync_due leave_expired step2 last_source sync_prefix sync_router sync_addrs sync_routes turn_of buffer_of sent_of sync_turn poll_on
file_announces = record { taken = (refl, refl); is_on = refl; lifetime = omega arith; place = refl }

file_offers : RouteOffered 0 mac router [] up_host ra_host end_host
unfolding formed_of walked options_of checksum_of same_key find before insert_state on_iface put_addr drop_addr first_local put_route drop_route add_prefix expire_prefix process_prefix_is add_router expire_router process_router_is turnDue sent solicitation sync_due leave_expired step2 last_source sync_prefix sync_router sync_addrs sync_routes turn_of buffer_of sent_of sync_turn poll_on
file_offers =
    record {
      msg = header ++ prefix_bytes (offer network 3600 1800);
      now = ms 500;
      later = ms 500;
      heard = ra_host;
      hears = file_hears;
      announces = file_announces;
      waits = none ra_host;
      meanwhile = tt;
      polls = file_syncs;
      taken = refl;
      valid = ((λ f. refl), tt);
      room = inr (omega arith);
    }

file_waits : RouteOffered 0 mac router (advertise (neighbour 2).addr header (ms 500) ∷ []) up_host second_host both_host
unfolding formed_of walked options_of checksum_of same_key find before insert_state on_iface put_addr drop_addr first_local put_route drop_route add_prefix expire_prefix process_prefix_is add_router expire_router process_router_is turnDue sent solicitation sync_due leave_expired step2 last_source sync_prefix sync_router sync_addrs sync_routes turn_of buffer_of sent_of sync_turn poll_on
file_waits =
    record {
      msg = header ++ prefix_bytes (offer network 3600 1800);
      now = ms 500;
      later = ms 600;
      heard = ra_host;
      hears = file_hears;
      announces = file_announces;
      waits = one_more file_second (none second_host);
      meanwhile = ((λ taken. refl), tt);
      polls = file_both;
      taken = refl;
      valid = ((λ f. refl), ((λ f. refl), tt));
      room = inr (omega arith);
    }

file_made : RoutesMade 0 mac end_host
file_made =
    record {
      start = start_host;
      calls = poll (ms 0) ∷ advertise router (header ++ prefix_bytes (offer network 3600 1800)) (ms 500) ∷ poll (ms 500) ∷ [];
      run = one_more file_starts (one_more file_hears (one_more file_syncs (none end_host)));
      none_yet = refl;
    }

file_stands : route_stands 0 router (routes_of end_host.routes) ≡ true
unfolding formed_of walked options_of checksum_of same_key find before insert_state on_iface put_addr drop_addr first_local put_route drop_route add_prefix expire_prefix process_prefix_is add_router expire_router process_router_is turnDue sent solicitation sync_due leave_expired step2 last_source sync_prefix sync_router sync_addrs sync_routes turn_of buffer_of sent_of sync_turn poll_on
file_stands = refl

file_ends : RouterEnded router (ms 3600500) end_host.slaac
unfolding formed_of walked options_of checksum_of same_key find before insert_state on_iface put_addr drop_addr first_local put_route drop_route add_prefix expire_prefix process_prefix_is add_router expire_router process_router_is turnDue sent solicitation sync_due leave_expired step2 last_source sync_prefix sync_router sync_addrs sync_routes turn_of buffer_of sent_of sync_turn poll_on
file_ends = ((λ f. refl), tt)

pub routes_arrive : RoutesArrive
routes_arrive = record {
  backed = λ i hw via y m h. (led i via hw y m).router (any_dropped (is_installed i via) (routes_of y.routes) h);
  once = λ i hw via y m. (led i via hw y m).once;
  none_off = λ i hw via y m e. none_dropped (is_installed i via) (routes_of y.routes) ((led i via hw y m).off e);
  leaves =
      λ i hw via now x y s fine on once there ended.
      gone_step i via s fine (record { once = once; off = λ e. absurd (true≢false (sym on ∙ e)); router = λ h. there }) ended;
  leaves_made = λ i hw via now x y made s fine ended. gone_step i via s fine (led i via hw x made) ended;
  announced = λ i hw source msg now x y s k. announced_step s k;
  waits = waits;
  comes = comes;
  in_turn = in_turn;
  arrives = offered_comes;
  file_offers = file_offers;
  file_waits = file_waits;
  file_made = file_made;
  file_stands = file_stands;
  file_ends = file_ends;
  file_polls = file_polls;
  file_taken = refl;
}
