-- What the calls on a host keep, if each change that they make of its state and its tables does. Assumes nothing.
use Prim.Native.Nat.{ℕ}
use mathlib.Core.Bool.{Bool, true, false, cond}
use mathlib.Core.List.{List}
use mathlib.Core.Path.{◌≡◌, refl, sym, subst}
use Rattle.std.specs.Prelude.{Result, Ok, Err}
use Rattle.wire.specs.declared.error.Refusal.{Refusal}
use Rattle.claims.specs.Early.{Host, HostCall, advertise, poll, add_addr, add_route, turn_off, Step, advertised, polled, polled_at, restarted, turned_on, addr_added, route_added, turned_off, polled_elsewhere, polled_at_elsewhere, off_elsewhere_lem, Run, none, one_more, TakesPoll, Takes}
use Rattle.claims.specs.Lists.{All}
use Rattle.autoconf.specs.AdvertRules.{message_check, steps2to4, message_by, call_by}
use Rattle.autoconf.specs.OffRules.{off_now, left_alone, off_by}
use Rattle.autoconf.specs.PollRules.{sync_turn, turn_of, sender_in, poll_on, poll_by}
use Rattle.autoconf.specs.SyncRules.{sync_addrs, sync_routes}
use Rattle.autoconf.specs.declared.AdvertAnswer.TheVariants.{Off}
use Rattle.autoconf.specs.declared.Advertised.{Advertised}
use Rattle.autoconf.specs.declared.PollAnswer.TheVariants.{Off as PollOff}
use Rattle.autoconf.specs.declared.PollAnswer.{PollAnswer}
use Rattle.autoconf.specs.declared.Polled.{Polled}
use Rattle.autoconf.specs.declared.PolledAt.{PolledAt}
use Rattle.autoconf.specs.declared.Turn.{Turn}
use Rattle.autoconf.specs.declared.TurnedOff.{TurnedOff}
use Rattle.iface.specs.AddressRules.{AddedTo, clear_addrs}
use Rattle.iface.specs.RouteRules.{routes_of, with_routes, AddedRouteTo, clear_routes}
use Rattle.iface.specs.declared.addr.Added.{Added}
use Rattle.iface.specs.declared.addr.IfaceAddrs.{IfaceAddrs}
use Rattle.iface.specs.declared.route.AddedRoute.{AddedRoute}
use Rattle.iface.specs.declared.route.Routes.{Routes}
use Rattle.neighbor.specs.declared.NeighborCache.{NeighborCache}
use Rattle.pending.specs.declared.PendingQueue.{PendingQueue}
use Rattle.slaac.specs.DiscoveryRules.{turn_by, restarted as restartedOf, turned_on_is, begun, fresh}
use Rattle.slaac.specs.ExpiryRules.{sync_due, leave_expired}
use Rattle.slaac.specs.Fields.{with_discovery}
use Rattle.slaac.specs.declared.Changed.{Changed}
use Rattle.slaac.specs.declared.Discovery.{Discovery}
use Rattle.slaac.specs.declared.Slaac.{Slaac}
use Rattle.time.specs.declared.Clock.{Clock}
use Rattle.time.specs.declared.Instant.{Instant}
use Rattle.wire.specs.Refusals.{iface_check, time_check}
use Rattle.wire.specs.declared.ethernet.HardwareAddress.{HardwareAddress}
use Rattle.wire.specs.declared.ipv6.Ipv6Addr.{Ipv6Addr}
use Rattle.wire.specs.declared.ipv6.Ipv6Cidr.{Ipv6Cidr}

-- A turn of the sync, and a poll that is taken, case by case

pub turn_cases : (Q : PolledAt → Type 0) (s : Slaac) (t : IfaceAddrs) (r : Routes) (i : ℕ) (hw : HardwareAddress) (now : Instant) (k : Clock) (w : Result PollAnswer Refusal)
    → ((sync_due s k).expired ≡ true → Q (record { clock = (sync_due s k).clock; polled = record { slaac = leave_expired now s; addrs = sync_addrs hw now t s; routes = sync_routes i now r s; answer = w } }))
    → ((sync_due s k).expired ≡ false → Q (record { clock = (sync_due s k).clock; polled = record { slaac = s; addrs = t; routes = r; answer = w } }))
    → Q (sync_turn s t r i hw now k w)
unfolding sync_turn
turn_cases Q s t r i hw now k w f g = go (sync_due s k).expired refl
  where
    go : (b : Bool) → (sync_due s k).expired ≡ b
        → Q (cond b (record { clock = (sync_due s k).clock; polled = record { slaac = leave_expired now s; addrs = sync_addrs hw now t s; routes = sync_routes i now r s; answer = w } })
        (record { clock = (sync_due s k).clock; polled = record { slaac = s; addrs = t; routes = r; answer = w } }))
    go true e = f e
    go false e = g e

-- the solicitation's turn, and the sync's after it
abbrev pub turn_in : Slaac → IfaceAddrs → Bool → List ℕ → Clock → Turn
turn_in s t up buf k = turn_of s.discovery (sender_in up t) buf k

abbrev pub sync_after : Turn → Slaac → IfaceAddrs → Routes → ℕ → HardwareAddress → Instant → PolledAt
sync_after u s t r i hw now = sync_turn (with_discovery s u.discovery) t r i hw now u.clock (Ok u.answer)

pub poll_cases : (Q : PolledAt → Type 0) (s : Slaac) (t : IfaceAddrs) (r : Routes) (i : ℕ) (up : Bool) (hw : HardwareAddress) (buf : List ℕ) (k : Clock)
    → (s.on ≡ true → Q (sync_after (turn_in s t up buf k) s t r i hw k.now))
    → (s.on ≡ false → Q (record { clock = k; polled = record { slaac = s; addrs = t; routes = r; answer = Ok PollOff } })) → Q (poll_by (Ok tt) s t r i up hw buf k)
unfolding poll_on
poll_cases Q s t r i up hw buf k f g = go s.on refl
  where
    go : (b : Bool) → s.on ≡ b
        → Q (cond b (sync_after (turn_in s t up buf k) s t r i hw k.now) (record { clock = k; polled = record { slaac = s; addrs = t; routes = r; answer = Ok PollOff } }))
    go true e = f e
    go false e = g e

-- One function

module _ (P : Slaac → IfaceAddrs → Routes → Type 0) where
  message_keeps : (x : Result (Unit {0}) Refusal) (s : Slaac) (t : IfaceAddrs) (r : Routes) (c : NeighborCache) (i : ℕ) (source : Ipv6Addr) (msg : List ℕ) (now : Instant)
      → (x ≡ Ok tt → P (steps2to4 s source msg now) t r) → P s t r → P (message_by x s c i source msg now).slaac t r
  message_keeps (Err why) s t r c i source msg now f h = h
  message_keeps (Ok tt) s t r c i source msg now f h = f refl

  pub call_keeps : (x : Result (Unit {0}) Refusal) (s : Slaac) (t : IfaceAddrs) (r : Routes) (c : NeighborCache) (i : ℕ) (source : Ipv6Addr) (msg : List ℕ) (now : Instant)
      → ((x ≡ Ok tt) × (message_check source msg ≡ Ok tt) → P (steps2to4 s source msg now) t r) → P s t r → P (call_by x s c i source msg now).slaac t r
  call_keeps (Err why) s t r c i source msg now f h = h
  call_keeps (Ok tt) s t r c i source msg now f h = go s.on
    where
      go : (b : Bool) → P (cond {A = Advertised} b (message_by (message_check source msg) s c i source msg now) (record { slaac = s; cache = c; answer = Ok Off })).slaac t r
      go true = message_keeps (message_check source msg) s t r c i source msg now (λ e. f (refl, e)) h
      go false = h

  turn_keeps : (s : Slaac) (t : IfaceAddrs) (r : Routes) (i : ℕ) (hw : HardwareAddress) (now : Instant) (k : Clock) (w : Result PollAnswer Refusal)
      → P (leave_expired now s) (sync_addrs hw now t s) (sync_routes i now r s) → P s t r
      → P (sync_turn s t r i hw now k w).polled.slaac (sync_turn s t r i hw now k w).polled.addrs (sync_turn s t r i hw now k w).polled.routes
  turn_keeps s t r i hw now k w f h = turn_cases (λ q. P q.polled.slaac q.polled.addrs q.polled.routes) s t r i hw now k w (λ e. f) (λ e. h)

  poll_keeps : (x : Result (Unit {0}) Refusal) (s : Slaac) (t : IfaceAddrs) (r : Routes) (i : ℕ) (up : Bool) (hw : HardwareAddress) (buf : List ℕ) (k : Clock)
      → ((d : Discovery) → P (with_discovery s d) t r)
      → ((u : Slaac) → x ≡ Ok tt → u.on ≡ true → P u t r → P (leave_expired k.now u) (sync_addrs hw k.now t u) (sync_routes i k.now r u)) → P s t r
      → P (poll_by x s t r i up hw buf k).polled.slaac (poll_by x s t r i up hw buf k).polled.addrs (poll_by x s t r i up hw buf k).polled.routes
  poll_keeps (Err why) s t r i up hw buf k d f h = h
  poll_keeps (Ok tt) s t r i up hw buf k d f h =
      poll_cases (λ q. P q.polled.slaac q.polled.addrs q.polled.routes) s t r i up hw buf k
      (λ e. turn_keeps (with_discovery s u.discovery) t r i hw k.now u.clock (Ok u.answer) (f (with_discovery s u.discovery) refl e (d u.discovery)) (d u.discovery))
      (λ e. h)
    where
      u : Turn
      u = turn_in s t up buf k

  pub restart_keeps : (x : Result (Unit {0}) Refusal) (s : Slaac) (t : IfaceAddrs) (r : Routes) → ((d : Discovery) → P (with_discovery s d) t r) → P s t r
      → P (turn_by x s (restartedOf s)).slaac t r
  restart_keeps (Err why) s t r d h = h
  restart_keeps (Ok tt) s t r d h = go s.on
    where
      go : (b : Bool) → P (cond {A = Slaac} b (with_discovery s begun) s) t r
      go true = d begun
      go false = h

  on_keeps : (x : Result (Unit {0}) Refusal) (s : Slaac) (t : IfaceAddrs) (r : Routes) → (s.on ≡ false → P (fresh true) t r) → P s t r → P (turn_by x s (turned_on_is s)).slaac t r
  on_keeps (Err why) s t r f h = h
  on_keeps (Ok tt) s t r f h = go s.on refl
    where
      go : (b : Bool) → s.on ≡ b → P (cond {A = Slaac} b s (fresh true)) t r
      go true e = h
      go false e = f e

  off_keeps : (x : Result (Unit {0}) Refusal) (s : Slaac) (t : IfaceAddrs) (r : Routes) (c : NeighborCache) (q : PendingQueue) (i : ℕ)
      → P (fresh false) (clear_addrs t).addrs (with_routes r (clear_routes i (routes_of r))) → P s t r
      → P (off_by x s t r c q i).slaac (off_by x s t r c q i).addrs (off_by x s t r c q i).routes
  unfolding off_now
  off_keeps (Err why) s t r c q i f h = h
  off_keeps (Ok tt) s t r c q i f h = go s.on
    where
      after : Bool → TurnedOff
      after b = cond b (off_now t r c q i) (left_alone s t r c q (Ok tt))

      go : (b : Bool) → P (after b).slaac (after b).addrs (after b).routes
      go true = f
      go false = h

-- Every call that is allowed: the changes that it may make

pub record Keeps (i : ℕ) (hw : HardwareAddress) (allowed : HostCall → Type 0) (P : Slaac → IfaceAddrs → Routes → Type 0) : Type 0 where
  pub discovery : (s : Slaac) (t : IfaceAddrs) (r : Routes) (d : Discovery) → P s t r → P (with_discovery s d) t r
  pub learns : (s : Slaac) (t : IfaceAddrs) (r : Routes) (source : Ipv6Addr) (msg : List ℕ) (now : Instant) → allowed (advertise source msg now) → Takes i source msg now
      → P s t r → P (steps2to4 s source msg now) t r
  pub syncs : (s : Slaac) (t : IfaceAddrs) (r : Routes) (now : Instant) → allowed (poll now) → TakesPoll i now → s.on ≡ true → P s t r
      → P (leave_expired now s) (sync_addrs hw now t s) (sync_routes i now r s)
  pub begins : (s : Slaac) (t : IfaceAddrs) (r : Routes) → s.on ≡ false → P s t r → P (fresh true) t r
  pub adds : (s : Slaac) (t : IfaceAddrs) (r : Routes) (c : Ipv6Cidr) (a : Added) → allowed add_addr → AddedTo t i c a → P s t r → P s a.addrs r
  pub routes : (s : Slaac) (t : IfaceAddrs) (r : Routes) (j : ℕ) (c : Ipv6Cidr) (via : Ipv6Addr) (a : AddedRoute) → allowed add_route → AddedRouteTo r j c via a → P s t r
      → P s t a.routes
  pub clears : (s : Slaac) (t : IfaceAddrs) (r : Routes) → allowed turn_off → P s t r → P (fresh false) (clear_addrs t).addrs (with_routes r (clear_routes i (routes_of r)))
  -- and those of another interface, on the routes
  pub syncs_there : (s : Slaac) (t : IfaceAddrs) (r : Routes) (j : ℕ) (now : Instant) (u : Slaac) → (j ≡ i → ⊥) → P s t r → P s t (sync_routes j now r u)
  pub clears_there : (s : Slaac) (t : IfaceAddrs) (r : Routes) (j : ℕ) → (j ≡ i → ⊥) → P s t r → P s t (with_routes r (clear_routes j (routes_of r)))

module _ {i : ℕ} {hw : HardwareAddress} (allowed : HostCall → Type 0) (P : Slaac → IfaceAddrs → Routes → Type 0) (keeps : Keeps i hw allowed P) where
  abbrev On : Host → Type 0
  On x = P x.slaac x.addrs x.routes

  pub keep_step : {x y : Host} {c : HostCall} → Step i hw x c y → allowed c → On x → On y
  keep_step (advertised x c source msg now r p) ok h =
      subst (λ (q : Advertised). P q.slaac x.addrs x.routes) (sym p.is)
      (call_keeps P (time_check now i) x.slaac x.addrs x.routes c i source msg now
      (λ taken. keeps.learns x.slaac x.addrs x.routes source msg now ok taken h) h)
  keep_step (polled x up buf buf' k k' r p) ok h =
      subst (λ (q : Polled). P q.slaac q.addrs q.routes) (sym p.is)
      (poll_keeps P (time_check k.now i) x.slaac x.addrs x.routes i up hw buf k (λ d. keeps.discovery x.slaac x.addrs x.routes d h)
      (λ u taken on g. keeps.syncs u x.addrs x.routes k.now ok taken on g) h)
  keep_step (polled_at x up buf buf' k r p) ok h =
      subst (λ (q : PolledAt). P q.polled.slaac q.polled.addrs q.polled.routes) (sym p.is)
      (poll_keeps P (time_check k.now i) x.slaac x.addrs x.routes i up hw buf k (λ d. keeps.discovery x.slaac x.addrs x.routes d h)
      (λ u taken on g. keeps.syncs u x.addrs x.routes k.now ok taken on g) h)
  keep_step (restarted x r p) ok h =
      subst (λ (q : Changed). P q.slaac x.addrs x.routes) (sym p.is)
      (restart_keeps P (iface_check i) x.slaac x.addrs x.routes (λ d. keeps.discovery x.slaac x.addrs x.routes d h) h)
  keep_step (turned_on x r p) ok h =
      subst (λ (q : Changed). P q.slaac x.addrs x.routes) (sym p.is)
      (on_keeps P (iface_check i) x.slaac x.addrs x.routes (λ e. keeps.begins x.slaac x.addrs x.routes e h) h)
  keep_step (addr_added x c a p) ok h = keeps.adds x.slaac x.addrs x.routes c a ok p h
  keep_step (route_added x j c via a p) ok h = keeps.routes x.slaac x.addrs x.routes j c via a ok p h
  keep_step (turned_off x c q r p) ok h =
      subst (λ (w : TurnedOff). P w.slaac w.addrs w.routes) (sym p.is)
      (off_keeps P (iface_check i) x.slaac x.addrs x.routes c q i (keeps.clears x.slaac x.addrs x.routes ok h) h)
  keep_step (polled_elsewhere x j s t up hw' buf buf' k k' r n p) ok h =
      subst (λ (q : Polled). P x.slaac x.addrs q.routes) (sym p.is)
      (poll_keeps (λ s' t'. P x.slaac x.addrs) (time_check k.now j) s t x.routes j up hw' buf k (λ d. h)
      (λ u taken on g. keeps.syncs_there x.slaac x.addrs x.routes j k.now u n g) h)
  keep_step (polled_at_elsewhere x j s t up hw' buf buf' k r n p) ok h =
      subst (λ (q : PolledAt). P x.slaac x.addrs q.polled.routes) (sym p.is)
      (poll_keeps (λ s' t'. P x.slaac x.addrs) (time_check k.now j) s t x.routes j up hw' buf k (λ d. h)
      (λ u taken on g. keeps.syncs_there x.slaac x.addrs x.routes j k.now u n g) h)
  keep_step (off_elsewhere_lem x j s t c q r n p) ok h =
      subst (λ (w : TurnedOff). P x.slaac x.addrs w.routes) (sym p.is)
      (off_keeps (λ s' t'. P x.slaac x.addrs) (iface_check j) s t x.routes c q j (keeps.clears_there x.slaac x.addrs x.routes j n h) h)

  pub keep_run : {x y : Host} {cs : List HostCall} → Run i hw x cs y → All allowed cs → On x → On y
  keep_run (none x) ok h = h
  keep_run (one_more s r) ok h = keep_run r ok.1 (keep_step s ok.0 h)
