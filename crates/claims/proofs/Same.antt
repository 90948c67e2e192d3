-- What each call makes of what is the same: the same answer, and what is the same. Assumes nothing.
use Prim.Native.Nat.{ℕ}
use lib.Dec.{ltb}
use lib.ListN.{length, take, get_or}
use lib.Seq.{length-take-le}
use mathlib.Core.Bool.{Bool, true, false, cond}
use mathlib.Core.List.{List, [], ◌∷◌, ◌++◌}
use mathlib.Core.Path.{◌≡◌, refl, sym, ap, ◌∙◌}
use Rattle.std.specs.Prelude.{Result, Ok, Err, Option, Some, None}
use Rattle.wire.specs.declared.error.Refusal.{Refusal}
use Rattle.autoconf.specs.AdvertRules.{message_check, options_in, last_source, advertised, filled_by, step5, message_by, call_by}
use Rattle.autoconf.specs.OffRules.{cleared_cache, cleared_queue, cleared_handles, off_now, left_alone, off_by}
use Rattle.autoconf.specs.PollRules.{polled as left_by, synced, sync_turn, turn_of, sender_in, poll_on, poll_by}
use Rattle.autoconf.specs.SyncRules.{sync_router, sync_routes}
use Rattle.autoconf.specs.declared.AdvertAnswer.TheVariants.{Off}
use Rattle.autoconf.specs.declared.Advertised.{Advertised}
use Rattle.autoconf.specs.declared.PollAnswer.TheVariants.{Off as PollOff}
use Rattle.autoconf.specs.declared.PollAnswer.{PollAnswer}
use Rattle.autoconf.specs.declared.PolledAt.{PolledAt}
use Rattle.autoconf.specs.declared.TurnedOff.{TurnedOff}
use Rattle.claims.proofs.Lists.{entries_with}
use Rattle.claims.proofs.Wake.{swept_fits}
use Rattle.claims.specs.Same.{SameEntries, Same, SameQueue, SameRoutes, AlikeChanged, AlikeSwept, AlikePurged, AlikePolled, AlikeOff}
use Rattle.iface.specs.AddressRules.{clear_addrs}
use Rattle.iface.specs.RouteRules.{no_route, routes_of, with_routes as routes_with_lem, add_route_by, put_route, drop_route, clear_routes, route_at}
use Rattle.iface.specs.declared.addr.IfaceAddrs.{IfaceAddrs}
use Rattle.iface.specs.declared.route.Route.{Route}
use Rattle.iface.specs.declared.route.Routes.{Routes}
use Rattle.neighbor.specs.Answers.{listed}
use Rattle.neighbor.specs.CacheCalls.{key, entries, with_entries, change_by, ChangedTo, answer_in, lookup_by, get_by, remove_by, at_index, shown as shown_by, blank}
use Rattle.neighbor.specs.NeighborRules.{Table, Key, is_key, find, lasting, insert_state, remove_key, clear_iface}
use Rattle.neighbor.specs.declared.Answer.TheVariants.{NotFound}
use Rattle.neighbor.specs.declared.Changed.{Changed}
use Rattle.neighbor.specs.declared.NeighborCache.{NeighborCache}
use Rattle.neighbor.specs.declared.Removed.{Removed}
use Rattle.pending.specs.QueueCalls.{blank as blankPacket, queue_room, packets, with_packets, handles_of, push_by, release_by, purged_of, purge_by, at_index as packetIndex}
use Rattle.pending.specs.QueueRules.{Queue, has_key, push_list, push_answer, release_list, release_answer, orphaned, on_iface, dropped_handles}
use Rattle.pending.specs.declared.PendingPacket.{PendingPacket}
use Rattle.pending.specs.declared.PendingQueue.{PendingQueue}
use Rattle.pending.specs.declared.Released.{Released}
use Rattle.slaac.specs.ExpiryRules.{sync_due}
use Rattle.slaac.specs.Fields.{with_discovery}
use Rattle.slaac.specs.LearnedRules.{routers_of}
use Rattle.slaac.specs.declared.Router.{Router}
use Rattle.slaac.specs.declared.Slaac.{Slaac}
use Rattle.sweep.proofs.Entries.{sweep_entries, sweep_events}
use Rattle.sweep.specs.SweepCalls.{events_table, swept_in, sweep_by}
use Rattle.sweep.specs.SweepRules.{expire_clocks, sweep_table, sweep_looks}
use Rattle.table.specs.Table.{filled, kept, first_of, any_of, fold_over}
use Rattle.time.specs.ClockRules.{is_after}
use Rattle.time.specs.declared.Clock.{Clock}
use Rattle.time.specs.declared.Expiry.TheVariants.{At}
use Rattle.time.specs.declared.Instant.{Instant}
use Rattle.wire.specs.Rfc2464.{is_unicast_hardware}
use Rattle.wire.specs.declared.ethernet.HardwareAddress.{HardwareAddress}
use Rattle.wire.specs.declared.ipv6.Ipv6Addr.{Ipv6Addr}

-- Tables: what is given the same entries is the same

pub given : {A : Type 0} (slots slots' xs : List A) → SameEntries (filled slots xs) (length xs) (filled slots' xs) (length xs)
given slots slots' xs = record { entries = entries_with slots xs ∙ sym (entries_with slots' xs); count = refl }

-- and so by one rule on entries that are the same
pub changed : {A : Type 0} (slots : List A) (len : ℕ) (slots' : List A) (len' : ℕ) (f : List A → List A) → SameEntries slots len slots' len'
    → SameEntries (filled slots (f (take len slots))) (length (f (take len slots))) (filled slots' (f (take len' slots'))) (length (f (take len' slots')))
changed slots len slots' len' f s = rw s.entries (given slots slots' (f (take len' slots')))

-- The cache's calls

module _ (c d : NeighborCache) (s : Same c d) where
  pub put : (f : Table → Table) → Same (with_entries c (f (entries c))) (with_entries d (f (entries d)))
  put f = changed c.slots c.len d.slots d.len f s

  pub lookup_same : (x : Result (Unit {0}) Refusal) (k : Key) → lookup_by x c k ≡ lookup_by x d k
  lookup_same (Err why) k = refl
  lookup_same (Ok tt) k = ap (first_of (is_key k) answer_in (Ok NotFound)) s.entries

  pub get_same : (x : Result (Unit {0}) Refusal) (k : Key) → get_by x c k ≡ get_by x d k
  get_same (Err why) k = refl
  get_same (Ok tt) k = ap (first_of (is_key k) shown_by (Ok None)) s.entries

  pub at_same : (n : ℕ) → at_index c n ≡ at_index d n
  at_same n = ap (λ (t : Table). cond (ltb n (length t)) (Some (listed (get_or t n blank))) None) s.entries

  pub change_same : (x : Result (Unit {0}) Refusal) (f : Table → Table)
      → AlikeChanged (change_by x c (with_entries c (f (entries c)))) (change_by x d (with_entries d (f (entries d))))
  change_same (Err why) f = (refl, s)
  change_same (Ok tt) f = (refl, put f)

  pub by_change : (x : Result (Unit {0}) Refusal) (f : Table → Table) (r q : Changed) → ChangedTo x c (with_entries c (f (entries c))) r → ChangedTo x d (with_entries d (f (entries d))) q
      → AlikeChanged r q
  by_change x f r q p o = rw (p.is, o.is) (change_same x f)

  pub remove_same : (x : Result (Unit {0}) Refusal) (k : Key) → ((remove_by x c k).taken ≡ (remove_by x d k).taken) × Same (remove_by x c k).cache (remove_by x d k).cache
  remove_same (Err why) k = (refl, s)
  remove_same (Ok tt) k = rw s.entries (go (ltb (find k (entries d)) (length (entries d))))
    where
      after : NeighborCache → Bool → Removed
      after e b =
          cond b (record { cache = with_entries e (remove_key k (entries d)); taken = shown_by (get_or (entries d) (find k (entries d)) blank) })
          (record { cache = e; taken = Ok None })

      go : (b : Bool) → ((after c b).taken ≡ (after d b).taken) × Same (after c b).cache (after d b).cache
      go true = (refl, given c.slots d.slots (remove_key k (entries d)))
      go false = (refl, s)

-- A sweep

pub sweep_same : (x : Result (Unit {0}) Refusal) (c d : NeighborCache) (k : Clock) (i : ℕ) → Same c d → AlikeSwept (sweep_by x c k i) (sweep_by x d k i)
unfolding swept_in
sweep_same (Err why) c d k i s = (refl, refl, refl, refl, s)
sweep_same (Ok tt) c d k i s = (
  sweep_events c k i ∙ (ap (λ (t : Table). events_table (sweep_table i k.now t).events) s.entries ∙ sym (sweep_events d k i)),
  ap (λ (t : Table). length (sweep_looks i k.now t)) s.entries,
  refl,
  ap (expire_clocks k) s.entries,
  record { entries = left; count = sym (counted c) ∙ (ap length left ∙ counted d) },
)
  where
    counted : (e : NeighborCache) → length (entries (swept_in e k i).cache) ≡ (swept_in e k i).cache.len
    counted e = length-take-le (swept_in e k i).cache.len (swept_in e k i).cache.slots (swept_fits e k i)

    left : entries (swept_in c k i).cache ≡ entries (swept_in d k i).cache
    left = sweep_entries c k i ∙ (ap (λ (t : Table). (sweep_table i k.now t).table) s.entries ∙ sym (sweep_entries d k i))

-- The queue's calls

module _ (p q : PendingQueue) (s : SameQueue p q) where
  put_queue : (f : Queue → Queue) → SameQueue (with_packets p (f (packets p))) (with_packets q (f (packets q)))
  put_queue f = changed p.slots p.len q.slots q.len f s

  pub push_same : (x : Result (Unit {0}) Refusal) (o : PendingPacket) → ((push_by x p o).answer ≡ (push_by x q o).answer) × SameQueue (push_by x p o).queue (push_by x q o).queue
  push_same (Err why) o = (refl, s)
  push_same (Ok tt) o = (ap (push_answer queue_room) s.entries, put_queue (push_list queue_room o))

  pub release_same : (x : Result (Unit {0}) Refusal) (k : Key)
      → ((release_by x p k).answer ≡ (release_by x q k).answer) × SameQueue (release_by x p k).queue (release_by x q k).queue
  release_same (Err why) k = (refl, s)
  release_same (Ok tt) k = rw s.entries (go (any_of (has_key k) (packets q)))
    where
      after : PendingQueue → Bool → Released
      after o b =
          cond b (record { queue = with_packets o (release_list k (packets q)); answer = release_answer k (packets q) })
          (record { queue = o; answer = Ok None })

      go : (b : Bool) → ((after p b).answer ≡ (after q b).answer) × SameQueue (after p b).queue (after q b).queue
      go true = (refl, given p.slots q.slots (release_list k (packets q)))
      go false = (refl, s)

  purged_same : (goes : PendingPacket → Bool) → AlikePurged (purged_of p goes) (purged_of q goes)
  unfolding purged_of
  purged_same goes = (ap (λ (o : Queue). handles_of (dropped_handles goes o)) s.entries, refl, put_queue (kept goes))

  pub purge_same : (x : Result (Unit {0}) Refusal) (goes : PendingPacket → Bool) → AlikePurged (purge_by x p goes) (purge_by x q goes)
  purge_same (Err why) goes = (refl, refl, s)
  purge_same (Ok tt) goes = purged_same goes

  pub orphans_same : (c d : NeighborCache) → Same c d → AlikePurged (purged_of p (orphaned (entries c))) (purged_of q (orphaned (entries d)))
  orphans_same c d g = rw g.entries (purged_same (orphaned (entries d)))

  pub packet_same : (n : ℕ) → packetIndex p n ≡ packetIndex q n
  packet_same n = ap (λ (o : Queue). cond (ltb n (length o)) (Some (get_or o n blankPacket)) None) s.entries

-- The routes' calls

module _ (t u : Routes) (s : SameRoutes t u) where
  put_routes : (f : List Route → List Route) → SameRoutes (routes_with_lem t (f (routes_of t))) (routes_with_lem u (f (routes_of u)))
  put_routes f = changed t.slots t.len u.slots u.len f s

  pub added_same : (x : Result (Unit {0}) Refusal) (e : Route) → ((add_route_by x t e).outcome ≡ (add_route_by x u e).outcome) × SameRoutes (add_route_by x t e).routes (add_route_by x u e).routes
  added_same (Err why) e = (refl, s)
  added_same (Ok tt) e = (refl, put_routes (λ l. l ++ (e ∷ [])))

  pub route_same : (n : ℕ) → route_at t n ≡ route_at u n
  route_same n = ap (λ (l : List Route). cond (ltb n (length l)) (Some (get_or l n no_route)) None) s.entries

  router_same : (i : ℕ) (now : Instant) (r : Router) → SameRoutes (sync_router i now t r) (sync_router i now u r)
  unfolding sync_router
  router_same i now r = go (is_after (At r.valid_until) now)
    where
      after : Routes → Bool → Routes
      after l b =
          cond b (routes_with_lem l (put_route i r.addr r.valid_until (routes_of l))) (routes_with_lem l (drop_route i r.addr (routes_of l)))

      go : (b : Bool) → SameRoutes (after t b) (after u b)
      go true = put_routes (put_route i r.addr r.valid_until)
      go false = put_routes (drop_route i r.addr)

routers_same : (i : ℕ) (now : Instant) (rs : List Router) (t u : Routes) → SameRoutes t u
    → SameRoutes (fold_over (sync_router i now) t rs) (fold_over (sync_router i now) u rs)
routers_same i now [] t u s = s
routers_same i now (r ∷ rs) t u s = routers_same i now rs (sync_router i now t r) (sync_router i now u r) (router_same t u s i now r)

-- SLAAC's calls

pub advert_same : (s : Slaac) (c d : NeighborCache) (i : ℕ) (source : Ipv6Addr) (msg : List ℕ) (now : Instant) → Same c d → (x : Result (Unit {0}) Refusal)
    → ((call_by x s c i source msg now).slaac ≡ (call_by x s d i source msg now).slaac)
    × ((call_by x s c i source msg now).answer ≡ (call_by x s d i source msg now).answer)
    × Same (call_by x s c i source msg now).cache (call_by x s d i source msg now).cache
advert_same s c d i source msg now same (Err why) = (refl, refl, same)
advert_same s c d i source msg now same (Ok tt) = on_or_off s.on
  where
    step5_same : (l : Option HardwareAddress) → Same (step5 c i source l now) (step5 d i source l now)
    step5_same None = same
    step5_same (Some h) = go (is_unicast_hardware h)
      where
        go : (b : Bool) → Same (cond {A = NeighborCache} b (filled_by c i source h now) c) (cond {A = NeighborCache} b (filled_by d i source h now) d)
        go true = put c d same (insert_state (key i source) (lasting h now))
        go false = same

    message_same : (y : Result (Unit {0}) Refusal) → ((message_by y s c i source msg now).slaac ≡ (message_by y s d i source msg now).slaac)
        × ((message_by y s c i source msg now).answer ≡ (message_by y s d i source msg now).answer)
        × Same (message_by y s c i source msg now).cache (message_by y s d i source msg now).cache
    message_same (Err why) = (refl, refl, same)
    message_same (Ok tt) = (refl, refl, step5_same (last_source (options_in msg)))

    after : NeighborCache → Bool → Advertised
    after e b = cond b (message_by (message_check source msg) s e i source msg now) (advertised s e (Ok Off))

    on_or_off : (b : Bool) → ((after c b).slaac ≡ (after d b).slaac) × ((after c b).answer ≡ (after d b).answer) × Same (after c b).cache (after d b).cache
    on_or_off true = message_same (message_check source msg)
    on_or_off false = (refl, refl, same)

abbrev pub AlikeAt : PolledAt → PolledAt → Type 0
AlikeAt p o = AlikePolled p.polled o.polled × (p.clock ≡ o.clock)

module _ (r u : Routes) (same : SameRoutes r u) (t : IfaceAddrs) (i : ℕ) (hw : HardwareAddress) where
  sync_same : (s : Slaac) (now : Instant) (k : Clock) (a : Result PollAnswer Refusal) → AlikeAt (sync_turn s t r i hw now k a) (sync_turn s t u i hw now k a)
  unfolding sync_turn sync_routes
  sync_same s now k a = go (sync_due s k).expired
    where
      after : Routes → Bool → PolledAt
      after l b = cond b (synced s t l i hw now (sync_due s k).clock a) (left_by s t l (sync_due s k).clock a)

      go : (b : Bool) → AlikeAt (after r b) (after u b)
      go true = ((refl, refl, refl, routers_same i now (routers_of s) r u same), refl)
      go false = ((refl, refl, refl, same), refl)

  pub poll_same : (s : Slaac) (up : Bool) (buf : List ℕ) (k : Clock) (x : Result (Unit {0}) Refusal) → AlikeAt (poll_by x s t r i up hw buf k) (poll_by x s t u i up hw buf k)
  unfolding poll_on
  poll_same s up buf k (Err why) = ((refl, refl, refl, same), refl)
  poll_same s up buf k (Ok tt) = go s.on
    where
      after : Routes → Bool → PolledAt
      after l b = cond b (poll_on s t l i up hw buf k) (left_by s t l k (Ok PollOff))

      go : (b : Bool) → AlikeAt (after r b) (after u b)
      go true =
          let turn = turn_of s.discovery (sender_in up t) buf k in
          sync_same (with_discovery s turn.discovery) k.now turn.clock (Ok turn.answer)
      go false = ((refl, refl, refl, same), refl)

pub off_same : (s : Slaac) (t : IfaceAddrs) (r u : Routes) (c d : NeighborCache) (p q : PendingQueue) (i : ℕ) → SameRoutes r u → Same c d → SameQueue p q → (x : Result (Unit {0}) Refusal)
    → AlikeOff (off_by x s t r c p i) (off_by x s t u d q i)
unfolding off_now
off_same s t r u c d p q i sr sc sq (Err why) =
    record { slaac = refl; addrs = refl; handles = refl; outcome = refl; routes = sr; cache = sc; queue = sq }
off_same s t r u c d p q i sr sc sq (Ok tt) = go s.on
  where
    cleared : (b : Bool) → Same (cleared_cache b c i) (cleared_cache b d i)
    cleared true = put c d sc (clear_iface i)
    cleared false = sc

    purged_too : (b : Bool) → SameQueue (cleared_queue b p i) (cleared_queue b q i)
    purged_too true = put_queue p q sq (kept (on_iface i))
    purged_too false = sq

    handed : (b : Bool) → cleared_handles b p i ≡ cleared_handles b q i
    handed b = ap (λ (o : Queue). handles_of (cond b (dropped_handles (on_iface i) o) [])) sq.entries

    after : Routes → NeighborCache → PendingQueue → Bool → TurnedOff
    after l e o b = cond b (off_now t l e o i) (left_alone s t l e o (Ok tt))

    go : (b : Bool) → AlikeOff (after r c p b) (after u d q b)
    go true =
        record {
          slaac = refl;
          addrs = refl;
          handles = handed (clear_addrs t).any;
          outcome = refl;
          routes = put_routes r u sr (clear_routes i);
          cache = cleared (clear_addrs t).any;
          queue = purged_too (clear_addrs t).any;
        }
    go false = record { slaac = refl; addrs = refl; handles = refl; outcome = refl; routes = sr; cache = sc; queue = sq }
