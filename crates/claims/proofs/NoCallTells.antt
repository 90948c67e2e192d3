-- No call tells apart what is the same: of what the promises allow, call by call, and then any calls. Assumes nothing.
use Prim.Native.Nat.{ℕ}
use mathlib.Core.Bool.{Bool}
use mathlib.Core.List.{List, ◌∷◌}
use mathlib.Core.Path.{◌≡◌, refl, sym, ap, ap₂, ◌∙◌}
use Rattle.std.specs.Prelude.{Ok, Option, Some, None}
use Rattle.autoconf.specs.AdvertRules.{AdvertisedTo}
use Rattle.autoconf.specs.OffRules.{TurnedOffTo}
use Rattle.autoconf.specs.PollRules.{PolledTo}
use Rattle.autoconf.specs.declared.Advertised.{Advertised}
use Rattle.autoconf.specs.declared.Polled.{Polled}
use Rattle.autoconf.specs.declared.PolledAt.{PolledAt}
use Rattle.autoconf.specs.declared.TurnedOff.{TurnedOff}
use Rattle.claims.proofs.Same.{lookup_same, get_same, at_same, by_change, remove_same, sweep_same, push_same, release_same, purge_same, orphans_same, packet_same, added_same, route_same, advert_same, poll_same, off_same}
use Rattle.claims.proofs.SameCards.{AlikeTurned, taken_same, settled_same, buffer_same, turned_same, turn_buffer_same, ran_same}
use Rattle.claims.specs.Counts.{node_on, one_handle}
use Rattle.claims.specs.Same.{AlikeSwept, Same, SameQueue, SameRoutes, Held, SameHeld, Call, Returned, found, gave_neighbor, ended, swept, pushed, released, purged, gave_packet, gave_route, heard, polled, off, Step, looks_up, starts, fills, inserts, gets, lists_neighbors, removes, clears, sweeps, sweeps_at, pushes, releases, purges_orphans, purges_iface, lists_packets, adds_route, lists_routes, hears, polls, polls_at, turns_off, Run, none, one_more, AlikePurged, AlikePolled, AlikeOff, NoCallTells, SameCard, AlikeTaken, AlikeSettled, card_of, held_by_is, took, settled, turned, ran, takes, settles, turns, runs, cache_now, queue_now, routes_now, told, telling, holding, cache_with, entry_on, queue_with, packet_on}
use Rattle.iface.specs.RouteRules.{routes_of, manual_route, route_check, AddedRouteTo}
use Rattle.iface.specs.declared.addr.IfaceAddrs.{IfaceAddrs}
use Rattle.iface.specs.declared.route.AddedRoute.{AddedRoute}
use Rattle.iface.specs.declared.route.Routes.{Routes}
use Rattle.lent.specs.LentRules.{ReportedTo, PolledBy}
use Rattle.lent.specs.declared.Reported.{Reported}
use Rattle.mainloop.specs.LoopRules.{taken, SettledTo, TurnedTo, reports_of, RanTo}
use Rattle.mainloop.specs.declared.Card.{Card}
use Rattle.mainloop.specs.declared.Inbox.{Inbox}
use Rattle.mainloop.specs.declared.Input.{Input}
use Rattle.mainloop.specs.declared.Ran.{Ran}
use Rattle.mainloop.specs.declared.Settled.{Settled}
use Rattle.mainloop.specs.declared.Taken.{Taken}
use Rattle.mainloop.specs.declared.Turned.{Turned}
use Rattle.mainloop.specs.declared.Woken.{Woken}
use Rattle.neighbor.specs.CacheCalls.{key, changed_to, RemovedTo}
use Rattle.neighbor.specs.NeighborRules.{same_key, find, lasting, insert_state, on_iface as entryOnIface, clear_iface}
use Rattle.neighbor.specs.declared.Answer.TheVariants.{Pending, NotFound}
use Rattle.neighbor.specs.declared.Entry.{Entry}
use Rattle.neighbor.specs.declared.Neighbor.{Neighbor}
use Rattle.neighbor.specs.declared.NeighborCache.{NeighborCache}
use Rattle.neighbor.specs.declared.Removed.{Removed}
use Rattle.neighbor.specs.declared.State.TheVariants.{Started, Reachable}
use Rattle.pending.specs.QueueCalls.{purged_of, PushedTo, ReleasedTo, OrphansPurged, PurgedTo}
use Rattle.pending.specs.QueueRules.{packet, push_list, push_answer, orphaned, on_iface, dropped_handles}
use Rattle.pending.specs.declared.PendingPacket.{PendingPacket}
use Rattle.pending.specs.declared.PendingQueue.{PendingQueue}
use Rattle.pending.specs.declared.Purged.{Purged}
use Rattle.pending.specs.declared.Pushed.{Pushed}
use Rattle.pending.specs.declared.Released.{Released}
use Rattle.slaac.specs.declared.Slaac.{Slaac}
use Rattle.sweep.specs.SweepCalls.{sweep_check, SweptTo}
use Rattle.sweep.specs.declared.Swept.{Swept}
use Rattle.time.specs.declared.Clock.{Clock}
use Rattle.time.specs.declared.Instant.{Instant}
use Rattle.wire.specs.Refusals.{fill_check, key_check, iface_check, time_check}
use Rattle.wire.specs.declared.ethernet.HardwareAddress.{HardwareAddress}
use Rattle.wire.specs.declared.ipv6.Ipv6Addr.{Ipv6Addr}
use Rattle.wire.specs.declared.ipv6.Ipv6Cidr.{Ipv6Cidr}

-- Each call, of what its promise allows

adverts_same : (c d : NeighborCache) (s : Slaac) (i : ℕ) (source : Ipv6Addr) (msg : List ℕ) (now : Instant) (x y : Advertised) → Same c d → AdvertisedTo s c i source msg now x
    → AdvertisedTo s d i source msg now y → (x.slaac ≡ y.slaac) × (x.answer ≡ y.answer) × Same x.cache y.cache
adverts_same c d s i source msg now x y same p o = rw (p.is, o.is) (advert_same s c d i source msg now same (time_check now i))

polls_same : (r u : Routes) (s : Slaac) (t : IfaceAddrs) (i : ℕ) (up : Bool) (hw : HardwareAddress) (buf buf' buf'' : List ℕ) (k k' k'' : Clock) (p o : Polled)
    → SameRoutes r u → PolledBy s t r i up hw buf k p buf' k' → PolledBy s t u i up hw buf k o buf'' k''
    → AlikePolled p o × (buf' ≡ buf'') × (k' ≡ k'')
polls_same r u s t i up hw buf buf' buf'' k k' k'' p o same f g =
    let alike = poll_same r u same t i hw s up buf k (time_check k.now i) in
    (rw (f.is, g.is) alike.0, f.leaves ∙ sym g.leaves, f.clock ∙ (alike.1 ∙ sym g.clock))

polls_at_same : (r u : Routes) (s : Slaac) (t : IfaceAddrs) (i : ℕ) (up : Bool) (hw : HardwareAddress) (buf buf' buf'' : List ℕ) (k : Clock) (p o : PolledAt)
    → SameRoutes r u → PolledTo s t r i up hw buf k p buf' → PolledTo s t u i up hw buf k o buf''
    → AlikePolled p.polled o.polled × (buf' ≡ buf'') × (p.clock ≡ o.clock)
polls_at_same r u s t i up hw buf buf' buf'' k p o same f g =
    let alike = poll_same r u same t i hw s up buf k (time_check k.now i) in
    (rw (f.is, g.is) alike.0, f.leaves ∙ sym g.leaves, rw (f.is, g.is) alike.1)

offs_same : (s : Slaac) (t : IfaceAddrs) (r u : Routes) (c d : NeighborCache) (p q : PendingQueue) (i : ℕ) (x y : TurnedOff) → SameRoutes r u → Same c d → SameQueue p q
    → TurnedOffTo s t r c p i x → TurnedOffTo s t u d q i y → AlikeOff x y
offs_same s t r u c d p q i x y sr sc sq f g = rw (f.is, g.is) (off_same s t r u c d p q i sr sc sq (iface_check i))

sweeps_same : (c d : NeighborCache) (k k' k'' : Clock) (i : ℕ) (r s : Reported) → Same c d → ReportedTo c k i r k' → ReportedTo d k i s k''
    → (r.events ≡ s.events) × (r.looked ≡ s.looked) × (r.outcome ≡ s.outcome) × (k' ≡ k'') × Same r.cache s.cache
sweeps_same c d k k' k'' i r s same f g = rw (f.is, g.is, f.clock, g.clock) (sweep_same (sweep_check k i) c d k i same)

sweeps_at_same : (c d : NeighborCache) (k : Clock) (i : ℕ) (r s : Swept) → Same c d → SweptTo c k i r → SweptTo d k i s → AlikeSwept r s
sweeps_at_same c d k i r s same f g = rw (f.is, g.is) (sweep_same (sweep_check k i) c d k i same)

removes_same : (c d : NeighborCache) (i : ℕ) (a : Ipv6Addr) (r s : Removed) → Same c d → RemovedTo c i a r → RemovedTo d i a s → (r.taken ≡ s.taken) × Same r.cache s.cache
removes_same c d i a r s same f g = rw (f.is, g.is) (remove_same c d same (iface_check i) (key i a))

pushes_same : (p q : PendingQueue) (i : ℕ) (a : Ipv6Addr) (n : ℕ) (r s : Pushed) → SameQueue p q → PushedTo p i a n r → PushedTo q i a n s
    → (r.answer ≡ s.answer) × SameQueue r.queue s.queue
pushes_same p q i a n r s same f g = rw (f.is, g.is) (push_same p q same (iface_check i) (packet (key i a) n))

releases_same : (p q : PendingQueue) (i : ℕ) (a : Ipv6Addr) (r s : Released) → SameQueue p q → ReleasedTo p i a r → ReleasedTo q i a s
    → (r.answer ≡ s.answer) × SameQueue r.queue s.queue
releases_same p q i a r s same f g = rw (f.is, g.is) (release_same p q same (iface_check i) (key i a))

all_orphans_same : (p q : PendingQueue) (c d : NeighborCache) (r s : Purged) → SameQueue p q → Same c d → OrphansPurged p c r → OrphansPurged q d s → AlikePurged r s
all_orphans_same p q c d r s sq sc f g = rw (f.is, g.is) (orphans_same p q sq c d sc)

purges_same : (p q : PendingQueue) (i : ℕ) (r s : Purged) → SameQueue p q → PurgedTo p i r → PurgedTo q i s → AlikePurged r s
purges_same p q i r s same f g = rw (f.is, g.is) (purge_same p q same (iface_check i) (on_iface i))

adds_same : (t u : Routes) (i : ℕ) (to : Ipv6Cidr) (via : Ipv6Addr) (r s : AddedRoute) → SameRoutes t u → AddedRouteTo t i to via r → AddedRouteTo u i to via s
    → (r.outcome ≡ s.outcome) × SameRoutes r.routes s.routes
adds_same t u i to via r s same f g =
    rw (f.is, g.is, ap (route_check i to via) same.entries) (added_same t u same (route_check i to via (routes_of u)) (manual_route i to via))

-- the main loop's

takes_same : (x y : Card) (input : Input) (message : List ℕ) (now : Instant) (t u : Taken) → SameCard x y → t ≡ taken x input message now → u ≡ taken y input message now → AlikeTaken t u
takes_same x y input message now t u s f g = rw (f, g) (taken_same x y s input message now)

settles_same : (x y : Card) (up : Bool) (hw : HardwareAddress) (buf buf' buf'' : List ℕ) (now : Instant) (r q : Settled) → SameCard x y → SettledTo x up hw buf now r buf'
    → SettledTo y up hw buf now q buf'' → AlikeSettled r q × (buf' ≡ buf'')
settles_same x y up hw buf buf' buf'' now r q s f g =
    (rw (f.is, g.is) (settled_same x y s up hw buf now), f.leaves ∙ (buffer_same x y s up hw buf now ∙ sym g.leaves))

turns_same : (x y : Card) (w : Woken) (received : List ℕ) (hw : HardwareAddress) (buf buf' buf'' : List ℕ) (t u : Turned) → SameCard x y
    → TurnedTo x w received hw buf t buf' → TurnedTo y w received hw buf u buf''
    → SameCard t.card u.card × (t.report ≡ u.report) × (t.wake ≡ u.wake) × (buf' ≡ buf'')
turns_same x y w received hw buf buf' buf'' t u s f g =
    let e : AlikeTurned t u = rw (f.is, g.is) (turned_same x y s received hw buf w) in
    (e.card, e.report, e.wake, f.leaves ∙ (turn_buffer_same x y s received hw buf w ∙ sym g.leaves))

runs_same : (x y : Card) (wake : Option Instant) (inbox : Inbox) (received : List ℕ) (hw : HardwareAddress) (buf buf' buf'' : List ℕ) (budget : ℕ) (r q : Ran) → SameCard x y
    → RanTo x wake inbox received hw buf budget r buf' → RanTo y wake inbox received hw buf budget q buf''
    → SameCard r.card q.card × (r.reports ≡ q.reports) × (r.wake ≡ q.wake) × (buf' ≡ buf'')
runs_same x y wake inbox received hw buf buf' buf'' budget r q s f g =
    let e = ran_same x y wake inbox received hw buf budget s in (
      rw (f.is, g.is) e.card,
      rw (f.is, g.is) (ap reports_of e.reports),
      rw (f.is, g.is) e.wake,
      f.leaves ∙ (e.buffer ∙ sym g.leaves),
    )

-- Steps and runs

with_cache : {h g : Held} {c d : NeighborCache} → SameHeld h g → Same c d → SameHeld (cache_now h c) (cache_now g d)
with_cache s e = record { cache = e; queue = s.queue; routes = s.routes }

with_queue : {h g : Held} {p q : PendingQueue} → SameHeld h g → SameQueue p q → SameHeld (queue_now h p) (queue_now g q)
with_queue s e = record { cache = s.cache; queue = e; routes = s.routes }

with_routes : {h g : Held} {t u : Routes} → SameHeld h g → SameRoutes t u → SameHeld (routes_now h t) (routes_now g u)
with_routes s e = record { cache = s.cache; queue = s.queue; routes = e }

with_card : {h g : Held} {l : Slaac} {t : IfaceAddrs} → SameHeld h g → SameCard (card_of h l t) (card_of g l t)
with_card s = record { slaac = refl; addrs = refl; routes = s.routes; cache = s.cache; queue = s.queue }

held_by : {x y : Card} → SameCard x y → SameHeld (held_by_is x) (held_by_is y)
held_by s = record { cache = s.cache; queue = s.queue; routes = s.routes }

step_same : {h g h' g' : Held} {call : Call} {x y : Returned} → SameHeld h g → Step h call x h' → Step g call y g' → (x ≡ y) × SameHeld h' g'
step_same s (looks_up h i a r p) (looks_up g j b q o) =
    (ap found (p.is ∙ (lookup_same h.cache g.cache s.cache (key_check i a) (key i a) ∙ sym o.is)), s)
step_same s (starts h i a r p) (starts g j b q o) =
    let e = by_change h.cache g.cache s.cache (key_check i a) (insert_state (key i a) Started) r q p o in (ap ended e.0, with_cache s e.1)
step_same s (fills h i a hw now r p) (fills g j b hw' now' q o) =
    let e = by_change h.cache g.cache s.cache (fill_check now i a hw) (insert_state (key i a) (lasting hw now)) r q p o in
    (ap ended e.0, with_cache s e.1)
step_same s (inserts h i a hw expires r p) (inserts g j b hw' expires' q o) =
    let e = by_change h.cache g.cache s.cache (fill_check expires i a hw) (insert_state (key i a) (Reachable hw expires)) r q p o in
    (ap ended e.0, with_cache s e.1)
step_same s (gets h i a r p) (gets g j b q o) =
    (ap gave_neighbor (p.is ∙ (get_same h.cache g.cache s.cache (iface_check i) (key i a) ∙ sym o.is)), s)
step_same s (lists_neighbors h n r p) (lists_neighbors g m q o) =
    (ap (λ (x : Option Neighbor). gave_neighbor (Ok x)) (p.is ∙ (at_same h.cache g.cache s.cache n ∙ sym o.is)), s)
step_same s (removes h i a r p) (removes g j b q o) =
    let e = removes_same h.cache g.cache i a r q s.cache p o in (ap gave_neighbor e.0, with_cache s e.1)
step_same s (clears h i r p) (clears g j q o) =
    let e = by_change h.cache g.cache s.cache (iface_check i) (clear_iface i) r q p o in (ap ended e.0, with_cache s e.1)
step_same s (sweeps h k k' i r p) (sweeps g l l' j q o) =
    let e = sweeps_same h.cache g.cache k k' l' i r q s.cache p o in
    (λ n. swept (e.0 n) (e.1 n) (e.2 n) (e.3 n), with_cache s e.4)
step_same s (sweeps_at h k i r p) (sweeps_at g l j q o) =
    let e = sweeps_at_same h.cache g.cache k i r q s.cache p o in
    (λ n. swept (e.0 n) (e.1 n) (e.2 n) (e.3 n), with_cache s e.4)
step_same s (pushes h i a n r p) (pushes g j b m q o) =
    let e = pushes_same h.queue g.queue i a n r q s.queue p o in (ap pushed e.0, with_queue s e.1)
step_same s (releases h i a r p) (releases g j b q o) =
    let e = releases_same h.queue g.queue i a r q s.queue p o in (ap released e.0, with_queue s e.1)
step_same s (purges_orphans h r p) (purges_orphans g q o) =
    let e = all_orphans_same h.queue g.queue h.cache g.cache r q s.queue s.cache p o in
    (λ n. purged (e.0 n) (e.1 n), with_queue s e.2)
step_same s (purges_iface h i r p) (purges_iface g j q o) =
    let e = purges_same h.queue g.queue i r q s.queue p o in (λ n. purged (e.0 n) (e.1 n), with_queue s e.2)
step_same s (lists_packets h n r p) (lists_packets g m q o) = (ap gave_packet (p.is ∙ (packet_same h.queue g.queue s.queue n ∙ sym o.is)), s)
step_same s (adds_route h i to via r p) (adds_route g j to' via' q o) =
    let e = adds_same h.routes g.routes i to via r q s.routes p o in (ap ended e.0, with_routes s e.1)
step_same s (lists_routes h n r p) (lists_routes g m q o) = (ap gave_route (p.is ∙ (route_same h.routes g.routes s.routes n ∙ sym o.is)), s)
step_same s (hears h l i source msg now r p) (hears g l' j source' msg' now' q o) =
    let e = adverts_same h.cache g.cache l i source msg now r q s.cache p o in (λ n. heard (e.0 n) (e.1 n), with_cache s e.2)
step_same s (polls h l t i up hw buf buf' k k' r p) (polls g m t' j up' hw' bug bug' l' k'' q o) =
    let e = polls_same h.routes g.routes l t i up hw buf buf' bug' k k' k'' r q s.routes p o in
    (λ n. polled (e.0.0 n) (e.0.1 n) (e.0.2 n) (e.1 n) (e.2 n), with_routes s e.0.3)
step_same s (polls_at h l t i up hw buf buf' k r p) (polls_at g m t' j up' hw' bug bug' l' q o) =
    let e = polls_at_same h.routes g.routes l t i up hw buf buf' bug' k r q s.routes p o in
    (λ n. polled (e.0.0 n) (e.0.1 n) (e.0.2 n) (e.1 n) (e.2 n), with_routes s e.0.3)
step_same s (turns_off h l t i x p) (turns_off g m t' j y o) =
    let e = offs_same l t h.routes g.routes h.cache g.cache h.queue g.queue i x y s.routes s.cache s.queue p o in
    (λ n. off (e.slaac n) (e.addrs n) (e.handles n) (e.outcome n), record { cache = e.cache; queue = e.queue; routes = e.routes })
step_same s (takes h l t input message now r p) (takes g m u input' message' now' q o) =
    let e = takes_same (card_of h l t) (card_of g l t) input message now r q (with_card s) p o in
    (λ n. took (e.card.slaac n) (e.card.addrs n) (e.action n) (e.ready n), held_by e.card)
step_same s (settles h l t up hw buf buf' now r p) (settles g m u up' hw' bug bug' now' q o) =
    let e = settles_same (card_of h l t) (card_of g l t) up hw buf buf' bug' now r q (with_card s) p o in (
      λ n. settled (e.0.card.slaac n) (e.0.card.addrs n) (e.0.answer n) (e.0.events n) (e.0.dropped n) (e.0.wake n) (e.1 n),
      held_by e.0.card,
    )
step_same s (turns h l t w received hw buf buf' r p) (turns g m u w' received' hw' bug bug' q o) =
    let e = turns_same (card_of h l t) (card_of g l t) w received hw buf buf' bug' r q (with_card s) p o in
    (λ n. turned (e.0.slaac n) (e.0.addrs n) (e.1 n) (e.2 n) (e.3 n), held_by e.0)
step_same s (runs h l t wake inbox received hw buf buf' budget r p) (runs g m u wake' inbox' received' hw' bug bug' budget' q o) =
    let e = runs_same (card_of h l t) (card_of g l t) wake inbox received hw buf buf' bug' budget r q (with_card s) p o in
    (λ n. ran (e.0.slaac n) (e.0.addrs n) (e.1 n) (e.2 n) (e.3 n), held_by e.0)

any_calls_same : {h g h' g' : Held} {calls : List Call} {xs ys : List Returned} → SameHeld h g → Run h calls xs h' → Run g calls ys g' → (xs ≡ ys) × SameHeld h' g'
any_calls_same s (none h) (none g) = (refl, s)
any_calls_same s (one_more p r) (one_more q o) =
    let first = step_same s p q in
    let rest = any_calls_same first.1 r o in
    (ap₂ (λ (x : Returned) (xs : List Returned). x ∷ xs) first.0 rest.0, rest.1)

-- the run, step by step computed, from any cache and queue with these slots and a count of 0
told_from : (e : Entry) (p : PendingPacket)
    → Run (holding (cache_with e (entry_on 1) 0) (queue_with p (packet_on 1) 0)) told telling
    (holding (cache_with (entry_on 0) (entry_on 1) 0) (queue_with (packet (node_on 0 1) 7) (packet_on 1) 0))
unfolding find insert_state entryOnIface purged_of orphaned dropped_handles same_key push_list push_answer
told_from e p =
    let c0 = cache_with e (entry_on 1) 0 in
    let c1 = cache_with (entry_on 0) (entry_on 1) 1 in
    let c2 = cache_with (entry_on 0) (entry_on 1) 0 in
    let q0 = queue_with p (packet_on 1) 0 in
    let q1 = queue_with (packet (node_on 0 1) 7) (packet_on 1) 1 in
    let q2 = queue_with (packet (node_on 0 1) 7) (packet_on 1) 0 in
    one_more (starts (holding c0 q0) 0 (node_on 0 1).addr (changed_to c1) (record { is = refl; number = refl }))
    (one_more (looks_up (holding c1 q0) 0 (node_on 0 1).addr (Ok Pending) (record { is = refl; number = refl; found = refl }))
    (one_more (pushes (holding c1 q0) 0 (node_on 0 1).addr 7 (record { queue = q1; answer = Ok None }) (record { is = refl; number = refl; gives = refl }))
    (one_more (lists_packets (holding c1 q1) 0 (Some (packet (node_on 0 1) 7)) (record { is = refl; number = refl; shows = refl }))
    (one_more (clears (holding c1 q1) 0 (changed_to c2) (record { is = refl; number = refl }))
    (one_more (looks_up (holding c2 q1) 0 (node_on 0 1).addr (Ok NotFound) (record { is = refl; number = refl; found = refl }))
    (one_more (purges_orphans (holding c2 q1) (record { queue = q2; handles = one_handle 7; outcome = Ok tt }) (record { is = refl; number = refl }))
    (none (holding c2 q2))))))))

pub no_call_tells : NoCallTells
no_call_tells = record {
  lookup_same = λ c d i a r s same p o. p.is ∙ (lookup_same c d same (key_check i a) (key i a) ∙ sym o.is);
  start_same = λ c d i a r s same p o. by_change c d same (key_check i a) (insert_state (key i a) Started) r s p o;
  fill_same = λ c d i a hw now r s same p o. by_change c d same (fill_check now i a hw) (insert_state (key i a) (lasting hw now)) r s p o;
  insert_same = λ c d i a hw expires r s same p o. by_change c d same (fill_check expires i a hw) (insert_state (key i a) (Reachable hw expires)) r s p o;
  get_same = λ c d i a r s same p o. p.is ∙ (get_same c d same (iface_check i) (key i a) ∙ sym o.is);
  at_same = λ c d n r s same p o. p.is ∙ (at_same c d same n ∙ sym o.is);
  remove_same = removes_same;
  clear_same = λ c d i r s same p o. by_change c d same (iface_check i) (clear_iface i) r s p o;
  sweep_same = sweeps_same;
  sweep_at_same = sweeps_at_same;
  push_same = pushes_same;
  release_same = releases_same;
  orphans_same = all_orphans_same;
  purge_same = purges_same;
  packet_same = λ p q n r s same f g. f.is ∙ (packet_same p q same n ∙ sym g.is);
  add_route_same = adds_same;
  route_same = λ t u n r s same f g. f.is ∙ (route_same t u same n ∙ sym g.is);
  advertise_same = adverts_same;
  poll_same = polls_same;
  poll_at_same = polls_at_same;
  off_same = offs_same;
  take_same = takes_same;
  settle_same = settles_same;
  turn_same = turns_same;
  run_same = runs_same;
  any_calls = λ h g h' g' calls rs ss s p o. any_calls_same s p o;
  told_first = told_from (entry_on 1) (packet_on 1);
  told_second = told_from (entry_on 0) (packet_on 0);
}
