-- "a neighbour entry pushed out with a report queued on it": what becomes of each packet that is pushed, whatever calls on the cache and the queue
-- come. Assumes nothing.
use Rattle.wire.specs.declared.error.Refusal.{Refusal}
use Rattle.std.specs.Prelude.{ℕ, zero, suc, ◌+◌, ◌≤◌, ◌<◌, ◌≡◌, Bool, true, false, cond, ◌&&◌, List, [], ◌∷◌, ◌++◌, map, take, drop, length, get_or, eqb, Result, Ok, Err}
use Rattle.table.specs.Table.{at_first_is, any_of, first_of, kept, dropped}
use Rattle.wire.specs.declared.ipv6.Ipv6Addr.{Ipv6Addr}
use Rattle.wire.specs.declared.ethernet.HardwareAddress.{HardwareAddress}
use Rattle.wire.specs.Refusals.{iface_check}
use Rattle.neighbor.specs.declared.State.{State}
use Rattle.neighbor.specs.declared.State.TheVariants.{Stale}
use Rattle.neighbor.specs.declared.NeighborCache.{NeighborCache}
use Rattle.neighbor.specs.NeighborRules.{Table, Key, same_key, entries_of}
use Rattle.neighbor.specs.CacheCalls.{key, entries, unless}
use Rattle.neighbor.specs.Distinct.{Distinct}
use Rattle.pending.specs.declared.PendingPacket.{PendingPacket}
use Rattle.pending.specs.declared.PendingQueue.{PendingQueue}
use Rattle.pending.specs.declared.Handles.{Handles}
use Rattle.pending.specs.declared.Pushed.{Pushed}
use Rattle.pending.specs.declared.Released.{Released}
use Rattle.pending.specs.declared.Purged.{Purged}
use Rattle.pending.specs.QueueRules.{Queue, handle_of, key_of, packet, has_key, is_full, orphaned, on_iface}
use Rattle.pending.specs.QueueCalls.{queue_room, packets, blank, pushed_out, released_out, PushedTo, ReleasedTo, OrphansPurged, PurgedTo}
use Rattle.pending.specs.QueueCount.{count_of}
use Rattle.iface.specs.declared.addr.IfaceAddrs.{IfaceAddrs}
use Rattle.iface.specs.declared.route.Routes.{Routes}
use Rattle.slaac.specs.declared.Slaac.{Slaac}
use Rattle.autoconf.specs.declared.TurnedOff.{TurnedOff}
use Rattle.autoconf.specs.OffRules.{TurnedOffTo}
use Rattle.claims.specs.Calls.{Call, lookup, start, fill, insert, get, at, remove, clear, sweep, advertise, turn_off, Effect, nothing, puts, removes, clears, sweeps, effect, next, Answer, answers, table_after}
use Rattle.claims.specs.Lists.{All, Member}
use Rattle.claims.specs.Watch.{Report, retransmission, failure, reports_all, Kept, is_filled}
use Rattle.claims.specs.Demand3.{joined}
use Rattle.claims.specs.Caches.{went_in, Step as CacheStep}
use Rattle.claims.specs.Traces.{ms, neighbour, hardware, starts_of}

-- Moves

-- a call on the cache or on the queue; turning SLAAC off, a call on both, is the cache's
pub data Move : Type 0 where
  on_cache : Call → Move
  push : Key → ℕ → Move
  release : Key → Move
  purge_orphans : Move
  purge_iface : ℕ → Move

-- the calls on the cache, and the table after a move
abbrev pub calls_of : List Move → List Call
calls_of [] = []
calls_of (on_cache c ∷ moves) = c ∷ calls_of moves
calls_of (push k h ∷ moves) = calls_of moves
calls_of (release k ∷ moves) = calls_of moves
calls_of (purge_orphans ∷ moves) = calls_of moves
calls_of (purge_iface i ∷ moves) = calls_of moves

abbrev pub table_next : Move → Table → Table
table_next (on_cache c) t = next c t
table_next (push k h) t = t
table_next (release k) t = t
table_next purge_orphans t = t
table_next (purge_iface i) t = t

-- the packets that are pushed, in order; a refused push brings none
abbrev pub brings : Move → Queue
brings (on_cache c) = []
brings (push k h) = unless (iface_check k.iface) (packet k h ∷ [])
brings (release k) = []
brings purge_orphans = []
brings (purge_iface i) = []

abbrev pub brought : List Move → Queue
brought [] = []
brought (m ∷ moves) = brings m ++ brought moves

-- The ledger: "Packets are 32-bit handles that may repeat.", so each push that is taken gives its packet a number

pub record Numbered : Type 0 where
  pub number : ℕ
  pub packet : PendingPacket

-- the ways out of the queue
pub data Way : Type 0 where
  by_release : Way
  by_overflow : Way
  by_orphans : Way
  by_purge : Way
  by_off : Way

pub record Departure : Type 0 where
  pub who : Numbered
  pub way : Way

-- the number of the next push, the packets that wait, and those that left, each in order
pub record Ledger : Type 0 where
  pub coming : ℕ
  pub waiting : List Numbered
  pub left : List Departure

abbrev pub number_of : Numbered → ℕ
number_of n = n.number

abbrev pub packet_of : Numbered → PendingPacket
packet_of n = n.packet

abbrev pub queue_of : List Numbered → Queue
queue_of ns = map packet_of ns

-- numbers one after the other, and the ledger of a queue before any move
abbrev pub number_from : ℕ → Queue → List Numbered
number_from i [] = []
number_from i (p ∷ ps) = record { number = i; packet = p } ∷ number_from (suc i) ps

abbrev pub opened : Queue → Ledger
opened q = record { coming = length q; waiting = number_from 0 q; left = [] }

-- what a move makes of the waiting packets: the rules of the queue, of numbered packets
pub record Parted : Type 0 where
  pub stay : List Numbered
  pub leave : List Departure

-- a test of packets, of a numbered one
abbrev pub asks : (PendingPacket → Bool) → Numbered → Bool
asks test n = test n.packet

abbrev pub departs : Way → Numbered → Departure
departs way n = record { who = n; way = way }

-- "A push on a full queue drops the oldest and returns it."
abbrev pub is_full_of : List Numbered → Bool
is_full_of ns = is_full queue_room (queue_of ns)

abbrev pub overflow : List Numbered → Parted
overflow ns =
    record { stay = cond (is_full_of ns) (drop 1 ns) ns; leave = map (departs by_overflow) (cond (is_full_of ns) (take 1 ns) []) }

-- "Release takes the oldest of its key."
abbrev pub nobody : Numbered → List Numbered
nobody n = []

abbrev pub alone : Numbered → List Numbered
alone n = n ∷ []

abbrev pub first_out : (PendingPacket → Bool) → List Numbered → Parted
first_out test ns = record { stay = at_first_is (asks test) nobody [] ns; leave = map (departs by_release) (first_of (asks test) alone [] ns) }

-- a purge: those that pass go
abbrev pub all_out : Way → (PendingPacket → Bool) → List Numbered → Parted
all_out way test ns = record { stay = kept (asks test) ns; leave = map (departs way) (dropped (asks test) ns) }

-- "if an address went, the interface's neighbours and waiting packets are cleared"; no other call on the cache touches a packet
abbrev pub cleared_by_is : Call → PendingPacket → Bool
cleared_by_is (lookup k) p = false
cleared_by_is (start k) p = false
cleared_by_is (fill k h now) p = false
cleared_by_is (insert k h expires) p = false
cleared_by_is (get k) p = false
cleared_by_is (at n) p = false
cleared_by_is (remove k) p = false
cleared_by_is (clear i) p = false
cleared_by_is (sweep i now) p = false
cleared_by_is (advertise k now heard) p = false
cleared_by_is (turn_off i false) p = false
cleared_by_is (turn_off i true) p = on_iface i p

-- "A refusal returns its number and changes nothing."
abbrev pub unless_refused : Result (Unit {0}) Refusal → List Numbered → Parted → Parted
unless_refused (Err why) ns x = record { stay = ns; leave = [] }
unless_refused (Ok tt) ns x = x

-- who stays and who leaves, and the ledger after that
abbrev pub parted : Move → Table → List Numbered → Parted
parted (on_cache c) t ns = all_out by_off (cleared_by_is c) ns
parted (push k h) t ns = unless_refused (iface_check k.iface) ns (overflow ns)
parted (release k) t ns = unless_refused (iface_check k.iface) ns (first_out (has_key k) ns)
parted purge_orphans t ns = all_out by_orphans (orphaned t) ns
parted (purge_iface i) t ns = unless_refused (iface_check i) ns (all_out by_purge (on_iface i) ns)

abbrev pub ledger_next : Move → Table → Ledger → Ledger
ledger_next m t l =
    record {
      coming = l.coming + length (brings m);
      waiting = (parted m t l.waiting).stay ++ number_from l.coming (brings m);
      left = l.left ++ (parted m t l.waiting).leave;
    }

abbrev pub ledger_after : List Move → Table → Ledger → Ledger
ledger_after [] t l = l
ledger_after (m ∷ moves) t l = ledger_after moves (table_next m t) (ledger_next m t l)

-- the ledger of a run on the table t and the queue q
abbrev pub ledger : List Move → Table → Queue → Ledger
ledger moves t q = ledger_after moves t (opened q)

-- The handles that come back: of every departure, by turning SLAAC off too, "whose purge now returns its handles like the others" (request 2026-10)

abbrev pub handle_left : Departure → ℕ
handle_left d = handle_of d.who.packet

abbrev pub handed : List Departure → List ℕ
handed ds = map handle_left ds

-- Runs of the code's own calls

-- the handles that an answer holds: past its count are zeros, and 0 is a handle too
abbrev pub handle_list : Handles → List ℕ
handle_list hs = take hs.len hs.slots

-- one move that its function's promise allows, on a cache and a queue, with the handles that come back and the cache and the queue after it
pub data Step : NeighborCache → PendingQueue → Move → List ℕ → NeighborCache → PendingQueue → Type 0 where
  -- any call of `Caches` that clears no packet; the queue is as it was
  on_cache_lem : (c : NeighborCache) (q : PendingQueue) (call : Call) (a : Answer) (d : NeighborCache) → ((p : PendingPacket) → cleared_by_is call p ≡ false) → CacheStep c call a d
      → Step c q (on_cache call) [] d q
  turns_off : (c : NeighborCache) (q : PendingQueue) (s : Slaac) (t : IfaceAddrs) (r : Routes) (i : ℕ) (x : TurnedOff) → TurnedOffTo s t r c q i x
      → Step c q (on_cache (turn_off i (went_in s t i))) (handle_list x.handles) x.cache x.queue
  pushes : (c : NeighborCache) (q : PendingQueue) (i : ℕ) (a : Ipv6Addr) (h : ℕ) (r : Pushed) → PushedTo q i a h r
      → Step c q (push (key i a) h) (pushed_out r.answer) c r.queue
  releases : (c : NeighborCache) (q : PendingQueue) (i : ℕ) (a : Ipv6Addr) (r : Released) → ReleasedTo q i a r
      → Step c q (release (key i a)) (released_out r.answer) c r.queue
  purges_orphans : (c : NeighborCache) (q : PendingQueue) (r : Purged) → OrphansPurged q c r
      → Step c q purge_orphans (handle_list r.handles) c r.queue
  purges_iface : (c : NeighborCache) (q : PendingQueue) (i : ℕ) (r : Purged) → PurgedTo q i r
      → Step c q (purge_iface i) (handle_list r.handles) c r.queue

-- moves one after the other, with all the handles that came back, in order
pub data Run : NeighborCache → PendingQueue → List Move → List ℕ → NeighborCache → PendingQueue → Type 0 where
  none : (c : NeighborCache) (q : PendingQueue) → Run c q [] [] c q
  one_more : {c d e : NeighborCache} {q r s : PendingQueue} {m : Move} {moves : List Move} {hs gs : List ℕ}
      → Step c q m hs d r → Run d r moves gs e s → Run c q (m ∷ moves) (hs ++ gs) e s

-- what a run left and handed back is what the ledger has
pub record Followed (moves : List Move) (t : Table) (q : Queue) (hs : List ℕ) (d : NeighborCache) (r : PendingQueue) : Type 0 where
  pub cache : entries d ≡ table_after (calls_of moves) t
  pub queue : packets r ≡ queue_of (ledger moves t q).waiting
  pub handles : hs ≡ handed (ledger moves t q).left

-- Each number once

abbrev pub number_left : Departure → ℕ
number_left d = d.who.number

-- how often a number is among the packets that wait and those that left
abbrev pub times : ℕ → Ledger → ℕ
times n l = count_of n (map number_of l.waiting) + count_of n (map number_left l.left)

-- the packet is the one of these at its number, counted from 0
pub record Nth (ps : Queue) (n : Numbered) : Type 0 where
  pub inside : n.number < length ps
  pub is : get_or ps n.number blank ≡ n.packet

-- Why a packet leaves: at this move, with the table and the waiting packets as they then are

-- it waits, and none before it passes the test
pub record Oldest (test : PendingPacket → Bool) (n : Numbered) (ns : List Numbered) : Type 0 where
  pub older : List Numbered
  pub newer : List Numbered
  pub place : ns ≡ older ++ (n ∷ newer)
  pub none_older : any_of (asks test) older ≡ false

-- "whose entry is absent or Stale": a key's entries, of which a table that the calls made has at most one
pub data AbsentOrStale : List State → Type 0 where
  absent : AbsentOrStale []
  stale : (h : HardwareAddress) (others : List State) → AbsentOrStale (Stale h ∷ others)

pub record ByRelease (n : Numbered) (m : Move) (ns : List Numbered) : Type 0 where
  pub move : m ≡ release (key_of n.packet)
  pub taken : iface_check n.packet.iface ≡ Ok tt
  pub oldest : Oldest (has_key (key_of n.packet)) n ns

pub record ByOverflow (n : Numbered) (m : Move) (ns : List Numbered) : Type 0 where
  pub pushed : Key
  pub handle : ℕ
  pub move : m ≡ push pushed handle
  pub taken : iface_check pushed.iface ≡ Ok tt
  pub full : 8 ≤ length ns
  pub newer : List Numbered
  pub oldest : ns ≡ n ∷ newer

pub record ByOrphans (n : Numbered) (m : Move) (t : Table) : Type 0 where
  pub move : m ≡ purge_orphans
  pub orphan : AbsentOrStale (entries_of (key_of n.packet) t)

pub record ByPurge (n : Numbered) (m : Move) : Type 0 where
  pub move : m ≡ purge_iface n.packet.iface
  pub taken : iface_check n.packet.iface ≡ Ok tt

abbrev pub Reason : Way → Numbered → Move → Table → List Numbered → Type 0
Reason by_release n m t ns = ByRelease n m ns
Reason by_overflow n m t ns = ByOverflow n m ns
Reason by_orphans n m t ns = ByOrphans n m t
Reason by_purge n m t ns = ByPurge n m
Reason by_off n m t ns = m ≡ on_cache (turn_off n.packet.iface true)

-- one of the moves: there the packet leaves, and for that reason
pub record LeftAt (d : Departure) (moves : List Move) (t : Table) (l : Ledger) : Type 0 where
  pub earlier : List Move
  pub move : Move
  pub later : List Move
  pub split : moves ≡ earlier ++ (move ∷ later)
  pub leaves : Member d (parted move (table_after (calls_of earlier) t) (ledger_after earlier t l).waiting).leave
  pub reason : Reason d.way d.who move (table_after (calls_of earlier) t) (ledger_after earlier t l).waiting

-- What keeps a packet from being an orphan

abbrev pub is_failure : Report → Bool
is_failure retransmission = false
is_failure failure = true

-- a failure is among the reports
abbrev pub failed : List Report → Bool
failed rs = any_of is_failure rs

-- the call removes k, or clears its interface, as turning SLAAC off with an address gone does
abbrev pub takes_effect : Key → Effect → Bool
takes_effect k nothing = false
takes_effect k (puts j s) = false
takes_effect k (removes j) = same_key k j
takes_effect k (clears i) = eqb i k.iface
takes_effect k (sweeps i now) = false

abbrev pub takes : Key → Call → Bool
takes k c = takes_effect k (effect c)

-- the call fills k: a fill, an insert, or an advertisement of k that tells its address
abbrev pub fills_effect : Key → Effect → Bool
fills_effect k nothing = false
fills_effect k (puts j s) = same_key k j && is_filled s
fills_effect k (removes j) = false
fills_effect k (clears i) = false
fills_effect k (sweeps i now) = false

abbrev pub fills : Key → Call → Bool
fills k c = fills_effect k (effect c)

-- k is being resolved in t, and none of the calls removes, clears or evicts it, or reports its failure; it may be started again, and filled
pub record Undisturbed (k : Key) (cs : List Call) (t : Table) : Type 0 where
  pub distinct : Distinct t
  pub state : State
  pub entry : entries_of k t ≡ state ∷ []
  pub unfilled : is_filled state ≡ false
  pub not_taken : any_of (takes k) cs ≡ false
  pub not_evicted : Kept k cs t
  pub not_failed : failed (joined (reports_all k (answers cs t))) ≡ false

pub record NowStale (k : Key) (t : Table) : Type 0 where
  pub hardware : HardwareAddress
  pub is : entries_of k t ≡ Stale hardware ∷ []

-- the departure is of a purge of orphans; before it one of the moves filled k, and at it k is stale
pub record OrphanedAt (k : Key) (d : Departure) (moves : List Move) (t : Table) (q : Queue) : Type 0 where
  pub earlier : List Move
  pub later : List Move
  pub split : moves ≡ earlier ++ (purge_orphans ∷ later)
  pub leaves : Member d (parted purge_orphans (table_after (calls_of earlier) t) (ledger earlier t q).waiting).leave
  pub filled : any_of (fills k) (calls_of earlier) ≡ true
  pub stale : NowStale k (table_after (calls_of earlier) t)

-- The scenes

-- n pushes for fe80::1, handles n to 1
abbrev pub pushes_of : ℕ → List Move
pushes_of zero = []
pushes_of (suc n) = push (neighbour 1) (suc n) ∷ pushes_of n

-- a resolution with a report queued on it: handle 7, for fe80::1
abbrev pub queued : List Move
queued = on_cache (start (neighbour 1)) ∷ push (neighbour 1) 7 ∷ []

abbrev pub report : Numbered
report = record { number = 0; packet = packet (neighbour 1) 7 }

abbrev pub resolving_table : Table
resolving_table = table_after (calls_of queued) []

-- it is retransmitted twice, while another address is filled, and started again
abbrev pub unanswered_calls : List Call
unanswered_calls =
    sweep 0 (ms 0)
    ∷ sweep 0 (ms 1000)
    ∷ fill (neighbour 2) hardware (ms 1500)
    ∷ sweep 0 (ms 2000)
    ∷ start (neighbour 1)
    ∷ []

-- it is filled, and goes stale
abbrev pub answered_calls : List Call
answered_calls = sweep 0 (ms 0) ∷ fill (neighbour 1) hardware (ms 20) ∷ sweep 0 (ms 60020) ∷ []

-- it fails
abbrev pub failing_calls : List Call
failing_calls = sweep 0 (ms 0) ∷ sweep 0 (ms 1000) ∷ sweep 0 (ms 2000) ∷ sweep 0 (ms 3000) ∷ []

-- each time, then a purge of orphans
abbrev pub purged_after : List Call → Ledger
purged_after cs = ledger (queued ++ (map on_cache cs ++ (purge_orphans ∷ []))) [] []

-- sixteen resolutions under way, the first of them with a report queued on it, and one more is started
abbrev pub evicting : List Move
evicting = map on_cache (starts_of 16) ++ (push (neighbour 16) 7 ∷ on_cache (start (neighbour 17)) ∷ [])

abbrev pub evicted_report : Numbered
evicted_report = record { number = 0; packet = packet (neighbour 16) 7 }

pub record Packets : Type 0 where
  -- The ledger says what the code does: a run of its calls leaves the entries and the packets, and hands back the handles, that the ledger has.
  pub follows : (c d : NeighborCache) (q r : PendingQueue) (moves : List Move) (hs : List ℕ) → Run c q moves hs d r
      → Followed moves (entries c) (packets q) hs d r
  -- Each packet that waited first or was pushed since, by its number, still waits or left, and that exactly once; and there is no other.
  pub once : (moves : List Move) (t : Table) (q : Queue) (n : ℕ) → n < length (q ++ brought moves) → times n (ledger moves t q) ≡ 1
  pub no_other : (moves : List Move) (t : Table) (q : Queue) (n : ℕ) → length (q ++ brought moves) ≤ n → times n (ledger moves t q) ≡ 0
  -- a number stands for that packet wherever it is: those that waited first, then those that were pushed, in order
  pub numbered : (moves : List Move) (t : Table) (q : Queue)
      → All (Nth (q ++ brought moves)) (ledger moves t q).waiting × All (λ d. Nth (q ++ brought moves) d.who) (ledger moves t q).left
  -- It left by a release of its key, as the oldest of it; by a push on a full queue, as its oldest; by a purge of orphans when its entry was
  -- absent or stale; by a purge of its interface; or by turning SLAAC off there with an address gone.
  pub ways : (moves : List Move) (t : Table) (q : Queue) → All (λ d. LeftAt d moves t (opened q)) (ledger moves t q).left
  -- "waiting packets 8"
  pub room : (moves : List Move) (t : Table) (q : Queue) → length q ≤ 8 → length (ledger moves t q).waiting ≤ 8
  -- eight pushes drop none, the ninth drops the first
  pub eight : (ledger (pushes_of 8) [] []).left ≡ []
  pub nine : (ledger (pushes_of 9) [] []).left ≡ departs by_overflow (record { number = 0; packet = packet (neighbour 1) 9 }) ∷ []
  -- a push on interface 4 is refused, and brings nothing
  pub refused : ledger (push (record { iface = 4; addr = (neighbour 1).addr }) 7 ∷ []) [] [] ≡ opened []
  -- "Purging orphans drops packets whose entry is absent or Stale", and no others
  pub orphan_means : (t : Table) (p : PendingPacket)
      → (orphaned t p ≡ true → AbsentOrStale (entries_of (key_of p) t)) × (AbsentOrStale (entries_of (key_of p) t) → orphaned t p ≡ true)
  -- once k has no entry, or a stale one, the next purge leaves none of its packets waiting
  pub purged : (k : Key) (t : Table) (l : Ledger) → AbsentOrStale (entries_of k t)
      → any_of (asks (has_key k)) (ledger_next purge_orphans t l).waiting ≡ false
  -- a packet that waits and is no orphan goes on waiting
  pub stays : (n : Numbered) (t : Table) (l : Ledger) → Member n l.waiting → orphaned t n.packet ≡ false
      → Member n (ledger_next purge_orphans t l).waiting
  -- While k is being resolved, whatever the calls: until one fills, removes, clears or evicts k, or reports its failure, no packet of k is an orphan.
  pub safe : (k : Key) (h : ℕ) (cs : List Call) (t : Table) → Undisturbed k cs t → any_of (fills k) cs ≡ false
      → orphaned (table_after cs t) (packet k h) ≡ false
  -- with calls that fill k: it is an orphan only if k was filled and is now stale
  pub filled : (k : Key) (h : ℕ) (cs : List Call) (t : Table) → Undisturbed k cs t → orphaned (table_after cs t) (packet k h) ≡ true
      → (any_of (fills k) cs ≡ true) × NowStale k (table_after cs t)
  -- and so over moves: a packet of k leaves as an orphan only after k was filled, by a purge when k is stale
  pub spared : (k : Key) (moves : List Move) (t : Table) (q : Queue) → Undisturbed k (calls_of moves) t
      → All (λ d. d.way ≡ by_orphans → key_of d.who.packet ≡ k → OrphanedAt k d moves t q) (ledger moves t q).left
  -- Scenes, computed. A resolution that goes on, with nothing that disturbs it: the report waits on.
  pub goes_on : Undisturbed (neighbour 1) unanswered_calls resolving_table
  pub goes_on_unfilled : any_of (fills (neighbour 1)) unanswered_calls ≡ false
  pub waits_on : (purged_after unanswered_calls).waiting ≡ report ∷ []
  -- one that is filled, and goes stale: it comes back, if it was not released
  pub turns_stale : Undisturbed (neighbour 1) answered_calls resolving_table
  pub stale_back : (purged_after answered_calls).left ≡ departs by_orphans report ∷ []
  -- one that fails: it comes back
  pub failed_back : (purged_after failing_calls).left ≡ departs by_orphans report ∷ []
  -- one whose report is released, and one whose interface is purged, or cleared by turning SLAAC off
  pub release_back : (ledger (queued ++ (release (neighbour 1) ∷ [])) [] []).left ≡ departs by_release report ∷ []
  pub purge_back : (ledger (queued ++ (purge_iface 0 ∷ [])) [] []).left ≡ departs by_purge report ∷ []
  pub off_back : (ledger (queued ++ (on_cache (turn_off 0 true) ∷ [])) [] []).left ≡ departs by_off report ∷ []
  pub off_handed : handed (ledger (queued ++ (on_cache (turn_off 0 true) ∷ [])) [] []).left ≡ 7 ∷ []
  -- A neighbour entry pushed out with a report queued on it: the entry is gone, the report waits, and the next purge of orphans hands it back.
  pub pushed_out_lem : entries_of (neighbour 16) (table_after (calls_of evicting) []) ≡ []
  pub still_waits : (ledger evicting [] []).waiting ≡ evicted_report ∷ []
  pub comes_back : (ledger (evicting ++ (purge_orphans ∷ [])) [] []).left ≡ departs by_orphans evicted_report ∷ []
