-- Request 2026-10, "Where did the report go": what became of the packets of a handle, counted from the calls of the queue and their answers. Assumes
-- nothing.
use Rattle.wire.specs.declared.error.Refusal.{Refusal}
use Rattle.pending.specs.declared.PendingPacket.{PendingPacket}
use Rattle.std.specs.Prelude.{ℕ, ◌+◌, ◌≡◌, true, false, List, [], ◌∷◌, ◌++◌, map, Option, Some, None, Result, Ok, Err}
use Rattle.wire.specs.declared.ipv6.Ipv6Addr.{Ipv6Addr}
use Rattle.wire.specs.declared.error.Refusal.TheVariants.{NoSuchIface}
use Rattle.neighbor.specs.declared.NeighborCache.{NeighborCache}
use Rattle.neighbor.specs.declared.State.TheVariants.{Started}
use Rattle.neighbor.specs.NeighborRules.{Key, entry}
use Rattle.neighbor.specs.CacheCalls.{key, with_entries, empty as noNeighbours}
use Rattle.pending.specs.declared.PendingQueue.{PendingQueue}
use Rattle.pending.specs.declared.Handles.{Handles}
use Rattle.pending.specs.declared.Pushed.{Pushed}
use Rattle.pending.specs.declared.Released.{Released}
use Rattle.pending.specs.declared.Purged.{Purged}
use Rattle.pending.specs.QueueRules.{Queue, packet}
use Rattle.pending.specs.QueueCalls.{packets, empty, pushed_out, released_out, PushedTo, ReleasedTo, OrphansPurged, PurgedTo, WaitingAt}
use Rattle.pending.specs.QueueCount.{count_of, waiting}
use Rattle.iface.specs.declared.addr.IfaceAddrs.{IfaceAddrs}
use Rattle.iface.specs.declared.addr.Preferred.TheVariants.{Never}
use Rattle.iface.specs.declared.route.Routes.{Routes}
use Rattle.iface.specs.AddressRules.{with_addrs, empty_addrs, slaac_addr}
use Rattle.iface.specs.RouteRules.{empty_routes}
use Rattle.slaac.specs.declared.Slaac.{Slaac}
use Rattle.slaac.specs.DiscoveryRules.{fresh}
use Rattle.autoconf.specs.declared.TurnedOff.{TurnedOff}
use Rattle.autoconf.specs.OffRules.{TurnedOffTo}
use Rattle.claims.specs.Caches.{went_in}
use Rattle.claims.specs.Packets.{handle_list}
use Rattle.claims.specs.Traces.{neighbour}
use Rattle.claims.specs.Examples.{formed}

-- A call of the queue with its answer, as the counts see it. Of what it was called with, only the handle of a push: none of them asks for a key, an
-- interface, an index or a table.
pub data Answered : Type 0 where
  push : ℕ → Result (Option ℕ) Refusal → Answered
  release : Result (Option ℕ) Refusal → Answered
  purge_orphans : Handles → Answered
  purge_iface : Handles → Answered
  turn_off : Handles → Answered
  at : Option PendingPacket → Answered

-- The five counts: "The five counts are defined from the calls and their answers, and not kept in the queue."

-- a push brings its handle, "refused ones aside"
abbrev pub taken : ℕ → Result (Option ℕ) Refusal → List ℕ
taken h (Err why) = []
taken h (Ok None) = h ∷ []
taken h (Ok (Some oldest)) = h ∷ []

-- the handles that a call adds to each of the five
pub record Tally : Type 0 where
  pub pushed : List ℕ
  pub released : List ℕ
  pub oldest : List ℕ
  pub orphans : List ℕ
  pub with_iface : List ℕ

abbrev pub tally : Answered → Tally
tally (push h a) = record { pushed = taken h a; released = []; oldest = pushed_out a; orphans = []; with_iface = [] }
tally (release a) = record { pushed = []; released = released_out a; oldest = []; orphans = []; with_iface = [] }
tally (purge_orphans hs) = record { pushed = []; released = []; oldest = []; orphans = handle_list hs; with_iface = [] }
tally (purge_iface hs) = record { pushed = []; released = []; oldest = []; orphans = []; with_iface = handle_list hs }
tally (turn_off hs) = record { pushed = []; released = []; oldest = []; orphans = []; with_iface = handle_list hs }
tally (at a) = record { pushed = []; released = []; oldest = []; orphans = []; with_iface = [] }

-- how often a handle is in one of the five, over a run
abbrev pub total : (Tally → List ℕ) → ℕ → List Answered → ℕ
total column h [] = 0
total column h (a ∷ run) = count_of h (column (tally a)) + total column h run

abbrev pub pushed : ℕ → List Answered → ℕ
pushed h run = total (λ t. t.pushed) h run

abbrev pub released : ℕ → List Answered → ℕ
released h run = total (λ t. t.released) h run

abbrev pub dropped_as_oldest : ℕ → List Answered → ℕ
dropped_as_oldest h run = total (λ t. t.oldest) h run

abbrev pub purged_as_orphan : ℕ → List Answered → ℕ
purged_as_orphan h run = total (λ t. t.orphans) h run

abbrev pub purged_with_iface : ℕ → List Answered → ℕ
purged_with_iface h run = total (λ t. t.with_iface) h run

-- the four ways out, together
abbrev pub went_out : ℕ → List Answered → ℕ
went_out h run = released h run + dropped_as_oldest h run + purged_as_orphan h run + purged_with_iface h run

-- the five, in this order
abbrev pub five : ℕ → List Answered → List ℕ
five h run = pushed h run ∷ released h run ∷ dropped_as_oldest h run ∷ purged_as_orphan h run ∷ purged_with_iface h run ∷ []

-- Runs of the code's own calls: each purge of orphans against any cache, each turning off with any SLAAC, addresses, routes and cache

-- a call, with all that it is called with besides the queue
pub data Call : Type 0 where
  to_push : Key → ℕ → Call
  to_release : Key → Call
  to_purge_orphans : NeighborCache → Call
  to_purge_iface : ℕ → Call
  to_turn_off : Slaac → IfaceAddrs → Routes → NeighborCache → ℕ → Call
  to_list : ℕ → Call

-- one call on a queue, with an answer that its function's promise allows, and the queue after it
pub data Step : PendingQueue → Call → Answered → PendingQueue → Type 0 where
  pushes : (q : PendingQueue) (i : ℕ) (a : Ipv6Addr) (h : ℕ) (r : Pushed) → PushedTo q i a h r
      → Step q (to_push (key i a) h) (push h r.answer) r.queue
  releases : (q : PendingQueue) (i : ℕ) (a : Ipv6Addr) (r : Released) → ReleasedTo q i a r
      → Step q (to_release (key i a)) (release r.answer) r.queue
  purges_orphans : (q : PendingQueue) (c : NeighborCache) (r : Purged) → OrphansPurged q c r
      → Step q (to_purge_orphans c) (purge_orphans r.handles) r.queue
  purges_iface : (q : PendingQueue) (i : ℕ) (r : Purged) → PurgedTo q i r → Step q (to_purge_iface i) (purge_iface r.handles) r.queue
  turns_off : (q : PendingQueue) (s : Slaac) (t : IfaceAddrs) (routes : Routes) (c : NeighborCache) (i : ℕ) (x : TurnedOff) → TurnedOffTo s t routes c q i x
      → Step q (to_turn_off s t routes c i) (turn_off x.handles) x.queue
  lists : (q : PendingQueue) (n : ℕ) (r : Option PendingPacket) → WaitingAt q n r → Step q (to_list n) (at r) q

-- calls one after the other
pub data Run : PendingQueue → List Call → List Answered → PendingQueue → Type 0 where
  none : (q : PendingQueue) → Run q [] [] q
  one_more : {p q r : PendingQueue} {call : Call} {a : Answered} {calls : List Call} {run : List Answered}
      → Step p call a q → Run q calls run r → Run p (call ∷ calls) (a ∷ run) r

-- Scenes

-- these calls, from empty, have these answers and leave these packets waiting
pub record Answers (calls : List Call) (run : List Answered) (ps : Queue) : Type 0 where
  pub queue : PendingQueue
  pub runs : Run empty calls run queue
  pub waits : packets queue ≡ ps

-- fe80::n on an interface
abbrev pub node_on : ℕ → ℕ → Key
node_on i n = record { iface = i; addr = (neighbour n).addr }

-- no handle, and one or two, each in the array of eight
abbrev pub no_handle : Handles
no_handle = record { slots = 0 ∷ 0 ∷ 0 ∷ 0 ∷ 0 ∷ 0 ∷ 0 ∷ 0 ∷ []; len = 0 }

abbrev pub one_handle : ℕ → Handles
one_handle h = record { slots = h ∷ 0 ∷ 0 ∷ 0 ∷ 0 ∷ 0 ∷ 0 ∷ 0 ∷ []; len = 1 }

abbrev pub two_handles : ℕ → ℕ → Handles
two_handles h j = record { slots = h ∷ j ∷ 0 ∷ 0 ∷ 0 ∷ 0 ∷ 0 ∷ 0 ∷ []; len = 2 }

-- calls in which 7 occurs, each by itself: pushed, dropped by another's push, refused; released; twice in the answer of each purge, and of turning off; listed
abbrev pub single_calls : List Answered
single_calls =
    push 7 (Ok None)
    ∷ push 1 (Ok (Some 7))
    ∷ push 7 (Err NoSuchIface)
    ∷ release (Ok (Some 7))
    ∷ purge_orphans (two_handles 7 7)
    ∷ purge_iface (two_handles 7 7)
    ∷ turn_off (two_handles 7 7)
    ∷ at (Some (packet (node_on 0 1) 7))
    ∷ []

-- fe80::1 of interface 0 is being resolved, and nobody else
abbrev pub resolving : NeighborCache
resolving = with_entries noNeighbours (entry (node_on 0 1) Started ∷ [])

-- Of the 7s the first is dropped by the sixth, which is pushed on a full queue; a seventh, on interface 4, is refused; then one is released, one goes with
-- interface 1, and one, for fe80::2, as an orphan.
abbrev pub every_way_calls : List Call
every_way_calls =
    to_push (node_on 0 1) 7
    ∷ to_push (node_on 0 1) 7
    ∷ to_push (node_on 0 2) 7
    ∷ to_push (node_on 1 1) 7
    ∷ to_push (node_on 0 1) 7
    ∷ to_push (node_on 0 1) 1
    ∷ to_push (node_on 0 1) 2
    ∷ to_push (node_on 0 1) 3
    ∷ to_push (node_on 0 1) 7
    ∷ to_push (node_on 4 1) 7
    ∷ to_release (node_on 0 1)
    ∷ to_purge_iface 1
    ∷ to_purge_orphans resolving
    ∷ to_list 0
    ∷ []

abbrev pub every_way_is : List Answered
every_way_is =
    push 7 (Ok None)
    ∷ push 7 (Ok None)
    ∷ push 7 (Ok None)
    ∷ push 7 (Ok None)
    ∷ push 7 (Ok None)
    ∷ push 1 (Ok None)
    ∷ push 2 (Ok None)
    ∷ push 3 (Ok None)
    ∷ push 7 (Ok (Some 7))
    ∷ push 7 (Err NoSuchIface)
    ∷ release (Ok (Some 7))
    ∷ purge_iface (one_handle 7)
    ∷ purge_orphans (one_handle 7)
    ∷ at (Some (packet (node_on 0 1) 7))
    ∷ []

-- 0 is pushed, and 5 on interface 1, which is purged: the answer's eight slots are 5 and seven zeros, its count 1. The 5 came back, and no 0.
abbrev pub zero_calls : List Call
zero_calls = to_push (node_on 0 1) 0 ∷ to_push (node_on 1 1) 5 ∷ to_purge_iface 1 ∷ []

abbrev pub zero_waits : List Answered
zero_waits = push 0 (Ok None) ∷ push 5 (Ok None) ∷ purge_iface (one_handle 5) ∷ []

-- and then interface 0 is purged
abbrev pub zero_goes : List Answered
zero_goes = zero_waits ++ (purge_iface (one_handle 0) ∷ [])

-- an address of SLAAC's
abbrev pub with_address : IfaceAddrs
with_address = with_addrs empty_addrs (slaac_addr formed Never ∷ [])

-- 7 and 0 wait on interface 0, and 5 on interface 1; SLAAC of interface 0, which has these addresses, is turned off, and then, with no address, what is off
abbrev pub off_calls : IfaceAddrs → List Call
off_calls t =
    to_push (node_on 0 1) 7
    ∷ to_push (node_on 1 1) 5
    ∷ to_push (node_on 0 1) 0
    ∷ to_turn_off (fresh true) t empty_routes noNeighbours 0
    ∷ to_turn_off (fresh false) empty_addrs empty_routes noNeighbours 0
    ∷ []

-- with these handles back, the first time
abbrev pub off_twice : Handles → List Answered
off_twice hs = push 7 (Ok None) ∷ push 5 (Ok None) ∷ push 0 (Ok None) ∷ turn_off hs ∷ turn_off no_handle ∷ []

pub record Counts : Type 0 where
  -- A call that its function's promise allows is a step, on every queue and with all that it can be called with.
  pub push_steps : (q : PendingQueue) (i : ℕ) (a : Ipv6Addr) (h : ℕ) (r : Pushed) → PushedTo q i a h r
      → Step q (to_push (key i a) h) (push h r.answer) r.queue
  pub release_steps : (q : PendingQueue) (i : ℕ) (a : Ipv6Addr) (r : Released) → ReleasedTo q i a r
      → Step q (to_release (key i a)) (release r.answer) r.queue
  pub orphans_steps : (q : PendingQueue) (c : NeighborCache) (r : Purged) → OrphansPurged q c r
      → Step q (to_purge_orphans c) (purge_orphans r.handles) r.queue
  pub purge_steps : (q : PendingQueue) (i : ℕ) (r : Purged) → PurgedTo q i r → Step q (to_purge_iface i) (purge_iface r.handles) r.queue
  pub off_steps : (q : PendingQueue) (s : Slaac) (t : IfaceAddrs) (routes : Routes) (c : NeighborCache) (i : ℕ) (x : TurnedOff) → TurnedOffTo s t routes c q i x
      → Step q (to_turn_off s t routes c i) (turn_off x.handles) x.queue
  pub list_steps : (q : PendingQueue) (n : ℕ) (r : Option PendingPacket) → WaitingAt q n r → Step q (to_list n) (at r) q
  -- What it adds to the five, in their order, of any handle
  pub push_adds : (h g : ℕ) (a : Result (Option ℕ) Refusal) → five h (push g a ∷ []) ≡ count_of h (taken g a) ∷ 0 ∷ count_of h (pushed_out a) ∷ 0 ∷ 0 ∷ []
  pub release_adds : (h : ℕ) (a : Result (Option ℕ) Refusal) → five h (release a ∷ []) ≡ 0 ∷ count_of h (released_out a) ∷ 0 ∷ 0 ∷ 0 ∷ []
  pub orphans_adds : (h : ℕ) (hs : Handles) → five h (purge_orphans hs ∷ []) ≡ 0 ∷ 0 ∷ 0 ∷ count_of h (handle_list hs) ∷ 0 ∷ []
  pub purge_adds : (h : ℕ) (hs : Handles) → five h (purge_iface hs ∷ []) ≡ 0 ∷ 0 ∷ 0 ∷ 0 ∷ count_of h (handle_list hs) ∷ []
  pub off_adds : (h : ℕ) (hs : Handles) → five h (turn_off hs ∷ []) ≡ 0 ∷ 0 ∷ 0 ∷ 0 ∷ count_of h (handle_list hs) ∷ []
  pub list_adds : (h : ℕ) (a : Option PendingPacket) → five h (at a ∷ []) ≡ 0 ∷ 0 ∷ 0 ∷ 0 ∷ 0 ∷ []
  -- "Over any sequence of queue calls from empty, and for each handle value, the number of its pushes, refused ones aside, equals the times it was released,
  -- dropped as oldest, purged as orphan and purged with its interface, plus the times it still waits."; "This holds as well after SLAAC is turned off", which
  -- is one of the calls
  pub from_empty : (h : ℕ) (r : PendingQueue) (calls : List Call) (run : List Answered) → Run empty calls run r
      → pushed h run ≡ went_out h run + waiting h (packets r)
  -- and so from any queue, with what waited in it on the left; whatever its slots past the count hold, and with a count above 8 too
  pub from_any : (h : ℕ) (q r : PendingQueue) (calls : List Call) (run : List Answered) → Run q calls run r
      → waiting h (packets q) + pushed h run ≡ went_out h run + waiting h (packets r)
  -- "whose purge now returns its handles like the others": if an address went, the queue after turning SLAAC off, and the handles, are those of a purge of
  -- the interface
  pub off_purges : (s : Slaac) (t : IfaceAddrs) (routes : Routes) (c : NeighborCache) (q : PendingQueue) (i : ℕ) (x : TurnedOff) (r : Purged)
      → TurnedOffTo s t routes c q i x → PurgedTo q i r → went_in s t i ≡ true → (x.queue ≡ r.queue) × (x.handles ≡ r.handles)
  -- and if none went, which is so where it is refused or off already, every packet waits on and no handle comes back
  pub off_leaves : (s : Slaac) (t : IfaceAddrs) (routes : Routes) (c : NeighborCache) (q : PendingQueue) (i : ℕ) (x : TurnedOff)
      → TurnedOffTo s t routes c q i x → went_in s t i ≡ false → (x.queue ≡ q) × (x.handles ≡ no_handle)
  -- Computed. What each of the single calls adds to the five of 7
  pub each_call : map (λ a. five 7 (a ∷ [])) single_calls
      ≡ (1 ∷ 0 ∷ 0 ∷ 0 ∷ 0 ∷ [])
      ∷ (0 ∷ 0 ∷ 1 ∷ 0 ∷ 0 ∷ [])
      ∷ (0 ∷ 0 ∷ 0 ∷ 0 ∷ 0 ∷ [])
      ∷ (0 ∷ 1 ∷ 0 ∷ 0 ∷ 0 ∷ [])
      ∷ (0 ∷ 0 ∷ 0 ∷ 2 ∷ 0 ∷ [])
      ∷ (0 ∷ 0 ∷ 0 ∷ 0 ∷ 2 ∷ [])
      ∷ (0 ∷ 0 ∷ 0 ∷ 0 ∷ 2 ∷ [])
      ∷ (0 ∷ 0 ∷ 0 ∷ 0 ∷ 0 ∷ [])
      ∷ []
  -- and by name
  pub by_push : pushed 7 (push 7 (Ok None) ∷ []) ≡ 1
  pub by_release : released 7 (release (Ok (Some 7)) ∷ []) ≡ 1
  pub by_overflow : dropped_as_oldest 7 (push 1 (Ok (Some 7)) ∷ []) ≡ 1
  pub by_orphans : purged_as_orphan 7 (purge_orphans (one_handle 7) ∷ []) ≡ 1
  pub by_purge : purged_with_iface 7 (purge_iface (one_handle 7) ∷ []) ≡ 1
  pub by_off : purged_with_iface 7 (turn_off (one_handle 7) ∷ []) ≡ 1
  -- one handle goes all four ways, and waits twice
  pub every_way : Answers every_way_calls every_way_is
      (packet (node_on 0 1) 7 ∷ packet (node_on 0 1) 1 ∷ packet (node_on 0 1) 2 ∷ packet (node_on 0 1) 3 ∷ packet (node_on 0 1) 7 ∷ [])
  pub every_way_counts : five 7 every_way_is ≡ 6 ∷ 1 ∷ 1 ∷ 1 ∷ 1 ∷ []
  -- 0 is a handle, and the zeros past a count are none
  pub zero_waits_lem : Answers zero_calls zero_waits (packet (node_on 0 1) 0 ∷ [])
  pub zero_waits_counts : five 0 zero_waits ≡ 1 ∷ 0 ∷ 0 ∷ 0 ∷ 0 ∷ []
  pub zero_goes_lem : Answers (zero_calls ++ (to_purge_iface 0 ∷ [])) zero_goes []
  pub zero_goes_counts : five 0 zero_goes ≡ 1 ∷ 0 ∷ 0 ∷ 0 ∷ 1 ∷ []
  -- SLAAC turned off with an address gone, and without
  pub off_gone : Answers (off_calls with_address) (off_twice (two_handles 7 0)) (packet (node_on 1 1) 5 ∷ [])
  pub off_gone_counts : five 7 (off_twice (two_handles 7 0)) ≡ 1 ∷ 0 ∷ 0 ∷ 0 ∷ 1 ∷ []
  pub off_gone_zero : five 0 (off_twice (two_handles 7 0)) ≡ 1 ∷ 0 ∷ 0 ∷ 0 ∷ 1 ∷ []
  pub off_stays : Answers (off_calls empty_addrs) (off_twice no_handle) (packet (node_on 0 1) 7 ∷ packet (node_on 1 1) 5 ∷ packet (node_on 0 1) 0 ∷ [])
  pub off_stays_counts : five 7 (off_twice no_handle) ≡ 1 ∷ 0 ∷ 0 ∷ 0 ∷ 0 ∷ []
  pub off_stays_zero : five 0 (off_twice no_handle) ≡ 1 ∷ 0 ∷ 0 ∷ 0 ∷ 0 ∷ []
