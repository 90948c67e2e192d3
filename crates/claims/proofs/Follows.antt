-- A run of the code's calls on a cache and a queue is what the ledger has. Assumes nothing.
use Prim.Native.Nat.{ℕ, suc, ◌≤◌}
use lib.ListN.{length, take, drop, length-map}
use lib.Seq.{take-append_seam}
use mathlib.Core.Bool.{Bool, true, false, cond, true≢false}
use mathlib.Core.List.{List, [], ◌∷◌, ◌++◌, map, append_assoc}
use mathlib.Core.Path.{◌≡◌, refl, sym, ap, ◌∙◌, subst}
use native.Mathlib.Omega.{arith}
use Rattle.std.specs.Prelude.{None, Result, Ok, Err}
use Rattle.wire.specs.declared.error.Refusal.{Refusal}
use Rattle.autoconf.specs.OffRules.{cleared_queue, cleared_handles, off_now, left_alone, off_by}
use Rattle.autoconf.specs.declared.TurnedOff.{TurnedOff}
use Rattle.claims.proofs.Caches.{follows as cache-follows}
use Rattle.claims.proofs.Lists.{append-nil, map_append, kept_length}
use Rattle.claims.specs.Caches.{went_by, turns_off as cache-off}
use Rattle.claims.specs.Calls.{turn_off, table_after}
use Rattle.claims.specs.Packets.{Move, on_cache, push, release, purge_orphans, purge_iface, calls_of, table_next, Numbered, Way, by_overflow, by_release, by_orphans, by_purge, by_off, Ledger, packet_of, queue_of, number_from, opened, Parted, asks, departs, is_full_of, overflow, nobody, alone, first_out, all_out, cleared_by_is, unless_refused, parted, ledger_next, ledger_after, ledger, handle_left, handed, handle_list, Step, on_cache_lem, turns_off, pushes, releases, purges_orphans, purges_iface, Run, none, one_more, Followed}
use Rattle.iface.specs.AddressRules.{clear_addrs}
use Rattle.iface.specs.declared.addr.IfaceAddrs.{IfaceAddrs}
use Rattle.iface.specs.declared.route.Routes.{Routes}
use Rattle.neighbor.specs.CacheCalls.{key, entries, unless}
use Rattle.neighbor.specs.NeighborRules.{Table, Key}
use Rattle.neighbor.specs.declared.NeighborCache.{NeighborCache}
use Rattle.pending.proofs.Calls.{packets_of}
use Rattle.pending.proofs.Count.{accounted}
use Rattle.pending.specs.QueueCalls.{queue_room, packets, with_packets, handles_of, zeros, handle_alone, push_by, release_by, purged_of, purge_by}
use Rattle.pending.specs.QueueRules.{Queue, handle_of, packet, has_key, is_full, push_list, oldest, gone, release_list, release_answer, orphaned, on_iface, dropped_handles}
use Rattle.pending.specs.declared.PendingPacket.{PendingPacket}
use Rattle.pending.specs.declared.PendingQueue.{PendingQueue}
use Rattle.pending.specs.declared.Pushed.{Pushed}
use Rattle.pending.specs.declared.Purged.{Purged}
use Rattle.pending.specs.declared.Released.{Released}
use Rattle.slaac.specs.declared.Slaac.{Slaac}
use Rattle.table.proofs.Kept.{kept_map}
use Rattle.table.specs.Table.{at_first_is, any_of, first_of, kept, dropped}
use Rattle.wire.specs.Refusals.{iface_check}

-- The queue without numbers: what a move leaves of it, and what it hands back

abbrev queue_by : Result (Unit {0}) Refusal → Queue → Queue → Queue
queue_by (Err why) q x = q
queue_by (Ok tt) q x = x

abbrev pub queue_next : Move → Table → Queue → Queue
queue_next (on_cache c) t q = kept (cleared_by_is c) q
queue_next (push k h) t q = queue_by (iface_check k.iface) q (push_list queue_room (packet k h) q)
queue_next (release k) t q = queue_by (iface_check k.iface) q (release_list k q)
queue_next purge_orphans t q = kept (orphaned t) q
queue_next (purge_iface i) t q = queue_by (iface_check i) q (kept (on_iface i) q)

abbrev pub gives_next : Move → Table → Queue → List ℕ
gives_next (on_cache c) t q = map handle_of (dropped (cleared_by_is c) q)
gives_next (push k h) t q = unless (iface_check k.iface) (cond (is_full queue_room q) (oldest q ∷ []) [])
gives_next (release k) t q = unless (iface_check k.iface) (first_of (has_key k) handle_alone [] q)
gives_next purge_orphans t q = map handle_of (dropped (orphaned t) q)
gives_next (purge_iface i) t q = unless (iface_check i) (map handle_of (dropped (on_iface i) q))

-- The ledger's packets are that queue

first_map : (test : PendingPacket → Bool) (ns : List Numbered) → queue_of (at_first_is (asks test) nobody [] ns) ≡ at_first_is test gone [] (queue_of ns)
first_map test [] = refl
first_map test (x ∷ ns) = go (test x.packet) (first_map test ns)
  where
    go : (b : Bool) → queue_of (at_first_is (asks test) nobody [] ns) ≡ at_first_is test gone [] (queue_of ns)
        → queue_of (cond b (nobody x ++ ns) (x ∷ at_first_is (asks test) nobody [] ns))
        ≡ cond b (gone x.packet ++ queue_of ns) (x.packet ∷ at_first_is test gone [] (queue_of ns))
    go true h = refl
    go false h = rw h

over_map : (b : Bool) (ns : List Numbered) → queue_of (cond b (drop 1 ns) ns) ≡ cond b (drop 1 (queue_of ns)) (queue_of ns)
over_map true [] = refl
over_map true (x ∷ ns) = refl
over_map false ns = refl

queue_stays : (x : Parted) (ns : List Numbered) (c : Result (Unit {0}) Refusal) (q : Queue) → queue_of x.stay ≡ q
    → queue_of ((unless_refused c ns x).stay ++ []) ≡ queue_by c (queue_of ns) q
queue_stays x ns (Err why) q h = ap queue_of (append-nil ns)
queue_stays x ns (Ok tt) q h = ap queue_of (append-nil x.stay) ∙ h

pub queue_next_lem : (m : Move) (t : Table) (l : Ledger) → queue_of (ledger_next m t l).waiting ≡ queue_next m t (queue_of l.waiting)
unfolding push_list release_list
queue_next_lem (on_cache c) t l = ap queue_of (append-nil (kept (asks (cleared_by_is c)) l.waiting)) ∙ sym (kept_map (cleared_by_is c) packet_of l.waiting)
queue_next_lem (push k h) t l = go (iface_check k.iface)
  where
    ns : List Numbered
    ns = l.waiting

    go : (c : Result (Unit {0}) Refusal)
        → queue_of ((unless_refused c ns (overflow ns)).stay ++ number_from l.coming (unless c (packet k h ∷ [])))
        ≡ queue_by c (queue_of ns) (push_list queue_room (packet k h) (queue_of ns))
    go (Err why) = ap queue_of (append-nil ns)
    go (Ok tt) =
        map_append packet_of (cond (is_full_of ns) (drop 1 ns) ns) (number_from l.coming (packet k h ∷ []))
        ∙ ap (λ (q : Queue). q ++ (packet k h ∷ [])) (over_map (is_full_of ns) ns)
queue_next_lem (release k) t l =
    queue_stays (first_out (has_key k) l.waiting) l.waiting (iface_check k.iface) (at_first_is (has_key k) gone [] (queue_of l.waiting))
    (first_map (has_key k) l.waiting)
queue_next_lem purge_orphans t l = ap queue_of (append-nil (kept (asks (orphaned t)) l.waiting)) ∙ sym (kept_map (orphaned t) packet_of l.waiting)
queue_next_lem (purge_iface i) t l =
    queue_stays (all_out by_purge (on_iface i) l.waiting) l.waiting (iface_check i) (kept (on_iface i) (queue_of l.waiting))
    (sym (kept_map (on_iface i) packet_of l.waiting))

-- and what it hands back

handed_way : (way : Way) (ns : List Numbered) → handed (map (departs way) ns) ≡ map handle_of (queue_of ns)
handed_way way [] = refl
handed_way way (x ∷ ns) = rw (handed_way way ns)

dropped_map : (test : PendingPacket → Bool) (ns : List Numbered) → queue_of (dropped (asks test) ns) ≡ dropped test (queue_of ns)
dropped_map test [] = refl
dropped_map test (x ∷ ns) = go (test x.packet) (dropped_map test ns)
  where
    go : (b : Bool) → queue_of (dropped (asks test) ns) ≡ dropped test (queue_of ns)
        → queue_of (cond b (x ∷ dropped (asks test) ns) (dropped (asks test) ns)) ≡ cond b (x.packet ∷ dropped test (queue_of ns)) (dropped test (queue_of ns))
    go true h = rw h
    go false h = h

out_handed : (way : Way) (test : PendingPacket → Bool) (ns : List Numbered)
    → handed (map (departs way) (dropped (asks test) ns)) ≡ map handle_of (dropped test (queue_of ns))
out_handed way test ns = handed_way way (dropped (asks test) ns) ∙ ap (map handle_of) (dropped_map test ns)

one_handed : (test : PendingPacket → Bool) (ns : List Numbered)
    → map handle_of (queue_of (first_of (asks test) alone [] ns)) ≡ first_of test handle_alone [] (queue_of ns)
one_handed test [] = refl
one_handed test (x ∷ ns) = go (test x.packet) (one_handed test ns)
  where
    go : (b : Bool) → map handle_of (queue_of (first_of (asks test) alone [] ns)) ≡ first_of test handle_alone [] (queue_of ns)
        → map handle_of (queue_of (cond b (alone x) (first_of (asks test) alone [] ns))) ≡ cond b (handle_alone x.packet) (first_of test handle_alone [] (queue_of ns))
    go true h = refl
    go false h = h

-- a full queue has an oldest
over_handed : (ns : List Numbered) (b : Bool) → is_full_of ns ≡ b
    → handed (map (departs by_overflow) (cond b (take 1 ns) [])) ≡ cond b (oldest (queue_of ns) ∷ []) []
over_handed [] true e = absurd (true≢false (sym e))
over_handed (x ∷ ns) true e = refl
over_handed ns false e = refl

taken_handed : (x : Parted) (ns : List Numbered) (c : Result (Unit {0}) Refusal) (hs : List ℕ) → handed x.leave ≡ hs → handed (unless_refused c ns x).leave ≡ unless c hs
taken_handed x ns (Err why) hs h = refl
taken_handed x ns (Ok tt) hs h = h

gives_next_lem : (m : Move) (t : Table) (ns : List Numbered) → handed (parted m t ns).leave ≡ gives_next m t (queue_of ns)
gives_next_lem (on_cache c) t ns = out_handed by_off (cleared_by_is c) ns
gives_next_lem (push k h) t ns = taken_handed (overflow ns) ns (iface_check k.iface) _ (over_handed ns (is_full_of ns) refl)
gives_next_lem (release k) t ns =
    taken_handed (first_out (has_key k) ns) ns (iface_check k.iface) _
    (handed_way by_release (first_of (asks (has_key k)) alone [] ns) ∙ one_handed (has_key k) ns)
gives_next_lem purge_orphans t ns = out_handed by_orphans (orphaned t) ns
gives_next_lem (purge_iface i) t ns = taken_handed (all_out by_purge (on_iface i) ns) ns (iface_check i) _ (out_handed by_purge (on_iface i) ns)

-- what a run left and handed back, from any ledger on
record FollowedFrom (moves : List Move) (t : Table) (l : Ledger) (hs : List ℕ) (d : NeighborCache) (r : PendingQueue) : Type 0 where
  cache : entries d ≡ table_after (calls_of moves) t
  queue : packets r ≡ queue_of (ledger_after moves t l).waiting
  handles : handed (ledger_after moves t l).left ≡ handed l.left ++ hs

-- A step

record Stepped (c : NeighborCache) (q : PendingQueue) (m : Move) (hs : List ℕ) (d : NeighborCache) (r : PendingQueue) : Type 0 where
  cache : entries d ≡ table_next m (entries c)
  queue : packets r ≡ queue_next m (entries c) (packets q)
  gives : hs ≡ gives_next m (entries c) (packets q)

-- a test that none passes
none_go : (test : PendingPacket → Bool) → ((p : PendingPacket) → test p ≡ false) → (q : Queue) → kept test q ≡ q
none_go test f [] = refl
none_go test f (p ∷ q) = rw (f p, none_go test f q)

none_handed : (test : PendingPacket → Bool) → ((p : PendingPacket) → test p ≡ false) → (q : Queue) → [] ≡ map handle_of (dropped test q)
none_handed test f [] = refl
none_handed test f (p ∷ q) = rw (f p) (none_handed test f q)

pub listed : (hs : List ℕ) → handle_list (handles_of hs) ≡ hs
listed hs = take-append_seam hs (drop (length hs) zeros)

cleared_off : (went : Bool) (q : PendingQueue) (i : ℕ) → packets (cleared_queue went q i) ≡ kept (cleared_by_is (turn_off i went)) (packets q)
cleared_off true q i = packets_of q (kept (on_iface i) (packets q))
cleared_off false q i = sym (none_go (cleared_by_is (turn_off i false)) (λ p. refl) (packets q))

handed_off : (went : Bool) (q : PendingQueue) (i : ℕ)
    → handle_list (cleared_handles went q i) ≡ map handle_of (dropped (cleared_by_is (turn_off i went)) (packets q))
unfolding dropped_handles
handed_off true q i = listed (map handle_of (dropped (on_iface i) (packets q)))
handed_off false q i = none_handed (cleared_by_is (turn_off i false)) (λ p. refl) (packets q)

-- what turning off leaves and hands back
abbrev LeftBy : Bool → PendingQueue → ℕ → TurnedOff → Type 0
LeftBy went q i x =
    (packets x.queue ≡ kept (cleared_by_is (turn_off i went)) (packets q)) × (handle_list x.handles ≡ map handle_of (dropped (cleared_by_is (turn_off i went)) (packets q)))

turned_off : (x : Result (Unit {0}) Refusal) (s : Slaac) (t : IfaceAddrs) (r : Routes) (c : NeighborCache) (q : PendingQueue) (i : ℕ)
    → LeftBy (went_by x s.on (clear_addrs t).any) q i (off_by x s t r c q i)
unfolding off_now
turned_off (Err why) s t r c q i = (cleared_off false q i, handed_off false q i)
turned_off (Ok tt) s t r c q i = go s.on
  where
    go : (b : Bool) → LeftBy (cond b (clear_addrs t).any false) q i (cond {A = TurnedOff} b (off_now t r c q i) (left_alone s t r c q (Ok tt)))
    go true = (cleared_off (clear_addrs t).any q i, handed_off (clear_addrs t).any q i)
    go false = (cleared_off false q i, handed_off false q i)

pushed_to : (x : Result (Unit {0}) Refusal) (q : PendingQueue) (p : PendingPacket) → packets (push_by x q p).queue ≡ queue_by x (packets q) (push_list queue_room p (packets q))
pushed_to (Err why) q p = refl
pushed_to (Ok tt) q p = packets_of q (push_list queue_room p (packets q))

-- where none has the key the queue stays
none_first : (test : PendingPacket → Bool) (q : Queue) → any_of test q ≡ false → q ≡ at_first_is test gone [] q
none_first test [] h = refl
none_first test (p ∷ q) h = go (test p) h (none_first test q)
  where
    go : (b : Bool) → cond b true (any_of test q) ≡ false → (any_of test q ≡ false → q ≡ at_first_is test gone [] q)
        → p ∷ q ≡ cond b (gone p ++ q) (p ∷ at_first_is test gone [] q)
    go true e f = absurd (true≢false e)
    go false e f = ap (λ (l : Queue). p ∷ l) (f e)

released_to : (x : Result (Unit {0}) Refusal) (q : PendingQueue) (k : Key) → packets (release_by x q k).queue ≡ queue_by x (packets q) (release_list k (packets q))
unfolding release_list
released_to (Err why) q k = refl
released_to (Ok tt) q k = go (any_of (has_key k) (packets q)) refl
  where
    go : (b : Bool) → any_of (has_key k) (packets q) ≡ b
        → packets (cond {A = Released} b (record { queue = with_packets q (at_first_is (has_key k) gone [] (packets q)); answer = release_answer k (packets q) }) (record { queue = q; answer = Ok None })).queue
        ≡ at_first_is (has_key k) gone [] (packets q)
    go true e = packets_of q (at_first_is (has_key k) gone [] (packets q))
    go false e = none_first (has_key k) (packets q) e

purged_to : (x : Result (Unit {0}) Refusal) (q : PendingQueue) (goes : PendingPacket → Bool)
    → (packets (purge_by x q goes).queue ≡ queue_by x (packets q) (kept goes (packets q)))
    × (handle_list (purge_by x q goes).handles ≡ unless x (map handle_of (dropped goes (packets q))))
unfolding purged_of dropped_handles
purged_to (Err why) q goes = (refl, refl)
purged_to (Ok tt) q goes = (packets_of q (kept goes (packets q)), listed (map handle_of (dropped goes (packets q))))

stepped : {c : NeighborCache} {q : PendingQueue} {m : Move} {hs : List ℕ} {d : NeighborCache} {r : PendingQueue} → Step c q m hs d r → Stepped c q m hs d r
stepped (on_cache_lem c q call a d e h) =
    record { cache = (cache-follows h).1; queue = sym (none_go (cleared_by_is call) e (packets q)); gives = none_handed (cleared_by_is call) e (packets q) }
stepped (turns_off c q s t r i x h) =
    record {
      cache = (cache-follows (cache-off c s t r q i x h)).1;
      queue = ap (λ (w : TurnedOff). packets w.queue) h.is ∙ (turned_off (iface_check i) s t r c q i).0;
      gives = ap (λ (w : TurnedOff). handle_list w.handles) h.is ∙ (turned_off (iface_check i) s t r c q i).1;
    }
stepped (pushes c q i a g r h) =
    record { cache = refl; queue = ap (λ (w : Pushed). packets w.queue) h.is ∙ pushed_to (iface_check i) q (packet (key i a) g); gives = h.gives }
stepped (releases c q i a r h) =
    record { cache = refl; queue = ap (λ (w : Released). packets w.queue) h.is ∙ released_to (iface_check i) q (key i a); gives = h.gives }
stepped (purges_orphans c q r h) =
    record {
      cache = refl;
      queue = ap (λ (w : Purged). packets w.queue) h.is ∙ (purged_to (Ok tt) q (orphaned (entries c))).0;
      gives = ap (λ (w : Purged). handle_list w.handles) h.is ∙ (purged_to (Ok tt) q (orphaned (entries c))).1;
    }
stepped (purges_iface c q i r h) =
    record {
      cache = refl;
      queue = ap (λ (w : Purged). packets w.queue) h.is ∙ (purged_to (iface_check i) q (on_iface i)).0;
      gives = ap (λ (w : Purged). handle_list w.handles) h.is ∙ (purged_to (iface_check i) q (on_iface i)).1;
    }

-- Runs

pub calls_next : (m : Move) (moves : List Move) (t : Table) → table_after (calls_of (m ∷ moves)) t ≡ table_after (calls_of moves) (table_next m t)
calls_next (on_cache c) moves t = refl
calls_next (push k h) moves t = refl
calls_next (release k) moves t = refl
calls_next purge_orphans moves t = refl
calls_next (purge_iface i) moves t = refl

one_step : (c : NeighborCache) (q : PendingQueue) (m : Move) (hs : List ℕ) (d : NeighborCache) (r : PendingQueue) (moves : List Move) (gs : List ℕ) (e : NeighborCache)
    (s : PendingQueue) (l : Ledger) → Stepped c q m hs d r → packets q ≡ queue_of l.waiting
    → FollowedFrom moves (entries d) (ledger_next m (entries c) l) gs e s
    → FollowedFrom (m ∷ moves) (entries c) l (hs ++ gs) e s
one_step c q m hs d r moves gs e s l st eq rest =
    let f : FollowedFrom moves (table_next m (entries c)) (ledger_next m (entries c) l) gs e s =
    subst (λ (t : Table). FollowedFrom moves t (ledger_next m (entries c) l) gs e s) st.cache rest in
    record {
      cache = f.cache ∙ sym (calls_next m moves (entries c));
      queue = f.queue;
      handles =
          f.handles
          ∙ ap (λ (x : List ℕ). x ++ gs) (map_append handle_left l.left (parted m (entries c) l.waiting).leave)
          ∙ append_assoc (handed l.left) (handed (parted m (entries c) l.waiting).leave) gs
          ∙ ap (λ (x : List ℕ). handed l.left ++ (x ++ gs))
          (gives_next_lem m (entries c) l.waiting ∙ ap (gives_next m (entries c)) (sym eq) ∙ sym st.gives);
    }

follows_run : {c d : NeighborCache} {q r : PendingQueue} {moves : List Move} {hs : List ℕ} → Run c q moves hs d r → (l : Ledger) → packets q ≡ queue_of l.waiting
    → FollowedFrom moves (entries c) l hs d r
follows_run (none c q) l eq = record { cache = refl; queue = eq; handles = sym (append-nil (handed l.left)) }
follows_run (one_more {c = c} {d = d} {e = e} {q = q} {r = r} {s = s} {m = m} {moves = moves} {hs = hs} {gs = gs} st run) l eq =
    let z = stepped st in
    one_step c q m hs d r moves gs e s l z eq
    (follows_run run (ledger_next m (entries c) l) (z.queue ∙ ap (queue_next m (entries c)) eq ∙ sym (queue_next_lem m (entries c) l)))

opened_queue : (i : ℕ) (q : Queue) → queue_of (number_from i q) ≡ q
opened_queue i [] = refl
opened_queue i (p ∷ q) = rw (opened_queue (suc i) q)

pub follows : (c d : NeighborCache) (q r : PendingQueue) (moves : List Move) (hs : List ℕ) → Run c q moves hs d r
    → Followed moves (entries c) (packets q) hs d r
follows c d q r moves hs run =
    let f = follows_run run (opened (packets q)) (sym (opened_queue 0 (packets q))) in
    record { cache = f.cache; queue = f.queue; handles = sym f.handles }

-- "waiting packets 8"
room_next : (m : Move) (t : Table) (q : Queue) → length q ≤ 8 → length (queue_next m t q) ≤ 8
unfolding release_list
room_next (on_cache c) t q h = omega (arith, kept_length (cleared_by_is c) q)
room_next (push k g) t q h = go (iface_check k.iface)
  where
    go : (c : Result (Unit {0}) Refusal) → length (queue_by c q (push_list queue_room (packet k g) q)) ≤ 8
    go (Err why) = h
    go (Ok tt) = accounted.room queue_room (packet k g) q (omega arith) h
room_next (release k) t q h = go (iface_check k.iface)
  where
    fewer : (l : Queue) → length (at_first_is (has_key k) gone [] l) ≤ length l
    fewer [] = omega arith
    fewer (p ∷ l) = by (has_key k p) (fewer l)
      where
        by : (b : Bool) → length (at_first_is (has_key k) gone [] l) ≤ length l → length (cond b (gone p ++ l) (p ∷ at_first_is (has_key k) gone [] l)) ≤ suc (length l)
        by true r = omega arith
        by false r = omega arith

    go : (c : Result (Unit {0}) Refusal) → length (queue_by c q (release_list k q)) ≤ 8
    go (Err why) = h
    go (Ok tt) = omega (arith, fewer q)
room_next purge_orphans t q h = omega (arith, kept_length (orphaned t) q)
room_next (purge_iface i) t q h = go (iface_check i)
  where
    go : (c : Result (Unit {0}) Refusal) → length (queue_by c q (kept (on_iface i) q)) ≤ 8
    go (Err why) = h
    go (Ok tt) = omega (arith, kept_length (on_iface i) q)

room_after : (moves : List Move) (t : Table) (l : Ledger) → length l.waiting ≤ 8 → length (ledger_after moves t l).waiting ≤ 8
room_after [] t l h = h
room_after (m ∷ moves) t l h =
    room_after moves (table_next m t) (ledger_next m t l)
    (omega (
      arith,
      length-map (ledger_next m t l).waiting packet_of,
      ap length (queue_next_lem m t l),
      room_next m t (queue_of l.waiting) (omega (arith, length-map l.waiting packet_of)),
    ))

pub room : (moves : List Move) (t : Table) (q : Queue) → length q ≤ 8 → length (ledger moves t q).waiting ≤ 8
room moves t q h = room_after moves t (opened q) (omega (arith, length-map (number_from 0 q) packet_of, ap length (opened_queue 0 q)))
