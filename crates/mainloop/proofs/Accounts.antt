-- What becomes of the packets. Assumes nothing.
use Prim.Native.Nat.{ℕ, zero, suc, ◌+◌, ◌≤◌}
use lib.ListN.{length, take, length-append, length-drop, length-take}
use lib.Seq.{append_snoc, take-append_seam}
use mathlib.Core.Bool.{Bool, true, false, cond, true≢false}
use mathlib.Core.List.{List, [], ◌∷◌, ◌++◌, append-nil}
use mathlib.Core.Path.{◌≡◌, refl, sym, ap, ◌∙◌}
use native.Mathlib.Omega.{arith}
use Rattle.std.specs.Prelude.{Result, Ok, Err, Some, None}
use Rattle.wire.specs.declared.error.Refusal.{Refusal}
use Rattle.table.proofs.Kept.{kept_law}
use Rattle.table.specs.Table.{any_of, at_first_is, kept, fold_over}
use Rattle.time.specs.declared.Instant.{Instant}
use Rattle.wire.specs.declared.ethernet.HardwareAddress.{HardwareAddress}
use Rattle.wire.specs.declared.ipv6.Ipv6Addr.{Ipv6Addr}
use Rattle.wire.specs.Refusals.{time_check, key_check, decided}
use Rattle.neighbor.specs.declared.Answer.{Answer as Known}
use Rattle.neighbor.specs.declared.Answer.TheVariants.{Found, Pending, NotFound}
use Rattle.neighbor.specs.declared.NeighborCache.{NeighborCache}
use Rattle.neighbor.specs.CacheCalls.{entries, key, lookup_by}
use Rattle.neighbor.specs.NeighborRules.{Key}
use Rattle.pending.proofs.Calls.{packets_of}
use Rattle.pending.proofs.Count.{accounted}
use Rattle.pending.specs.declared.PendingPacket.{PendingPacket}
use Rattle.pending.specs.declared.PendingQueue.{PendingQueue}
use Rattle.pending.specs.QueueRules.{Queue, packet, has_key, gone, is_full, oldest, push_list, push_answer, release_list, orphaned, dropped_handles}
use Rattle.pending.specs.QueueCalls.{packets, with_packets, handles_of, push_number, pushed_out, purged_of}
use Rattle.pending.specs.QueueCount.{count_of, waiting}
use Rattle.autoconf.specs.declared.AdvertAnswer.{AdvertAnswer}
use Rattle.autoconf.specs.declared.Advertised.{Advertised}
use Rattle.autoconf.specs.AdvertRules.{call_by}
use Rattle.mainloop.proofs.ReadyLaws.{released_if, none_left}
use Rattle.mainloop.specs.Accounts.{listed, waits, comes, handed_back, given_out, given_out_in, came_in, Sized, Accounts}
use Rattle.mainloop.specs.declared.Card.{Card}
use Rattle.mainloop.specs.declared.Input.{Input}
use Rattle.mainloop.specs.declared.Input.TheVariants.{Timer, LinkUp, RouterAdvert, NeighborAdvert, Packet}
use Rattle.mainloop.specs.declared.Report.{Report}
use Rattle.mainloop.specs.declared.Taken.{Taken}
use Rattle.mainloop.specs.declared.Woken.{Woken}
use Rattle.mainloop.specs.LoopRules.{card_with, release_of, releases, ready_of, push_of, sent_by, sent, fill_of, filled_by, filled, learned_by, learned, heard_by, heard, taken_in, taken_by, taken, last_sweep, poll_of, settled_after, not_settled, settled, message_in, taken_of, turned, inputs_of, Between, before, turn_in, run_over}

-- the handles of the array that was made of them
listed_of : (hs : List ℕ) → listed (handles_of hs) ≡ hs
listed_of hs = take-append_seam hs _

-- Released

module _ (k : Key) where
  fewer : (ps : Queue) → any_of (has_key k) ps ≡ true → suc (length (release_list k ps)) ≡ length ps
  unfolding release_list
  fewer [] h = absurd (true≢false (sym h))
  fewer (p ∷ ps) h = go (has_key k p) (fewer ps) h
    where
      go : (x : Bool) → (any_of (has_key k) ps ≡ true → suc (length (release_list k ps)) ≡ length ps) → cond x true (any_of (has_key k) ps) ≡ true
          → suc (length (cond x (gone p ++ ps) (p ∷ at_first_is (has_key k) gone [] ps))) ≡ suc (length ps)
      go true f g = refl
      go false f g = ap suc (f g)

  same_others : (ps : Queue) → kept (has_key k) (release_list k ps) ≡ kept (has_key k) ps
  unfolding release_list
  same_others [] = refl
  same_others (p ∷ ps) = go (has_key k p) refl (same_others ps)
    where
      go : (x : Bool) → has_key k p ≡ x → kept (has_key k) (release_list k ps) ≡ kept (has_key k) ps
          → kept (has_key k) (cond x (gone p ++ ps) (p ∷ at_first_is (has_key k) gone [] ps)) ≡ cond x (kept (has_key k) ps) (p ∷ kept (has_key k) ps)
      go true e f = refl
      go false e f = simp (e, f)

  none : (ps : Queue) → length ps ≤ 0 → kept (has_key k) ps ≡ ps
  none [] h = refl
  none (p ∷ ps) h = absurd (omega arith)

  others : (n : ℕ) (q : PendingQueue) → length (packets q) ≤ n → packets (releases n k q) ≡ kept (has_key k) (packets q)
  unfolding releases
  others zero q h = sym (none (packets q) h)
  others (suc n) q h = go (any_of (has_key k) (packets q)) refl (others n)
    where
      go : (x : Bool) → any_of (has_key k) (packets q) ≡ x → ((r : PendingQueue) → length (packets r) ≤ n → packets (releases n k r) ≡ kept (has_key k) (packets r))
          → packets (releases n k (release_of k q)) ≡ kept (has_key k) (packets q)
      go true e f =
          let is : release_of k q ≡ with_packets q (release_list k (packets q)) = ap (λ (x : Bool). (released_if k x q).queue) e in
          let left : packets (release_of k q) ≡ release_list k (packets q) = ap packets is ∙ packets_of q (release_list k (packets q)) in
          f (release_of k q) (omega (arith, h, fewer (packets q) e, ap length left)) ∙ (ap (kept (has_key k)) left ∙ same_others (packets q))
      go false e f =
          let is : release_of k q ≡ q = ap (λ (x : Bool). (released_if k x q).queue) e in
          ap (λ (r : PendingQueue). packets (releases n k r)) is
          ∙ (ap packets (none_left k n q e) ∙ sym (kept_law.all_stay (has_key k) (packets q) e))

  rest : (q : PendingQueue) → length q.slots ≡ 8 → packets (ready_of k q).queue ≡ kept (has_key k) (packets q)
  unfolding ready_of
  rest q full = others 8 q (omega (arith, length-take q.len q.slots))

  ready_counts : (h : ℕ) (q : PendingQueue) → length q.slots ≡ 8
      → waiting h (packets q) ≡ waiting h (packets (ready_of k q).queue) + count_of h (listed (ready_of k q).handles)
  unfolding ready_of
  ready_counts h q full =
      accounted.purge h (has_key k) (packets q)
      ∙ sym (λ i. waiting h (rest q full i) + count_of h (listed_of (dropped_handles (has_key k) (packets q)) i))

-- An input

push_counts : (h : ℕ) (x : Card) (addr : Ipv6Addr) (handle : ℕ)
    → waits h x + count_of h (handle ∷ []) ≡ waiting h (packets (push_of x addr handle).queue) + count_of h (pushed_out (push_of x addr handle).answer)
unfolding push_of
push_counts h x addr handle =
    accounted.push 8 h (packet (key 0 addr) handle) (packets x.queue) (omega arith)
    ∙ ap (λ (ps : Queue). waiting h ps + count_of h (pushed_out (push_answer 8 (packets x.queue)))) (sym (packets_of x.queue (push_list 8 (packet (key 0 addr) handle) (packets x.queue))))

push_taken : (x : Card) (addr : Ipv6Addr) (handle : ℕ) → push_number (push_of x addr handle).answer ≡ 0
unfolding push_of push_answer
push_taken x addr handle = go (is_full 8 (packets x.queue))
  where
    go : (full : Bool) → push_number (cond full (Ok (Some (oldest (packets x.queue)))) (Ok None)) ≡ 0
    go true = refl
    go false = refl

-- the count is right for what an input leaves
abbrev Counts : ℕ → Card → Input → Taken → Type 0
Counts h x input r =
    waits h x + count_of h (comes input) ≡ waits h r.card + (count_of h (listed r.ready) + count_of h (handed_back input r.action))

send_counts : (h : ℕ) (known : Result Known Refusal) (x : Card) (addr : Ipv6Addr) (handle : ℕ) → Counts h x (Packet addr handle) (sent_by known x addr handle)
send_counts h (Err why) x addr handle = omega arith
send_counts h (Ok (Found hw)) x addr handle = omega arith
send_counts h (Ok Pending) x addr handle = omega (arith, push_counts h x addr handle)
send_counts h (Ok NotFound) x addr handle = omega (arith, push_counts h x addr handle)

answer_counts : (h : ℕ) (o : Result (Unit {0}) Refusal) (x : Card) (addr : Ipv6Addr) (hw : HardwareAddress) (c : NeighborCache) → Sized x
    → Counts h x (NeighborAdvert addr hw) (filled_by o x addr hw c)
answer_counts h (Err why) x addr hw c full = refl
answer_counts h (Ok tt) x addr hw c full = omega (arith, ready_counts (key 0 addr) h x.queue full)

learn_counts : (h : ℕ) (known : Result Known Refusal) (x : Card) (addr : Ipv6Addr) (hw : HardwareAddress) (now : Instant) → Sized x
    → Counts h x (NeighborAdvert addr hw) (learned_by known x addr hw now)
unfolding filled
learn_counts h (Err why) x addr hw now full = refl
learn_counts h (Ok NotFound) x addr hw now full = refl
learn_counts h (Ok Pending) x addr hw now full = answer_counts h (fill_of x addr hw now).outcome x addr hw (fill_of x addr hw now).cache full
learn_counts h (Ok (Found old)) x addr hw now full = answer_counts h (fill_of x addr hw now).outcome x addr hw (fill_of x addr hw now).cache full

hear_counts : (h : ℕ) (known : Result Known Refusal) (x : Card) (source : Ipv6Addr) (answer : Result AdvertAnswer Refusal) → Sized x
    → Counts h x (RouterAdvert source) (heard_by known x source answer)
hear_counts h (Err why) x source answer full = refl
hear_counts h (Ok (Found hw)) x source answer full = omega (arith, ready_counts (key 0 source) h x.queue full)
hear_counts h (Ok Pending) x source answer full = refl
hear_counts h (Ok NotFound) x source answer full = refl

input_counts : (h : ℕ) (x : Card) (input : Input) (message : List ℕ) (now : Instant) → Sized x → Counts h x input (taken_in x input message now)
unfolding heard learned sent
input_counts h x Timer message now full = refl
input_counts h x LinkUp message now full = refl
input_counts h x (RouterAdvert source) message now full =
    let r : Advertised = call_by (time_check now 0) x.slaac x.cache 0 source message now in
    hear_counts h (lookup_by (key_check 0 source) r.cache (key 0 source)) (card_with x r.slaac r.cache x.queue) source r.answer full
input_counts h x (NeighborAdvert addr hw) message now full = learn_counts h (lookup_by (key_check 0 addr) x.cache (key 0 addr)) x addr hw now full
input_counts h x (Packet addr handle) message now full = send_counts h (lookup_by (key_check 0 addr) x.cache (key 0 addr)) x addr handle

by_check_counts : (h : ℕ) (check : Result (Unit {0}) Refusal) (x : Card) (input : Input) (message : List ℕ) (now : Instant) → Sized x → Counts h x input (taken_by check x input message now)
by_check_counts h (Err why) x input message now full = omega arith
by_check_counts h (Ok tt) x input message now full = input_counts h x input message now full

take_counts : (h : ℕ) (x : Card) (input : Input) (message : List ℕ) (now : Instant) → Sized x → Counts h x input (taken x input message now)
take_counts h x input message now full = by_check_counts h (time_check now 0) x input message now full

-- Settling

purge_counts : (h : ℕ) (q : PendingQueue) (goes : PendingPacket → Bool)
    → waiting h (packets q) ≡ waiting h (packets (purged_of q goes).queue) + count_of h (listed (purged_of q goes).handles)
unfolding purged_of
purge_counts h q goes =
    accounted.purge h goes (packets q)
    ∙ sym (λ i. waiting h (packets_of q (kept goes (packets q)) i) + count_of h (listed_of (dropped_handles goes (packets q)) i))

settle_counts : (h : ℕ) (x : Card) (up : Bool) (hw : HardwareAddress) (buf : List ℕ) (now : Instant)
    → waits h x ≡ waits h (settled x up hw buf now).card + count_of h (listed (settled x up hw buf now).dropped)
unfolding settled
settle_counts h x up hw buf now = go (time_check now 0)
  where
    go : (check : Result (Unit {0}) Refusal)
        → waits h x
        ≡ waits h (decided check (not_settled x) (settled_after x (poll_of x up hw buf now))).card
        + count_of h (listed (decided check (not_settled x) (settled_after x (poll_of x up hw buf now))).dropped)
    go (Err why) = omega arith
    go (Ok tt) = purge_counts h x.queue (orphaned (entries (last_sweep x (poll_of x up hw buf now)).cache))

turn_counts : (h : ℕ) (x : Card) (received : List ℕ) (hw : HardwareAddress) (buf : List ℕ) (w : Woken) → Sized x
    → waits h x + count_of h (comes w.input) ≡ waits h (turned received hw x buf w).card + given_out h w (turned received hw x buf w).report
unfolding turned
turn_counts h x received hw buf w full =
    let message : List ℕ = message_in received w.message_from w.message_len in
    let r : Taken = taken x w.input message w.at in
    omega (arith, take_counts h x w.input message w.at full, settle_counts h r.card w.up hw buf w.at)

-- The array of the queue

-- with no more packets than it has slots
with_sized : (q : PendingQueue) (xs : Queue) → length q.slots ≡ 8 → length xs ≤ 8 → length (with_packets q xs).slots ≡ 8
with_sized q xs full h = simp (length-append, length-drop) (omega arith)

room : (q : PendingQueue) → length q.slots ≡ 8 → length (packets q) ≤ 8
room q full = omega (arith, length-take q.len q.slots)

purge_sized : (q : PendingQueue) (goes : PendingPacket → Bool) → length q.slots ≡ 8 → length (purged_of q goes).queue.slots ≡ 8
unfolding purged_of
purge_sized q goes full = with_sized q (kept goes (packets q)) full (omega (arith, kept_law.parts goes (packets q), room q full))

release_sized : (k : Key) (q : PendingQueue) → length q.slots ≡ 8 → length (release_of k q).slots ≡ 8
release_sized k q full = go (any_of (has_key k) (packets q)) refl
  where
    go : (x : Bool) → any_of (has_key k) (packets q) ≡ x → length (released_if k x q).queue.slots ≡ 8
    go true e = with_sized q (release_list k (packets q)) full (omega (arith, fewer k (packets q) e, room q full))
    go false e = full

releases_sized : (n : ℕ) (k : Key) (q : PendingQueue) → length q.slots ≡ 8 → length (releases n k q).slots ≡ 8
unfolding releases
releases_sized zero k q full = full
releases_sized (suc n) k q full = releases_sized n k (release_of k q) (release_sized k q full)

push_sized : (x : Card) (addr : Ipv6Addr) (handle : ℕ) → Sized x → length (push_of x addr handle).queue.slots ≡ 8
unfolding push_of
push_sized x addr handle full =
    with_sized x.queue (push_list 8 (packet (key 0 addr) handle) (packets x.queue)) full
    (accounted.room 8 (packet (key 0 addr) handle) (packets x.queue) (omega arith) (room x.queue full))

send_sized : (known : Result Known Refusal) (x : Card) (addr : Ipv6Addr) (handle : ℕ) → Sized x → Sized (sent_by known x addr handle).card
send_sized (Err why) x addr handle full = full
send_sized (Ok (Found hw)) x addr handle full = full
send_sized (Ok Pending) x addr handle full = push_sized x addr handle full
send_sized (Ok NotFound) x addr handle full = push_sized x addr handle full

answer_sized : (o : Result (Unit {0}) Refusal) (x : Card) (addr : Ipv6Addr) (hw : HardwareAddress) (c : NeighborCache) → Sized x → Sized (filled_by o x addr hw c).card
unfolding ready_of
answer_sized (Err why) x addr hw c full = full
answer_sized (Ok tt) x addr hw c full = releases_sized 8 (key 0 addr) x.queue full

learn_sized : (known : Result Known Refusal) (x : Card) (addr : Ipv6Addr) (hw : HardwareAddress) (now : Instant) → Sized x → Sized (learned_by known x addr hw now).card
unfolding filled
learn_sized (Err why) x addr hw now full = full
learn_sized (Ok NotFound) x addr hw now full = full
learn_sized (Ok Pending) x addr hw now full = answer_sized (fill_of x addr hw now).outcome x addr hw (fill_of x addr hw now).cache full
learn_sized (Ok (Found old)) x addr hw now full = answer_sized (fill_of x addr hw now).outcome x addr hw (fill_of x addr hw now).cache full

hear_sized : (known : Result Known Refusal) (x : Card) (source : Ipv6Addr) (answer : Result AdvertAnswer Refusal) → Sized x → Sized (heard_by known x source answer).card
unfolding ready_of
hear_sized (Err why) x source answer full = full
hear_sized (Ok (Found hw)) x source answer full = releases_sized 8 (key 0 source) x.queue full
hear_sized (Ok Pending) x source answer full = full
hear_sized (Ok NotFound) x source answer full = full

input_sized : (x : Card) (input : Input) (message : List ℕ) (now : Instant) → Sized x → Sized (taken_in x input message now).card
unfolding heard learned sent
input_sized x Timer message now full = full
input_sized x LinkUp message now full = full
input_sized x (RouterAdvert source) message now full =
    let r : Advertised = call_by (time_check now 0) x.slaac x.cache 0 source message now in
    hear_sized (lookup_by (key_check 0 source) r.cache (key 0 source)) (card_with x r.slaac r.cache x.queue) source r.answer full
input_sized x (NeighborAdvert addr hw) message now full = learn_sized (lookup_by (key_check 0 addr) x.cache (key 0 addr)) x addr hw now full
input_sized x (Packet addr handle) message now full = send_sized (lookup_by (key_check 0 addr) x.cache (key 0 addr)) x addr handle full

take_sized : (check : Result (Unit {0}) Refusal) (x : Card) (input : Input) (message : List ℕ) (now : Instant) → Sized x → Sized (taken_by check x input message now).card
take_sized (Err why) x input message now full = full
take_sized (Ok tt) x input message now full = input_sized x input message now full

settle_sized : (x : Card) (up : Bool) (hw : HardwareAddress) (buf : List ℕ) (now : Instant) → Sized x → Sized (settled x up hw buf now).card
unfolding settled
settle_sized x up hw buf now full = go (time_check now 0)
  where
    go : (check : Result (Unit {0}) Refusal) → Sized (decided check (not_settled x) (settled_after x (poll_of x up hw buf now))).card
    go (Err why) = full
    go (Ok tt) = purge_sized x.queue (orphaned (entries (last_sweep x (poll_of x up hw buf now)).cache)) full

turn_sized : (x : Card) (received : List ℕ) (hw : HardwareAddress) (buf : List ℕ) (w : Woken) → Sized x → Sized (turned received hw x buf w).card
unfolding turned
turn_sized x received hw buf w full =
    settle_sized (taken_of received x w).card w.up hw buf w.at (take_sized (time_check w.at 0) x w.input (message_in received w.message_from w.message_len) w.at full)

-- A run

-- one more turn and its report
one_more_turn : (h : ℕ) (ws : List Woken) (rs : List Report) (w : Woken) (r : Report) → length ws ≡ length rs
    → given_out_in h (ws ++ (w ∷ [])) (rs ++ (r ∷ [])) ≡ given_out_in h ws rs + given_out h w r
one_more_turn h [] [] w r e = omega arith
one_more_turn h [] (r' ∷ rs) w r e = absurd (omega arith)
one_more_turn h (w' ∷ ws) [] w r e = absurd (omega arith)
one_more_turn h (w' ∷ ws) (r' ∷ rs) w r e = omega (arith, one_more_turn h ws rs w r (omega arith))

module _ (received : List ℕ) (hw : HardwareAddress) where
  abbrev run_from : Between → List Woken → Between
  run_from b ws = fold_over (turn_in received hw) b ws

  run_reports : (b : Between) (ws : List Woken) → length (run_from b ws).reports ≡ length b.reports + length ws
  run_reports b [] = omega arith
  run_reports b (w ∷ ws) =
      let r : Report = (turned received hw b.card b.buffer w).report in
      omega (arith, run_reports (turn_in received hw b w) ws, length-append b.reports (r ∷ []))

  -- the inputs so far, which have their reports, and those to come
  run_counts : (h : ℕ) (b : Between) (past ws : List Woken) → length past ≡ length b.reports → Sized b.card
      → waits h b.card + (given_out_in h past b.reports + came_in h ws) ≡ waits h (run_from b ws).card + given_out_in h (past ++ ws) (run_from b ws).reports
  run_counts h b past [] e full =
      let same : given_out_in h (past ++ []) b.reports ≡ given_out_in h past b.reports = ap (λ (us : List Woken). given_out_in h us b.reports) (append-nil past) in
      omega (arith, same)
  run_counts h b past (w ∷ ws) e full =
      let b' : Between = turn_in received hw b w in
      let r : Report = (turned received hw b.card b.buffer w).report in
      let e' : length (past ++ (w ∷ [])) ≡ length b'.reports = omega (arith, length-append past (w ∷ []), length-append b.reports (r ∷ [])) in
      let same : given_out_in h (past ++ (w ∷ []) ++ ws) (run_from b' ws).reports ≡ given_out_in h (past ++ (w ∷ ws)) (run_from b' ws).reports =
      ap (λ (us : List Woken). given_out_in h us (run_from b' ws).reports) (append_snoc past w ws) in
      omega
      (arith, same, turn_counts h b.card received hw b.buffer w full, one_more_turn h past b.reports w r e, run_counts h b' (past ++ (w ∷ [])) ws e' (turn_sized b.card received hw b.buffer w full))

pub accounts : Accounts
unfolding run_over
accounts =
    record {
      rest = rest;
      takes = take_counts;
      pushed = push_taken;
      settles = settle_counts;
      turns = turn_counts;
      sized = turn_sized;
      reports = λ x wake inbox received hw buf budget.
          let ws : List Woken = take budget (inputs_of inbox) in omega (arith, run_reports received hw (before x wake buf) ws);
      runs = λ h x wake inbox received hw buf budget full.
          let ws : List Woken = take budget (inputs_of inbox) in omega (arith, run_counts received hw h (before x wake buf) [] ws refl full);
    }
