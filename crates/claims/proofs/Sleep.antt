-- A card that settled sleeps until `wake`. Assumes nothing.
use Prim.Native.Nat.{ℕ, zero, suc}
use lib.Dec.{ltb}
use lib.ListN.{length, take, set}
use mathlib.Core.Bool.{Bool, true, false, cond}
use mathlib.Core.List.{List, [], ◌∷◌, ◌++◌, map}
use mathlib.Core.Logic.{inl}
use mathlib.Core.Path.{◌≡◌, refl, sym, ap, ◌∙◌, subst}
use native.Mathlib.Omega.{arith}
use Rattle.std.specs.Prelude.{Result, Ok, Err, Option, Some, None}
use Rattle.wire.specs.declared.error.Refusal.{Refusal}
use Rattle.sweep.proofs.SweepLaws.{listed_events}
use Rattle.claims.proofs.Clocks.{clocks}
use Rattle.claims.proofs.Lists.{twice_slots, twice_count, all_append}
use Rattle.claims.proofs.Wake.{wake}
use Rattle.claims.proofs.WakePoll.{wake_poll}
use Rattle.claims.proofs.WakeTable.{same_ifaces}
use Rattle.claims.specs.Clocks.{Sweep, swept_at, Poll, polled_at}
use Rattle.claims.specs.Lists.{All, Member}
use Rattle.claims.specs.Sleep.{OnOne, still, turns_over, Sleep}
use Rattle.claims.specs.Wake.{Asleep, none, one_more, Round, times_of, already, IsEarliest}
use Rattle.claims.specs.WakePoll.{quietly, slaac_times}
use Rattle.autoconf.specs.declared.AdvertAnswer.{AdvertAnswer}
use Rattle.autoconf.specs.declared.AdvertAnswer.TheVariants.{Off as IsOff}
use Rattle.autoconf.specs.declared.Advertised.{Advertised}
use Rattle.autoconf.specs.declared.PollAnswer.TheVariants.{Off, Quiet}
use Rattle.autoconf.specs.declared.Polled.{Polled}
use Rattle.autoconf.specs.declared.PolledAt.{PolledAt}
use Rattle.autoconf.specs.AdvertRules.{options_in, last_source, filled_by, step5, advertised, message_check, message_by, call_by}
use Rattle.autoconf.specs.PollRules.{polled, poll_by, poll_buffer, sender_in}
use Rattle.iface.specs.declared.addr.IfaceAddrs.{IfaceAddrs}
use Rattle.iface.specs.declared.route.Routes.{Routes}
use Rattle.mainloop.specs.declared.Card.{Card}
use Rattle.mainloop.specs.declared.Input.{Input}
use Rattle.mainloop.specs.declared.Input.TheVariants.{Timer, LinkUp, RouterAdvert, NeighborAdvert, Packet}
use Rattle.mainloop.specs.declared.Settled.{Settled}
use Rattle.mainloop.specs.declared.Woken.{Woken}
use Rattle.mainloop.specs.declared.Inbox.{Inbox}
use Rattle.mainloop.specs.declared.Ran.{Ran}
use Rattle.mainloop.specs.LoopRules.{card_with, start_of, sent_by, sent, fill_of, filled_by as answered_by, filled as answered, learned_by, learned, heard_by, heard, taken_in, taken_by, poll_of, buffer_after, first_sweep, last_sweep, settled_after, not_settled, settled, SettledTo, turned, inputs_of, Between, before, turn_in, run_over, RanTo}
use Rattle.neighbor.proofs.Distinct.{entries_of_lem}
use Rattle.neighbor.specs.CacheCalls.{entries, key, lookup_by, put_in, change_by}
use Rattle.neighbor.specs.NeighborRules.{Table, entry, lasting, find, victim, insert_state}
use Rattle.neighbor.specs.declared.Answer.{Answer as Known}
use Rattle.neighbor.specs.declared.Answer.TheVariants.{Found, Pending, NotFound}
use Rattle.neighbor.specs.declared.Entry.{Entry}
use Rattle.neighbor.specs.declared.State.{State}
use Rattle.neighbor.specs.declared.State.TheVariants.{Started}
use Rattle.neighbor.specs.declared.NeighborCache.{NeighborCache}
use Rattle.pending.proofs.Calls.{packets_of}
use Rattle.pending.specs.declared.PendingPacket.{PendingPacket}
use Rattle.pending.specs.declared.PendingQueue.{PendingQueue}
use Rattle.pending.specs.QueueCalls.{packets, handles_of, purged_of}
use Rattle.pending.specs.QueueRules.{Queue, handle_of, orphaned, dropped_handles}
use Rattle.slaac.specs.declared.Slaac.{Slaac}
use Rattle.sweep.proofs.Entries.{sweep_entries, sweep_events}
use Rattle.sweep.specs.SweepCalls.{event_list, events_table, sweep_by}
use Rattle.sweep.specs.SweepRules.{sweep_table}
use Rattle.table.proofs.Kept.{dropped_again}
use Rattle.table.specs.Table.{fold_over, kept, dropped}
use Rattle.time.specs.ClockRules.{idle}
use Rattle.time.specs.declared.Clock.{Clock}
use Rattle.time.specs.declared.Instant.{Instant}
use Rattle.wire.specs.Refusals.{time_check, key_check, fill_check, decided}
use Rattle.wire.specs.Rfc2464.{is_unicast_hardware}
use Rattle.wire.specs.declared.ethernet.HardwareAddress.{HardwareAddress}
use Rattle.wire.specs.declared.ipv6.Ipv6Addr.{Ipv6Addr}

-- ---- packets: what was purged has no orphans

module _ (q : PendingQueue) (goes : PendingPacket → Bool) where
  pub purge_queue : (purged_of (purged_of q goes).queue goes).queue ≡ (purged_of q goes).queue
  unfolding purged_of
  purge_queue = λ i. record { slots = twice_slots q.slots q.len goes i; len = twice_count q.slots q.len goes i }

  pub purge_none : (purged_of (purged_of q goes).queue goes).handles ≡ handles_of []
  unfolding purged_of dropped_handles
  purge_none =
      ap (λ (ps : Queue). handles_of (map handle_of (dropped goes ps))) (packets_of q (kept goes (packets q)))
      ∙ ap (λ (ps : Queue). handles_of (map handle_of ps)) (dropped_again goes (packets q))

-- ---- sweeps

events_listed : (x : Result (Unit {0}) Refusal) (c : NeighborCache) (k : Clock) (i : ℕ) → (sweep_by x c k i).events ≡ events_table (event_list (sweep_by x c k i).events)
events_listed (Err why) c k i = ap events_table (sym (listed_events []))
events_listed (Ok tt) c k i =
    sweep_events c k i
    ∙ ap events_table (sym (listed_events (sweep_table i k.now (entries c)).events) ∙ ap event_list (sym (sweep_events c k i)))

sweep_ifaces : (x : Result (Unit {0}) Refusal) (c : NeighborCache) (k : Clock) (i : ℕ) → All (λ e. e.iface ≡ 0) (entries c) → All (λ e. e.iface ≡ 0) (entries (sweep_by x c k i).cache)
sweep_ifaces (Err why) c k i h = h
sweep_ifaces (Ok tt) c k i h =
    subst (All (λ e. e.iface ≡ 0)) (sym (sweep_entries c k i)) (same_ifaces (λ n. n ≡ 0) i k.now (entries c) h)

-- ---- every neighbour is on interface 0

abbrev On0 : Table → Type 0
On0 t = All (λ e. e.iface ≡ 0) t

all_set : (t : Table) (i : ℕ) (e : Entry) → On0 t → e.iface ≡ 0 → On0 (set t i e)
all_set [] i e h g = tt
all_set (f ∷ t) zero e h g = (g, h.1)
all_set (f ∷ t) (suc i) e h g = (h.0, all_set t i e h.1 g)

put_one : (c : NeighborCache) (addr : Ipv6Addr) (st : State) → On0 (entries c) → On0 (entries (put_in c (key 0 addr) st))
unfolding insert_state
put_one c addr st h = subst On0 (sym (entries_of_lem c (insert_state (key 0 addr) st (entries c)))) (go (ltb (find (key 0 addr) (entries c)) (length (entries c))) (ltb (length (entries c)) 16))
  where
    go : (a b : Bool) → On0 (cond a (set (entries c) (find (key 0 addr) (entries c)) (entry (key 0 addr) st)) (cond b (entries c ++ (entry (key 0 addr) st ∷ [])) (set (entries c) (victim (entries c)) (entry (key 0 addr) st))))
    go true b = all_set (entries c) (find (key 0 addr) (entries c)) (entry (key 0 addr) st) h refl
    go false true = all_append (λ (f : Entry). f.iface ≡ 0) (entries c) (entry (key 0 addr) st ∷ []) h (refl, tt)
    go false false = all_set (entries c) (victim (entries c)) (entry (key 0 addr) st) h refl

change_one : (x : Result (Unit {0}) Refusal) (c : NeighborCache) (addr : Ipv6Addr) (st : State) → On0 (entries c) → On0 (entries (change_by x c (put_in c (key 0 addr) st)).cache)
change_one (Err why) c addr st h = h
change_one (Ok tt) c addr st h = put_one c addr st h

hear_one : (x : Result (Unit {0}) Refusal) (s : Slaac) (c : NeighborCache) (source : Ipv6Addr) (message : List ℕ) (now : Instant) → On0 (entries c) → On0 (entries (call_by x s c 0 source message now).cache)
hear_one (Err why) s c source message now h = h
hear_one (Ok tt) s c source message now h = go s.on
  where
    step : (l : Option HardwareAddress) → On0 (entries (step5 c 0 source l now))
    step None = h
    step (Some hw) = unicast (is_unicast_hardware hw)
      where
        unicast : (b : Bool) → On0 (entries (cond b (filled_by c 0 source hw now) c))
        unicast true = put_one c source (lasting hw now) h
        unicast false = h

    msg : (m : Result (Unit {0}) Refusal) → On0 (entries (message_by m s c 0 source message now).cache)
    msg (Err why) = h
    msg (Ok tt) = step (last_source (options_in message))

    go : (b : Bool) → On0 (entries (cond b (message_by (message_check source message) s c 0 source message now) (advertised s c (Ok IsOff))).cache)
    go true = msg (message_check source message)
    go false = h

send_one : (k : Result Known Refusal) (x : Card) (addr : Ipv6Addr) (handle : ℕ) → OnOne x → OnOne (sent_by k x addr handle).card
unfolding start_of
send_one (Err why) x addr handle h = h
send_one (Ok (Found hw)) x addr handle h = h
send_one (Ok Pending) x addr handle h = h
send_one (Ok NotFound) x addr handle h = change_one (key_check 0 addr) x.cache addr Started h

fill_one : (o : Result (Unit {0}) Refusal) (x : Card) (addr : Ipv6Addr) (hw : HardwareAddress) (c : NeighborCache) → OnOne x → On0 (entries c) → OnOne (answered_by o x addr hw c).card
fill_one (Err why) x addr hw c h g = h
fill_one (Ok tt) x addr hw c h g = g

learn_one : (k : Result Known Refusal) (x : Card) (addr : Ipv6Addr) (hw : HardwareAddress) (now : Instant) → OnOne x → OnOne (learned_by k x addr hw now).card
unfolding answered fill_of
learn_one (Err why) x addr hw now h = h
learn_one (Ok NotFound) x addr hw now h = h
learn_one (Ok Pending) x addr hw now h =
    fill_one (fill_of x addr hw now).outcome x addr hw (fill_of x addr hw now).cache h (change_one (fill_check now 0 addr hw) x.cache addr (lasting hw now) h)
learn_one (Ok (Found old)) x addr hw now h =
    fill_one (fill_of x addr hw now).outcome x addr hw (fill_of x addr hw now).cache h (change_one (fill_check now 0 addr hw) x.cache addr (lasting hw now) h)

known_one : (k : Result Known Refusal) (x : Card) (source : Ipv6Addr) (answer : Result AdvertAnswer Refusal) → OnOne x → OnOne (heard_by k x source answer).card
known_one (Err why) x source answer h = h
known_one (Ok (Found hw)) x source answer h = h
known_one (Ok Pending) x source answer h = h
known_one (Ok NotFound) x source answer h = h

input_one : (x : Card) (input : Input) (message : List ℕ) (now : Instant) → OnOne x → OnOne (taken_in x input message now).card
unfolding heard learned sent
input_one x Timer message now h = h
input_one x LinkUp message now h = h
input_one x (RouterAdvert source) message now h =
    let r : Advertised = call_by (time_check now 0) x.slaac x.cache 0 source message now in
    known_one (lookup_by (key_check 0 source) r.cache (key 0 source)) (card_with x r.slaac r.cache x.queue) source r.answer
    (hear_one (time_check now 0) x.slaac x.cache source message now h)
input_one x (NeighborAdvert addr hw) message now h = learn_one (lookup_by (key_check 0 addr) x.cache (key 0 addr)) x addr hw now h
input_one x (Packet addr handle) message now h = send_one (lookup_by (key_check 0 addr) x.cache (key 0 addr)) x addr handle h

take_one : (check : Result (Unit {0}) Refusal) (x : Card) (input : Input) (message : List ℕ) (now : Instant) → OnOne x → OnOne (taken_by check x input message now).card
take_one (Err why) x input message now h = h
take_one (Ok tt) x input message now h = input_one x input message now h

-- ---- the poll with SLAAC off

off_poll : (x : Result (Unit {0}) Refusal) (s : Slaac) (t : IfaceAddrs) (r : Routes) (up : Bool) (hw : HardwareAddress) (buf : List ℕ) (k : Clock) → x ≡ Ok tt → s.on ≡ false
    → poll_by x s t r 0 up hw buf k ≡ polled s t r k (Ok Off)
off_poll x s t r up hw buf k e off = rw (e, off) refl

off_buffer : (x : Result (Unit {0}) Refusal) (s : Slaac) (t : IfaceAddrs) (up : Bool) (hw : HardwareAddress) (buf : List ℕ) (k : Clock) → x ≡ Ok tt → s.on ≡ false
    → poll_buffer x s t up hw buf k ≡ buf
off_buffer x s t up hw buf k e off = rw (e, off) refl

-- ---- one time that a card settles

on_one : (t : Table) → All (λ e. e.iface ≡ 0) t → All (λ e. Member e.iface (0 ∷ [])) t
on_one [] h = tt
on_one (e ∷ t) h = (inl (sym h.0), on_one t h.1)

own_after : (x : Card) (p : PolledAt) → OnOne x → All (λ e. e.iface ≡ 0) (entries (last_sweep x p).cache)
own_after x p own =
    sweep_ifaces (time_check (first_sweep x p).clock.now 0) (first_sweep x p).cache (first_sweep x p).clock 0
    (sweep_ifaces (time_check p.clock.now 0) x.cache p.clock 0 own)

settle_one : (check : Result (Unit {0}) Refusal) (x : Card) (p : PolledAt) → OnOne x → OnOne (decided check (not_settled x) (settled_after x p)).card
settle_one (Err why) x p own = own
settle_one (Ok tt) x p own = own_after x p own

module _ (x : Card) (up : Bool) (hw : HardwareAddress) (buf : List ℕ) (now : Instant) (r : Settled) (buf' : List ℕ) (h : SettledTo x up hw buf now r buf') where
  settled_one : OnOne x → OnOne r.card
  unfolding settled
  settled_one own = subst (λ (q : Settled). OnOne q.card) (sym h.is) (settle_one (time_check now 0) x (poll_of x up hw buf now) own)

module _ (x : Card) (up : Bool) (hw : HardwareAddress) (buf : List ℕ) (now : Instant) (r : Settled) (buf' : List ℕ) (h : SettledTo x up hw buf now r buf') (ok : time_check now 0 ≡ Ok tt) where
  abbrev poll : PolledAt
  poll = poll_of x up hw buf now

  is_after : r ≡ settled_after x (poll_of x up hw buf now)
  unfolding settled
  is_after = h.is ∙ ap (λ (check : Result (Unit {0}) Refusal). decided check (not_settled x) (settled_after x (poll_of x up hw buf now))) ok

  polls : Poll 0 up hw x.slaac x.addrs x.routes buf (idle now) poll.polled buf' poll.clock
  polls = polled_at x.slaac x.addrs x.routes buf (idle now) poll buf' (h.polls ok)

  poll_now : poll.clock.now ≡ now
  poll_now = (clocks.poll_at x.slaac x.addrs x.routes 0 up hw buf (idle now) poll buf' (h.polls ok)).now

  first_now : (first_sweep x poll).clock.now ≡ now
  first_now = (clocks.sweep_at x.cache poll.clock 0 (first_sweep x poll) (h.sweeps ok)).now ∙ poll_now

  wakes_later : Asleep (last_sweep x poll).clock.deadline now
  wakes_later =
      subst (Asleep (last_sweep x poll).clock.deadline) first_now
      (wake.later (first_sweep x poll).cache (last_sweep x poll).cache (first_sweep x poll).clock (last_sweep x poll).clock 0 (event_list (last_sweep x poll).events)
      (swept_at (first_sweep x poll).cache (first_sweep x poll).clock 0 (last_sweep x poll) (h.sweeps_again ok))
      (subst (Asleep (first_sweep x poll).clock.deadline) (poll_now ∙ sym first_now)
      (wake.later x.cache (first_sweep x poll).cache poll.clock (first_sweep x poll).clock 0 (event_list (first_sweep x poll).events)
      (swept_at x.cache poll.clock 0 (first_sweep x poll) (h.sweeps ok))
      (subst (Asleep poll.clock.deadline) (sym poll_now)
      (wake_poll.later 0 up hw x.slaac x.addrs x.routes buf (idle now) poll.polled buf' poll.clock polls tt)))))

  module _ (own : OnOne x) where
    round : Round x.cache poll.clock (0 ∷ []) 0 (last_sweep x poll).cache (last_sweep x poll).clock
    round =
        let fine : time_check poll.clock.now 0 ≡ Ok tt = ap (λ (t : Instant). time_check t 0) poll_now ∙ ok in
        record {
          all = on_one (entries x.cache) own;
          taken = (fine, (fine, tt));
          cache = (first_sweep x poll).cache;
          clock = (first_sweep x poll).clock;
          each = one_more (swept_at x.cache poll.clock 0 (first_sweep x poll) (h.sweeps ok)) (none (first_sweep x poll).cache (first_sweep x poll).clock);
          events = event_list (last_sweep x poll).events;
          last = swept_at (first_sweep x poll).cache (first_sweep x poll).clock 0 (last_sweep x poll) (h.sweeps_again ok);
        }

    exact_after : x.slaac.on ≡ true
        → IsEarliest (last_sweep x poll).clock.deadline (slaac_times (sender_in up x.addrs) poll.polled.slaac ++ times_of (entries (last_sweep x poll).cache))
    exact_after on =
        wake.joined poll.clock.deadline (last_sweep x poll).clock.deadline _ _
        (wake_poll.exact 0 up hw x.slaac x.addrs x.routes buf (idle now) poll.polled buf' poll.clock polls ok on)
        (wake.exact_lent x.cache (last_sweep x poll).cache poll.clock (last_sweep x poll).clock (0 ∷ []) 0 round)

    module _ (off : x.slaac.on ≡ false) where
      poll_off : poll_of x up hw buf now ≡ polled x.slaac x.addrs x.routes (idle now) (Ok Off)
      unfolding poll_of
      poll_off = off_poll (time_check now 0) x.slaac x.addrs x.routes up hw buf (idle now) ok off

      buffer_off : buf' ≡ buf
      unfolding buffer_after
      buffer_off = h.leaves ∙ off_buffer (time_check now 0) x.slaac x.addrs up hw buf (idle now) ok off

      exact_after_off : IsEarliest (last_sweep x poll).clock.deadline (times_of (entries (last_sweep x poll).cache))
      exact_after_off =
          subst (λ (p : PolledAt). IsEarliest (last_sweep x poll).clock.deadline (already p.clock.deadline ++ times_of (entries (last_sweep x poll).cache))) poll_off
          (wake.exact_lent x.cache (last_sweep x poll).cache poll.clock (last_sweep x poll).clock (0 ∷ []) 0 round)

-- of a time that is refused there is none to wait for
later_by : (x : Card) (up : Bool) (hw : HardwareAddress) (buf : List ℕ) (now : Instant) (r : Settled) (buf' : List ℕ) → SettledTo x up hw buf now r buf' → (check : Result (Unit {0}) Refusal)
    → time_check now 0 ≡ check → Asleep (decided check (not_settled x) (settled_after x (poll_of x up hw buf now))).wake now
later_by x up hw buf now r buf' h (Err why) e = tt
later_by x up hw buf now r buf' h (Ok tt) e = wakes_later x up hw buf now r buf' h e

settled_later : (x : Card) (up : Bool) (hw : HardwareAddress) (buf : List ℕ) (now : Instant) (r : Settled) (buf' : List ℕ) → SettledTo x up hw buf now r buf' → Asleep r.wake now
unfolding settled
settled_later x up hw buf now r buf' h = subst (λ (q : Settled). Asleep q.wake now) (sym h.is) (later_by x up hw buf now r buf' h (time_check now 0) refl)

-- ---- the next time, before `wake`

module _ (x : Card) (up : Bool) (hw : HardwareAddress) (buf : List ℕ) (now : Instant) (r : Settled) (buf' : List ℕ) (h : SettledTo x up hw buf now r buf') (ok : time_check now 0 ≡ Ok tt) (own : OnOne x)
    (up2 : Bool) (hw2 : HardwareAddress) (buf2 : List ℕ) (next : Instant) (r2 : Settled) (buf2' : List ℕ)
    (h2 : SettledTo (settled_after x (poll_of x up hw buf now)).card up2 hw2 buf2 next r2 buf2') (ok2 : time_check next 0 ≡ Ok tt)
    (a : Asleep (last_sweep x (poll_of x up hw buf now)).clock.deadline next) where
  abbrev poll1 : PolledAt
  poll1 = poll_of x up hw buf now

  abbrev y : Card
  y = (settled_after x poll1).card

  abbrev poll2 : PolledAt
  poll2 = poll_of y up2 hw2 buf2 next

  abbrev wakes : Option Instant
  wakes = (last_sweep x poll1).clock.deadline

  first_quiet : (event_list (first_sweep y poll2).events ≡ []) × ((first_sweep y poll2).cache ≡ y.cache)
  first_quiet =
      wake.asleep x.cache y.cache poll1.clock (last_sweep x poll1).clock (0 ∷ []) 0 (round x up hw buf now r buf' h ok own)
      poll2.clock (first_sweep y poll2).clock 0 _ (first_sweep y poll2).cache
      (subst (Asleep wakes) (sym (poll_now y up2 hw2 buf2 next r2 buf2' h2 ok2)) a)
      (swept_at y.cache poll2.clock 0 (first_sweep y poll2) (h2.sweeps ok2))

  last_same : (last_sweep y poll2).cache ≡ y.cache
  last_same =
      (wake.asleep x.cache y.cache poll1.clock (last_sweep x poll1).clock (0 ∷ []) 0 (round x up hw buf now r buf' h ok own)
      (first_sweep y poll2).clock (last_sweep y poll2).clock 0 (event_list (last_sweep y poll2).events) (last_sweep y poll2).cache
      (subst (Asleep wakes) (sym (first_now y up2 hw2 buf2 next r2 buf2' h2 ok2)) a)
      (subst (λ (c : NeighborCache). Sweep c (first_sweep y poll2).clock 0 (event_list (last_sweep y poll2).events) (last_sweep y poll2).cache (last_sweep y poll2).clock) first_quiet.1
      (swept_at (first_sweep y poll2).cache (first_sweep y poll2).clock 0 (last_sweep y poll2) (h2.sweeps_again ok2)))).1

  no_events : (first_sweep y poll2).events ≡ events_table []
  no_events = events_listed (time_check poll2.clock.now 0) y.cache poll2.clock 0 ∙ ap events_table first_quiet.0

  same_queue : (purged_of y.queue (orphaned (entries (last_sweep y poll2).cache))).queue ≡ y.queue
  same_queue =
      ap (λ (c : NeighborCache). (purged_of y.queue (orphaned (entries c))).queue) last_same ∙ purge_queue x.queue (orphaned (entries y.cache))

  none_back : (purged_of y.queue (orphaned (entries (last_sweep y poll2).cache))).handles ≡ handles_of []
  none_back =
      ap (λ (c : NeighborCache). (purged_of y.queue (orphaned (entries c))).handles) last_same ∙ purge_none x.queue (orphaned (entries y.cache))

  -- by what the poll leaves, and the deadline
  nothing_new : (p : Polled) → p.slaac ≡ y.slaac → p.addrs ≡ y.addrs → p.routes ≡ y.routes → poll2.polled ≡ p → (last_sweep y poll2).clock.deadline ≡ wakes
      → r2 ≡ still y p.answer wakes
  nothing_new p s t e is d =
      is_after y up2 hw2 buf2 next r2 buf2' h2 ok2
      ∙ (λ i.
      record {
        card = record { slaac = (is i).slaac; addrs = (is i).addrs; routes = (is i).routes; cache = last_same i; queue = same_queue i };
        answer = (is i).answer;
        events = no_events i;
        dropped = none_back i;
        wake = d i;
      })
      ∙ (λ i. still (record { slaac = s i; addrs = t i; routes = e i; cache = y.cache; queue = y.queue }) p.answer wakes)

  own2 : OnOne y
  own2 = own_after x poll1 own

  module _ (on : x.slaac.on ≡ true) (same : sender_in up2 y.addrs ≡ sender_in up x.addrs) where
    quiet : (poll2.polled ≡ quietly y.slaac y.addrs y.routes) × (buf2' ≡ buf2)
    quiet =
        wake_poll.misses_nothing 0 up hw x.slaac x.addrs x.routes buf (idle now) poll1.polled buf' poll1.clock (polls x up hw buf now r buf' h ok) ok on
        up2 hw2 y.addrs y.routes buf2 (idle next) poll2.polled buf2' poll2.clock (polls y up2 hw2 buf2 next r2 buf2' h2 ok2) ok2 same
        (wake.before_round x.cache y.cache poll1.clock (last_sweep x poll1).clock (0 ∷ []) 0 (round x up hw buf now r buf' h ok own) next a)

    still_on : y.slaac.on ≡ true
    still_on = go y.slaac.on refl
      where
        go : (b : Bool) → y.slaac.on ≡ b → y.slaac.on ≡ true
        go true e = e
        go false e =
            let o : Ok Off ≡ Ok Quiet =
            ap (λ (p : PolledAt). p.polled.answer) (sym (poll_off y up2 hw2 buf2 next r2 buf2' h2 ok2 own2 e)) ∙ ap (λ (p : Polled). p.answer) quiet.0 in
            let z : ◌≡◌ {A = ℕ} 0 1 = cc in
            absurd (omega arith)

    same_wake : (last_sweep y poll2).clock.deadline ≡ wakes
    same_wake =
        wake.one_earliest (last_sweep y poll2).clock.deadline wakes (slaac_times (sender_in up x.addrs) y.slaac ++ times_of (entries y.cache))
        (subst (IsEarliest (last_sweep y poll2).clock.deadline) (λ i. slaac_times (same i) (quiet.0 i).slaac ++ times_of (entries (last_same i)))
        (exact_after y up2 hw2 buf2 next r2 buf2' h2 ok2 own2 still_on))
        (exact_after x up hw buf now r buf' h ok own on)

    asleep_on : (r2 ≡ still y (Ok Quiet) wakes) × (buf2' ≡ buf2)
    asleep_on = (nothing_new (quietly y.slaac y.addrs y.routes) refl refl refl quiet.0 same_wake, quiet.1)

  module _ (off : x.slaac.on ≡ false) where
    still_off : y.slaac.on ≡ false
    still_off = ap (λ (p : PolledAt). p.polled.slaac.on) (poll_off x up hw buf now r buf' h ok own off) ∙ off

    same_wake_off : (last_sweep y poll2).clock.deadline ≡ wakes
    same_wake_off =
        wake.one_earliest (last_sweep y poll2).clock.deadline wakes (times_of (entries y.cache))
        (subst (λ (c : NeighborCache). IsEarliest (last_sweep y poll2).clock.deadline (times_of (entries c))) last_same
        (exact_after_off y up2 hw2 buf2 next r2 buf2' h2 ok2 own2 still_off))
        (exact_after_off x up hw buf now r buf' h ok own off)

    asleep_off : (r2 ≡ still y (Ok Off) wakes) × (buf2' ≡ buf2)
    asleep_off = (
      nothing_new (record { slaac = y.slaac; addrs = y.addrs; routes = y.routes; answer = Ok Off }) refl refl refl
          (ap (λ (p : PolledAt). p.polled) (poll_off y up2 hw2 buf2 next r2 buf2' h2 ok2 own2 still_off)) same_wake_off,
      buffer_off y up2 hw2 buf2 next r2 buf2' h2 ok2 own2 still_off,
    )

-- ---- a run

one_more_turn : (received : List ℕ) (hw : HardwareAddress) (b : Between) (earlier : List Woken) (last : Woken)
    → fold_over (turn_in received hw) b (earlier ++ (last ∷ [])) ≡ turn_in received hw (fold_over (turn_in received hw) b earlier) last
one_more_turn received hw b [] last = refl
one_more_turn received hw b (w ∷ earlier) last = one_more_turn received hw (turn_in received hw b w) earlier last

module _ (x : Card) (told : Option Instant) (inbox : Inbox) (received : List ℕ) (hw : HardwareAddress) (buf : List ℕ) (budget : ℕ) (r : Ran) (buf' : List ℕ) (h : RanTo x told inbox received hw buf budget r buf') where
  wake_after : (ws : List Woken) → take budget (inputs_of inbox) ≡ ws → r.wake ≡ (turns_over x told received hw buf ws).wake
  unfolding run_over
  wake_after ws e = ap (λ (q : Ran). q.wake) h.is ∙ ap (λ (us : List Woken). (turns_over x told received hw buf us).wake) e

  last_tells : (earlier : List Woken) (last : Woken) → take budget (inputs_of inbox) ≡ earlier ++ (last ∷ [])
      → r.wake ≡ (turned received hw (turns_over x told received hw buf earlier).card (turns_over x told received hw buf earlier).buffer last).wake
  last_tells earlier last e = wake_after (earlier ++ (last ∷ [])) e ∙ ap (λ (b : Between). b.wake) (one_more_turn received hw (before x told buf) earlier last)

pub sleep : Sleep
sleep =
    record {
      none_yet = λ x e. subst (λ (c : NeighborCache). On0 (entries c)) (sym e) tt;
      takes = λ x input message now. take_one (time_check now 0) x input message now;
      settles = settled_one;
      exact = λ x up hw buf now r buf' h ok own on.
          subst (λ (q : Settled). IsEarliest q.wake (slaac_times (sender_in up x.addrs) q.card.slaac ++ times_of (entries q.card.cache)))
          (sym (is_after x up hw buf now r buf' h ok)) (exact_after x up hw buf now r buf' h ok own on);
      exact_off = λ x up hw buf now r buf' h ok own off.
          subst (λ (q : Settled). IsEarliest q.wake (times_of (entries q.card.cache))) (sym (is_after x up hw buf now r buf' h ok))
          (exact_after_off x up hw buf now r buf' h ok own off);
      later = settled_later;
      asleep = λ x up hw buf now r buf' h ok own on up2 hw2 buf2 next r2 buf2' h2 ok2 same a.
          let e = is_after x up hw buf now r buf' h ok in
          let w = asleep_on x up hw buf now r buf' h ok own up2 hw2 buf2 next r2 buf2' (subst (λ (q : Settled). SettledTo q.card up2 hw2 buf2 next r2 buf2') e h2) ok2
          (subst (λ (q : Settled). Asleep q.wake next) e a) on (subst (λ (q : Settled). sender_in up2 q.card.addrs ≡ sender_in up x.addrs) e same) in
          (subst (λ (q : Settled). r2 ≡ still q.card (Ok Quiet) q.wake) (sym e) w.0, w.1);
      asleep_off = λ x up hw buf now r buf' h ok own off up2 hw2 buf2 next r2 buf2' h2 ok2 a.
          let e = is_after x up hw buf now r buf' h ok in
          let w = asleep_off x up hw buf now r buf' h ok own up2 hw2 buf2 next r2 buf2' (subst (λ (q : Settled). SettledTo q.card up2 hw2 buf2 next r2 buf2') e h2) ok2
          (subst (λ (q : Settled). Asleep q.wake next) e a) off in
          (subst (λ (q : Settled). r2 ≡ still q.card (Ok Off) q.wake) (sym e) w.0, w.1);
      run = last_tells;
      no_turn = λ x told inbox received hw buf budget r buf' h e. wake_after x told inbox received hw buf budget r buf' h [] e;
    }
