-- What each call of the main loop makes of cards that hold the same. Assumes nothing.
use Prim.Native.Nat.{ℕ, zero, suc}
use lib.ListN.{take}
use mathlib.Core.Bool.{Bool}
use mathlib.Core.List.{List, [], ◌∷◌, ◌++◌}
use mathlib.Core.Path.{◌≡◌, refl, ap}
use Rattle.std.specs.Prelude.{Result, Ok, Err, Option}
use Rattle.wire.specs.declared.error.Refusal.{Refusal}
use Rattle.autoconf.specs.AdvertRules.{call_by}
use Rattle.autoconf.specs.declared.AdvertAnswer.{AdvertAnswer}
use Rattle.autoconf.specs.declared.Advertised.{Advertised}
use Rattle.autoconf.specs.declared.PolledAt.{PolledAt}
use Rattle.claims.proofs.Same.{lookup_same, change_same, push_same, release_same, orphans_same, sweep_same, advert_same, poll_same, AlikeAt}
use Rattle.claims.specs.Same.{AlikeSwept, Same, SameQueue, SameCard, AlikePurged, AlikeTaken, AlikeSettled}
use Rattle.mainloop.specs.LoopRules.{card_with, taken_as_is, release_of, releases, ready_of, push_of, start_of, sent_by, sent, fill_of, goes_to, filled_by, filled, learned_by, learned, heard_by, heard_as, heard, taken_in, taken_by, taken, poll_of, buffer_after, first_sweep, last_sweep, purge_after, settled_after, not_settled, settled, taken_of, turned, turn_after, message_in, before, turn_buffer, inputs_of, Between, turn_in, run_over}
use Rattle.mainloop.specs.declared.Action.TheVariants.{Nothing, Heard, HeardFrom, Refused, Send, Wait, Solicit}
use Rattle.mainloop.specs.declared.Action.{Action}
use Rattle.mainloop.specs.declared.Card.{Card}
use Rattle.mainloop.specs.declared.Inbox.{Inbox}
use Rattle.mainloop.specs.declared.Input.TheVariants.{Timer, LinkUp, RouterAdvert, NeighborAdvert, Packet}
use Rattle.mainloop.specs.declared.Input.{Input}
use Rattle.mainloop.specs.declared.Taken.{Taken}
use Rattle.mainloop.specs.declared.Turned.{Turned}
use Rattle.mainloop.specs.declared.Woken.{Woken}
use Rattle.neighbor.specs.CacheCalls.{key, lookup_by}
use Rattle.neighbor.specs.NeighborRules.{Key, lasting, insert_state}
use Rattle.neighbor.specs.declared.Answer.TheVariants.{Found, Pending, NotFound}
use Rattle.neighbor.specs.declared.Answer.{Answer}
use Rattle.neighbor.specs.declared.NeighborCache.{NeighborCache}
use Rattle.neighbor.specs.declared.State.TheVariants.{Started}
use Rattle.pending.specs.QueueCalls.{queue_room, handles_of}
use Rattle.pending.specs.QueueRules.{Queue, packet, has_key, dropped_handles}
use Rattle.pending.specs.declared.PendingQueue.{PendingQueue}
use Rattle.slaac.specs.DiscoveryRules.{restarted}
use Rattle.slaac.specs.declared.Slaac.{Slaac}
use Rattle.sweep.specs.SweepCalls.{sweep_check}
use Rattle.table.specs.Table.{fold_over}
use Rattle.time.specs.ClockRules.{idle}
use Rattle.time.specs.declared.Clock.{Clock}
use Rattle.time.specs.declared.Instant.{Instant}
use Rattle.wire.specs.Refusals.{iface_check, time_check, key_check, fill_check, decided}
use Rattle.wire.specs.declared.ethernet.HardwareAddress.{HardwareAddress}
use Rattle.wire.specs.declared.ipv6.Ipv6Addr.{Ipv6Addr}

-- What waits for a neighbour

releases_same : (n : ℕ) (k : Key) (p q : PendingQueue) → SameQueue p q → SameQueue (releases n k p) (releases n k q)
unfolding releases
releases_same zero k p q s = s
releases_same (suc n) k p q s = releases_same n k (release_of k p) (release_of k q) (release_same p q s (iface_check 0) k).1

ready_queue : (k : Key) (p q : PendingQueue) → SameQueue p q → SameQueue (ready_of k p).queue (ready_of k q).queue
unfolding ready_of
ready_queue k p q s = releases_same queue_room k p q s

ready_handles : (k : Key) (p q : PendingQueue) → SameQueue p q → (ready_of k p).handles ≡ (ready_of k q).handles
unfolding ready_of
ready_handles k p q s = ap (λ (o : Queue). handles_of (dropped_handles (has_key k) o)) s.entries

-- An input

module _ (x y : Card) (s : SameCard x y) where
  -- the card with another SLAAC, cache and queue
  with : {l m : Slaac} {c d : NeighborCache} {p q : PendingQueue} → l ≡ m → Same c d → SameQueue p q → SameCard (card_with x l c p) (card_with y m d q)
  with e g h = record { slaac = e; addrs = s.addrs; routes = s.routes; cache = g; queue = h }

  as_it_was : (a : Action) (ready : List ℕ) → AlikeTaken (taken_as_is x a ready) (taken_as_is y a ready)
  as_it_was a ready = record { card = s; action = refl; ready = refl }

  goes_same : (a : Action) (c d : NeighborCache) (k : Key) → Same c d → AlikeTaken (goes_to x a c (ready_of k x.queue)) (goes_to y a d (ready_of k y.queue))
  goes_same a c d k e =
      record {
        card = with s.slaac e (ready_queue k x.queue y.queue s.queue);
        action = refl;
        ready = ready_handles k x.queue y.queue s.queue;
      }

  sent_same : (addr : Ipv6Addr) (handle : ℕ) → AlikeTaken (sent x addr handle) (sent y addr handle)
  unfolding sent push_of start_of
  sent_same addr handle =
      rw (lookup_same x.cache y.cache s.cache (key_check 0 addr) (key 0 addr)) (go (lookup_by (key_check 0 addr) y.cache (key 0 addr)))
    where
      pushed : ((push_of x addr handle).answer ≡ (push_of y addr handle).answer) × SameQueue (push_of x addr handle).queue (push_of y addr handle).queue
      pushed = push_same x.queue y.queue s.queue (iface_check 0) (packet (key 0 addr) handle)

      started : Same (start_of x addr).cache (start_of y addr).cache
      started = (change_same x.cache y.cache s.cache (key_check 0 addr) (insert_state (key 0 addr) Started)).1

      go : (known : Result Answer Refusal) → AlikeTaken (sent_by known x addr handle) (sent_by known y addr handle)
      go (Err why) = as_it_was (Refused why) []
      go (Ok (Found hw)) = as_it_was (Send hw) (handle ∷ [])
      go (Ok Pending) = record { card = with s.slaac s.cache pushed.1; action = ap Wait pushed.0; ready = refl }
      go (Ok NotFound) = record { card = with s.slaac started pushed.1; action = ap Solicit pushed.0; ready = refl }

  filled_same : (addr : Ipv6Addr) (hw : HardwareAddress) (now : Instant) → AlikeTaken (filled x addr hw now) (filled y addr hw now)
  unfolding filled fill_of
  filled_same addr hw now = rw changed.0 (go (fill_of y addr hw now).outcome)
    where
      changed : ((fill_of x addr hw now).outcome ≡ (fill_of y addr hw now).outcome) × Same (fill_of x addr hw now).cache (fill_of y addr hw now).cache
      changed = change_same x.cache y.cache s.cache (fill_check now 0 addr hw) (insert_state (key 0 addr) (lasting hw now))

      go : (o : Result (Unit {0}) Refusal) → AlikeTaken (filled_by o x addr hw (fill_of x addr hw now).cache) (filled_by o y addr hw (fill_of y addr hw now).cache)
      go (Err why) = as_it_was (Refused why) []
      go (Ok tt) = goes_same (Send hw) (fill_of x addr hw now).cache (fill_of y addr hw now).cache (key 0 addr) changed.1

  learned_same : (addr : Ipv6Addr) (hw : HardwareAddress) (now : Instant) → AlikeTaken (learned x addr hw now) (learned y addr hw now)
  unfolding learned
  learned_same addr hw now =
      rw (lookup_same x.cache y.cache s.cache (key_check 0 addr) (key 0 addr)) (go (lookup_by (key_check 0 addr) y.cache (key 0 addr)))
    where
      go : (known : Result Answer Refusal) → AlikeTaken (learned_by known x addr hw now) (learned_by known y addr hw now)
      go (Err why) = as_it_was (Refused why) []
      go (Ok NotFound) = as_it_was Nothing []
      go (Ok Pending) = filled_same addr hw now
      go (Ok (Found old)) = filled_same addr hw now

  heard_same : (source : Ipv6Addr) (message : List ℕ) (now : Instant) → AlikeTaken (heard x source message now) (heard y source message now)
  unfolding heard
  heard_same source message now = rw s.slaac (heard_by_lem (call_by (time_check now 0) y.slaac x.cache 0 source message now) (call_by (time_check now 0) y.slaac y.cache 0 source message now) (advert_same y.slaac x.cache y.cache 0 source message now s.cache (time_check now 0)))
    where
      known_by : (known : Result Answer Refusal) (r q : Advertised) → (r.slaac ≡ q.slaac) × (r.answer ≡ q.answer) × Same r.cache q.cache
          → AlikeTaken (heard_by known (card_with x r.slaac r.cache x.queue) source r.answer)
          (heard_by known (card_with y q.slaac q.cache y.queue) source q.answer)
      known_by (Ok (Found hw)) r q e =
          record {
            card = with e.0 e.2 (ready_queue (key 0 source) x.queue y.queue s.queue);
            action = ap (λ (a : Result AdvertAnswer Refusal). HeardFrom a hw) e.1;
            ready = ready_handles (key 0 source) x.queue y.queue s.queue;
          }
      known_by (Err why) r q e = record { card = with e.0 e.2 s.queue; action = ap Heard e.1; ready = refl }
      known_by (Ok Pending) r q e = record { card = with e.0 e.2 s.queue; action = ap Heard e.1; ready = refl }
      known_by (Ok NotFound) r q e = record { card = with e.0 e.2 s.queue; action = ap Heard e.1; ready = refl }

      heard_by_lem : (r q : Advertised) → (r.slaac ≡ q.slaac) × (r.answer ≡ q.answer) × Same r.cache q.cache
          → AlikeTaken (heard_as x source r) (heard_as y source q)
      heard_by_lem r q e =
          rw (lookup_same r.cache q.cache e.2 (key_check 0 source) (key 0 source)) (known_by (lookup_by (key_check 0 source) q.cache (key 0 source)) r q e)

  pub taken_same : (input : Input) (message : List ℕ) (now : Instant) → AlikeTaken (taken x input message now) (taken y input message now)
  taken_same input message now = go (time_check now 0)
    where
      given_in : (i : Input) → AlikeTaken (taken_in x i message now) (taken_in y i message now)
      given_in Timer = as_it_was Nothing []
      given_in LinkUp = record { card = with (ap restarted s.slaac) s.cache s.queue; action = refl; ready = refl }
      given_in (RouterAdvert source) = heard_same source message now
      given_in (NeighborAdvert addr hw) = learned_same addr hw now
      given_in (Packet addr handle) = sent_same addr handle

      go : (c : Result (Unit {0}) Refusal) → AlikeTaken (taken_by c x input message now) (taken_by c y input message now)
      go (Err why) = as_it_was (Refused why) []
      go (Ok tt) = given_in input

  -- Settling

  settled_after_lem : (p o : PolledAt) → AlikeAt p o → AlikeSettled (settled_after x p) (settled_after y o)
  settled_after_lem p o e =
      record {
        card = record { slaac = e.0.0; addrs = e.0.1; routes = e.0.3; cache = again.4; queue = purged.2 };
        answer = e.0.2;
        events = first.0;
        dropped = purged.0;
        wake = ap (λ (k : Clock). k.deadline) again.3;
      }
    where
      first : AlikeSwept (first_sweep x p) (first_sweep y o)
      first = rw e.1 (sweep_same (sweep_check o.clock 0) x.cache y.cache o.clock 0 s.cache)

      again : AlikeSwept (last_sweep x p) (last_sweep y o)
      again =
          rw first.3
          (sweep_same (sweep_check (first_sweep y o).clock 0) (first_sweep x p).cache (first_sweep y o).cache (first_sweep y o).clock 0 first.4)

      purged : AlikePurged (purge_after x p) (purge_after y o)
      purged = orphans_same x.queue y.queue s.queue (last_sweep x p).cache (last_sweep y o).cache again.4

  pub settled_same : (up : Bool) (hw : HardwareAddress) (buf : List ℕ) (now : Instant) → AlikeSettled (settled x up hw buf now) (settled y up hw buf now)
  unfolding settled poll_of
  settled_same up hw buf now = go (time_check now 0)
    where
      polled : AlikeAt (poll_of x up hw buf now) (poll_of y up hw buf now)
      polled = rw (s.slaac, s.addrs) (poll_same x.routes y.routes s.routes y.addrs 0 hw y.slaac up buf (idle now) (time_check now 0))

      go : (c : Result (Unit {0}) Refusal) → AlikeSettled (decided c (not_settled x) (settled_after x (poll_of x up hw buf now))) (decided c (not_settled y) (settled_after y (poll_of y up hw buf now)))
      go (Err why) = record { card = s; answer = refl; events = refl; dropped = refl; wake = refl }
      go (Ok tt) = settled_after_lem (poll_of x up hw buf now) (poll_of y up hw buf now) polled

  pub buffer_same : (up : Bool) (hw : HardwareAddress) (buf : List ℕ) (now : Instant) → buffer_after x up hw buf now ≡ buffer_after y up hw buf now
  unfolding buffer_after
  buffer_same up hw buf now = rw (s.slaac, s.addrs) refl

-- Turns

pub record AlikeTurned (t u : Turned) : Type 0 where
  pub card : SameCard t.card u.card
  pub report : t.report ≡ u.report
  pub wake : t.wake ≡ u.wake

pub turned_same : (x y : Card) → SameCard x y → (received : List ℕ) (hw : HardwareAddress) (buf : List ℕ) (w : Woken)
    → AlikeTurned (turned received hw x buf w) (turned received hw y buf w)
unfolding turned
turned_same x y s received hw buf w = go (taken_of received x w) (taken_of received y w) (taken_same x y s w.input (message_in received w.message_from w.message_len) w.at)
  where
    go : (t u : Taken) → AlikeTaken t u → AlikeTurned (turn_after t w.up hw buf w.at) (turn_after u w.up hw buf w.at)
    go t u e =
        let f = settled_same t.card u.card e.card w.up hw buf w.at in
        record {
          card = f.card;
          report = λ i. record { action = e.action i; ready = e.ready i; answer = f.answer i; events = f.events i; dropped = f.dropped i };
          wake = f.wake;
        }

pub turn_buffer_same : (x y : Card) → SameCard x y → (received : List ℕ) (hw : HardwareAddress) (buf : List ℕ) (w : Woken) → turn_buffer received hw x buf w ≡ turn_buffer received hw y buf w
unfolding turn_buffer
turn_buffer_same x y s received hw buf w =
    buffer_same (taken_of received x w).card (taken_of received y w).card
    (taken_same x y s w.input (message_in received w.message_from w.message_len) w.at).card w.up hw buf w.at

pub record SameBetween (b d : Between) : Type 0 where
  pub card : SameCard b.card d.card
  pub wake : b.wake ≡ d.wake
  pub buffer : b.buffer ≡ d.buffer
  pub reports : b.reports ≡ d.reports

turns_same : (received : List ℕ) (hw : HardwareAddress) (ws : List Woken) (b d : Between) → SameBetween b d
    → SameBetween (fold_over (turn_in received hw) b ws) (fold_over (turn_in received hw) d ws)
turns_same received hw [] b d s = s
turns_same received hw (w ∷ ws) b d s = turns_same received hw ws (turn_in received hw b w) (turn_in received hw d w) one
  where
    turn : AlikeTurned (turned received hw b.card b.buffer w) (turned received hw d.card d.buffer w)
    turn = rw s.buffer (turned_same b.card d.card s.card received hw d.buffer w)

    one : SameBetween (turn_in received hw b w) (turn_in received hw d w)
    one =
        record {
          card = turn.card;
          wake = turn.wake;
          buffer = rw s.buffer (turn_buffer_same b.card d.card s.card received hw d.buffer w);
          reports = λ i. s.reports i ++ (turn.report i ∷ []);
        }

pub ran_same : (x y : Card) (wake : Option Instant) (inbox : Inbox) (received : List ℕ) (hw : HardwareAddress) (buf : List ℕ) (budget : ℕ) → SameCard x y
    → SameBetween (run_over x wake inbox received hw buf budget) (run_over y wake inbox received hw buf budget)
unfolding run_over
ran_same x y wake inbox received hw buf budget s =
    turns_same received hw (take budget (inputs_of inbox)) (before x wake buf) (before y wake buf) (record { card = s; wake = refl; buffer = refl; reports = refl })
