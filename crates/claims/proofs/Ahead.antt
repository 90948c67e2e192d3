-- Sweeps and polls leave a deadline after now. Assumes nothing.
use Prim.Native.Nat.{ℕ, ◌-◌, ◌≤◌, ◌<◌, ◌^◌}
use borrow.Author.Tests.{leb-false}
use lib.Dec.{ltb, leb, eqb}
use mathlib.Core.Bool.{Bool, true, false, cond}
use mathlib.Core.List.{List, [], ◌∷◌}
use mathlib.Core.Path.{◌≡◌, refl, sym, ◌∙◌, subst}
use native.Mathlib.Omega.{arith}
use Rattle.std.specs.Prelude.{Result, Ok, Err, Option, Some, None}
use Rattle.wire.specs.declared.error.Refusal.{Refusal}
use Rattle.wire.specs.declared.ipv6.Ipv6Addr.{Ipv6Addr}
use Rattle.claims.proofs.Clocks.{expiry_forward, due_forward, turn_forward, fine_time}
use Rattle.claims.proofs.Keeps.{turn_cases, turn_in, poll_cases}
use Rattle.claims.specs.Clocks.{Sweep, swept, swept_at, Poll, polled, polled_at}
use Rattle.claims.specs.Wake.{Asleep}
use Rattle.autoconf.specs.PollRules.{turn_of, sender_in, sync_turn, poll_by}
use Rattle.autoconf.specs.declared.PollAnswer.{PollAnswer}
use Rattle.autoconf.specs.declared.Polled.{Polled}
use Rattle.autoconf.specs.declared.PolledAt.{PolledAt}
use Rattle.autoconf.specs.declared.Turn.{Turn}
use Rattle.iface.specs.declared.addr.IfaceAddrs.{IfaceAddrs}
use Rattle.iface.specs.declared.route.Routes.{Routes}
use Rattle.neighbor.specs.CacheCalls.{entries}
use Rattle.neighbor.specs.NeighborRules.{Table}
use Rattle.neighbor.specs.declared.NeighborCache.{NeighborCache}
use Rattle.neighbor.specs.declared.State.TheVariants.{Started, Incomplete, Reachable, Stale}
use Rattle.neighbor.specs.declared.State.{State}
use Rattle.slaac.specs.DiscoveryRules.{due_phase, due, retry_at, sent, solicitation}
use Rattle.slaac.specs.ExpiryRules.{ask_prefix, ask_router, sync_due}
use Rattle.slaac.specs.Fields.{with_discovery}
use Rattle.slaac.specs.LearnedRules.{prefixes_of, routers_of}
use Rattle.slaac.specs.declared.Discovery.{Discovery}
use Rattle.slaac.specs.declared.Phase.TheVariants.{Start, Discovering, Maintaining}
use Rattle.slaac.specs.declared.Phase.{Phase}
use Rattle.slaac.specs.declared.Prefix.{Prefix}
use Rattle.slaac.specs.declared.Router.{Router}
use Rattle.slaac.specs.declared.Slaac.{Slaac}
use Rattle.slaac.specs.declared.Solicitation.{Solicitation}
use Rattle.sweep.specs.SweepCalls.{swept_in, sweep_by}
use Rattle.sweep.specs.SweepRules.{due_from, expire_clock_state, expire_clock, expire_clocks}
use Rattle.sweep.specs.declared.ProbeEvent.{ProbeEvent}
use Rattle.sweep.specs.declared.Swept.{Swept}
use Rattle.table.specs.Table.{fold_over}
use Rattle.time.proofs.Forward.{asking, asking_end}
use Rattle.time.specs.ClockRules.{sooner, scheduled_of, asked_of, asked_end}
use Rattle.time.specs.declared.Answer.{Answer}
use Rattle.time.specs.declared.Clock.{Clock}
use Rattle.time.specs.declared.Expiry.TheVariants.{At as EndsAt, Forever}
use Rattle.time.specs.declared.Expiry.{Expiry}
use Rattle.time.specs.declared.Instant.{Instant}
use Rattle.wire.specs.Refusals.{time_check}
use Rattle.wire.specs.declared.ethernet.HardwareAddress.{HardwareAddress}

-- What joins a deadline

module _ (now : Instant) where
  sooner_ahead : (d : Option Instant) (t : Instant) → now.0 < t.0 → Asleep d now → Asleep (sooner d t) now
  sooner_ahead None t h a = omega arith
  sooner_ahead (Some e) t h a = go (ltb t.0 e.0)
    where
      go : (x : Bool) → Asleep (cond x (Some t) (Some e)) now
      go true = omega arith
      go false = a

  asked_ahead : (k : Clock) (t : Instant) → k.now ≡ now → Asleep k.deadline now → Asleep (asked_of k t).clock.deadline now
  asked_ahead k t same a = go (leb t.0 k.now.0) refl
    where
      go : (x : Bool) → leb t.0 k.now.0 ≡ x
          → Asleep (cond {A = Answer} x (record { expired = true; clock = k }) (record { expired = false; clock = scheduled_of k t })).clock.deadline now
      go true q = a
      go false q = sooner_ahead k.deadline t (subst (λ (n : Instant). n.0 < t.0) same (leb-false t.0 k.now.0 q)) a

  end_ahead : (k : Clock) (e : Expiry) → k.now ≡ now → Asleep k.deadline now → Asleep (asked_end k e).clock.deadline now
  end_ahead k (EndsAt t) same a = asked_ahead k t same a
  end_ahead k Forever same a = a

  prefixes_ahead : (ps : List Prefix) (w : Answer) → w.clock.now ≡ now → Asleep w.clock.deadline now → Asleep (fold_over ask_prefix w ps).clock.deadline now
  prefixes_ahead [] w same a = a
  prefixes_ahead (p ∷ ps) w same a =
      prefixes_ahead ps (ask_prefix w p) ((asking_end w.clock p.valid_until).now ∙ same) (end_ahead w.clock p.valid_until same a)

  prefixes_now : (ps : List Prefix) (w : Answer) → w.clock.now ≡ now → (fold_over ask_prefix w ps).clock.now ≡ now
  prefixes_now [] w same = same
  prefixes_now (p ∷ ps) w same = prefixes_now ps (ask_prefix w p) ((asking_end w.clock p.valid_until).now ∙ same)

  routers_ahead : (rs : List Router) (w : Answer) → w.clock.now ≡ now → Asleep w.clock.deadline now → Asleep (fold_over ask_router w rs).clock.deadline now
  routers_ahead [] w same a = a
  routers_ahead (r ∷ rs) w same a =
      routers_ahead rs (ask_router w r) ((asking w.clock r.valid_until).now ∙ same) (asked_ahead w.clock r.valid_until same a)

  sync_due_ahead : (s : Slaac) (k : Clock) → k.now ≡ now → Asleep k.deadline now → Asleep (sync_due s k).clock.deadline now
  unfolding sync_due
  sync_due_ahead s k same a =
      routers_ahead (routers_of s) (fold_over ask_prefix start (prefixes_of s)) (prefixes_now (prefixes_of s) start same) (prefixes_ahead (prefixes_of s) start same a)
    where
      start : Answer
      start = record { expired = s.sync_required; clock = k }

  due_ahead : (d : Discovery) (k : Clock) → k.now ≡ now → Asleep k.deadline now → Asleep (due d k).clock.deadline now
  unfolding due
  due_ahead d k same a = go (eqb d.num_solicitations 0)
    where
      phase : (p : Phase) → Asleep (due_phase p k).clock.deadline now
      phase Start = a
      phase (Discovering t) = asked_ahead k t same a
      phase Maintaining = a

      go : (b : Bool) → Asleep (cond {A = Answer} b (record { expired = false; clock = k }) (due_phase d.phase k)).clock.deadline now
      go true = a
      go false = phase d.phase

  module _ (late : now.0 ≤ 2 ^ 62) where
    sent_ahead : (d : Discovery) (k : Clock) → k.now ≡ now → Asleep k.deadline now → Asleep (sent d k).clock.deadline now
    unfolding sent
    sent_ahead d k same a = go (eqb (d.num_solicitations - 1) 0)
      where
        here : k.now.0 ≤ 2 ^ 62
        here = subst (λ (n : Instant). n.0 ≤ 2 ^ 62) (sym same) late

        after_it : k.now.0 < (retry_at k).0
        after_it = omega (arith, here)

        go : (b : Bool) → Asleep (cond b k (scheduled_of k (retry_at k))).deadline now
        go true = a
        go false = sooner_ahead k.deadline (retry_at k) (subst (λ (n : Instant). n.0 < (retry_at k).0) same after_it) a

    turn_ahead : (d : Discovery) (sender : Option Ipv6Addr) (buf : List ℕ) (k : Clock) → k.now ≡ now → Asleep k.deadline now
        → Asleep (turn_of d sender buf k).clock.deadline now
    unfolding turn_of solicitation
    turn_ahead d None buf k same a = a
    turn_ahead d (Some source) buf k same a = go (due d k).expired
      where
        go : (b : Bool)
            → Asleep (cond {A = Solicitation} b (sent d (due d k).clock) (record { due = false; discovery = d; clock = (due d k).clock })).clock.deadline now
        go true = sent_ahead d (due d k).clock ((due_forward d k).now ∙ same) (due_ahead d k same a)
        go false = due_ahead d k same a

    one_ahead : (k : Clock) (s : State) → k.now ≡ now → Asleep k.deadline now → Asleep (expire_clock_state k s).deadline now
    one_ahead k Started same a = sooner_ahead k.deadline (due_from k.now) (subst (λ (n : Instant). n.0 < (due_from k.now).0) same after_it) a
      where
        here : k.now.0 ≤ 2 ^ 62
        here = subst (λ (n : Instant). n.0 ≤ 2 ^ 62) (sym same) late

        after_it : k.now.0 < (due_from k.now).0
        after_it = omega (arith, here)
    one_ahead k (Incomplete p d) same a = asked_ahead k d same a
    one_ahead k (Reachable h e) same a = asked_ahead k e same a
    one_ahead k (Stale h) same a = a

    pass_ahead : (k : Clock) (t : Table) → k.now ≡ now → Asleep k.deadline now → Asleep (expire_clocks k t).deadline now
    unfolding expire_clocks
    pass_ahead k [] same a = a
    pass_ahead k (e ∷ t) same a = pass_ahead (expire_clock k e) t ((expiry_forward k e.state).now ∙ same) (one_ahead k e.state same a)

-- The calls, by their checks

swept_ahead : (x : Result (Unit {0}) Refusal) (c : NeighborCache) (k : Clock) (i : ℕ) → time_check k.now i ≡ x → Asleep k.deadline k.now
    → Asleep (sweep_by x c k i).clock.deadline k.now
unfolding swept_in
swept_ahead (Err why) c k i e a = a
swept_ahead (Ok tt) c k i e a = pass_ahead k.now (fine_time k.now i e) k (entries c) refl a

sync_ahead : (now : Instant) (s : Slaac) (t : IfaceAddrs) (r : Routes) (i : ℕ) (hw : HardwareAddress) (at : Instant) (k : Clock) (w : Result PollAnswer Refusal) → k.now ≡ now
    → Asleep k.deadline now → Asleep (sync_turn s t r i hw at k w).clock.deadline now
sync_ahead now s t r i hw at k w same a =
    turn_cases (λ q. Asleep q.clock.deadline now) s t r i hw at k w (λ e. sync_due_ahead now s k same a) (λ e. sync_due_ahead now s k same a)

polled_ahead : (x : Result (Unit {0}) Refusal) (s : Slaac) (t : IfaceAddrs) (r : Routes) (i : ℕ) (up : Bool) (hw : HardwareAddress) (buf : List ℕ) (k : Clock)
    → time_check k.now i ≡ x → Asleep k.deadline k.now → Asleep (poll_by x s t r i up hw buf k).clock.deadline k.now
polled_ahead (Err why) s t r i up hw buf k e a = a
polled_ahead (Ok tt) s t r i up hw buf k e a =
    poll_cases (λ q. Asleep q.clock.deadline k.now) s t r i up hw buf k
    (λ on.
    sync_ahead k.now (with_discovery s u.discovery) t r i hw k.now u.clock (Ok u.answer) (turn_forward s.discovery (sender_in up t) buf k).now
    (turn_ahead k.now (fine_time k.now i e) s.discovery (sender_in up t) buf k refl a))
    (λ off. a)
  where
    u : Turn
    u = turn_in s t up buf k

-- The calls

pub sweep_ahead : {c d : NeighborCache} {k k' : Clock} {i : ℕ} {events : List ProbeEvent} → Sweep c k i events d k' → Asleep k.deadline k.now
    → Asleep k'.deadline k.now
sweep_ahead (swept c k k' i r h) a = subst (λ (m : Clock). Asleep m.deadline k.now) (sym h.clock) (swept_ahead (time_check k.now i) c k i refl a)
sweep_ahead (swept_at c k i r h) a = subst (λ (q : Swept). Asleep q.clock.deadline k.now) (sym h.is) (swept_ahead (time_check k.now i) c k i refl a)

pub poll_ahead : {i : ℕ} {up : Bool} {hw : HardwareAddress} {s : Slaac} {t : IfaceAddrs} {r : Routes} {buf : List ℕ} {k : Clock} {p : Polled} {buf' : List ℕ} {k' : Clock}
    → Poll i up hw s t r buf k p buf' k' → Asleep k.deadline k.now → Asleep k'.deadline k.now
poll_ahead {i = i} {up = up} {hw = hw} (polled s t r buf k p buf' k' h) a =
    subst (λ (m : Clock). Asleep m.deadline k.now) (sym h.clock) (polled_ahead (time_check k.now i) s t r i up hw buf k refl a)
poll_ahead {i = i} {up = up} {hw = hw} (polled_at s t r buf k p buf' h) a =
    subst (λ (q : PolledAt). Asleep q.clock.deadline k.now) (sym h.is) (polled_ahead (time_check k.now i) s t r i up hw buf k refl a)
