-- Sweeps and polls only bring the deadline forward. Assumes nothing.
use Prim.Native.Nat.{ℕ, ◌-◌, ◌≤◌, ◌<◌, ◌^◌}
use borrow.Author.Tests.{lt-leb, lt-ltb, ne_eqb}
use lib.Dec.{eqb}
use mathlib.Core.Bool.{Bool, true, false, cond}
use mathlib.Core.List.{List, [], ◌∷◌}
use mathlib.Core.Path.{◌≡◌, refl, sym, ap, ◌∙◌, subst}
use native.Mathlib.Omega.{arith}
use Rattle.std.specs.Prelude.{Option, Some, None, Result, Ok, Err}
use Rattle.wire.specs.declared.error.Refusal.{Refusal}
use Rattle.claims.proofs.Calls.{InTime, in_time}
use Rattle.claims.proofs.Covers.{Covered, prefix_end, router_end, asked_all, prefix_covers, router_covers}
use Rattle.claims.proofs.Keeps.{turn_cases, turn_in, sync_after, poll_cases}
use Rattle.claims.proofs.Lists.{all_weaken}
use Rattle.claims.proofs.Sweep.{ample}
use Rattle.claims.specs.Calls.{sweep, effect_by}
use Rattle.claims.specs.Clocks.{Sweep, swept, swept_at, Poll, polled, polled_at, WakesFor, WakesForState, Clocks}
use Rattle.claims.specs.Lists.{All}
use Rattle.claims.specs.Watch.{later}
use Rattle.iface.specs.declared.addr.IfaceAddrs.{IfaceAddrs}
use Rattle.iface.specs.declared.route.Routes.{Routes}
use Rattle.slaac.specs.DiscoveryRules.{due_phase, due, retry_at, sent, solicitation}
use Rattle.slaac.specs.Fields.{with_discovery}
use Rattle.slaac.specs.ExpiryRules.{ask_prefix, ask_router, sync_due, leave_expired}
use Rattle.slaac.specs.LearnedRules.{prefixes_of, routers_of}
use Rattle.slaac.specs.declared.Discovery.{Discovery}
use Rattle.slaac.specs.declared.Phase.TheVariants.{Start, Discovering, Maintaining}
use Rattle.slaac.specs.declared.Phase.{Phase}
use Rattle.slaac.specs.declared.Prefix.{Prefix}
use Rattle.slaac.specs.declared.Router.{Router}
use Rattle.slaac.specs.declared.Slaac.{Slaac}
use Rattle.slaac.specs.declared.Solicitation.{Solicitation}
use Rattle.neighbor.specs.CacheCalls.{entries}
use Rattle.neighbor.specs.NeighborRules.{Table}
use Rattle.neighbor.specs.declared.NeighborCache.{NeighborCache}
use Rattle.neighbor.specs.declared.State.TheVariants.{Started, Incomplete, Reachable, Stale}
use Rattle.neighbor.specs.declared.State.{State}
use Rattle.wire.specs.Refusals.{time_check}
use Rattle.autoconf.specs.PollRules.{buffer_of, turn_of, polled as asPolled, synced, sync_turn, sender_in, poll_on, poll_by, poll_buffer}
use Rattle.autoconf.specs.declared.PollAnswer.{PollAnswer}
use Rattle.autoconf.specs.declared.Polled.{Polled}
use Rattle.autoconf.specs.declared.PolledAt.{PolledAt}
use Rattle.autoconf.specs.declared.Turn.{Turn}
use Rattle.sweep.specs.SweepCalls.{swept_in, sweep_by, sweep_check}
use Rattle.sweep.specs.SweepRules.{due_from, expire_clock_state, expire_clock, expire_clocks}
use Rattle.sweep.specs.declared.ProbeEvent.{ProbeEvent}
use Rattle.sweep.specs.declared.Swept.{Swept}
use Rattle.table.specs.Table.{fold_over}
use Rattle.time.proofs.Forward.{after, unmoved, then, scheduling, asking, asking_end, forward_law}
use Rattle.time.specs.ClockRules.{is_after, scheduled_of}
use Rattle.time.specs.Forward.{NotLater, Forward}
use Rattle.time.specs.declared.Answer.{Answer}
use Rattle.time.specs.declared.Clock.{Clock}
use Rattle.time.specs.declared.Expiry.TheVariants.{At as EndsAt, Forever}
use Rattle.time.specs.declared.Expiry.{Expiry}
use Rattle.time.specs.declared.Instant.{Instant}
use Rattle.wire.specs.declared.ethernet.HardwareAddress.{HardwareAddress}
use Rattle.wire.specs.declared.ipv6.Ipv6Addr.{Ipv6Addr}

pub expiry_forward : (k : Clock) (s : State) → Forward k (expire_clock_state k s)
expiry_forward k Started = scheduling k (due_from k.now)
expiry_forward k (Incomplete p d) = asking k d
expiry_forward k (Reachable h e) = asking k e
expiry_forward k (Stale h) = unmoved k

pub pass_forward : (k : Clock) (t : Table) → Forward k (expire_clocks k t)
unfolding expire_clocks
pass_forward k [] = unmoved k
pass_forward k (e ∷ t) = then k (expire_clock k e) (expire_clocks (expire_clock k e) t) (expiry_forward k e.state) (pass_forward (expire_clock k e) t)

swept_forward : (x : Result (Unit {0}) Refusal) (c : NeighborCache) (k : Clock) (i : ℕ) → Forward k (sweep_by x c k i).clock
unfolding swept_in
swept_forward (Err why) c k i = unmoved k
swept_forward (Ok tt) c k i = pass_forward k _

-- The poll

pub due_forward : (d : Discovery) (k : Clock) → Forward k (due d k).clock
unfolding due
due_forward d k = go (eqb d.num_solicitations 0)
  where
    phase_forward : (p : Phase) → Forward k (due_phase p k).clock
    phase_forward Start = unmoved k
    phase_forward (Discovering t) = asking k t
    phase_forward Maintaining = unmoved k

    go : (b : Bool) → Forward k (cond {A = Answer} b (record { expired = false; clock = k }) (due_phase d.phase k)).clock
    go true = unmoved k
    go false = phase_forward d.phase

sent_forward : (d : Discovery) (k : Clock) → Forward k (sent d k).clock
unfolding sent
sent_forward d k = go (eqb (d.num_solicitations - 1) 0)
  where
    go : (b : Bool) → Forward k (cond b k (scheduled_of k (retry_at k)))
    go true = unmoved k
    go false = scheduling k (retry_at k)

solicit_forward : (d : Discovery) (k : Clock) → Forward k (solicitation d k).clock
unfolding solicitation
solicit_forward d k = go (due d k).expired
  where
    go : (b : Bool) → Forward k (cond {A = Solicitation} b (sent d (due d k).clock) (record { due = false; discovery = d; clock = (due d k).clock })).clock
    go true = then k (due d k).clock (sent d (due d k).clock).clock (due_forward d k) (sent_forward d (due d k).clock)
    go false = due_forward d k

pub turn_forward : (d : Discovery) (sender : Option Ipv6Addr) (buf : List ℕ) (k : Clock) → Forward k (turn_of d sender buf k).clock
unfolding turn_of
turn_forward d None buf k = unmoved k
turn_forward d (Some a) buf k = solicit_forward d k

prefixes_forward : (ps : List Prefix) (a : Answer) → Forward a.clock (fold_over ask_prefix a ps).clock
prefixes_forward [] a = unmoved a.clock
prefixes_forward (p ∷ ps) a =
    then a.clock (ask_prefix a p).clock (fold_over ask_prefix (ask_prefix a p) ps).clock (asking_end a.clock p.valid_until) (prefixes_forward ps (ask_prefix a p))

routers_forward : (rs : List Router) (a : Answer) → Forward a.clock (fold_over ask_router a rs).clock
routers_forward [] a = unmoved a.clock
routers_forward (r ∷ rs) a =
    then a.clock (ask_router a r).clock (fold_over ask_router (ask_router a r) rs).clock (asking a.clock r.valid_until) (routers_forward rs (ask_router a r))

pub asked_forward : (s : Slaac) (k : Clock) → Forward k (sync_due s k).clock
unfolding sync_due
asked_forward s k = then k first.clock (fold_over ask_router first (routers_of s)).clock (prefixes_forward (prefixes_of s) (record { expired = s.sync_required; clock = k })) (routers_forward (routers_of s) first)
  where
    first : Answer
    first = fold_over ask_prefix (record { expired = s.sync_required; clock = k }) (prefixes_of s)

sync_forward : (s : Slaac) (t : IfaceAddrs) (r : Routes) (i : ℕ) (hw : HardwareAddress) (now : Instant) (k : Clock) (w : Result PollAnswer Refusal) → Forward k (sync_turn s t r i hw now k w).clock
sync_forward s t r i hw now k w = turn_cases (λ q. Forward k q.clock) s t r i hw now k w (λ e. asked_forward s k) (λ e. asked_forward s k)

poll_forward : (x : Result (Unit {0}) Refusal) (s : Slaac) (t : IfaceAddrs) (r : Routes) (i : ℕ) (up : Bool) (hw : HardwareAddress) (buf : List ℕ) (k : Clock)
    → Forward k (poll_by x s t r i up hw buf k).clock
poll_forward (Err why) s t r i up hw buf k = unmoved k
poll_forward (Ok tt) s t r i up hw buf k =
    poll_cases (λ q. Forward k q.clock) s t r i up hw buf k
    (λ e.
    then k u.clock (sync_after u s t r i hw k.now).clock (turn_forward s.discovery (sender_in up t) buf k)
    (sync_forward (with_discovery s u.discovery) t r i hw k.now u.clock (Ok u.answer)))
    (λ e. unmoved k)
  where
    u : Turn
    u = turn_in s t up buf k

-- No later than what is still to come

one_waits : (now : Instant) → now.0 ≤ 2 ^ 62 → (k : Clock) (s : State) → k.now ≡ now → WakesForState now (expire_clock_state k s).deadline s
one_waits now late k Started same = subst (λ (t : Instant). NotLater (scheduled_of k (due_from k.now)).deadline (Some t)) (ap due_from same ∙ ample_due) (forward_law.kept k (due_from k.now))
  where
    ample_due : due_from now ≡ later now 1000
    ample_due = λ i. record { 0 = ample now late i }
one_waits now late k (Incomplete p t) same = λ h. forward_law.covers k t (rw (lt-leb t.0 k.now.0 (subst (λ (n : Instant). n.0 < t.0) (sym same) h)))
one_waits now late k (Reachable a t) same = λ h. forward_law.covers k t (rw (lt-leb t.0 k.now.0 (subst (λ (n : Instant). n.0 < t.0) (sym same) h)))
one_waits now late k (Stale a) same = tt

waits_sooner : (now : Instant) (a b : Option Instant) (s : State) → NotLater a b → WakesForState now b s → WakesForState now a s
waits_sooner now a b Started h w = after a b (Some (later now 1000)) h w
waits_sooner now a b (Incomplete p t) h w = λ q. after a b (Some t) h (w q)
waits_sooner now a b (Reachable x t) h w = λ q. after a b (Some t) h (w q)
waits_sooner now a b (Stale x) h w = tt

pass_waits : (now : Instant) → now.0 ≤ 2 ^ 62 → (k : Clock) (t : Table) → k.now ≡ now → All (λ e. WakesForState now (expire_clocks k t).deadline e.state) t
unfolding expire_clocks
pass_waits now late k [] same = tt
pass_waits now late k (e ∷ t) same = (
  waits_sooner now (fold_over expire_clock (expire_clock k e) t).deadline (expire_clock k e).deadline e.state (pass_forward (expire_clock k e) t).deadline
      (one_waits now late k e.state same),
  pass_waits now late (expire_clock k e) t ((expiry_forward k e.state).now ∙ same),
)

pub fine_time : (now : Instant) (i : ℕ) → time_check now i ≡ Ok tt → now.0 ≤ 2 ^ 62
fine_time now i ok = subst (λ (x : Result (Unit {0}) Refusal). InTime (effect_by x (sweep i now))) ok (in_time now i)

taken_clock : {c d : NeighborCache} {k k' : Clock} {i : ℕ} {events : List ProbeEvent} → Sweep c k i events d k' → time_check k.now i ≡ Ok tt → k' ≡ expire_clocks k (entries c)
unfolding swept_in
taken_clock (swept c k k' i r h) ok = h.clock ∙ ap (λ (x : Result (Unit {0}) Refusal). (sweep_by x c k i).clock) ok
taken_clock (swept_at c k i r h) ok = ap (λ (q : Swept). q.clock) (h.is ∙ ap (λ (x : Result (Unit {0}) Refusal). sweep_by x c k i) ok)

sweep_waits : (c d : NeighborCache) (k k' : Clock) (i : ℕ) (events : List ProbeEvent) → Sweep c k i events d k' → time_check k.now i ≡ Ok tt
    → All (λ e. WakesForState k.now k'.deadline e.state) (entries c)
sweep_waits c d k k' i events s ok =
    subst (λ (m : Clock). All (λ e. WakesForState k.now m.deadline e.state) (entries c)) (sym (taken_clock s ok))
    (pass_waits k.now (fine_time k.now i ok) k (entries c) refl)

-- a poll that is taken, SLAAC being on
pub record Took (i : ℕ) (up : Bool) (hw : HardwareAddress) (s : Slaac) (t : IfaceAddrs) (r : Routes) (buf : List ℕ) (k : Clock) (p : Polled) (buf' : List ℕ) (k' : Clock) : Type 0 where
  pub answers : p ≡ (poll_on s t r i up hw buf k).polled
  pub clock : k' ≡ (poll_on s t r i up hw buf k).clock
  pub buffer : buf' ≡ buffer_of s.discovery (sender_in up t) hw buf k

module _ {i : ℕ} {up : Bool} {hw : HardwareAddress} where
  pub poll_took : {s : Slaac} {t : IfaceAddrs} {r : Routes} {buf : List ℕ} {k : Clock} {p : Polled} {buf' : List ℕ} {k' : Clock}
      → Poll i up hw s t r buf k p buf' k' → time_check k.now i ≡ Ok tt → s.on ≡ true → Took i up hw s t r buf k p buf' k'
  poll_took (polled s t r buf k p buf' k' h) ok on =
      record { answers = h.is ∙ ap (λ (q : PolledAt). q.polled) is; clock = h.clock ∙ ap (λ (q : PolledAt). q.clock) is; buffer = h.leaves ∙ same_buffer }
    where
      is : poll_by (time_check k.now i) s t r i up hw buf k ≡ poll_on s t r i up hw buf k
      is = rw (ok, on)

      same_buffer : poll_buffer (time_check k.now i) s t up hw buf k ≡ buffer_of s.discovery (sender_in up t) hw buf k
      same_buffer = rw (ok, on)
  poll_took (polled_at s t r buf k p buf' h) ok on =
      record { answers = ap (λ (q : PolledAt). q.polled) (h.is ∙ is); clock = ap (λ (q : PolledAt). q.clock) (h.is ∙ is); buffer = h.leaves ∙ same_buffer }
    where
      is : poll_by (time_check k.now i) s t r i up hw buf k ≡ poll_on s t r i up hw buf k
      is = rw (ok, on)

      same_buffer : poll_buffer (time_check k.now i) s t up hw buf k ≡ buffer_of s.discovery (sender_in up t) hw buf k
      same_buffer = rw (ok, on)

waits_end : (now : Instant) (d : Option Instant) (e : Expiry) → (is_after e now ≡ true → Covered d e) → WakesFor now d e
waits_end now d (EndsAt x) f = λ h. f (lt-ltb now.0 x.0 h)
waits_end now d Forever f = tt

all_asked : (s : Slaac) (k : Clock) (now : Instant) → k.now ≡ now
    → All (λ x. WakesFor now (sync_due s k).clock.deadline x.valid_until) (prefixes_of s)
    × All (λ x. WakesFor now (sync_due s k).clock.deadline (EndsAt x.valid_until)) (routers_of s)
unfolding sync_due
all_asked s k now same =
    subst
    (λ (n : Instant).
    All (λ x. WakesFor n (asked_all s k).clock.deadline x.valid_until) (prefixes_of s)
    × All (λ x. WakesFor n (asked_all s k).clock.deadline (EndsAt x.valid_until)) (routers_of s))
    same (
      all_weaken (λ x. is_after (prefix_end x) k.now ≡ true → Covered (asked_all s k).clock.deadline (prefix_end x)) (λ x. WakesFor k.now (asked_all s k).clock.deadline (prefix_end x))
          (λ x g. waits_end k.now (asked_all s k).clock.deadline (prefix_end x) g) (prefixes_of s) (prefix_covers s k),
      all_weaken (λ x. is_after (router_end x) k.now ≡ true → Covered (asked_all s k).clock.deadline (router_end x)) (λ x. WakesFor k.now (asked_all s k).clock.deadline (router_end x))
          (λ x g. waits_end k.now (asked_all s k).clock.deadline (router_end x) g) (routers_of s) (router_covers s k),
    )

-- the next solicitation
abbrev retry_of : Phase → Instant → Instant
retry_of Start t = t
retry_of (Discovering retry) t = retry
retry_of Maintaining t = t

some_left : (n : ℕ) → 0 < n → eqb n 0 ≡ false
some_left n h = ne_eqb n 0 (λ q. absurd (omega arith))

due_waits : (d : Discovery) (k : Clock) (retry : Instant) → d.phase ≡ Discovering retry → 0 < d.num_solicitations → (due d k).expired ≡ false
    → NotLater (due d k).clock.deadline (Some retry)
unfolding due
due_waits d k retry p n e = rw (some_left d.num_solicitations n) (go d.phase p (rw (some_left d.num_solicitations n) at e))
  where
    go : (q : Phase) → q ≡ Discovering retry → (due_phase q k).expired ≡ false → NotLater (due_phase q k).clock.deadline (Some retry)
    go q z = subst (λ (y : Phase). (due_phase y k).expired ≡ false → NotLater (due_phase y k).clock.deadline (Some retry)) (sym z) (forward_law.covers k retry)

sent_waits : (d : Discovery) (k : Clock) (retry : Instant) → (sent d k).discovery.phase ≡ Discovering retry → 0 < (sent d k).discovery.num_solicitations
    → NotLater (sent d k).clock.deadline (Some retry)
unfolding sent
sent_waits d k retry p n =
    rw (some_left (d.num_solicitations - 1) n)
    (subst (λ (t : Instant). NotLater (scheduled_of k (retry_at k)).deadline (Some t)) (ap (λ (q : Phase). retry_of q retry) p) (forward_law.kept k (retry_at k)))

solicit_waits : (d : Discovery) (k : Clock) (retry : Instant) → (solicitation d k).discovery.phase ≡ Discovering retry → 0 < (solicitation d k).discovery.num_solicitations
    → NotLater (solicitation d k).clock.deadline (Some retry)
unfolding solicitation
solicit_waits d k retry = go (due d k).expired refl
  where
    by : Bool → Solicitation
    by b = cond b (sent d (due d k).clock) (record { due = false; discovery = d; clock = (due d k).clock })

    go : (b : Bool) → (due d k).expired ≡ b → (by b).discovery.phase ≡ Discovering retry → 0 < (by b).discovery.num_solicitations → NotLater (by b).clock.deadline (Some retry)
    go true q p n = sent_waits d (due d k).clock retry p n
    go false q p n = due_waits d k retry p n q

pub turn_waits : (d : Discovery) (sender : Option Ipv6Addr) (buf : List ℕ) (k : Clock) (source : Ipv6Addr) (retry : Instant) → sender ≡ Some source
    → (turn_of d sender buf k).discovery.phase ≡ Discovering retry → 0 < (turn_of d sender buf k).discovery.num_solicitations
    → NotLater (turn_of d sender buf k).clock.deadline (Some retry)
unfolding turn_of
turn_waits d sender buf k source retry h =
    subst
    (λ (x : Option Ipv6Addr).
    (turn_of d x buf k).discovery.phase ≡ Discovering retry → 0 < (turn_of d x buf k).discovery.num_solicitations → NotLater (turn_of d x buf k).clock.deadline (Some retry))
    (sym h) (solicit_waits d k retry)

module _ (s : Slaac) (t : IfaceAddrs) (r : Routes) (i : ℕ) (up : Bool) (hw : HardwareAddress) (buf : List ℕ) (k : Clock) where
  abbrev turn : Turn
  turn = turn_of s.discovery (sender_in up t) buf k

  abbrev turned : Slaac
  turned = with_discovery s turn.discovery

  poll_clock : (poll_on s t r i up hw buf k).clock ≡ (sync_due turned turn.clock).clock
  unfolding poll_on sync_turn
  poll_clock = go (sync_due turned turn.clock).expired
    where
      go : (b : Bool)
          → (cond {A = PolledAt} b (synced turned t r i hw k.now (sync_due turned turn.clock).clock (Ok turn.answer)) (asPolled turned t r (sync_due turned turn.clock).clock (Ok turn.answer))).clock
          ≡ (sync_due turned turn.clock).clock
      go true = refl
      go false = refl

  poll_discovery : (poll_on s t r i up hw buf k).polled.slaac.discovery ≡ turn.discovery
  unfolding poll_on sync_turn leave_expired
  poll_discovery = go (sync_due turned turn.clock).expired
    where
      go : (b : Bool)
          → (cond {A = PolledAt} b (synced turned t r i hw k.now (sync_due turned turn.clock).clock (Ok turn.answer)) (asPolled turned t r (sync_due turned turn.clock).clock (Ok turn.answer))).polled.slaac.discovery
          ≡ turn.discovery
      go true = refl
      go false = refl

  turn_now : turn.clock.now ≡ k.now
  turn_now = (turn_forward s.discovery (sender_in up t) buf k).now

  ends_wait : All (λ x. WakesFor k.now (poll_on s t r i up hw buf k).clock.deadline x.valid_until) (prefixes_of s)
      × All (λ x. WakesFor k.now (poll_on s t r i up hw buf k).clock.deadline (EndsAt x.valid_until)) (routers_of s)
  ends_wait =
      subst
      (λ (m : Clock).
      All (λ x. WakesFor k.now m.deadline x.valid_until) (prefixes_of s)
      × All (λ x. WakesFor k.now m.deadline (EndsAt x.valid_until)) (routers_of s))
      (sym poll_clock) (all_asked turned turn.clock k.now turn_now)

  retry_waits : (source : Ipv6Addr) (retry : Instant) → sender_in up t ≡ Some source → turn.discovery.phase ≡ Discovering retry → 0 < turn.discovery.num_solicitations
      → NotLater (poll_on s t r i up hw buf k).clock.deadline (Some retry)
  retry_waits source retry h p n =
      after (poll_on s t r i up hw buf k).clock.deadline turn.clock.deadline (Some retry)
      (subst (λ (m : Clock). NotLater m.deadline turn.clock.deadline) (sym poll_clock) (asked_forward turned turn.clock).deadline)
      (turn_waits s.discovery (sender_in up t) buf k source retry h p n)

pub clocks : Clocks
clocks = record {
  sweep = λ c k k' i r h. subst (Forward k) (sym h.clock) (swept_forward (sweep_check k i) c k i);
  sweep_at = λ c k i r h. subst (λ (s : Swept). Forward k s.clock) (sym h.is) (swept_forward (sweep_check k i) c k i);
  poll_at =
      λ s t r i up hw buf k p buf' h. subst (λ (q : PolledAt). Forward k q.clock) (sym h.is) (poll_forward (time_check k.now i) s t r i up hw buf k);
  poll = λ s t r i up hw buf k p buf' k' h. subst (Forward k) (sym h.clock) (poll_forward (time_check k.now i) s t r i up hw buf k);
  sweep_waits = sweep_waits;
  poll_waits =
      λ i up hw s t r buf k p buf' k' h ok on.
      subst
      (λ (m : Clock).
      All (λ x. WakesFor k.now m.deadline x.valid_until) (prefixes_of s)
      × All (λ x. WakesFor k.now m.deadline (EndsAt x.valid_until)) (routers_of s))
      (sym (poll_took h ok on).clock) (ends_wait s t r i up hw buf k);
  poll_retries =
      λ i up hw s t r buf k p buf' k' h ok on source retry from phase left.
      let discovery = ap (λ (q : Polled). q.slaac.discovery) (poll_took h ok on).answers ∙ poll_discovery s t r i up hw buf k in
      subst (λ (m : Clock). NotLater m.deadline (Some retry)) (sym (poll_took h ok on).clock)
      (retry_waits s t r i up hw buf k source retry from (ap (λ (d : Discovery). d.phase) (sym discovery) ∙ phase)
      (subst (λ (d : Discovery). 0 < d.num_solicitations) discovery left));
}
