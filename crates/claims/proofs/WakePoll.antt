-- When a card may sleep after a poll. Assumes nothing.
use Prim.Native.Nat.{ℕ}
use borrow.Author.Tests.{lt-leb, leb-false, lt-ltb}
use lib.Dec.{leb, ltb, eqb}
use mathlib.Core.Bool.{Bool, true, false, cond, true≢false}
use mathlib.Core.List.{List, [], ◌∷◌, ◌++◌, append_assoc}
use mathlib.Core.Logic.{inl}
use native.Mathlib.Omega.{arith}
use mathlib.Core.Path.{◌≡◌, refl, sym, ap, ◌∙◌, subst}
use Rattle.std.specs.Prelude.{Option, Some, None, Ok}
use Rattle.wire.specs.declared.ipv6.Ipv6Addr.{Ipv6Addr}
use Rattle.claims.proofs.Ahead.{poll_ahead}
use Rattle.claims.proofs.Clocks.{turn_forward, asked_forward, turn_waits as turn-covers, Took, poll_took, clocks}
use Rattle.claims.proofs.Covers.{Covered, ask, fold_forward, prefix_end, router_end, unasked, asked_prefixes, asked_all, asked_now, prefix_covers, router_covers}
use Rattle.claims.proofs.Lists.{or_none, entries_with, all_append, all_apply, all_kept_with}
use Rattle.claims.proofs.PollTimes.{InTimes, earliest, own_not_later, Ends, in_ends, ends_not_later, ends_kept, together, turn_joins, retry_not_later, asks_join}
use Rattle.claims.proofs.Wake.{wake}
use Rattle.claims.proofs.WakeTable.{before}
use Rattle.claims.specs.Clocks.{Poll, polled, polled_at}
use Rattle.claims.specs.Lists.{All}
use Rattle.claims.specs.Wake.{Asleep, times_of, already, IsEarliest}
use Rattle.claims.specs.WakePoll.{Polls, none, one_more, quietly, ends_of, retry_from, slaac_times, WakePoll}
use Rattle.neighbor.specs.CacheCalls.{entries}
use Rattle.neighbor.specs.NeighborRules.{same_key, find, before as evictedBefore, insert_state, on_iface}
use Rattle.sweep.specs.SweepCalls.{probe_in, events_in, events_table, probe_all, swept_in}
use Rattle.sweep.specs.SweepRules.{expire_all, expire_clocks, due as dueOn, spent, probe}
use Rattle.iface.specs.AddressRules.{put_addr, drop_addr, first_local}
use Rattle.iface.specs.RouteRules.{put_route, drop_route}
use Rattle.iface.specs.declared.addr.IfaceAddrs.{IfaceAddrs}
use Rattle.iface.specs.declared.route.Routes.{Routes}
use Rattle.slaac.proofs.LearnedLaws.{not-false}
use Rattle.slaac.specs.DiscoveryRules.{due_phase, due, retry_at, sent, solicitation}
use Rattle.slaac.specs.Fields.{with_discovery}
use Rattle.slaac.specs.ExpiryRules.{ask_prefix, sync_due, prefix_gone, router_gone, leave_expired}
use Rattle.slaac.specs.LearnedRules.{prefixes_of, routers_of, add_prefix, expire_prefix, process_prefix_is, add_router, expire_router, process_router_is}
use Rattle.slaac.specs.declared.Discovery.{Discovery}
use Rattle.slaac.specs.declared.Phase.TheVariants.{Start, Discovering, Maintaining}
use Rattle.slaac.specs.declared.Phase.{Phase}
use Rattle.slaac.specs.declared.Prefix.{Prefix}
use Rattle.slaac.specs.declared.Router.{Router}
use Rattle.slaac.specs.declared.Slaac.{Slaac}
use Rattle.slaac.specs.declared.Solicitation.{Solicitation}
use Rattle.autoconf.specs.AdvertRules.{step2, last_source}
use Rattle.autoconf.specs.PollRules.{answer_of, solicit_from, buffer_by, turn_of, buffer_of, polled as asPolled, synced, sync_turn, sender_in, poll_on}
use Rattle.autoconf.specs.SyncRules.{sync_prefix, sync_router, sync_addrs, sync_routes}
use Rattle.autoconf.specs.declared.PollAnswer.TheVariants.{Quiet}
use Rattle.autoconf.specs.declared.Polled.{Polled}
use Rattle.autoconf.specs.declared.PolledAt.{PolledAt}
use Rattle.autoconf.specs.declared.Turn.{Turn}
use Rattle.table.specs.Table.{kept, fold_over}
use Rattle.time.proofs.Forward.{after, unmoved, then, asking_end, forward_law}
use Rattle.time.specs.ClockRules.{scheduled_of, asked_of, asked_end, is_after}
use Rattle.time.specs.Forward.{NotLater, Forward}
use Rattle.time.specs.declared.Answer.{Answer}
use Rattle.time.specs.declared.Clock.{Clock}
use Rattle.time.specs.declared.Expiry.TheVariants.{At as EndsAt, Forever}
use Rattle.time.specs.declared.Expiry.{Expiry}
use Rattle.time.specs.declared.Instant.{Instant}
use Rattle.ndisc.specs.OptionWalk.{walked, options_of}
use Rattle.ndisc.specs.Rfc4443Checksum.{checksum_of}
use Rattle.wire.specs.Refusals.{time_check}
use Rattle.wire.specs.Rfc2464.{formed_of}
use Rattle.wire.specs.declared.ethernet.HardwareAddress.{HardwareAddress}

-- One end

asked_no : (d : Option Instant) (c : Clock) (e : Expiry) → Covered d e → Asleep d c.now → (asked_end c e).expired ≡ false
asked_no d c (EndsAt t) h a = rw (lt-leb t.0 c.now.0 (before d t c.now h a))
asked_no d c Forever h a = refl

no_asked : (c : Clock) (e : Expiry) → (asked_end c e).expired ≡ false → is_after e c.now ≡ true
no_asked c (EndsAt t) h = go (leb t.0 c.now.0) refl h
  where
    go : (x : Bool) → leb t.0 c.now.0 ≡ x → (cond {A = Answer} x (record { expired = true; clock = c }) (record { expired = false; clock = scheduled_of c t })).expired ≡ false
        → ltb c.now.0 t.0 ≡ true
    go true q g = absurd (true≢false g)
    go false q g = lt-ltb c.now.0 t.0 (leb-false t.0 c.now.0 q)
no_asked c Forever h = refl

-- Many ends

module _ {A : Type 0} (f : A → Expiry) where
  fold_none : (now : Instant) (a : Answer) (xs : List A) → a.clock.now ≡ now → (fold_over (ask f) a xs).expired ≡ false → (a.expired ≡ false) × All (λ x. is_after (f x) now ≡ true) xs
  fold_none now a [] same h = (h, tt)
  fold_none now a (x ∷ xs) same h =
      let r = fold_none now (ask f a x) xs ((asking_end a.clock (f x)).now ∙ same) h in
      let o = or_none a.expired (asked_end a.clock (f x)).expired r.0 in
      (o.0, (subst (λ (n : Instant). is_after (f x) n ≡ true) same (no_asked a.clock (f x) o.1), r.1))

  fold_quiet : (d : Option Instant) (a : Answer) (xs : List A) → a.expired ≡ false → Asleep d a.clock.now → All (λ x. Covered d (f x)) xs → (fold_over (ask f) a xs).expired ≡ false
  fold_quiet d a [] e s h = e
  fold_quiet d a (x ∷ xs) e s h =
      fold_quiet d (ask f a x) xs (rw (e, asked_no d a.clock (f x) h.0 s)) (subst (Asleep d) (sym (asking_end a.clock (f x)).now) s) h.1

-- The sync

-- SLAAC with no sync asked for, and no end before the deadline
record Settled (d : Option Instant) (s : Slaac) : Type 0 where
  asked : s.sync_required ≡ false
  prefixes : All (λ p. Covered d (prefix_end p)) (prefixes_of s)
  routers : All (λ r. Covered d (router_end r)) (routers_of s)

settled_quiet : (d : Option Instant) (s : Slaac) (k : Clock) → Settled d s → Asleep d k.now → (sync_due s k).expired ≡ false
unfolding sync_due
settled_quiet d s k h a =
    fold_quiet router_end d first (routers_of s)
    (fold_quiet prefix_end d (record { expired = s.sync_required; clock = k }) (prefixes_of s) h.asked a h.prefixes)
    (subst (Asleep d) (sym (fold_forward prefix_end (record { expired = s.sync_required; clock = k }) (prefixes_of s)).now) a) h.routers
  where
    first : Answer
    first = fold_over ask_prefix (record { expired = s.sync_required; clock = k }) (prefixes_of s)

module _ (s : Slaac) (k : Clock) where
  -- no sync
  stays : (asked_all s k).expired ≡ false → Settled (asked_all s k).clock.deadline s
  stays h =
      let r = fold_none router_end k.now (asked_prefixes s k) (routers_of s) (asked_now s k) h in
      let p = fold_none prefix_end k.now (unasked s k) (prefixes_of s) refl r.0 in
      record {
        asked = p.0;
        prefixes = all_apply (λ x. is_after (prefix_end x) k.now ≡ true) (λ x. Covered (asked_all s k).clock.deadline (prefix_end x)) (prefixes_of s) p.1 (prefix_covers s k);
        routers = all_apply (λ x. is_after (router_end x) k.now ≡ true) (λ x. Covered (asked_all s k).clock.deadline (router_end x)) (routers_of s) r.1 (router_covers s k);
      }

  -- a sync
  leaves : Settled (asked_all s k).clock.deadline (leave_expired k.now s)
  unfolding leave_expired
  leaves =
      record {
        asked = refl;
        prefixes =
            subst (All (λ p. Covered (asked_all s k).clock.deadline (prefix_end p))) (sym (entries_with s.prefixes (kept (prefix_gone k.now) (prefixes_of s))))
            (all_kept_with (λ x. is_after (prefix_end x) k.now ≡ true → Covered (asked_all s k).clock.deadline (prefix_end x)) (λ x. Covered (asked_all s k).clock.deadline (prefix_end x)) (prefix_gone k.now)
            (λ x e g. g (not-false (is_after (prefix_end x) k.now) e)) (prefixes_of s) (prefix_covers s k));
        routers =
            subst (All (λ r. Covered (asked_all s k).clock.deadline (router_end r))) (sym (entries_with s.routers (kept (router_gone k.now) (routers_of s))))
            (all_kept_with (λ x. is_after (router_end x) k.now ≡ true → Covered (asked_all s k).clock.deadline (router_end x)) (λ x. Covered (asked_all s k).clock.deadline (router_end x)) (router_gone k.now)
            (λ x e g. g (not-false (is_after (EndsAt x.valid_until) k.now) e)) (routers_of s) (router_covers s k));
      }

-- The solicitation: once it had its turn, there is none before the deadline

record Waits (d : Option Instant) (sender : Option Ipv6Addr) (v : Discovery) : Type 0 where
  waits : (c : Clock) → Asleep d c.now → ((solicit_from sender v c).due ≡ false) × ((solicit_from sender v c).discovery ≡ v)

no_turn : (v : Discovery) (c : Clock) → (due v c).expired ≡ false → ((solicitation v c).due ≡ false) × ((solicitation v c).discovery ≡ v)
unfolding solicitation
no_turn v c h = (rw h, rw h)

-- the phase by itself, where some are left
none_due : (v : Discovery) (c : Clock) → ((eqb v.num_solicitations 0 ≡ false) → (due_phase v.phase c).expired ≡ false) → (due v c).expired ≡ false
unfolding due
none_due v c h = go (eqb v.num_solicitations 0) refl
  where
    go : (x : Bool) → eqb v.num_solicitations 0 ≡ x → (cond {A = Answer} x (record { expired = false; clock = c }) (due_phase v.phase c)).expired ≡ false
    go true q = refl
    go false q = h q

retry_waits : (d : Option Instant) (c : Clock) (t : Instant) → NotLater d (Some t) → Asleep d c.now → (asked_of c t).expired ≡ false
retry_waits d c t h a = rw (lt-leb t.0 c.now.0 (before d t c.now h a))

module _ (v : Discovery) (k : Clock) where
  -- it was sent
  sent_waits : (d : Option Instant) → NotLater d (sent v k).clock.deadline → (c : Clock) → Asleep d c.now → (due (sent v k).discovery c).expired ≡ false
  unfolding sent
  sent_waits d h c a = none_due (sent v k).discovery c (λ q. retry_waits d c (retry_at k) (after d (scheduled_of k (retry_at k)).deadline (Some (retry_at k)) (rw q at h) (forward_law.kept k (retry_at k))) a)

  -- it was not due
  still_waits : (d : Option Instant) → (due v k).expired ≡ false → NotLater d (due v k).clock.deadline → (c : Clock) → Asleep d c.now → (due v c).expired ≡ false
  unfolding due
  still_waits d e h c a = none_due v c (λ q. go v.phase (rw q at e) (rw q at h))
    where
      go : (p : Phase) → (due_phase p k).expired ≡ false → NotLater d (due_phase p k).clock.deadline → (due_phase p c).expired ≡ false
      go Start e h = absurd (true≢false e)
      go (Discovering t) e h = retry_waits d c t (after d (asked_of k t).clock.deadline (Some t) h (forward_law.covers k t e)) a
      go Maintaining e h = refl

module _ (v : Discovery) (k : Clock) where
  turn_waits : (d : Option Instant) → NotLater d (solicitation v k).clock.deadline → (c : Clock) → Asleep d c.now
      → ((solicitation (solicitation v k).discovery c).due ≡ false) × ((solicitation (solicitation v k).discovery c).discovery ≡ (solicitation v k).discovery)
  unfolding solicitation
  turn_waits d h c a = no_turn (solicitation v k).discovery c (go (due v k).expired refl h)
    where
      go : (x : Bool) → (due v k).expired ≡ x
          → NotLater d (cond {A = Solicitation} x (sent v (due v k).clock) (record { due = false; discovery = v; clock = (due v k).clock })).clock.deadline
          → (due (cond {A = Solicitation} x (sent v (due v k).clock) (record { due = false; discovery = v; clock = (due v k).clock })).discovery c).expired ≡ false
      go true q g = sent_waits v (due v k).clock d g c a
      go false q g = still_waits v k d q g c a

from_waits : (sender : Option Ipv6Addr) (v : Discovery) (k : Clock) (d : Option Instant) → NotLater d (solicit_from sender v k).clock.deadline → Waits d sender (solicit_from sender v k).discovery
from_waits None v k d h = record { waits = λ c a. (refl, refl) }
from_waits (Some x) v k d h = record { waits = turn_waits v k d h }

-- The poll

second : (d : Option Instant) (s : Slaac) (t : IfaceAddrs) (r : Routes) (i : ℕ) (up : Bool) (hw : HardwareAddress) (buf : List ℕ) (c : Clock)
    → Settled d s → Waits d (sender_in up t) s.discovery → Asleep d c.now
    → (poll_on s t r i up hw buf c).polled ≡ record { slaac = s; addrs = t; routes = r; answer = Ok Quiet }
unfolding poll_on turn_of sync_turn
second d s t r i up hw buf c h w a =
    go x (w.waits c a).0 (w.waits c a).1
    (ap (λ (v : Discovery). (sync_due (with_discovery s v) x.clock).expired) (w.waits c a).1
    ∙ settled_quiet d s x.clock h (subst (Asleep d) (sym (turn_forward s.discovery (sender_in up t) buf c).now) a))
  where
    x : Solicitation
    x = solicit_from (sender_in up t) s.discovery c

    go : (z : Solicitation) → z.due ≡ false → z.discovery ≡ s.discovery → (sync_due (with_discovery s z.discovery) z.clock).expired ≡ false
        → (sync_turn (with_discovery s z.discovery) t r i hw c.now z.clock (Ok (answer_of z.due buf))).polled ≡ record { slaac = s; addrs = t; routes = r; answer = Ok Quiet }
    go z e f g = rw (g, e, f)

-- what a poll leaves: nothing is to be done before its deadline
record Rested (d : Option Instant) (sender : Option Ipv6Addr) (s : Slaac) : Type 0 where
  on : s.on ≡ true
  settled : Settled d s
  waits : Waits d sender s.discovery

rests : (s : Slaac) (t : IfaceAddrs) (r : Routes) (i : ℕ) (up : Bool) (hw : HardwareAddress) (buf : List ℕ) (k : Clock) → s.on ≡ true
    → Rested (poll_on s t r i up hw buf k).clock.deadline (sender_in up t) (poll_on s t r i up hw buf k).polled.slaac
unfolding poll_on turn_of sync_turn sync_due leave_expired
rests s t r i up hw buf k on = go (sync_due s1 u.clock).expired refl
  where
    u : Turn
    u = turn_of s.discovery (sender_in up t) buf k

    s1 : Slaac
    s1 = with_discovery s u.discovery

    d : Option Instant
    d = (sync_due s1 u.clock).clock.deadline

    done : Bool → PolledAt
    done b = cond b (synced s1 t r i hw k.now (sync_due s1 u.clock).clock (Ok u.answer)) (asPolled s1 t r (sync_due s1 u.clock).clock (Ok u.answer))

    ahead : Waits d (sender_in up t) u.discovery
    ahead = from_waits (sender_in up t) s.discovery k d (asked_forward s1 u.clock).deadline

    go : (b : Bool) → (sync_due s1 u.clock).expired ≡ b → Rested (done b).clock.deadline (sender_in up t) (done b).polled.slaac
    go true q =
        record {
          on = on;
          settled = subst (λ (n : Instant). Settled d (leave_expired n s1)) (turn_forward s.discovery (sender_in up t) buf k).now (leaves s1 u.clock);
          waits = ahead;
        }
    go false q = record { on = on; settled = stays s1 u.clock q; waits = ahead }

-- the buffer of a poll that has nothing to send
unsent : (sender : Option Ipv6Addr) (due : Bool) (hw : HardwareAddress) (buf : List ℕ) → due ≡ false → buffer_by sender due hw buf ≡ buf
unsent None due hw buf h = refl
unsent (Some a) due hw buf h = rw h

misses_nothing : (i : ℕ) (up : Bool) (hw : HardwareAddress) (s : Slaac) (t : IfaceAddrs) (r : Routes) (buf : List ℕ) (k : Clock) (p : Polled) (buf' : List ℕ) (k' : Clock)
    → Poll i up hw s t r buf k p buf' k' → time_check k.now i ≡ Ok tt → s.on ≡ true
    → (up2 : Bool) (hw2 : HardwareAddress) (t2 : IfaceAddrs) (r2 : Routes) (buf2 : List ℕ) (next : Clock) (q : Polled) (buf2' : List ℕ) (next' : Clock)
    → Poll i up2 hw2 p.slaac t2 r2 buf2 next q buf2' next' → time_check next.now i ≡ Ok tt
    → sender_in up2 t2 ≡ sender_in up t → Asleep k'.deadline next.now
    → (q ≡ quietly p.slaac t2 r2) × (buf2' ≡ buf2)
unfolding buffer_of
misses_nothing i up hw s t r buf k p buf' k' h ok on up2 hw2 t2 r2 buf2 next q buf2' next' g ok2 same a = (
  after_that.answers ∙ second k'.deadline p.slaac t2 r2 i up2 hw2 buf2 next rest.settled rest.waits a,
  after_that.buffer ∙ unsent (sender_in up2 t2) _ hw2 buf2 (rest.waits.waits next a).0,
)
  where
    rest : Rested k'.deadline (sender_in up2 t2) p.slaac
    rest =
        subst (λ (x : Option Ipv6Addr). Rested k'.deadline x p.slaac) (sym same)
        (subst (λ (x : Polled). Rested k'.deadline (sender_in up t) x.slaac) (sym (poll_took h ok on).answers)
        (subst (λ (m : Clock). Rested m.deadline (sender_in up t) (poll_on s t r i up hw buf k).polled.slaac) (sym (poll_took h ok on).clock) (rests s t r i up hw buf k on)))

    after_that : Took i up2 hw2 p.slaac t2 r2 buf2 next q buf2' next'
    after_that = poll_took g ok2 rest.on

-- Exactly the earliest

exact_on : (s : Slaac) (t : IfaceAddrs) (r : Routes) (i : ℕ) (up : Bool) (hw : HardwareAddress) (buf : List ℕ) (k : Clock) → s.on ≡ true
    → IsEarliest (poll_on s t r i up hw buf k).clock.deadline (already k.deadline ++ slaac_times (sender_in up t) (poll_on s t r i up hw buf k).polled.slaac)
unfolding poll_on turn_of sync_turn sync_due leave_expired
exact_on s t r i up hw buf k on = go (sync_due s1 u.clock).expired refl
  where
    sender : Option Ipv6Addr
    sender = sender_in up t

    u : Turn
    u = turn_of s.discovery sender buf k

    s1 : Slaac
    s1 = with_discovery s u.discovery

    d : Option Instant
    d = (sync_due s1 u.clock).clock.deadline

    same : u.clock.now ≡ k.now
    same = (turn_forward s.discovery sender buf k).now

    done : Bool → PolledAt
    done b = cond b (synced s1 t r i hw k.now (sync_due s1 u.clock).clock (Ok u.answer)) (asPolled s1 t r (sync_due s1 u.clock).clock (Ok u.answer))

    retry : All (λ x. NotLater d (Some x)) (retry_from sender u.discovery)
    retry =
        retry_not_later sender u.discovery d
        (λ source x h p n. after d u.clock.deadline (Some x) (asked_forward s1 u.clock).deadline (turn-covers s.discovery sender buf k source x h p n))

    before_it : All (λ x. NotLater d (Some x)) (already k.deadline)
    before_it = own_not_later d k.deadline (after d u.clock.deadline k.deadline (asked_forward s1 u.clock).deadline (turn_forward s.discovery sender buf k).deadline)

    -- what is left: the deadline is one of its times, and is not later than any
    left : (s2 : Slaac) → s2.discovery ≡ u.discovery → Settled d s2
        → ((e : Option Instant) → Ends prefix_end k.now (prefixes_of s1) e → InTimes e (ends_of prefix_end (prefixes_of s2)))
        → ((e : Option Instant) → Ends router_end k.now (routers_of s1) e → InTimes e (ends_of router_end (routers_of s2)))
        → IsEarliest d (already k.deadline ++ slaac_times sender s2)
    left s2 e h of-prefix of-router =
        subst (λ (v : Discovery). IsEarliest d (together k.deadline (retry_from sender v) (ends_of prefix_end (prefixes_of s2)) (ends_of router_end (routers_of s2)))) (sym e)
        (earliest d _
        (asks_join s1 u.clock k.now same k.deadline (retry_from sender u.discovery) (turn_joins sender s.discovery k) (ends_of prefix_end (prefixes_of s2)) (ends_of router_end (routers_of s2)) of-prefix of-router)
        (all_append (λ x. NotLater d (Some x)) (already k.deadline) _ before_it
        (all_append (λ x. NotLater d (Some x)) (retry_from sender u.discovery) _ retry
        (all_append (λ x. NotLater d (Some x)) (ends_of prefix_end (prefixes_of s2)) _ (ends_not_later prefix_end d (prefixes_of s2) h.prefixes) (ends_not_later router_end d (routers_of s2) h.routers)))))

    go : (b : Bool) → (sync_due s1 u.clock).expired ≡ b → IsEarliest (done b).clock.deadline (already k.deadline ++ slaac_times sender (done b).polled.slaac)
    go true q =
        left (leave_expired k.now s1) refl (subst (λ (n : Instant). Settled d (leave_expired n s1)) same (leaves s1 u.clock))
        (λ e w.
        subst (λ (ps : List Prefix). InTimes e (ends_of prefix_end ps)) (sym (entries_with s1.prefixes (kept (prefix_gone k.now) (prefixes_of s1))))
        (in_ends prefix_end k.now (kept (prefix_gone k.now) (prefixes_of s1)) e (ends_kept prefix_end k.now (prefixes_of s1) e w)))
        (λ e w.
        subst (λ (rs : List Router). InTimes e (ends_of router_end rs)) (sym (entries_with s1.routers (kept (router_gone k.now) (routers_of s1))))
        (in_ends router_end k.now (kept (router_gone k.now) (routers_of s1)) e (ends_kept router_end k.now (routers_of s1) e w)))
    go false q = left s1 refl (stays s1 u.clock q) (λ e w. in_ends prefix_end k.now (prefixes_of s1) e w) (λ e w. in_ends router_end k.now (routers_of s1) e w)

exact : (i : ℕ) (up : Bool) (hw : HardwareAddress) (s : Slaac) (t : IfaceAddrs) (r : Routes) (buf : List ℕ) (k : Clock) (p : Polled) (buf' : List ℕ) (k' : Clock)
    → Poll i up hw s t r buf k p buf' k' → time_check k.now i ≡ Ok tt → s.on ≡ true
    → IsEarliest k'.deadline (already k.deadline ++ slaac_times (sender_in up t) p.slaac)
exact i up hw s t r buf k p buf' k' h ok on =
    subst (λ (x : Polled). IsEarliest k'.deadline (already k.deadline ++ slaac_times (sender_in up t) x.slaac)) (sym (poll_took h ok on).answers)
    (subst (λ (m : Clock). IsEarliest m.deadline (already k.deadline ++ slaac_times (sender_in up t) (poll_on s t r i up hw buf k).polled.slaac)) (sym (poll_took h ok on).clock)
    (exact_on s t r i up hw buf k on))

-- A turn

alone : (d : Option Instant) → IsEarliest d (already d ++ [])
alone None = refl
alone (Some t) = (inl refl, (omega arith, tt))

polls_exact : {k k' : Clock} {times : List Instant} → Polls k times k' → IsEarliest k'.deadline (already k.deadline ++ times)
polls_exact (none k) = alone k.deadline
polls_exact (one_more {i = i} {up = up} {hw = hw} {s = s} {t = t} {r = r} {buf = buf} {k = k} {p = p} {buf' = buf'} {k' = k'} {k'' = k''} {times = times} h ok on rest) =
    subst (IsEarliest k''.deadline) (append_assoc (already k.deadline) (slaac_times (sender_in up t) p.slaac) times)
    (wake.joined k'.deadline k''.deadline (already k.deadline ++ slaac_times (sender_in up t) p.slaac) times (exact i up hw s t r buf k p buf' k' h ok on) (polls_exact rest))

moves : {i : ℕ} {up : Bool} {hw : HardwareAddress} {s : Slaac} {t : IfaceAddrs} {r : Routes} {buf : List ℕ} {k : Clock} {p : Polled} {buf' : List ℕ} {k' : Clock}
    → Poll i up hw s t r buf k p buf' k' → Forward k k'
moves {i = i} {up = up} {hw = hw} (polled s t r buf k p buf' k' h) = clocks.poll s t r i up hw buf k p buf' k' h
moves {i = i} {up = up} {hw = hw} (polled_at s t r buf k p buf' h) = clocks.poll_at s t r i up hw buf k p buf' h

polls_forward : {k k' : Clock} {times : List Instant} → Polls k times k' → Forward k k'
polls_forward (none k) = unmoved k
polls_forward (one_more {k = k} {k' = k'} {k'' = k''} h ok on rest) = then k k' k'' (moves h) (polls_forward rest)

polls_ahead : {k k' : Clock} {times : List Instant} → Polls k times k' → Asleep k.deadline k.now → Asleep k'.deadline k.now
polls_ahead (none k) a = a
polls_ahead (one_more {k' = k'} {k'' = k''} h ok on rest) a =
    subst (λ (n : Instant). Asleep k''.deadline n) (moves h).now
    (polls_ahead rest (subst (λ (n : Instant). Asleep k'.deadline n) (sym (moves h).now) (poll_ahead h a)))

pub wake_poll : WakePoll
unfolding same_key find evictedBefore insert_state on_iface expire_all expire_clocks dueOn spent probe events_in probe_in probe_all swept_in events_table formed_of walked options_of checksum_of put_addr drop_addr first_local put_route drop_route add_prefix expire_prefix process_prefix_is add_router expire_router process_router_is due sent solicitation sync_due leave_expired step2 last_source sync_prefix sync_router sync_addrs sync_routes turn_of buffer_of sync_turn poll_on
wake_poll = record {
  exact = exact;
  later = λ i up hw s t r buf k p buf' k' h a. poll_ahead h a;
  misses_nothing = misses_nothing;
  turn =
      λ k k' k'' times polled c d is j round.
      subst (IsEarliest k''.deadline) (append_assoc (already k.deadline) times (times_of (entries d)))
      (wake.joined k'.deadline k''.deadline (already k.deadline ++ times) (times_of (entries d)) (polls_exact polled) (wake.exact_lent c d k' k'' is j round));
  later_turn = λ now k' k'' times polled c d is j round.
      subst (λ (n : Instant). Asleep k''.deadline n) (polls_forward polled).now
      (wake.later_lent c d k' k'' is j round (subst (λ (n : Instant). Asleep k'.deadline n) (sym (polls_forward polled).now) (polls_ahead polled tt)));
  turn_quiet =
      λ i up hw s t r buf k p buf' k1 h ok on k2 k3 times others c d is j round up2 hw2 t2 r2 buf2 next q buf2' next' g ok2 same a.
      misses_nothing i up hw s t r buf k p buf' k1 h ok on up2 hw2 t2 r2 buf2 next q buf2' next' g ok2 same
      (wake.earlier k2.deadline k1.deadline next.now (polls_forward others).deadline (wake.before_round c d k2 k3 is j round next.now a));
  waits_for_retry = refl;
  same_source = refl;
  quiet_before = refl;
  sends_then = refl;
  waits_anew = refl;
  waits_for_neighbour = refl;
  waits_for_router = refl;
  same_source_too = refl;
  quiet_too = refl;
}
