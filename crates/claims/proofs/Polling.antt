-- When the sync is due, and the tables after a poll whose sync is. Assumes nothing.
use Prim.Native.Nat.{ℕ}
use borrow.Author.Tests.{le-leb, ltb-false}
use mathlib.Core.Bool.{Bool, true, false, true≢false}
use mathlib.Core.List.{List, [], ◌∷◌}
use mathlib.Core.Logic.{inl, inr}
use mathlib.Core.Path.{◌≡◌, refl, sym, ap, ◌∙◌, subst}
use native.Mathlib.Omega.{arith}
use Rattle.std.specs.Prelude.{Result, Ok, Err}
use Rattle.claims.proofs.Clocks.{turn_forward}
use Rattle.claims.proofs.Keeps.{turn_in, poll_cases}
use Rattle.claims.proofs.Lists.{or_left, or_right}
use Rattle.claims.specs.Early.{Host, poll, Step, polled, polled_at, TakesPoll}
use Rattle.claims.specs.Lists.{Some}
use Rattle.iface.specs.declared.addr.IfaceAddrs.{IfaceAddrs}
use Rattle.iface.specs.declared.route.Routes.{Routes}
use Rattle.slaac.specs.ExpiryRules.{ask_also, ask_prefix, sync_due}
use Rattle.slaac.specs.Fields.{with_discovery}
use Rattle.slaac.specs.LearnedRules.{prefixes_of, routers_of}
use Rattle.slaac.specs.declared.Prefix.{Prefix}
use Rattle.slaac.specs.declared.Router.{Router}
use Rattle.slaac.specs.declared.Slaac.{Slaac}
use Rattle.autoconf.specs.PollRules.{sync_turn, sender_in, poll_by}
use Rattle.autoconf.specs.SyncRules.{sync_prefix, sync_router, sync_addrs, sync_routes}
use Rattle.autoconf.specs.declared.PollAnswer.{PollAnswer}
use Rattle.autoconf.specs.declared.Polled.{Polled}
use Rattle.autoconf.specs.declared.PolledAt.{PolledAt}
use Rattle.autoconf.specs.declared.Turn.{Turn}
use Rattle.table.specs.Table.{fold_over}
use Rattle.time.proofs.Forward.{asking_end}
use Rattle.time.specs.ClockRules.{asked_end, is_after}
use Rattle.time.specs.declared.Answer.{Answer}
use Rattle.time.specs.declared.Clock.{Clock}
use Rattle.time.specs.declared.Expiry.TheVariants.{At, Forever}
use Rattle.time.specs.declared.Expiry.{Expiry}
use Rattle.time.specs.declared.Instant.{Instant}
use Rattle.wire.specs.Refusals.{time_check}
use Rattle.wire.specs.declared.error.Refusal.{Refusal}
use Rattle.wire.specs.declared.ethernet.HardwareAddress.{HardwareAddress}

-- When the sync is due

ended_asked : (c : Clock) (e : Expiry) → is_after e c.now ≡ false → (asked_end c e).expired ≡ true
ended_asked c (At t) h = rw (le-leb t.0 c.now.0 (ltb-false c.now.0 t.0 h))
ended_asked c Forever h = absurd (true≢false h)

module _ {A : Type 0} (f : A → Expiry) where
  abbrev ask : Answer → A → Answer
  ask a x = ask_also a (f x)

  asked_stays : (xs : List A) (a : Answer) → a.expired ≡ true → (fold_over ask a xs).expired ≡ true
  asked_stays [] a h = h
  asked_stays (x ∷ xs) a h = asked_stays xs (ask a x) (or_left a.expired (asked_end a.clock (f x)).expired h)

  asked_now : (xs : List A) (a : Answer) → (fold_over ask a xs).clock.now ≡ a.clock.now
  asked_now [] a = refl
  asked_now (x ∷ xs) a = asked_now xs (ask a x) ∙ (asking_end a.clock (f x)).now

  asked_one : (now : Instant) (xs : List A) (a : Answer) → a.clock.now ≡ now → Some (λ x. is_after (f x) now ≡ false) xs → (fold_over ask a xs).expired ≡ true
  asked_one now [] a same h = absurd h
  asked_one now (x ∷ xs) a same (inl h) =
      asked_stays xs (ask a x)
      (or_right a.expired (asked_end a.clock (f x)).expired (ended_asked a.clock (f x) (subst (λ (n : Instant). is_after (f x) n ≡ false) (sym same) h)))
  asked_one now (x ∷ xs) a same (inr h) = asked_one now xs (ask a x) ((asking_end a.clock (f x)).now ∙ same) h

abbrev prefix_end : Prefix → Expiry
prefix_end p = p.valid_until

abbrev router_end : Router → Expiry
router_end r = At r.valid_until

pub due_asked : (s : Slaac) (k : Clock) → s.sync_required ≡ true → (sync_due s k).expired ≡ true
unfolding sync_due
due_asked s k h = asked_stays router_end (routers_of s) _ (asked_stays prefix_end (prefixes_of s) (record { expired = s.sync_required; clock = k }) h)

pub due_prefix : (s : Slaac) (k : Clock) (now : Instant) → k.now ≡ now → Some (λ p. is_after p.valid_until now ≡ false) (prefixes_of s) → (sync_due s k).expired ≡ true
unfolding sync_due
due_prefix s k now same h =
    asked_stays router_end (routers_of s) _ (asked_one prefix_end now (prefixes_of s) (record { expired = s.sync_required; clock = k }) same h)

pub due_router : (s : Slaac) (k : Clock) (now : Instant) → k.now ≡ now → Some (λ r. is_after (At r.valid_until) now ≡ false) (routers_of s) → (sync_due s k).expired ≡ true
unfolding sync_due
due_router s k now same h = asked_one router_end now (routers_of s) first (asked_now prefix_end (prefixes_of s) (record { expired = s.sync_required; clock = k }) ∙ same) h
  where
    first : Answer
    first = fold_over ask_prefix (record { expired = s.sync_required; clock = k }) (prefixes_of s)

pub refused_fine : (why : Refusal) → ◌≡◌ {A = Result (Unit {0}) Refusal} (Err why) (Ok tt) → ⊥
refused_fine why e = let z : ◌≡◌ {A = ℕ} 0 1 = cc in omega arith

-- A poll that is taken, with SLAAC on and the sync due: the tables after it

module _ (hw : HardwareAddress) where
  synced_turn : (s : Slaac) (t : IfaceAddrs) (r : Routes) (i : ℕ) (now : Instant) (k : Clock) (w : Result PollAnswer Refusal) → (sync_due s k).expired ≡ true
      → ((sync_turn s t r i hw now k w).polled.addrs ≡ fold_over (sync_prefix hw now) t (prefixes_of s))
      × ((sync_turn s t r i hw now k w).polled.routes ≡ fold_over (sync_router i now) r (routers_of s))
  unfolding sync_turn sync_addrs sync_routes
  synced_turn s t r i now k w due = (rw due, rw due)

  synced_poll : (x : Result (Unit {0}) Refusal) (s : Slaac) (t : IfaceAddrs) (r : Routes) (i : ℕ) (up : Bool) (buf : List ℕ) (k : Clock) → x ≡ Ok tt → s.on ≡ true
      → ((c : Clock) → c.now ≡ k.now → (sync_due s c).expired ≡ true)
      → ((poll_by x s t r i up hw buf k).polled.addrs ≡ fold_over (sync_prefix hw k.now) t (prefixes_of s))
      × ((poll_by x s t r i up hw buf k).polled.routes ≡ fold_over (sync_router i k.now) r (routers_of s))
  unfolding sync_due
  synced_poll (Err why) s t r i up buf k fine on due = absurd (refused_fine why fine)
  synced_poll (Ok tt) s t r i up buf k fine on due =
      poll_cases (λ q. (q.polled.addrs ≡ fold_over (sync_prefix hw k.now) t (prefixes_of s)) × (q.polled.routes ≡ fold_over (sync_router i k.now) r (routers_of s)))
      s t r i up hw buf k
      (λ e.
      synced_turn (with_discovery s u.discovery) t r i k.now u.clock (Ok u.answer) (due u.clock (turn_forward s.discovery (sender_in up t) buf k).now))
      (λ e. absurd (true≢false (sym on ∙ e)))
    where
      u : Turn
      u = turn_in s t up buf k

  pub synced_step : {i : ℕ} {x y : Host} {now : Instant} → Step i hw x (poll now) y → TakesPoll i now → x.slaac.on ≡ true
      → ((c : Clock) → c.now ≡ now → (sync_due x.slaac c).expired ≡ true)
      → (y.addrs ≡ fold_over (sync_prefix hw now) x.addrs (prefixes_of x.slaac)) × (y.routes ≡ fold_over (sync_router i now) x.routes (routers_of x.slaac))
  synced_step {i} (polled x up buf buf' k k' r p) fine on due =
      let z = synced_poll (time_check k.now i) x.slaac x.addrs x.routes i up buf k fine on due in
      (ap (λ (q : Polled). q.addrs) p.is ∙ z.0, ap (λ (q : Polled). q.routes) p.is ∙ z.1)
  synced_step {i} (polled_at x up buf buf' k r p) fine on due =
      let z = synced_poll (time_check k.now i) x.slaac x.addrs x.routes i up buf k fine on due in
      (ap (λ (q : PolledAt). q.polled.addrs) p.is ∙ z.0, ap (λ (q : PolledAt). q.polled.routes) p.is ∙ z.1)
