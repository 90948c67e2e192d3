-- Where a poll's deadline comes from. Assumes nothing.
use Prim.Native.Nat.{◌-◌, ◌<◌}
use borrow.Author.Tests.{eqb-false, leb-false, lt-ltb}
use lib.Dec.{leb, eqb}
use mathlib.Core.Bool.{Bool, true, false, cond, not, true≢false}
use mathlib.Core.List.{List, [], ◌∷◌, ◌++◌}
use mathlib.Core.Logic.{◌⊎◌, inl, inr}
use mathlib.Core.Path.{◌≡◌, refl, sym, ap, ◌∙◌, subst}
use native.Mathlib.Omega.{arith}
use Rattle.std.specs.Prelude.{Option, None, Some as Just}
use Rattle.claims.proofs.Covers.{Covered, ask, prefix_end, router_end, unasked, asked_prefixes, asked_all, asked_now}
use Rattle.claims.proofs.Lists.{all_append, some_after, some_append, some_kept}
use Rattle.claims.proofs.WakeTable.{sooner_one}
use Rattle.claims.specs.Lists.{All, Some, Member}
use Rattle.claims.specs.Wake.{already, IsEarliest}
use Rattle.claims.specs.WakePoll.{end_of, ends_of, retry_of, retry_from}
use Rattle.slaac.specs.DiscoveryRules.{due_phase, due, retry_at, sent, solicitation}
use Rattle.slaac.specs.LearnedRules.{prefixes_of, routers_of}
use Rattle.slaac.specs.declared.Discovery.{Discovery}
use Rattle.slaac.specs.declared.Phase.TheVariants.{Start, Discovering, Maintaining}
use Rattle.slaac.specs.declared.Phase.{Phase}
use Rattle.slaac.specs.declared.Slaac.{Slaac}
use Rattle.slaac.specs.declared.Solicitation.{Solicitation}
use Rattle.autoconf.specs.PollRules.{solicit_from}
use Rattle.table.specs.Table.{kept, fold_over}
use Rattle.time.proofs.Forward.{asking_end}
use Rattle.time.specs.ClockRules.{sooner, scheduled_of, asked_end, is_after}
use Rattle.time.specs.Forward.{NotLater}
use Rattle.time.specs.declared.Answer.{Answer}
use Rattle.time.specs.declared.Clock.{Clock}
use Rattle.time.specs.declared.Expiry.TheVariants.{At as EndsAt, Forever}
use Rattle.time.specs.declared.Expiry.{Expiry}
use Rattle.time.specs.declared.Instant.{Instant}
use Rattle.wire.specs.declared.ipv6.Ipv6Addr.{Ipv6Addr}

-- a deadline is one of the times, if it is at all
abbrev pub InTimes : Option Instant → List Instant → Type 0
InTimes None times = Unit {0}
InTimes (Just t) times = Member t times

pub earliest : (d : Option Instant) (times : List Instant) → InTimes d times → All (λ t. NotLater d (Just t)) times → IsEarliest d times
earliest None [] m h = refl
earliest None (t ∷ times) m h = absurd h.0
earliest (Just d) times m h = (m, h)

in_right : (d : Option Instant) (xs ys : List Instant) → InTimes d ys → InTimes d (xs ++ ys)
in_right None xs ys m = tt
in_right (Just t) xs ys m = some_after (λ y. y ≡ t) xs ys m

in_left : (d : Option Instant) (xs ys : List Instant) → InTimes d xs → InTimes d (xs ++ ys)
in_left None xs ys m = tt
in_left (Just t) xs ys m = some_append (λ y. y ≡ t) xs ys m

in_own : (d : Option Instant) → InTimes d (already d)
in_own None = tt
in_own (Just t) = inl refl

in_already : (d base : Option Instant) (xs : List Instant) → d ≡ base → InTimes d (already base ++ xs)
in_already d base xs q = subst (λ (b : Option Instant). InTimes d (already b ++ xs)) q (in_left d (already d) xs (in_own d))

pub own_not_later : (d base : Option Instant) → NotLater d base → All (λ t. NotLater d (Just t)) (already base)
own_not_later d None h = tt
own_not_later d (Just b) h = (h, tt)

-- an end that was asked joins the deadline, or leaves it
pub record Ends {A : Type 0} (f : A → Expiry) (now : Instant) (xs : List A) (d : Option Instant) : Type 0 where
  pub time : Instant
  pub is : d ≡ Just time
  pub later : now.0 < time.0
  pub somewhere : Some (λ x. f x ≡ EndsAt time) xs

record EndsOne (e : Expiry) (now : Instant) (d : Option Instant) : Type 0 where
  time : Instant
  is : d ≡ Just time
  later : now.0 < time.0
  end : e ≡ EndsAt time

one_joins : (c : Clock) (e : Expiry) → ((asked_end c e).clock.deadline ≡ c.deadline) ⊎ EndsOne e c.now (asked_end c e).clock.deadline
one_joins c Forever = inl refl
one_joins c (EndsAt t) = go (leb t.0 c.now.0) refl
  where
    by : Bool → Answer
    by x = cond x (record { expired = true; clock = c }) (record { expired = false; clock = scheduled_of c t })

    joins : (sooner c.deadline t ≡ c.deadline) ⊎ (sooner c.deadline t ≡ Just t) → c.now.0 < t.0
        → (sooner c.deadline t ≡ c.deadline) ⊎ EndsOne (EndsAt t) c.now (sooner c.deadline t)
    joins (inl q) l = inl q
    joins (inr q) l = inr (record { time = t; is = q; later = l; end = refl })

    go : (x : Bool) → leb t.0 c.now.0 ≡ x → ((by x).clock.deadline ≡ c.deadline) ⊎ EndsOne (EndsAt t) c.now (by x).clock.deadline
    go true q = inl refl
    go false q = joins (sooner_one c.deadline t) (leb-false t.0 c.now.0 q)

module _ {A : Type 0} (f : A → Expiry) where
  all_join : (now : Instant) (a : Answer) (xs : List A) → a.clock.now ≡ now
      → ((fold_over (ask f) a xs).clock.deadline ≡ a.clock.deadline) ⊎ Ends f now xs (fold_over (ask f) a xs).clock.deadline
  all_join now a [] same = inl refl
  all_join now a (x ∷ xs) same = go (subst (λ (n : Instant). ((ask f a x).clock.deadline ≡ a.clock.deadline) ⊎ EndsOne (f x) n (ask f a x).clock.deadline) same (one_joins a.clock (f x)))
      (all_join now (ask f a x) xs ((asking_end a.clock (f x)).now ∙ same))
    where
      go : ((ask f a x).clock.deadline ≡ a.clock.deadline) ⊎ EndsOne (f x) now (ask f a x).clock.deadline
          → ((fold_over (ask f) (ask f a x) xs).clock.deadline ≡ (ask f a x).clock.deadline) ⊎ Ends f now xs (fold_over (ask f) (ask f a x) xs).clock.deadline
          → ((fold_over (ask f) (ask f a x) xs).clock.deadline ≡ a.clock.deadline) ⊎ Ends f now (x ∷ xs) (fold_over (ask f) (ask f a x) xs).clock.deadline
      go p (inr w) = inr (record { time = w.time; is = w.is; later = w.later; somewhere = inr w.somewhere })
      go (inl p) (inl q) = inl (q ∙ p)
      go (inr w) (inl q) = inr (record { time = w.time; is = q ∙ w.is; later = w.later; somewhere = inl w.end })

  member_ends : (t : Instant) (xs : List A) → Some (λ x. f x ≡ EndsAt t) xs → Member t (ends_of f xs)
  member_ends t [] w = absurd w
  member_ends t (x ∷ xs) (inl q) = some_append (λ y. y ≡ t) (end_of (f x)) (ends_of f xs) (subst (λ (e : Expiry). Member t (end_of e)) (sym q) (inl refl))
  member_ends t (x ∷ xs) (inr w) = some_after (λ y. y ≡ t) (end_of (f x)) (ends_of f xs) (member_ends t xs w)

  pub in_ends : (now : Instant) (xs : List A) (d : Option Instant) → Ends f now xs d → InTimes d (ends_of f xs)
  in_ends now xs d w = subst (λ (y : Option Instant). InTimes y (ends_of f xs)) (sym w.is) (member_ends w.time xs w.somewhere)

  pub ends_not_later : (d : Option Instant) (xs : List A) → All (λ x. Covered d (f x)) xs → All (λ t. NotLater d (Just t)) (ends_of f xs)
  ends_not_later d [] h = tt
  ends_not_later d (x ∷ xs) h = all_append (λ t. NotLater d (Just t)) (end_of (f x)) (ends_of f xs) (go (f x) h.0) (ends_not_later d xs h.1)
    where
      go : (e : Expiry) → Covered d e → All (λ t. NotLater d (Just t)) (end_of e)
      go (EndsAt t) c = (c, tt)
      go Forever c = tt

  pub ends_kept : (now : Instant) (xs : List A) (d : Option Instant) → Ends f now xs d → Ends f now (kept (λ x. not (is_after (f x) now)) xs) d
  ends_kept now xs d w =
      record {
        time = w.time;
        is = w.is;
        later = w.later;
        somewhere =
            some_kept (λ x. f x ≡ EndsAt w.time) (λ x. f x ≡ EndsAt w.time) (λ x. not (is_after (f x) now))
            (λ x q. (ap (λ (e : Expiry). not (is_after e now)) q ∙ ap not (lt-ltb now.0 w.time.0 w.later), q)) xs w.somewhere;
      }

-- the times of a poll, by where the deadline came from
module _ (base : Option Instant) (retry prefixes routers : List Instant) where
  abbrev pub together : List Instant
  together = already base ++ (retry ++ (prefixes ++ routers))

  by_turn : (d : Option Instant) → (d ≡ base) ⊎ InTimes d retry → InTimes d together
  by_turn d (inl q) = in_already d base (retry ++ (prefixes ++ routers)) q
  by_turn d (inr m) = in_right d (already base) (retry ++ (prefixes ++ routers)) (in_left d retry (prefixes ++ routers) m)

  by_prefix : (d : Option Instant) → InTimes d prefixes → InTimes d together
  by_prefix d m = in_right d (already base) (retry ++ (prefixes ++ routers)) (in_right d retry (prefixes ++ routers) (in_left d prefixes routers m))

  by_router : (d : Option Instant) → InTimes d routers → InTimes d together
  by_router d m = in_right d (already base) (retry ++ (prefixes ++ routers)) (in_right d retry (prefixes ++ routers) (in_right d prefixes routers m))

-- the solicitation's part
asked_joins : (c : Clock) (t : Instant) → (sooner c.deadline t ≡ c.deadline) ⊎ InTimes (sooner c.deadline t) (t ∷ [])
asked_joins c t = go (sooner_one c.deadline t)
  where
    go : (sooner c.deadline t ≡ c.deadline) ⊎ (sooner c.deadline t ≡ Just t) → (sooner c.deadline t ≡ c.deadline) ⊎ InTimes (sooner c.deadline t) (t ∷ [])
    go (inl q) = inl q
    go (inr q) = inr (subst (λ (d : Option Instant). InTimes d (t ∷ [])) (sym q) (inl refl))

phase_joins : (p : Phase) (c : Clock) → ((due_phase p c).clock.deadline ≡ c.deadline) ⊎ InTimes (due_phase p c).clock.deadline (retry_of p)
phase_joins Start c = inl refl
phase_joins (Discovering t) c = go (leb t.0 c.now.0)
  where
    by : Bool → Answer
    by x = cond x (record { expired = true; clock = c }) (record { expired = false; clock = scheduled_of c t })

    go : (x : Bool) → ((by x).clock.deadline ≡ c.deadline) ⊎ InTimes (by x).clock.deadline (t ∷ [])
    go true = inl refl
    go false = asked_joins c t
phase_joins Maintaining c = inl refl

-- one that has come leaves the clock alone
phase_came : (p : Phase) (c : Clock) → (due_phase p c).expired ≡ true → (due_phase p c).clock.deadline ≡ c.deadline
phase_came Start c h = refl
phase_came (Discovering t) c h = go (leb t.0 c.now.0) h
  where
    by : Bool → Answer
    by x = cond x (record { expired = true; clock = c }) (record { expired = false; clock = scheduled_of c t })

    go : (x : Bool) → (by x).expired ≡ true → (by x).clock.deadline ≡ c.deadline
    go true q = refl
    go false q = absurd (true≢false (sym q))
phase_came Maintaining c h = refl

module _ (v : Discovery) (c : Clock) where
  abbrev due_by : Bool → Answer
  due_by x = cond x (record { expired = false; clock = c }) (due_phase v.phase c)

  due_joins : ((due v c).clock.deadline ≡ c.deadline) ⊎ InTimes (due v c).clock.deadline (cond (eqb v.num_solicitations 0) [] (retry_of v.phase))
  unfolding due
  due_joins = go (eqb v.num_solicitations 0)
    where
      go : (x : Bool) → ((due_by x).clock.deadline ≡ c.deadline) ⊎ InTimes (due_by x).clock.deadline (cond x [] (retry_of v.phase))
      go true = inl refl
      go false = phase_joins v.phase c

  due_came : (due v c).expired ≡ true → (due v c).clock.deadline ≡ c.deadline
  unfolding due
  due_came h = go (eqb v.num_solicitations 0) h
    where
      go : (x : Bool) → (due_by x).expired ≡ true → (due_by x).clock.deadline ≡ c.deadline
      go true q = refl
      go false q = phase_came v.phase c q

sent_joins : (v : Discovery) (c : Clock)
    → ((sent v c).clock.deadline ≡ c.deadline) ⊎ InTimes (sent v c).clock.deadline (cond (eqb (sent v c).discovery.num_solicitations 0) [] (retry_of (sent v c).discovery.phase))
unfolding sent
sent_joins v c = go (eqb (v.num_solicitations - 1) 0)
  where
    go : (x : Bool) → ((cond x c (scheduled_of c (retry_at c))).deadline ≡ c.deadline) ⊎ InTimes (cond x c (scheduled_of c (retry_at c))).deadline (cond x [] (retry_at c ∷ []))
    go true = inl refl
    go false = asked_joins c (retry_at c)

solicit_joins : (v : Discovery) (c : Clock)
    → ((solicitation v c).clock.deadline ≡ c.deadline)
    ⊎ InTimes (solicitation v c).clock.deadline (cond (eqb (solicitation v c).discovery.num_solicitations 0) [] (retry_of (solicitation v c).discovery.phase))
unfolding solicitation
solicit_joins v c = go (due v c).expired refl
  where
    by : Bool → Solicitation
    by x = cond x (sent v (due v c).clock) (record { due = false; discovery = v; clock = (due v c).clock })

    from : (times : List Instant) → (due v c).clock.deadline ≡ c.deadline → ((sent v (due v c).clock).clock.deadline ≡ (due v c).clock.deadline) ⊎ InTimes (sent v (due v c).clock).clock.deadline times
        → ((sent v (due v c).clock).clock.deadline ≡ c.deadline) ⊎ InTimes (sent v (due v c).clock).clock.deadline times
    from times p (inl q) = inl (q ∙ p)
    from times p (inr m) = inr m

    go : (x : Bool) → (due v c).expired ≡ x
        → ((by x).clock.deadline ≡ c.deadline) ⊎ InTimes (by x).clock.deadline (cond (eqb (by x).discovery.num_solicitations 0) [] (retry_of (by x).discovery.phase))
    go true q = from _ (due_came v c q) (sent_joins v (due v c).clock)
    go false q = due_joins v c

pub turn_joins : (sender : Option Ipv6Addr) (v : Discovery) (c : Clock)
    → ((solicit_from sender v c).clock.deadline ≡ c.deadline) ⊎ InTimes (solicit_from sender v c).clock.deadline (retry_from sender (solicit_from sender v c).discovery)
turn_joins None v c = inl refl
turn_joins (Just a) v c = solicit_joins v c

pub retry_not_later : (sender : Option Ipv6Addr) (v : Discovery) (d : Option Instant)
    → ((source : Ipv6Addr) (retry : Instant) → sender ≡ Just source → v.phase ≡ Discovering retry → 0 < v.num_solicitations → NotLater d (Just retry))
    → All (λ t. NotLater d (Just t)) (retry_from sender v)
retry_not_later None v d f = tt
retry_not_later (Just a) v d f = go (eqb v.num_solicitations 0) refl v.phase refl
  where
    go : (x : Bool) → eqb v.num_solicitations 0 ≡ x → (p : Phase) → v.phase ≡ p → All (λ t. NotLater d (Just t)) (cond x [] (retry_of p))
    go true q p e = tt
    go false q Start e = tt
    go false q (Discovering t) e = (f a t refl e (omega (arith, eqb-false v.num_solicitations 0 q)), tt)
    go false q Maintaining e = tt

-- the deadline after the asks, with what is left of the tables
pub asks_join : (s : Slaac) (k : Clock) (now : Instant) → k.now ≡ now → (base : Option Instant) (retry : List Instant) → (k.deadline ≡ base) ⊎ InTimes k.deadline retry
    → (prefixes routers : List Instant) → ((d : Option Instant) → Ends prefix_end now (prefixes_of s) d → InTimes d prefixes) → ((d : Option Instant) → Ends router_end now (routers_of s) d → InTimes d routers)
    → InTimes (asked_all s k).clock.deadline (together base retry prefixes routers)
asks_join s k now same base retry from prefixes routers of-prefix of-router =
    go (all_join router_end now (asked_prefixes s k) (routers_of s) (asked_now s k ∙ same)) (all_join prefix_end now (unasked s k) (prefixes_of s) same)
  where
    d : Option Instant
    d = (asked_all s k).clock.deadline

    go : (d ≡ (asked_prefixes s k).clock.deadline) ⊎ Ends router_end now (routers_of s) d
        → ((asked_prefixes s k).clock.deadline ≡ k.deadline) ⊎ Ends prefix_end now (prefixes_of s) (asked_prefixes s k).clock.deadline
        → InTimes d (together base retry prefixes routers)
    go (inr w) p = by_router base retry prefixes routers d (of-router d w)
    go (inl q) (inr w) =
        subst (λ (x : Option Instant). InTimes x (together base retry prefixes routers)) (sym q)
        (by_prefix base retry prefixes routers (asked_prefixes s k).clock.deadline (of-prefix (asked_prefixes s k).clock.deadline w))
    go (inl q) (inl p) = subst (λ (x : Option Instant). InTimes x (together base retry prefixes routers)) (sym (q ∙ p)) (by_turn base retry prefixes routers k.deadline from)
