-- A deadline covers the times that the clock was asked of. Assumes nothing.
use borrow.Author.Tests.{lt-leb, ltb-true}
use mathlib.Core.Bool.{true}
use mathlib.Core.List.{List, [], ◌∷◌}
use mathlib.Core.Path.{◌≡◌, refl, sym, ◌∙◌, subst}
use Rattle.std.specs.Prelude.{Option, Some}
use Rattle.slaac.specs.ExpiryRules.{ask_also, ask_prefix, ask_router}
use Rattle.slaac.specs.LearnedRules.{prefixes_of, routers_of}
use Rattle.slaac.specs.declared.Prefix.{Prefix}
use Rattle.slaac.specs.declared.Router.{Router}
use Rattle.slaac.specs.declared.Slaac.{Slaac}
use Rattle.table.specs.Table.{fold_over}
use Rattle.time.proofs.Forward.{after, unmoved, then, asking_end, forward_law}
use Rattle.time.specs.ClockRules.{asked_end, is_after}
use Rattle.time.specs.Forward.{NotLater, Forward}
use Rattle.time.specs.declared.Answer.{Answer}
use Rattle.time.specs.declared.Clock.{Clock}
use Rattle.time.specs.declared.Expiry.TheVariants.{At as EndsAt, Forever}
use Rattle.time.specs.declared.Expiry.{Expiry}
use Rattle.time.specs.declared.Instant.{Instant}
use Rattle.claims.proofs.Lists.{all_weaken}
use Rattle.claims.specs.Lists.{All}

-- One end

abbrev pub Covered : Option Instant → Expiry → Type 0
Covered d (EndsAt t) = NotLater d (Some t)
Covered d Forever = Unit {0}

covered_sooner : (a b : Option Instant) (e : Expiry) → NotLater a b → Covered b e → Covered a e
covered_sooner a b (EndsAt t) h c = after a b (Some t) h c
covered_sooner a b Forever h c = tt

asked_covers : (c : Clock) (e : Expiry) → is_after e c.now ≡ true → Covered (asked_end c e).clock.deadline e
asked_covers c (EndsAt t) h = forward_law.covers c t (rw (lt-leb t.0 c.now.0 (ltb-true c.now.0 t.0 h)))
asked_covers c Forever h = tt

-- Many ends

module _ {A : Type 0} (f : A → Expiry) where
  abbrev pub ask : Answer → A → Answer
  ask a x = ask_also a (f x)

  pub fold_forward : (a : Answer) (xs : List A) → Forward a.clock (fold_over ask a xs).clock
  fold_forward a [] = unmoved a.clock
  fold_forward a (x ∷ xs) = then a.clock (ask a x).clock (fold_over ask (ask a x) xs).clock (asking_end a.clock (f x)) (fold_forward (ask a x) xs)

  fold_covers : (now : Instant) (a : Answer) (xs : List A) → a.clock.now ≡ now → All (λ x. is_after (f x) now ≡ true → Covered (fold_over ask a xs).clock.deadline (f x)) xs
  fold_covers now a [] same = tt
  fold_covers now a (x ∷ xs) same = (
    λ h. covered_sooner (fold_over ask (ask a x) xs).clock.deadline (ask a x).clock.deadline (f x) (fold_forward (ask a x) xs).deadline
        (asked_covers a.clock (f x) (subst (λ (n : Instant). is_after (f x) n ≡ true) (sym same) h)),
    fold_covers now (ask a x) xs ((asking_end a.clock (f x)).now ∙ same),
  )

-- The ends of SLAAC

abbrev pub prefix_end : Prefix → Expiry
prefix_end p = p.valid_until

abbrev pub router_end : Router → Expiry
router_end r = EndsAt r.valid_until

module _ (s : Slaac) (k : Clock) where
  abbrev pub unasked : Answer
  unasked = record { expired = s.sync_required; clock = k }

  abbrev pub asked_prefixes : Answer
  asked_prefixes = fold_over ask_prefix unasked (prefixes_of s)

  abbrev pub asked_all : Answer
  asked_all = fold_over ask_router asked_prefixes (routers_of s)

  pub asked_now : asked_prefixes.clock.now ≡ k.now
  asked_now = (fold_forward prefix_end unasked (prefixes_of s)).now

  pub prefix_covers : All (λ p. is_after (prefix_end p) k.now ≡ true → Covered asked_all.clock.deadline (prefix_end p)) (prefixes_of s)
  prefix_covers =
      all_weaken (λ p. is_after (prefix_end p) k.now ≡ true → Covered asked_prefixes.clock.deadline (prefix_end p))
      (λ p. is_after (prefix_end p) k.now ≡ true → Covered asked_all.clock.deadline (prefix_end p))
      (λ p g h. covered_sooner asked_all.clock.deadline asked_prefixes.clock.deadline (prefix_end p) (fold_forward router_end asked_prefixes (routers_of s)).deadline (g h))
      (prefixes_of s) (fold_covers prefix_end k.now unasked (prefixes_of s) refl)

  pub router_covers : All (λ r. is_after (router_end r) k.now ≡ true → Covered asked_all.clock.deadline (router_end r)) (routers_of s)
  router_covers = fold_covers router_end k.now asked_prefixes (routers_of s) asked_now
