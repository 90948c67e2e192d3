-- Laws of router discovery.
use Prim.Native.Nat.{◌-◌, ◌<◌}
use borrow.Author.Tests.{eq-eqb, ne_eqb, eqb-false}
use lib.Dec.{eqb}
use mathlib.Core.Bool.{Bool, true, false, cond, true≢false}
use mathlib.Core.Path.{◌≡◌, refl, ap, ap₂, sym, ◌∙◌}
use native.Mathlib.Omega.{arith}
use Rattle.slaac.specs.DiscoveryRules.{due_phase, due, retry_at, sent, solicitation}
use Rattle.slaac.specs.declared.Discovery.{Discovery}
use Rattle.slaac.specs.declared.Phase.TheVariants.{Discovering}
use Rattle.slaac.specs.declared.Phase.{Phase}
use Rattle.slaac.specs.declared.Solicitation.{Solicitation}
use Rattle.time.specs.ClockRules.{scheduled_of}
use Rattle.time.specs.declared.Answer.{Answer}
use Rattle.time.specs.declared.Clock.{Clock}
use Rattle.time.specs.declared.Instant.{Instant}

module _ (d : Discovery) (k : Clock) where
  pub due_none : d.num_solicitations ≡ 0 → ◌≡◌ {A = Answer} (record { expired = false; clock = k }) (due d k)
  unfolding due
  due_none e = simp (eq-eqb d.num_solicitations 0 e)

  pub due_phase_lem : (p : Phase) (r : Answer) → (d.num_solicitations ≡ 0 → ⊥) → d.phase ≡ p → r ≡ due_phase p k → r ≡ due d k
  unfolding due
  due_phase_lem p r h e f = simp (ne_eqb d.num_solicitations 0 h) (f ∙ ap (λ (q : Phase). due_phase q k) (sym e))

  -- one that is due is left
  pub due_left : (due d k).expired ≡ true → 0 < d.num_solicitations
  unfolding due
  due_left h = go (eqb d.num_solicitations 0) refl h
    where
      go : (b : Bool) → eqb d.num_solicitations 0 ≡ b
          → (cond {A = Answer} b (record { expired = false; clock = k }) (due_phase d.phase k)).expired ≡ true → 0 < d.num_solicitations
      go true e g = absurd (true≢false (sym g))
      go false e g = omega (arith, eqb-false)

  abbrev pub sent_to : Instant → Clock → Solicitation
  sent_to u j = record { due = true; discovery = record { phase = Discovering u; num_solicitations = d.num_solicitations - 1 }; clock = j }

  pub sent_last : (u : Instant) → u ≡ retry_at k → d.num_solicitations - 1 ≡ 0 → sent_to u k ≡ sent d k
  unfolding sent
  sent_last u e h = simp (eq-eqb (d.num_solicitations - 1) 0 h, e)

  pub sent_more : (u : Instant) (j : Clock) → u ≡ retry_at k → (d.num_solicitations - 1 ≡ 0 → ⊥) → j ≡ scheduled_of k u → sent_to u j ≡ sent d k
  unfolding sent
  sent_more u j e h f =
      simp (ne_eqb (d.num_solicitations - 1) 0 h)
      (ap₂ (λ (x : Instant) (y : Clock). sent_to x y) e (f ∙ ap (λ (x : Instant). scheduled_of k x) e))

  module _ (q : Answer) (g : q ≡ due d k) where
    answered : (b : Bool) → q.expired ≡ b → (due d k).expired ≡ b
    answered b h = ap (λ (x : Answer). x.expired) (sym g) ∙ h

    pub asked_left : q.expired ≡ true → 0 < d.num_solicitations
    asked_left h = due_left (answered true h)

    pub turn_sent : (t : Solicitation) → q.expired ≡ true → t ≡ sent d q.clock → t ≡ solicitation d k
    unfolding solicitation
    turn_sent t h m = simp (answered true h) (m ∙ ap (λ (x : Answer). sent d x.clock) g)

    pub turn_early : q.expired ≡ false → ◌≡◌ {A = Solicitation} (record { due = false; discovery = d; clock = q.clock }) (solicitation d k)
    unfolding solicitation
    turn_early h = simp (answered false h) (ap (λ (x : Answer). record { due = false; discovery = d; clock = x.clock }) g)
