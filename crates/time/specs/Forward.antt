-- Document 01: "The clock is lent to each part in turn, and each may only bring its deadline forward." Assumes nothing.
use Rattle.std.specs.Prelude.{◌≡◌, false, List, [], ◌∷◌, ◌≤◌, Option, Some, None}
use Rattle.time.specs.declared.Instant.{Instant}
use Rattle.time.specs.declared.Expiry.{Expiry}
use Rattle.time.specs.declared.Clock.{Clock}
use Rattle.time.specs.ClockRules.{scheduled_of, asked_of, asked_end}

-- the first deadline is the second or earlier; no deadline is later than any
abbrev pub NotLater : Option Instant → Option Instant → Type 0
NotLater d None = Unit {0}
NotLater None (Some e) = ⊥
NotLater (Some a) (Some e) = a.0 ≤ e.0

-- whoever had the clock leaves now alone and brings the deadline forward or leaves it
pub record Forward (before after : Clock) : Type 0 where
  pub now : after.now ≡ before.now
  pub deadline : NotLater after.deadline before.deadline

-- what a part does with the clock
pub data Step : Type 0 where
  ask : Instant → Step
  ask_of : Expiry → Step
  schedule : Instant → Step

abbrev pub stepped : Clock → Step → Clock
stepped c (ask t) = (asked_of c t).clock
stepped c (ask_of e) = (asked_end c e).clock
stepped c (schedule t) = scheduled_of c t

unfoldable pub runs : Clock → List Step → Clock
runs c [] = c
runs c (s ∷ ss) = runs (stepped c s) ss

-- the forward law
pub record ForwardLaw : Type 0 where
  -- no sequence of asks and schedules moves a deadline back, or now at all
  pub forward : (c : Clock) (ss : List Step) → Forward c (runs c ss)
  -- a time that was asked and has not come is waited for
  pub covers : (c : Clock) (t : Instant) → (asked_of c t).expired ≡ false → NotLater (asked_of c t).clock.deadline (Some t)
  -- and so is a time that was scheduled
  pub kept : (c : Clock) (t : Instant) → NotLater (scheduled_of c t).deadline (Some t)
