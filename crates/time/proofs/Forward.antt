-- The forward law of the clock. Assumes nothing.
use mathlib.Core.Path.{◌≡◌, refl, ◌∙◌}
use native.Mathlib.Omega.{arith}
use mathlib.Core.Bool.{Bool, true, false, cond, true≢false}
use mathlib.Core.List.{List, [], ◌∷◌}
use lib.Dec.{ltb}
use borrow.Author.Tests.{ltb-true, ltb-false}
use Rattle.std.specs.Prelude.{Option, Some, None}
use Rattle.time.specs.declared.Instant.{Instant}
use Rattle.time.specs.declared.Expiry.{Expiry}
use Rattle.time.specs.declared.Expiry.TheVariants.{At as EndsAt, Forever}
use Rattle.time.specs.declared.Clock.{Clock}
use Rattle.time.specs.declared.Answer.{Answer}
use Rattle.time.specs.ClockRules.{has_expired, sooner, scheduled_of, asked_of, asked_end}
use Rattle.time.specs.Forward.{NotLater, Forward, Step, ask, ask_of, schedule, stepped, runs, ForwardLaw}

pub same : (d : Option Instant) → NotLater d d
same None = tt
same (Some e) = omega arith

pub after : (a b c : Option Instant) → NotLater a b → NotLater b c → NotLater a c
after a b None p q = tt
after a None (Some z) p q = absurd q
after None (Some y) (Some z) p q = absurd p
after (Some x) (Some y) (Some z) p q = omega arith

-- whoever changes nothing, and one after the other
pub unmoved : (c : Clock) → Forward c c
unmoved c = record { now = refl; deadline = same c.deadline }

pub then : (a b c : Clock) → Forward a b → Forward b c → Forward a c
then a b c p q = record { now = q.now ∙ p.now; deadline = after c.deadline b.deadline a.deadline q.deadline p.deadline }

-- the earlier of two, by the test
picks : (b : Bool) (t e : Instant) → ltb t.0 e.0 ≡ b → NotLater (cond b (Some t) (Some e)) (Some e) × NotLater (cond b (Some t) (Some e)) (Some t)
picks true t e h = (omega (arith, ltb-true), omega arith)
picks false t e h = (omega arith, omega (arith, ltb-false))

sooner_forward : (d : Option Instant) (t : Instant) → NotLater (sooner d t) d × NotLater (sooner d t) (Some t)
sooner_forward None t = (tt, omega arith)
sooner_forward (Some e) t = picks (ltb t.0 e.0) t e refl

pub scheduling : (c : Clock) (t : Instant) → Forward c (scheduled_of c t)
scheduling c t = record { now = refl; deadline = (sooner_forward c.deadline t).0 }

-- an ask, by whether the time has come
abbrev answered : Bool → Clock → Instant → Answer
answered b c t = cond b (record { expired = true; clock = c }) (record { expired = false; clock = scheduled_of c t })

asks : (b : Bool) (c : Clock) (t : Instant) → Forward c (answered b c t).clock
asks true c t = unmoved c
asks false c t = scheduling c t

pub asking : (c : Clock) (t : Instant) → Forward c (asked_of c t).clock
asking c t = asks (has_expired c t) c t

pub asking_end : (c : Clock) (e : Expiry) → Forward c (asked_end c e).clock
asking_end c (EndsAt t) = asking c t
asking_end c Forever = unmoved c

waited : (b : Bool) (c : Clock) (t : Instant) → (answered b c t).expired ≡ false → NotLater (answered b c t).clock.deadline (Some t)
waited true c t h = absurd (true≢false h)
waited false c t h = (sooner_forward c.deadline t).1

step : (c : Clock) (s : Step) → Forward c (stepped c s)
step c (ask t) = asking c t
step c (ask_of e) = asking_end c e
step c (schedule t) = scheduling c t

all : (c : Clock) (ss : List Step) → Forward c (runs c ss)
unfolding runs
all c [] = unmoved c
all c (s ∷ ss) = then c (stepped c s) (runs (stepped c s) ss) (step c s) (all (stepped c s) ss)

pub forward_law : ForwardLaw
forward_law =
    record {
      forward = all;
      covers = λ c t. waited (has_expired c t) c t;
      kept = λ c t. (sooner_forward c.deadline t).1;
    }
