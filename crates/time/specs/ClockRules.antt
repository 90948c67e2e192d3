-- Document 01, "Quantities and sizes": the clock of one poll. Request 2026-01: ends that never come. Assumes nothing.
use Rattle.std.specs.Prelude.{Bool, true, false, cond, ltb, leb, Option, Some, None}
use Rattle.time.specs.declared.Instant.{Instant}
use Rattle.time.specs.declared.Expiry.{Expiry}
use Rattle.time.specs.declared.Expiry.TheVariants.{At as EndsAt, Forever}
use Rattle.time.specs.declared.Clock.{Clock}
use Rattle.time.specs.declared.Answer.{Answer}

-- "The clock of one poll holds now and the earliest deadline so far, or none."
abbrev pub idle : Instant → Clock
idle t = record { now = t; deadline = None }

-- "Asking whether t has expired: yes exactly if t <= now"
abbrev pub has_expired : Clock → Instant → Bool
has_expired c t = leb t.0 c.now.0

-- the earlier of the deadline so far and t
abbrev pub sooner : Option Instant → Instant → Option Instant
sooner None t = Some t
sooner (Some e) t = cond (ltb t.0 e.0) (Some t) (Some e)

-- "t joins the deadline, as scheduling t does"
abbrev pub scheduled_of : Clock → Instant → Clock
scheduled_of c t = record { now = c.now; deadline = sooner c.deadline t }

-- "yes exactly if t <= now; else t joins the deadline"
abbrev pub asked_of : Clock → Instant → Answer
asked_of c t = cond (has_expired c t) (record { expired = true; clock = c }) (record { expired = false; clock = scheduled_of c t })

-- Request 2026-01: "either a moment or forever"

-- the end is still to come
abbrev pub is_after : Expiry → Instant → Bool
is_after (EndsAt t) now = ltb now.0 t.0
is_after Forever now = true

-- "Forever never expires and adds no deadline"
abbrev pub asked_end : Clock → Expiry → Answer
asked_end c (EndsAt t) = asked_of c t
asked_end c Forever = record { expired = false; clock = c }
