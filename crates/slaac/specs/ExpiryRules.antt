-- Document 01, "Poll": the times of what was learned. Assumes nothing.
use Rattle.std.specs.Prelude.{Bool, false, ◌||◌, not}
use Rattle.table.specs.Table.{kept, fold_over}
use Rattle.time.specs.declared.Instant.{Instant}
use Rattle.time.specs.declared.Clock.{Clock}
use Rattle.time.specs.declared.Answer.{Answer}
use Rattle.time.specs.declared.Expiry.{Expiry}
use Rattle.time.specs.declared.Expiry.TheVariants.{At}
use Rattle.time.specs.ClockRules.{is_after, asked_end}
use Rattle.slaac.specs.declared.Prefix.{Prefix}
use Rattle.slaac.specs.declared.Router.{Router}
use Rattle.slaac.specs.declared.Slaac.{Slaac}
use Rattle.slaac.specs.Fields.{with_sync}
use Rattle.slaac.specs.LearnedRules.{prefixes_of, routers_of, having_prefixes, having_routers}

-- the clock is asked of one end more
abbrev pub ask_also : Answer → Expiry → Answer
ask_also a e = record { expired = a.expired || (asked_end a.clock e).expired; clock = (asked_end a.clock e).clock }

abbrev pub ask_prefix : Answer → Prefix → Answer
ask_prefix a p = ask_also a p.valid_until

abbrev pub ask_router : Answer → Router → Answer
ask_router a r = ask_also a (At r.valid_until)

-- "Sync follows if asked for, or if any prefix's valid-until or router's time has expired; the clock is first asked of each."
unfoldable pub sync_due : Slaac → Clock → Answer
sync_due s k = fold_over ask_router (fold_over ask_prefix (record { expired = s.sync_required; clock = k }) (prefixes_of s)) (routers_of s)

-- expired: not "Valid (valid-until > now)"
abbrev pub prefix_gone : Instant → Prefix → Bool
prefix_gone now p = not (is_after p.valid_until now)

abbrev pub router_gone : Instant → Router → Bool
router_gone now r = not (is_after (At r.valid_until) now)

-- "Last, expired prefixes and routers leave in order and the request is cleared."
unfoldable pub leave_expired : Instant → Slaac → Slaac
leave_expired now s =
    with_sync (having_routers (having_prefixes s (kept (prefix_gone now) (prefixes_of s))) (kept (router_gone now) (routers_of s))) false
