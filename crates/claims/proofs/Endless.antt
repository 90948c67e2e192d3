-- Lifetimes of all ones. Assumes nothing.
use Prim.Native.Nat.{ℕ, ◌≤◌, ◌<◌}
use borrow.Author.Tests.{eqb-true, eq-eqb, lt-ltb, ltb-false}
use lib.Dec.{eqb, ltb}
use mathlib.Core.Bool.{Bool, true, false, cond, ◌||◌, not, true≢false}
use mathlib.Core.Path.{◌≡◌, refl, sym, ap}
use native.Mathlib.Omega.{arith}
use Rattle.claims.proofs.Lists.{or_right}
use Rattle.claims.specs.Endless.{Endless}
use Rattle.iface.specs.AddressRules.{put_addr, drop_addr, first_local}
use Rattle.iface.specs.RouteRules.{put_route, drop_route}
use Rattle.slaac.specs.DiscoveryRules.{due as turnDue, sent, solicitation}
use Rattle.slaac.specs.ExpiryRules.{sync_due, leave_expired}
use Rattle.slaac.specs.LearnedRules.{infinite, until_of, is_skipped, add_prefix, expire_prefix, process_prefix_is, add_router, expire_router, process_router_is}
use Rattle.ndisc.specs.OptionWalk.{walked, options_of}
use Rattle.ndisc.specs.Rfc4443Checksum.{checksum_of}
use Rattle.ndisc.specs.declared.ndiscoption.PrefixInformation.{PrefixInformation}
use Rattle.autoconf.specs.PollRules.{turn_of, buffer_of, sync_turn, poll_on}
use Rattle.autoconf.specs.AdvertRules.{step2, last_source}
use Rattle.autoconf.specs.SyncRules.{sync_prefix, sync_router, sync_addrs, sync_routes}
use Rattle.time.specs.TimeRules.{add_of, seconds_of}
use Rattle.time.specs.declared.Expiry.TheVariants.{At, Forever}
use Rattle.time.specs.declared.Expiry.{Expiry}
use Rattle.time.specs.declared.Instant.{Instant}
use Rattle.wire.specs.Rfc2464.{formed_of}
use Rattle.wire.specs.Rfc4291.{is_link_local, is_multicast}

abbrev never : Expiry → Bool
never (At t) = false
never Forever = true

-- only all ones are forever
all_ones : (now : Instant) (s : ℕ) → until_of now s ≡ Forever → s ≡ infinite
all_ones now s h = go (eqb s infinite) refl (ap never h)
  where
    go : (b : Bool) → eqb s infinite ≡ b → never (cond b Forever (At (add_of now (seconds_of s)))) ≡ true → s ≡ infinite
    go true q r = eqb-true s infinite q
    go false q r = absurd (true≢false (sym r))

or_false : (a b : Bool) → (a || b) ≡ false → b ≡ false
or_false true b h = absurd (true≢false h)
or_false false b h = h

-- why else an option is skipped
abbrev otherwise : PrefixInformation → Bool
otherwise o = ((ltb 128 o.prefix_len || not o.addrconf) || is_link_local o.prefix) || is_multicast o.prefix

is_valid : (o : PrefixInformation) (now : Instant) → o.valid_lifetime ≤ infinite → is_skipped o ≡ false → until_of now o.preferred_lifetime ≡ Forever
    → until_of now o.valid_lifetime ≡ Forever
is_valid o now l n h =
    let p = all_ones now o.preferred_lifetime h in
    let q = ltb-false o.valid_lifetime o.preferred_lifetime (or_false (otherwise o) _ n) in
    let e : o.valid_lifetime ≡ infinite = omega arith in
    simp (eq-eqb o.valid_lifetime infinite e)

is_skipped_lem : (o : PrefixInformation) → o.valid_lifetime < infinite → o.preferred_lifetime ≡ infinite → is_skipped o ≡ true
is_skipped_lem o l e = or_right (otherwise o) _ (lt-ltb o.valid_lifetime o.preferred_lifetime (omega arith))

pub endless : Endless
unfolding formed_of walked options_of checksum_of put_addr drop_addr first_local put_route drop_route add_prefix expire_prefix process_prefix_is add_router expire_router process_router_is turnDue sent solicitation sync_due leave_expired step2 last_source sync_prefix sync_router sync_addrs sync_routes turn_of buffer_of sync_turn poll_on
endless = record {
  above = is_valid;
  skipped = is_skipped_lem;
  formed_first = refl;
  no_deadline = refl;
  address_stays = refl;
  prefix_stays = refl;
  no_deadline_still = refl;
  shortened = refl;
  ended = refl;
}
