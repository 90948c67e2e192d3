-- Request 2026-01: "Forever never expires and adds no deadline; preferred forever is never above valid forever, and a finite valid lifetime with
-- an infinite preferred one is still skipped." Assumes nothing.
use Rattle.std.specs.Prelude.{ℕ, ◌≤◌, ◌<◌, ◌≡◌, true, false, [], ◌∷◌, ◌++◌, replicate, None}
use Rattle.time.specs.declared.Instant.{Instant}
use Rattle.time.specs.declared.Expiry.TheVariants.{Forever}
use Rattle.time.specs.ClockRules.{idle}
use Rattle.ndisc.specs.declared.ndiscoption.PrefixInformation.{PrefixInformation}
use Rattle.ndisc.specs.OptionCalls.{prefix_bytes}
use Rattle.iface.specs.declared.addr.IfaceAddrs.{IfaceAddrs}
use Rattle.iface.specs.declared.addr.Preferred.TheVariants.{Until}
use Rattle.iface.specs.AddressRules.{addrs_of, empty_addrs, slaac_addr}
use Rattle.iface.specs.RouteRules.{empty_routes}
use Rattle.slaac.specs.declared.Slaac.{Slaac}
use Rattle.slaac.specs.LearnedRules.{prefixes_of, is_skipped, infinite, prefix_of}
use Rattle.slaac.specs.DiscoveryRules.{fresh}
use Rattle.autoconf.specs.declared.PolledAt.{PolledAt}
use Rattle.wire.specs.Refusals.{time_check}
use Rattle.autoconf.specs.PollRules.{poll_by}
use Rattle.claims.specs.Traces.{ms}
use Rattle.claims.specs.Examples.{mac, network, formed, offer, entry, hears}

-- an advertisement with router lifetime 0 and one prefix option, on interface 0
abbrev pub offered : Slaac → PrefixInformation → ℕ → Slaac
offered s o now = (hears s ((0x86 ∷ replicate 15 0) ++ prefix_bytes o) now).slaac

-- a poll there, with a clock that nobody waits on
abbrev pub polled_at : Slaac → IfaceAddrs → ℕ → PolledAt
polled_at s t now = poll_by (time_check (ms now) 0) s t empty_routes 0 true mac [] (idle (ms now))

-- all ones for both lifetimes, and a poll; and one at 2^62, the last time that is not refused
abbrev pub first : PolledAt
first = polled_at (offered (fresh true) (offer network infinite infinite) 0) empty_addrs 0

abbrev pub last : PolledAt
last = polled_at first.polled.slaac first.polled.addrs 0x4000_0000_0000_0000

pub record Endless : Type 0 where
  -- an option that is taken, and preferred forever, is valid forever
  pub above : (o : PrefixInformation) (now : Instant) → o.valid_lifetime ≤ infinite → is_skipped o ≡ false → (prefix_of o now).preferred_until ≡ Forever
      → (prefix_of o now).valid_until ≡ Forever
  -- a finite valid lifetime with an infinite preferred one
  pub skipped : (o : PrefixInformation) → o.valid_lifetime < infinite → o.preferred_lifetime ≡ infinite → is_skipped o ≡ true
  -- the address is formed, and neither poll leaves a deadline
  pub formed_first : addrs_of first.polled.addrs ≡ slaac_addr formed (Until Forever) ∷ []
  pub no_deadline : first.clock.deadline ≡ None
  -- at the last time both stand
  pub address_stays : addrs_of last.polled.addrs ≡ slaac_addr formed (Until Forever) ∷ []
  pub prefix_stays : prefixes_of last.polled.slaac ≡ record { cidr = network; preferred_until = Forever; valid_until = Forever } ∷ []
  pub no_deadline_still : last.clock.deadline ≡ None
  -- advertised again with 5 seconds, or with 0, it takes that
  pub shortened : prefixes_of (offered first.polled.slaac (offer network 5 5) 1000) ≡ entry network 6000 6000 ∷ []
  pub ended : prefixes_of (offered first.polled.slaac (offer network 0 0) 1000) ≡ entry network 1000 1000 ∷ []
