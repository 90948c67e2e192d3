-- The other side of "an address gone early": a SLAAC address has a prefix, it leaves when its time has come, and what an advertisement offers
-- becomes an address at the next poll, with other calls between. Assumes nothing.
use Rattle.std.specs.Prelude.{ℕ, ◌+◌, ◌≤◌, ◌<◌, ◌≡◌, Bool, true, false, ◌||◌, List, [], ◌∷◌, ◌++◌, ◌⊎◌, length, ltb}
use Rattle.table.specs.Table.{any_of, fold_over}
use Rattle.time.specs.declared.Instant.{Instant}
use Rattle.time.specs.ClockRules.{is_after}
use Rattle.wire.specs.declared.ipv6.Ipv6Addr.{Ipv6Addr}
use Rattle.wire.specs.declared.ipv6.Ipv6Cidr.{Ipv6Cidr}
use Rattle.wire.specs.declared.ipv6.Formed.TheVariants.{Addr}
use Rattle.wire.specs.declared.ethernet.HardwareAddress.{HardwareAddress}
use Rattle.wire.specs.Refusals.{time_check}
use Rattle.wire.specs.Rfc2464.{formed_of}
use Rattle.wire.specs.Rfc4291.{same_cidr}
use Rattle.ndisc.specs.declared.ndiscoption.PrefixInformation.{PrefixInformation}
use Rattle.neighbor.specs.CacheCalls.{empty}
use Rattle.iface.specs.AddressRules.{addrs_of, is_addr, is_from_slaac}
use Rattle.iface.specs.RouteRules.{empty_routes}
use Rattle.iface.specs.Distinct.{AddrsOnce, is_slaac_addr}
use Rattle.slaac.specs.declared.Prefix.{Prefix}
use Rattle.slaac.specs.declared.Slaac.{Slaac}
use Rattle.slaac.specs.LearnedRules.{prefixes_of, is_skipped, is_prefix, cidr_of, prefix_of, process_prefix_is}
use Rattle.slaac.specs.DiscoveryRules.{fresh}
use Rattle.autoconf.specs.declared.Advertised.{Advertised}
use Rattle.autoconf.specs.declared.Polled.{Polled}
use Rattle.autoconf.specs.AdvertRules.{options_in, prefix_options, call_by}
use Rattle.autoconf.specs.SyncRules.{sync_prefix}
use Rattle.claims.specs.Examples.{mac, network, addresses, formed, header, offer, polls, up, ra, end}
use Rattle.claims.specs.Lists.{All, Some, Member}
use Rattle.claims.specs.Traces.{ms, neighbour}
use Rattle.claims.specs.Early.{Host, HostCall, advertise, poll, Step, Run, Before, TakesPoll, Takes, stands}

-- the prefix forms the address: "only length 64 forms an address, prefix bytes 0 to 7 and then EUI-64"
abbrev pub FormsWith : HardwareAddress → Ipv6Cidr → Prefix → Type 0
FormsWith hw a p = formed_of hw p.cidr ≡ Addr a

-- a host that calls made, from one with no SLAAC address and no address twice, whatever it had learned
pub record Made (i : ℕ) (hw : HardwareAddress) (y : Host) : Type 0 where
  pub start : Host
  pub calls : List HostCall
  pub run : Run i hw start calls y
  pub none_yet : any_of is_from_slaac (addrs_of start.addrs) ≡ false
  pub once : AddrsOnce start.addrs

-- every prefix of the table that forms the address has ended by now; or is still valid
abbrev pub AllEnded : HardwareAddress → Ipv6Cidr → Instant → Slaac → Type 0
AllEnded hw a now s = All (λ p. FormsWith hw a p → is_after p.valid_until now ≡ false) (prefixes_of s)

abbrev pub AllValid : HardwareAddress → Ipv6Cidr → Instant → Slaac → Type 0
AllValid hw a now s = All (λ p. FormsWith hw a p → is_after p.valid_until now ≡ true) (prefixes_of s)

-- Arriving

-- "the match is refreshed, else appended; a full table ignores it": an entry of that prefix is there, or room
abbrev pub has_place : Ipv6Cidr → List Prefix → Bool
has_place c ps = any_of (is_prefix c) ps || ltb (length ps) 4

-- an option that is skipped, or names another prefix
abbrev pub NamesOther : Ipv6Cidr → PrefixInformation → Type 0
NamesOther c o = is_skipped o ≡ false → same_cidr (cidr_of o) c ≡ false

-- The advertisement is taken, SLAAC is on, and the option is one of the message: it is not skipped, it is valid for a time, it finds a place when
-- its turn comes, and no later option of the message names its prefix.
pub record Teaches (i : ℕ) (s : Slaac) (source : Ipv6Addr) (msg : List ℕ) (now : Instant) (o : PrefixInformation) : Type 0 where
  pub taken : Takes i source msg now
  pub is_on : s.on ≡ true
  pub before : List PrefixInformation
  pub after : List PrefixInformation
  pub options : prefix_options (options_in msg) ≡ before ++ (o ∷ after)
  pub not_skipped : is_skipped o ≡ false
  pub lifetime : 0 < o.valid_lifetime
  pub place : has_place (cidr_of o) (prefixes_of (fold_over (process_prefix_is now) s before)) ≡ true
  pub last : All (NamesOther (cidr_of o)) after

-- the prefix is in the table, with its times, SLAAC is on, and a sync is asked for
pub record Taught (s : Slaac) (p : Prefix) : Type 0 where
  pub there : Member p (prefixes_of s)
  pub is_on : s.on ≡ true
  pub asked : s.sync_required ≡ true

-- a call between the advertisement and the next poll: no poll of interface i that is taken, no turning off of SLAAC there, and of the
-- advertisements none that is taken and names the prefix; any other
abbrev pub Meanwhile : ℕ → Ipv6Cidr → HostCall → Type 0
Meanwhile i c call =
    Before (λ now. TakesPoll i now → ⊥) (λ source msg now. Takes i source msg now → All (NamesOther c) (prefix_options (options_in msg))) call

-- "a missing one is appended if there is room": an entry of that address is there, or there is room for it even if each prefix brings an address
abbrev pub HasRoom : Ipv6Cidr → Host → Type 0
HasRoom a x = (any_of (is_addr a) (addrs_of x.addrs) ≡ true) ⊎ (length (addrs_of x.addrs) + length (prefixes_of x.slaac) ≤ 8)

-- y has an entry of the address, and it is SLAAC's if in x none of them was the application's
pub record Comes (a : Ipv6Cidr) (x y : Host) : Type 0 where
  pub there : any_of (is_addr a) (addrs_of y.addrs) ≡ true
  pub from_slaac : All (λ e. is_addr a e ≡ true → is_from_slaac e ≡ true) (addrs_of x.addrs) → stands a (addrs_of y.addrs) ≡ true

-- An advertisement teaches the option's prefix, which forms the address; such calls follow, as many as there are, and then a poll that is taken,
-- while every prefix that forms the address is valid and there is room. The host as the advertisement comes, as the poll comes, and after it.
pub record Offered (i : ℕ) (hw : HardwareAddress) (o : PrefixInformation) (a : Ipv6Cidr) (between : List HostCall) (x y z : Host) : Type 0 where
  pub source : Ipv6Addr
  pub msg : List ℕ
  pub now : Instant
  pub later : Instant
  pub heard : Host
  pub hears : Step i hw x (advertise source msg now) heard
  pub teaches : Teaches i x.slaac source msg now o
  pub forms : formed_of hw (cidr_of o) ≡ Addr a
  pub waits : Run i hw heard between y
  pub meanwhile : All (Meanwhile i (cidr_of o)) between
  pub polls : Step i hw y (poll later) z
  pub taken : TakesPoll i later
  pub valid : AllValid hw a later y.slaac
  pub room : HasRoom a y

-- document 01's event file: the host at the start, as its advertisement comes, as it was heard, and at the end; and a poll when the hour is over
abbrev pub start_host : Host
start_host = record { slaac = fresh true; addrs = addresses; routes = empty_routes }

abbrev pub up_host : Host
up_host = record { slaac = up.slaac; addrs = up.addrs; routes = up.routes }

abbrev pub ra_host : Host
ra_host = record { slaac = ra.slaac; addrs = up.addrs; routes = up.routes }

abbrev pub end_host : Host
end_host = record { slaac = end.slaac; addrs = end.addrs; routes = end.routes }

-- and with another router's advertisement, which has no option, before a poll at 600
abbrev pub second : Advertised
second = call_by (time_check (ms 500) 0) ra.slaac empty 0 (neighbour 2).addr header (ms 500)

abbrev pub second_host : Host
second_host = record { slaac = second.slaac; addrs = up.addrs; routes = up.routes }

abbrev pub both : Polled
both = polls second.slaac up.addrs up.routes 600

abbrev pub both_host : Host
both_host = record { slaac = both.slaac; addrs = both.addrs; routes = both.routes }

abbrev pub hour : Polled
hour = polls end.slaac end.addrs end.routes 3600500

abbrev pub hour_host : Host
hour_host = record { slaac = hour.slaac; addrs = hour.addrs; routes = hour.routes }

-- The claims

pub record Arrives : Type 0 where
  -- Every SLAAC address in a host that calls made has a prefix in its table that forms it; with SLAAC off there is none.
  pub backed : (i : ℕ) (hw : HardwareAddress) (y : Host) → Made i hw y
      → All (λ e. is_from_slaac e ≡ true → Some (FormsWith hw e.cidr) (prefixes_of y.slaac)) (addrs_of y.addrs)
  pub none_off : (i : ℕ) (hw : HardwareAddress) (y : Host) → Made i hw y → y.slaac.on ≡ false → any_of is_from_slaac (addrs_of y.addrs) ≡ false
  -- "Expired: a SLAAC entry goes": a poll that is taken at or after the end of every prefix that forms the address, and there is one, leaves no
  -- SLAAC entry of it.
  pub leaves : (i : ℕ) (hw : HardwareAddress) (a : Ipv6Cidr) (now : Instant) (x y : Host) → Step i hw x (poll now) y → TakesPoll i now → x.slaac.on ≡ true
      → AddrsOnce x.addrs → Some (FormsWith hw a) (prefixes_of x.slaac) → AllEnded hw a now x.slaac → any_of (is_slaac_addr a) (addrs_of y.addrs) ≡ false
  -- In a host that calls made it leaves none whether SLAAC is on or off, and whether some prefix forms the address or none does.
  pub leaves_made : (i : ℕ) (hw : HardwareAddress) (a : Ipv6Cidr) (now : Instant) (x y : Host) → Made i hw x → Step i hw x (poll now) y → TakesPoll i now
      → AllEnded hw a now x.slaac → any_of (is_slaac_addr a) (addrs_of y.addrs) ≡ false
  -- What an advertisement teaches is in the table, with the option's times from now, and a sync is asked for.
  pub taught : (i : ℕ) (hw : HardwareAddress) (source : Ipv6Addr) (msg : List ℕ) (now : Instant) (o : PrefixInformation) (x y : Host)
      → Step i hw x (advertise source msg now) y → Teaches i x.slaac source msg now o → Taught y.slaac (prefix_of o now)
  -- It waits there: until a poll is taken, SLAAC is turned off, or an advertisement is taken that names the prefix, no call changes that.
  pub waits : (i : ℕ) (hw : HardwareAddress) (p : Prefix) (x y : Host) (cs : List HostCall) → Run i hw x cs y → All (Meanwhile i p.cidr) cs
      → Taught x.slaac p → Taught y.slaac p
  -- A poll that is taken makes an address of such a prefix, if every prefix that forms the address is valid and there is room.
  pub comes : (i : ℕ) (hw : HardwareAddress) (a : Ipv6Cidr) (p : Prefix) (now : Instant) (x y : Host) → Step i hw x (poll now) y → TakesPoll i now
      → Taught x.slaac p → FormsWith hw a p → AllValid hw a now x.slaac → HasRoom a x → Comes a x y
  -- However many prefixes there are, it does so if there is room when the prefix's turn comes: "Prefixes in table order".
  pub in_turn : (i : ℕ) (hw : HardwareAddress) (a : Ipv6Cidr) (p : Prefix) (now : Instant) (x y : Host) → Step i hw x (poll now) y → TakesPoll i now
      → Taught x.slaac p → FormsWith hw a p → AllValid hw a now x.slaac → (before after : List Prefix) → prefixes_of x.slaac ≡ before ++ (p ∷ after)
      → length (addrs_of (fold_over (sync_prefix hw now) x.addrs before)) < 8 → Comes a x y
  -- An advertisement and the next poll, with such calls between: what is offered comes.
  pub arrives : (i : ℕ) (hw : HardwareAddress) (o : PrefixInformation) (a : Ipv6Cidr) (between : List HostCall) (x y z : Host)
      → Offered i hw o a between x y z → Comes a y z
  -- Document 01's event file meets all this: what it offers is in the last poll, also if another router is heard between; calls made the host that
  -- it ends with, and an hour later the prefix has ended and a poll is taken.
  pub file_offers : Offered 0 mac (offer network 3600 1800) formed [] up_host ra_host end_host
  pub file_waits : Offered 0 mac (offer network 3600 1800) formed (advertise (neighbour 2).addr header (ms 500) ∷ []) up_host second_host both_host
  pub file_made : Made 0 mac end_host
  pub file_stands : stands formed (addrs_of end_host.addrs) ≡ true
  pub file_ends : AllEnded mac formed (ms 3600500) end_host.slaac
  pub file_polls : Step 0 mac end_host (poll (ms 3600500)) hour_host
  pub file_taken : TakesPoll 0 (ms 3600500)
