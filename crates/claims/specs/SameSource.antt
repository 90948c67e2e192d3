-- The source that solicitations are sent from stays the same whatever SLAAC does, so a card that sleeps need not look at it. Assumes nothing.
use Rattle.std.specs.Prelude.{ℕ, ◌≡◌, Bool, true, false, List, Ok, Option, Some}
use Rattle.table.specs.Table.{any_of}
use Rattle.time.specs.declared.Instant.{Instant}
use Rattle.time.specs.declared.Clock.{Clock}
use Rattle.wire.specs.declared.ethernet.HardwareAddress.{HardwareAddress}
use Rattle.wire.specs.declared.ipv6.Ipv6Addr.{Ipv6Addr}
use Rattle.wire.specs.Refusals.{time_check}
use Rattle.wire.specs.Rfc4291.{is_link_local}
use Rattle.iface.specs.declared.addr.IfaceAddrs.{IfaceAddrs}
use Rattle.iface.specs.declared.route.Routes.{Routes}
use Rattle.iface.specs.AddressRules.{addrs_of, is_from_slaac, is_local, first_local}
use Rattle.slaac.specs.declared.Slaac.{Slaac}
use Rattle.slaac.specs.LearnedRules.{prefixes_of}
use Rattle.slaac.specs.DiscoveryRules.{fresh}
use Rattle.autoconf.specs.declared.Polled.{Polled}
use Rattle.autoconf.specs.declared.PollAnswer.TheVariants.{Quiet}
use Rattle.autoconf.specs.PollRules.{sender_in}
use Rattle.mainloop.specs.declared.Card.{Card}
use Rattle.mainloop.specs.declared.Input.{Input}
use Rattle.mainloop.specs.declared.Settled.{Settled}
use Rattle.mainloop.specs.LoopRules.{taken, SettledTo}
use Rattle.claims.specs.Lists.{All}
use Rattle.claims.specs.Clocks.{Poll}
use Rattle.claims.specs.Wake.{Asleep}
use Rattle.claims.specs.Sleep.{OnOne, still}
use Rattle.claims.specs.Early.{Host, HostCall, add_addr, Step, Run}
use Rattle.claims.specs.Examples.{link_local}
use Rattle.claims.specs.Arrives.{end_host}

-- no prefix in the table and no SLAAC address is link-local
pub record NoneLocal (x : Host) : Type 0 where
  pub prefixes : All (λ p. is_link_local p.cidr.address ≡ false) (prefixes_of x.slaac)
  pub addresses : All (λ e. is_from_slaac e ≡ true → is_local e ≡ false) (addrs_of x.addrs)

-- "a link-local address in the table (the first is the source)"
abbrev pub source_in : Host → Option Ipv6Addr
source_in x = first_local (addrs_of x.addrs)

abbrev pub host_with : Slaac → IfaceAddrs → Routes → Host
host_with s t r = record { slaac = s; addrs = t; routes = r }

abbrev pub host_of : Card → Host
host_of x = host_with x.slaac x.addrs x.routes

pub record SameSource : Type 0 where
  -- Where nothing was learned and SLAAC made no address, none is link-local,
  pub none_yet : (on : Bool) (t : IfaceAddrs) (r : Routes) → any_of is_from_slaac (addrs_of t) ≡ false → NoneLocal (host_with (fresh on) t r)
  -- and none is after any calls: "One is skipped if prefix length > 128, autonomous is clear, the prefix is link-local or multicast, or preferred > valid."
  pub none_comes : (i : ℕ) (hw : HardwareAddress) (x y : Host) (c : HostCall) → Step i hw x c y → NoneLocal x → NoneLocal y
  pub none_ever : (i : ℕ) (hw : HardwareAddress) (x y : Host) (cs : List HostCall) → Run i hw x cs y → NoneLocal x → NoneLocal y
  -- So no call changes the source, not even turning SLAAC off, but the application's adding of an address;
  pub same : (i : ℕ) (hw : HardwareAddress) (x y : Host) (c : HostCall) → Step i hw x c y → NoneLocal x → (c ≡ add_addr → ⊥) → source_in y ≡ source_in x
  pub same_ever : (i : ℕ) (hw : HardwareAddress) (x y : Host) (cs : List HostCall) → Run i hw x cs y → NoneLocal x → All (λ c. c ≡ add_addr → ⊥) cs
      → source_in y ≡ source_in x
  -- and where there is a source, neither does that.
  pub stays : (i : ℕ) (hw : HardwareAddress) (x y : Host) (c : HostCall) → Step i hw x c y → NoneLocal x → (a : Ipv6Addr) → source_in x ≡ Some a → source_in y ≡ Some a
  pub stays_ever : (i : ℕ) (hw : HardwareAddress) (x y : Host) (cs : List HostCall) → Run i hw x cs y → NoneLocal x → (a : Ipv6Addr) → source_in x ≡ Some a
      → source_in y ≡ Some a
  -- What `WakePoll` asks for: with the link as it was, a poll leaves the source that it had.
  pub polls : (i : ℕ) (up : Bool) (hw : HardwareAddress) (s : Slaac) (t : IfaceAddrs) (r : Routes) (buf : List ℕ) (k : Clock) (p : Polled) (buf' : List ℕ) (k' : Clock)
      → Poll i up hw s t r buf k p buf' k' → NoneLocal (host_with s t r) → sender_in up p.addrs ≡ sender_in up t
  -- A card of `mainloop`: no input and no settling brings one that is link-local, and each leaves the source.
  pub card_takes : (x : Card) (input : Input) (message : List ℕ) (now : Instant) → NoneLocal (host_of x)
      → NoneLocal (host_of (taken x input message now).card) × ((taken x input message now).card.addrs ≡ x.addrs)
  pub card_settles : (x : Card) (up : Bool) (hw : HardwareAddress) (buf : List ℕ) (now : Instant) (r : Settled) (buf' : List ℕ) → SettledTo x up hw buf now r buf'
      → NoneLocal (host_of x) → NoneLocal (host_of r.card) × (source_in (host_of r.card) ≡ source_in (host_of x))
  -- So with the link as it was it sleeps until `wake` and misses nothing (`Sleep`), and nothing is to be looked at before.
  pub asleep : (x : Card) (up : Bool) (hw : HardwareAddress) (buf : List ℕ) (now : Instant) (r : Settled) (buf' : List ℕ) → SettledTo x up hw buf now r buf'
      → time_check now 0 ≡ Ok tt → OnOne x → x.slaac.on ≡ true → NoneLocal (host_of x)
      → (hw2 : HardwareAddress) (buf2 : List ℕ) (next : Instant) (r2 : Settled) (buf2' : List ℕ) → SettledTo r.card up hw2 buf2 next r2 buf2'
      → time_check next 0 ≡ Ok tt → Asleep r.wake next
      → (r2 ≡ still r.card (Ok Quiet) r.wake) × (buf2' ≡ buf2)
  -- The host that document 01's event file ends with, which has a prefix and an address of SLAAC's, is such a one, and has a source.
  pub file_none : NoneLocal end_host
  pub file_source : source_in end_host ≡ Some link_local.cidr.address
