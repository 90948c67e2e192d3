-- After a poll that is taken, a prefix is without its address only if the table is full: "a missing one is appended if there is room", and the room that one
-- prefix leaves is another's in the same poll. It is so since no two prefixes form one address (`Cleared`): an address goes with its own prefix alone. The
-- calls are those of `Early`, as there. Assumes nothing.
use Rattle.std.specs.Prelude.{ℕ, ◌≤◌, ◌≡◌, true, false, List, [], ◌∷◌, ◌++◌, ◌⊎◌, length}
use Rattle.table.specs.Table.{any_of, fold_over}
use Rattle.time.specs.declared.Expiry.TheVariants.{At}
use Rattle.time.specs.declared.Instant.{Instant}
use Rattle.wire.specs.declared.ethernet.HardwareAddress.{HardwareAddress}
use Rattle.wire.specs.declared.ipv6.Ipv6Cidr.{Ipv6Cidr}
use Rattle.ndisc.specs.OptionCalls.{prefix_bytes}
use Rattle.iface.specs.declared.addr.IfaceAddr.{IfaceAddr}
use Rattle.iface.specs.declared.addr.IfaceAddrs.{IfaceAddrs}
use Rattle.iface.specs.declared.addr.Preferred.TheVariants.{Until}
use Rattle.iface.specs.AddressRules.{addrs_of, empty_addrs, is_addr, is_from_slaac, manual_addr, slaac_addr, addr_check, add_addr_by}
use Rattle.iface.specs.Distinct.{AddrsOnce}
use Rattle.iface.specs.RouteRules.{empty_routes}
use Rattle.slaac.specs.declared.Prefix.{Prefix}
use Rattle.slaac.specs.declared.Slaac.{Slaac}
use Rattle.slaac.specs.LearnedRules.{prefixes_of}
use Rattle.slaac.specs.DiscoveryRules.{fresh}
use Rattle.autoconf.specs.declared.Polled.{Polled}
use Rattle.claims.specs.Lists.{All}
use Rattle.claims.specs.Early.{Host, HostCall, poll, Step, Run, TakesPoll}
use Rattle.claims.specs.Arrives.{FormsWith}
use Rattle.claims.specs.Cleared.{Fresh}
use Rattle.claims.specs.Traces.{ms}
use Rattle.claims.specs.Examples.{network, formed, link_local, header, offer, hears, polls, entry}

-- the address that the prefix forms, if any, stands in the table, whoever put it there; or the table is full
abbrev pub HasAddressOrFull : HardwareAddress → List IfaceAddr → Prefix → Type 0
HasAddressOrFull hw es p = (a : Ipv6Cidr) → FormsWith hw a p → (any_of (is_addr a) es ≡ true) ⊎ (8 ≤ length es)

-- Seven addresses of the application, and two prefixes

-- 2001:db8:0:2::/64, a second network, and the address that it forms
abbrev pub network2 : Ipv6Cidr
network2 = record { address = record { hi = 0x2001_0db8_0000_0002; lo = 0 }; prefix_len = 64 }

abbrev pub formed2 : Ipv6Cidr
formed2 = record { address = record { hi = 0x2001_0db8_0000_0002; lo = 0x0000_00ff_fe00_0001 }; prefix_len = 64 }

-- 2001:db8:ff::n/64, the application's
abbrev pub own : ℕ → Ipv6Cidr
own n = record { address = record { hi = 0x2001_0db8_00ff_0000; lo = n }; prefix_len = 64 }

-- the application adds an address on interface 0
abbrev pub adds : IfaceAddrs → Ipv6Cidr → IfaceAddrs
adds t c = (add_addr_by (addr_check 0 c (addrs_of t)) t c).addrs

abbrev pub seven : IfaceAddrs
seven = fold_over adds empty_addrs (link_local.cidr ∷ own 1 ∷ own 2 ∷ own 3 ∷ own 4 ∷ own 5 ∷ own 6 ∷ [])

abbrev pub seven_entries : List IfaceAddr
seven_entries =
    link_local ∷ manual_addr (own 1) ∷ manual_addr (own 2) ∷ manual_addr (own 3) ∷ manual_addr (own 4) ∷ manual_addr (own 5) ∷ manual_addr (own 6) ∷ []

-- at 0 an advertisement of the second network for a minute and of the first for an hour; a poll at 10, and one when the minute is over
abbrev pub two : Slaac
two = (hears (fresh true) (header ++ (prefix_bytes (offer network2 60 60) ++ prefix_bytes (offer network 3600 1800))) 0).slaac

abbrev pub soon : Polled
soon = polls two seven empty_routes 10

abbrev pub minute : Polled
minute = polls soon.slaac soon.addrs soon.routes 60000

pub record Housed : Type 0 where
  -- Whatever of these calls are made, from a host that has learned nothing, with no SLAAC address and none twice: if no sync is asked for, every
  -- prefix that forms an address has it, or the table is full.
  pub housed : (i : ℕ) (hw : HardwareAddress) (x y : Host) (cs : List HostCall) → Run i hw x cs y → Fresh x → any_of is_from_slaac (addrs_of x.addrs) ≡ false
      → AddrsOnce x.addrs → y.slaac.sync_required ≡ false → All (HasAddressOrFull hw (addrs_of y.addrs)) (prefixes_of y.slaac)
  -- None is asked for after a poll that is taken with SLAAC on.
  pub settles : (i : ℕ) (hw : HardwareAddress) (now : Instant) (x y : Host) → Step i hw x (poll now) y → TakesPoll i now → x.slaac.on ≡ true
      → y.slaac.sync_required ≡ false
  -- Computed: the first prefix of the table takes the last place, and the second waits;
  pub one_comes : addrs_of soon.addrs ≡ seven_entries ++ (slaac_addr formed2 (Until (At (ms 60000))) ∷ [])
  pub both_learned : prefixes_of soon.slaac ≡ entry network2 60000 60000 ∷ entry network 1800000 3600000 ∷ []
  pub not_asked : soon.slaac.sync_required ≡ false
  -- the poll at the end of the first gives its place to the second.
  pub other_comes : addrs_of minute.addrs ≡ seven_entries ++ (slaac_addr formed (Until (At (ms 1800000))) ∷ [])
  pub one_left : prefixes_of minute.slaac ≡ entry network 1800000 3600000 ∷ []
