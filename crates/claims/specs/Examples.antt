-- Document 01, "Examples on both sides", the last as request 2026-02 has it: one claim, a field for each, of the specifications that the code is proved against. Assumes nothing.
use Rattle.std.specs.Prelude.{ℕ, ◌≡◌, true, List, [], ◌∷◌, ◌++◌, replicate, Ok}
use Rattle.time.specs.declared.Expiry.TheVariants.{At}
use Rattle.time.specs.ClockRules.{idle}
use Rattle.wire.specs.declared.ipv6.Ipv6Addr.{Ipv6Addr}
use Rattle.wire.specs.declared.ipv6.Ipv6Cidr.{Ipv6Cidr}
use Rattle.wire.specs.declared.ethernet.HardwareAddress.{HardwareAddress}
use Rattle.ndisc.specs.declared.ndiscoption.PrefixInformation.{PrefixInformation}
use Rattle.ndisc.specs.OptionCalls.{prefix_bytes}
use Rattle.neighbor.specs.CacheCalls.{entries, empty}
use Rattle.iface.specs.declared.addr.IfaceAddr.{IfaceAddr}
use Rattle.iface.specs.declared.addr.IfaceAddrs.{IfaceAddrs}
use Rattle.iface.specs.declared.addr.Preferred.TheVariants.{Until}
use Rattle.iface.specs.declared.route.Routes.{Routes}
use Rattle.iface.specs.AddressRules.{addrs_of, with_addrs, empty_addrs, manual_addr, slaac_addr}
use Rattle.iface.specs.RouteRules.{routes_of, empty_routes, slaac_route}
use Rattle.slaac.specs.declared.Prefix.{Prefix}
use Rattle.slaac.specs.declared.Slaac.{Slaac}
use Rattle.slaac.specs.LearnedRules.{prefixes_of, routers_of}
use Rattle.slaac.specs.DiscoveryRules.{fresh}
use Rattle.autoconf.specs.declared.Advertised.{Advertised}
use Rattle.autoconf.specs.declared.AdvertAnswer.TheVariants.{Done}
use Rattle.autoconf.specs.declared.Polled.{Polled}
use Rattle.autoconf.specs.declared.PollAnswer.TheVariants.{Solicited}
use Rattle.autoconf.specs.Answers.{advert_number}
use Rattle.wire.specs.Refusals.{time_check}
use Rattle.autoconf.specs.AdvertRules.{call_by}
use Rattle.autoconf.specs.PollRules.{poll_by, poll_buffer}
use Rattle.sweep.specs.declared.ProbeEvent.TheVariants.{Retransmit, Failed}
use Rattle.claims.specs.Calls.{Call, start, sweep, done, swept, answers}
use Rattle.claims.specs.Traces.{ms, neighbour}

-- The values of document 01's event file

-- mac 020000000001
abbrev pub mac : HardwareAddress
mac = record { hi = 0x0200; lo = 0x0000_0001 }

-- fe800000000000000000000000000001, who advertises
abbrev pub router : Ipv6Addr
router = record { hi = 0xfe80_0000_0000_0000; lo = 1 }

-- 20010db8000000010000000000000000 64, and the same prefix with a bit past its length
abbrev pub network : Ipv6Cidr
network = record { address = record { hi = 0x2001_0db8_0000_0001; lo = 0 }; prefix_len = 64 }

abbrev pub network1 : Ipv6Cidr
network1 = record { address = record { hi = 0x2001_0db8_0000_0001; lo = 1 }; prefix_len = 64 }

-- fe80000000000000000000fffe000001 64, the one address of the table
abbrev pub link_local : IfaceAddr
link_local = manual_addr (record { address = record { hi = 0xfe80_0000_0000_0000; lo = 0x0000_00ff_fe00_0001 }; prefix_len = 64 })

abbrev pub addresses : IfaceAddrs
addresses = with_addrs empty_addrs (link_local ∷ [])

-- 20010db800000001000000fffe000001 64, the address that is formed
abbrev pub formed : Ipv6Cidr
formed = record { address = record { hi = 0x2001_0db8_0000_0001; lo = 0x0000_00ff_fe00_0001 }; prefix_len = 64 }

-- an advertisement's first 16 bytes: 86000000400007080000000000000000
abbrev pub header : List ℕ
header = 0x86 ∷ 0 ∷ 0 ∷ 0 ∷ 0x40 ∷ 0 ∷ 0x07 ∷ 0x08 ∷ replicate 8 0

-- a prefix option: autonomous, with that prefix and those lifetimes, valid first
abbrev pub offer : Ipv6Cidr → ℕ → ℕ → PrefixInformation
offer c valid preferred =
    record {
      prefix_len = c.prefix_len;
      on_link = true;
      addrconf = true;
      valid_lifetime = valid;
      preferred_lifetime = preferred;
      prefix = c.address;
    }

-- the prefix of the event file with another length
abbrev pub of_length : ℕ → Ipv6Cidr
of_length n = record { address = network.address; prefix_len = n }

-- what the calls leave, on interface 0: an advertisement, and a poll with a buffer of 16 bytes and the link up
abbrev pub hears : Slaac → List ℕ → ℕ → Advertised
hears s msg now = call_by (time_check (ms now) 0) s empty 0 router msg (ms now)

abbrev pub polls : Slaac → IfaceAddrs → Routes → ℕ → Polled
polls s t r now = (poll_by (time_check (ms now) 0) s t r 0 true mac (replicate 16 0) (idle (ms now))).polled

abbrev pub sends : Slaac → IfaceAddrs → ℕ → List ℕ
sends s t now = poll_buffer (time_check (ms now) 0) s t true mac (replicate 16 0) (idle (ms now))

-- an advertisement to an interface that has learned nothing
abbrev pub answer_to : List ℕ → Advertised
answer_to options = hears (fresh true) (header ++ options) 0

-- the prefixes that an option teaches, and the addresses after the poll that follows
abbrev pub learns : PrefixInformation → List Prefix
learns o = prefixes_of (answer_to (prefix_bytes o)).slaac

abbrev pub forms : PrefixInformation → List IfaceAddr
forms o = addrs_of (polls (answer_to (prefix_bytes o)).slaac empty_addrs empty_routes 0).addrs

abbrev pub entry : Ipv6Cidr → ℕ → ℕ → Prefix
entry c preferred valid = record { cidr = c; preferred_until = At (ms preferred); valid_until = At (ms valid) }

-- the event file: up, poll at 0, ra and poll at 500
abbrev pub up : Polled
up = polls (fresh true) addresses empty_routes 0

abbrev pub ra : Advertised
ra = hears up.slaac (header ++ prefix_bytes (offer network 3600 1800)) 500

abbrev pub end : Polled
end = polls ra.slaac up.addrs up.routes 500

-- the last example: one advertisement with the prefix without that bit and with it, one with the second at 0, and the sync
abbrev pub with_both : Slaac
with_both = (answer_to (prefix_bytes (offer network 3600 1800) ++ prefix_bytes (offer network1 3600 1800))).slaac

abbrev pub first_sync : Polled
first_sync = polls with_both empty_addrs empty_routes 10

abbrev pub second_ends : Slaac
second_ends = (hears first_sync.slaac (header ++ prefix_bytes (offer network1 0 0)) 20).slaac

abbrev pub last_sync : Polled
last_sync = polls second_ends first_sync.addrs first_sync.routes 20

-- a start of fe80::1 and sweeps of its interface
abbrev pub start_and_sweeps : List Call
start_and_sweeps =
    start (neighbour 1)
    ∷ sweep 0 (ms 0)
    ∷ sweep 0 (ms 999)
    ∷ sweep 0 (ms 1000)
    ∷ sweep 0 (ms 1999)
    ∷ sweep 0 (ms 2000)
    ∷ sweep 0 (ms 3000)
    ∷ []

pub record Examples : Type 0 where
  -- "P1 no options: accepted."
  pub P1 : (answer_to []).answer ≡ Ok Done
  -- "P2 7 bytes: 1."
  pub P2 : advert_number (answer_to (1 ∷ 1 ∷ replicate 5 0)).answer ≡ 1
  -- "P3 length 0: 1."
  pub P3 : advert_number (answer_to (1 ∷ 0 ∷ replicate 6 0)).answer ≡ 1
  -- "P4 type 3, L = 3: 1; L = 4 read."
  pub P4 : advert_number (answer_to (3 ∷ 3 ∷ replicate 22 0)).answer ≡ 1
  pub p4_read : learns (offer network 3600 1800) ≡ entry network 1800000 3600000 ∷ []
  -- "P5 type 4, L = 5: 1; L = 6 read."
  pub P5 : advert_number (answer_to (4 ∷ 5 ∷ replicate 38 0)).answer ≡ 1
  pub p5_read : (answer_to (4 ∷ 6 ∷ replicate 46 0)).answer ≡ Ok Done
  -- "P6 preferred 5 with valid 5 taken; 6 with 5 skipped."
  pub P6 : learns (offer network 5 5) ≡ entry network 5000 5000 ∷ []
  pub p6_skipped : learns (offer network 5 6) ≡ []
  -- "P7 prefix length 128 kept without address; 129 skipped."
  pub P7 : learns (offer (of_length 128) 5 5) ≡ entry (of_length 128) 5000 5000 ∷ []
  pub p7_formless : forms (offer (of_length 128) 5 5) ≡ []
  pub p7_skipped : learns (offer (of_length 129) 5 5) ≡ []
  -- "P8 the formed address above.", and what else the event file prints of the state
  pub P8 : addrs_of end.addrs ≡ link_local ∷ slaac_addr formed (Until (At (ms 1800500))) ∷ []
  pub p8_prefixes : prefixes_of end.slaac ≡ entry network 1800500 3600500 ∷ []
  pub p8_routers : routers_of end.slaac ≡ record { addr = router; valid_until = ms 1800500 } ∷ []
  pub p8_routes : routes_of end.routes ≡ slaac_route 0 router (ms 1800500) ∷ []
  pub p8_neighbors : entries ra.cache ≡ []
  -- "P9 the solicitation above.": 85007b2c000000000101020000000001
  pub P9 : sends (fresh true) addresses 0 ≡ 0x85 ∷ 0 ∷ 0x7b ∷ 0x2c ∷ 0 ∷ 0 ∷ 0 ∷ 0 ∷ 0x01 ∷ 0x01 ∷ 0x02 ∷ 0 ∷ 0 ∷ 0 ∷ 0 ∷ 0x01 ∷ []
  pub p9_answer : up.answer ≡ Ok Solicited
  -- "P11 start; sweeps at 0, 999, 1000, 1999, 2000, 3000: none, none, retransmit, none, retransmit, failed."
  pub P11 : answers start_and_sweeps []
      ≡ done
      ∷ swept 0 []
      ∷ swept 0 []
      ∷ swept 0 (Retransmit (neighbour 1).addr ∷ [])
      ∷ swept 0 []
      ∷ swept 0 (Retransmit (neighbour 1).addr ∷ [])
      ∷ swept 0 (Failed (neighbour 1).addr ∷ [])
      ∷ []
  -- "2001:db8:0:1::/64, then 2001:db8:0:1::1/64, then the second with 0", by request 2026-02 "one entry, expired, and no address"
  pub formed_first : addrs_of first_sync.addrs ≡ slaac_addr formed (Until (At (ms 1800000))) ∷ []
  pub one_entry : prefixes_of first_sync.slaac ≡ entry network 1800000 3600000 ∷ []
  pub expired : prefixes_of second_ends ≡ entry network 20 20 ∷ []
  pub no_address : addrs_of last_sync.addrs ≡ []
  pub entry_gone : prefixes_of last_sync.slaac ≡ []
