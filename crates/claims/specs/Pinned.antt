-- The numbers and bits of document 01 up to the event program, and of requests 2026-02 and 2026-10, computed: a definition with another number, bit or case in it fails here or in
-- `Examples`, `Traces`, `Lasting`, `Endless`, `Wake`, `Counts`, which compute values too. Assumes nothing.
use Rattle.std.specs.Prelude.{ℕ, zero, suc, ◌+◌, ◌-◌, ◌*◌, ◌^◌, ◌≡◌, Bool, true, false, List, [], ◌∷◌, ◌++◌, map, replicate, take, drop, length, Some, None, Ok}
use Rattle.time.specs.declared.Clock.{Clock}
use Rattle.time.specs.declared.Expiry.TheVariants.{At as EndsAt, Forever}
use Rattle.time.specs.ClockRules.{idle, asked_of, scheduled_of}
use Rattle.time.specs.TimeRules.{add_of, seconds_of}
use Rattle.wire.specs.declared.ipv6.Ipv6Addr.{Ipv6Addr}
use Rattle.wire.specs.declared.ipv6.Ipv6Cidr.{Ipv6Cidr}
use Rattle.wire.specs.declared.ethernet.HardwareAddress.{HardwareAddress}
use Rattle.wire.specs.declared.error.Refusal.TheVariants.{Malformed, NotUnicast, TooLate, NoRoom, NotAdvertisement, NotLinkLocal, NoSuchIface, Full, Duplicate, PrefixTooLong}
use Rattle.wire.specs.Refusals.{check_number, time_check, key_check, fill_check, row_of}
use Rattle.wire.specs.Rfc4291.{is_link_local, is_multicast, is_unicast, address_at, all_routers, is_all_routers, mask_of}
use Rattle.wire.specs.Rfc2464.{is_unicast_hardware, eui_bytes}
use Rattle.ndisc.specs.declared.ndiscoption.Checked.TheVariants.{Well}
use Rattle.ndisc.specs.declared.ndiscoption.NdiscOption.TheVariants.{SourceLinkLayerAddr, TargetLinkLayerAddr, PrefixInformation as Prefix, RedirectedHeader, Mtu, Unknown}
use Rattle.ndisc.specs.OptionCalls.{link_layer_bytes, prefix_bytes, mtu_bytes}
use Rattle.ndisc.specs.Rfc4861Options.{checked_of, data_of, prefix_at}
use Rattle.ndisc.specs.Rfc4443Checksum.{words}
use Rattle.ndisc.specs.Rfc4861Messages.{is_router_solicit}
use Rattle.neighbor.specs.declared.Answer.TheVariants.{Found as Known, Pending, NotFound}
use Rattle.neighbor.specs.declared.NeighborState.TheVariants.{Incomplete as ListedIncomplete, Reachable as ListedReachable, Stale as ListedStale}
use Rattle.neighbor.specs.declared.State.{State}
use Rattle.neighbor.specs.declared.State.TheVariants.{Started, Incomplete, Reachable, Stale}
use Rattle.neighbor.specs.NeighborRules.{Table, entry as entry_of, victim}
use Rattle.neighbor.specs.CacheCalls.{entries, with_entries, empty, blank}
use Rattle.sweep.specs.SweepRules.{expire_clocks, sweep_table}
use Rattle.sweep.specs.SweepCalls.{swept_in}
use Rattle.pending.specs.QueueRules.{Queue, packet, orphaned, release_answer, release_list, push_answer, dropped_handles, on_iface}
use Rattle.pending.specs.QueueCalls.{queue_room, packets, with_packets, empty as noPackets, blank as blankPacket}
use Rattle.iface.specs.declared.addr.AddrOrigin.TheVariants.{Manual}
use Rattle.iface.specs.declared.addr.IfaceAddr.{IfaceAddr}
use Rattle.iface.specs.declared.addr.IfaceAddrs.{IfaceAddrs}
use Rattle.iface.specs.declared.addr.Preferred.TheVariants.{Always, Until, Never}
use Rattle.iface.specs.declared.route.Route.{Route}
use Rattle.iface.specs.declared.route.RouteOrigin.TheVariants.{Manual as ManualRoute}
use Rattle.iface.specs.AddressRules.{addrs_of, with_addrs, empty_addrs, manual_addr, slaac_addr, addr_check, add_addr_by, anywhere, no_addr}
use Rattle.iface.specs.RouteRules.{routes_of, with_routes, empty_routes, manual_route, slaac_route, route_check, add_route_by, clear_routes, no_route}
use Rattle.slaac.specs.declared.Prefix.{Prefix as Learned}
use Rattle.slaac.specs.declared.Phase.TheVariants.{Start, Discovering, Maintaining}
use Rattle.slaac.specs.declared.Slaac.{Slaac}
use Rattle.slaac.specs.declared.SlaacState.{SlaacState}
use Rattle.slaac.specs.LearnedRules.{prefixes_of, routers_of, no_prefix, no_router}
use Rattle.slaac.specs.DiscoveryRules.{fresh, restarted, turned_on_is}
use Rattle.slaac.specs.Fields.{with_prefixes, with_routers}
use Rattle.autoconf.specs.declared.AdvertAnswer.TheVariants.{Off}
use Rattle.autoconf.specs.declared.Polled.{Polled}
use Rattle.autoconf.specs.declared.PolledAt.{PolledAt}
use Rattle.autoconf.specs.declared.PollAnswer.TheVariants.{Solicited, Quiet, NoRoom as TooSmall, Off as PollOff}
use Rattle.autoconf.specs.declared.TurnedOff.{TurnedOff}
use Rattle.autoconf.specs.Answers.{advert_number}
use Rattle.autoconf.specs.AdvertRules.{call_by}
use Rattle.autoconf.specs.PollRules.{poll_by, poll_buffer}
use Rattle.autoconf.specs.OffRules.{off_by}
use Rattle.autoconf.specs.SyncRules.{preferred_of}
use Rattle.text.specs.Hex.{hexed}
use Rattle.text.specs.Decimal.{decimal}
use Rattle.claims.specs.Calls.{Call, lookup, start, fill, insert, get, at, remove, sweep, done, looked, got, swept, answers, table_after, clear}
use Rattle.claims.specs.Traces.{ms, neighbour, hardware, starts_of}
use Rattle.claims.specs.Examples.{mac, router, network, formed, link_local, addresses, header, offer, entry, hears, polls, sends, answer_to, up, ra, end, of_length, learns, forms}

-- Quantities

-- an address by its first 16 bits
abbrev pub beginning : ℕ → Ipv6Addr
beginning n = record { hi = n * 2 ^ 48; lo = 1 }

-- an address by its halves
abbrev pub halves : ℕ → ℕ → Ipv6Addr
halves hi lo = record { hi = hi; lo = lo }

-- a clock at now that waits for a time
abbrev pub waiting_for : ℕ → ℕ → Clock
waiting_for now deadline = record { now = ms now; deadline = Some (ms deadline) }

-- Advertisements

-- to an interface that has learned nothing: a header with these bytes 0, 1, 5, 6 and 7, from that source
abbrev pub headed : ℕ → ℕ → ℕ → ℕ → ℕ → List ℕ
headed type code flags high low = type ∷ code ∷ 0 ∷ 0 ∷ 0 ∷ flags ∷ high ∷ low ∷ replicate 8 0

abbrev pub flagged : ℕ → SlaacState
flagged flags = (hears (fresh true) (headed 134 0 flags 0 0) 0).slaac.state

-- with both flags, and a prefix that asks for a sync
abbrev pub flagged_all : Slaac
flagged_all = (hears (fresh true) (headed 134 0 0xc0 0 0 ++ prefix_bytes (offer network 5 5)) 0).slaac

abbrev pub number_for : Ipv6Addr → List ℕ → ℕ
number_for source msg = advert_number (call_by (time_check (ms 0) 0) (fresh true) empty 0 source msg (ms 0)).answer

-- a prefix option, byte by byte, with these flags, and valid 9, preferred 5
abbrev pub prefix_option : ℕ → List ℕ
prefix_option flags =
    (3 ∷ 4 ∷ 64 ∷ flags ∷ 0 ∷ 0 ∷ 0 ∷ 9 ∷ 0 ∷ 0 ∷ 0 ∷ 5 ∷ 0 ∷ 0 ∷ 0 ∷ 0 ∷ 0x20 ∷ 0x01 ∷ 0x0d ∷ 0xb8 ∷ 0 ∷ 0 ∷ 0 ∷ 1 ∷ []) ++ replicate 8 0

abbrev pub optioned : ℕ → List Learned
optioned flags = prefixes_of (answer_to (prefix_option flags)).slaac

-- the n-th of some networks, of 64 bits, and an offer of it for 5 seconds
abbrev pub net : ℕ → Ipv6Cidr
net n = record { address = record { hi = 0x2001_0db8_0000_0000 + n; lo = 0 }; prefix_len = 64 }

abbrev pub offers : ℕ → List ℕ
offers n = prefix_bytes (offer (net n) 5 5)

-- the prefix that begins so, of any length: with a bit at its end, and without
abbrev pub untidy : ℕ → ℕ → Ipv6Cidr
untidy n len = record { address = beginning n; prefix_len = len }

abbrev pub tidy : ℕ → ℕ → Ipv6Cidr
tidy n len = record { address = halves (n * 2 ^ 48) 0; prefix_len = len }

-- an address of all ones, and its bytes read as a prefix of any length
abbrev pub ones : Ipv6Addr
ones = halves 0xffff_ffff_ffff_ffff 0xffff_ffff_ffff_ffff

abbrev pub read_of : ℕ → Ipv6Addr
read_of len = (prefix_at (prefix_bytes (offer (record { address = ones; prefix_len = len }) 5 5))).prefix

-- the n-th of some routers advertises 258 seconds
abbrev pub router_no : ℕ → Ipv6Addr
router_no n = record { hi = 0xfe80_0000_0000_0000; lo = n }

abbrev pub advertised_by : ℕ → Slaac → Slaac
advertised_by n s = (call_by (time_check (ms 0) 0) s empty 0 (router_no n) (headed 134 0 0 1 2) (ms 0)).slaac

-- the router of document 01's event file advertises a lifetime of 0 at 700
abbrev pub retires : Slaac → Slaac
retires s = (hears s (headed 134 0 0 0 0) 700).slaac

-- the neighbours after an advertisement with these options
abbrev pub taught : List ℕ → Table
taught options = entries (answer_to options).cache

-- a state that has learned the first of the networks and no router, and was synced; whether these options ask it for a sync
abbrev pub settled : Slaac
settled = (polls (hears (fresh true) (headed 134 0 0 0 0 ++ offers 1) 0).slaac empty_addrs empty_routes 0).slaac

abbrev pub asks_again : List ℕ → Bool
asks_again options = (hears settled (headed 134 0 0 0 0 ++ options) 700).slaac.sync_required

-- full tables that were synced: four prefixes, and two routers
abbrev pub full_of_prefixes : Slaac
full_of_prefixes = (polls (hears (fresh true) (headed 134 0 0 0 0 ++ offers 1 ++ offers 2 ++ offers 3 ++ offers 4) 0).slaac empty_addrs empty_routes 0).slaac

abbrev pub full_of_routers : Slaac
full_of_routers = (polls (advertised_by 2 (advertised_by 1 (fresh true))) empty_addrs empty_routes 0).slaac

-- a hardware address of a group
abbrev pub group : HardwareAddress
group = record { hi = 0x0100; lo = 1 }

-- Polls

-- on interface 0, with this link, these addresses and a buffer of that size
abbrev pub polls_with : Slaac → Bool → IfaceAddrs → ℕ → ℕ → PolledAt
polls_with s link t size now = poll_by (time_check (ms now) 0) s t empty_routes 0 link mac (replicate size 0) (idle (ms now))

-- the bytes that such a poll leaves of a buffer of sevens
abbrev pub leaves_of : Slaac → Bool → ℕ → ℕ → List ℕ
leaves_of s link size now = poll_buffer (time_check (ms now) 0) s addresses link mac (replicate size 7) (idle (ms now))

abbrev pub second : Polled
second = polls up.slaac addresses empty_routes 4000

abbrev pub third : Polled
third = polls second.slaac addresses empty_routes 8000

-- the router advertises again at 600, with the prefix, and a poll follows
abbrev pub renewed : Polled
renewed = polls (hears end.slaac (header ++ prefix_bytes (offer network 3600 1800)) 600).slaac end.addrs end.routes 600

-- document 01's event file at its last poll, with a route there already
abbrev pub routed_beside : Route → List Route
routed_beside r = routes_of (polls ra.slaac up.addrs (with_routes empty_routes (r ∷ [])) 500).routes

-- the first of three networks is offered for 1 second, the others for 5; a poll at 0, and one at that second
abbrev pub three_offered : Polled
three_offered =
    polls (hears (fresh true) (headed 134 0 0 0 0 ++ prefix_bytes (offer (net 1) 1 1) ++ offers 2 ++ offers 3) 0).slaac empty_addrs empty_routes 0

abbrev pub first_over : Polled
first_over = polls three_offered.slaac three_offered.addrs empty_routes 1000

-- the address that the n-th network forms, preferred for 5 seconds
abbrev pub formed_in : ℕ → IfaceAddr
formed_in n = slaac_addr (record { address = record { hi = (net n).address.hi; lo = 0x0000_00ff_fe00_0001 }; prefix_len = 64 }) (Until (EndsAt (ms 5000)))

-- Neighbours and packets

abbrev pub lookups : List Call
lookups =
    start (neighbour 1)
    ∷ lookup (neighbour 1)
    ∷ fill (neighbour 1) hardware (ms 0)
    ∷ sweep 0 (ms 59999)
    ∷ lookup (neighbour 1)
    ∷ sweep 0 (ms 60000)
    ∷ lookup (neighbour 1)
    ∷ []

abbrev pub holding : State → Table
holding s = entry_of (neighbour 1) s ∷ []

-- entries of neighbours n, n + 1 and so on: in these states; or started, on these interfaces
abbrev pub in_states : ℕ → List State → Table
in_states n [] = []
in_states n (s ∷ ss) = entry_of (neighbour n) s ∷ in_states (suc n) ss

abbrev pub on_ifaces : ℕ → List ℕ → Table
on_ifaces n [] = []
on_ifaces n (i ∷ is) = entry_of (record { iface = i; addr = (neighbour n).addr }) Started ∷ on_ifaces (suc n) is

-- packets of neighbour 1 with handles n to 1
abbrev pub queued : ℕ → Queue
queued zero = []
queued (suc n) = packet (neighbour 1) (suc n) ∷ queued n

-- Turning off, in the state in which document 01's event file ends, with neighbour 1 and a packet for it

abbrev pub off_from : IfaceAddrs → TurnedOff
off_from t =
    off_by (time_check (ms 0) 0) end.slaac t end.routes (with_entries empty (holding Started)) (with_packets noPackets (queued 1)) 0

-- Refusals: of a lookup and of a fill, on an interface, of an address by its first 16 bits

abbrev pub lookup_number : ℕ → ℕ → ℕ
lookup_number iface first = check_number (key_check iface (beginning first))

abbrev pub fill_number : ℕ → ℕ → ℕ → HardwareAddress → ℕ
fill_number now iface first hw = check_number (fill_check (ms now) iface (beginning first) hw)

-- What the application adds

-- n addresses of the application
abbrev pub added : ℕ → List IfaceAddr
added zero = []
added (suc n) = manual_addr (net (suc n)) ∷ added n

abbrev pub added_routes : ℕ → List Route
added_routes n = replicate n (manual_route 1 network router)

-- document 01's event file at its last poll, with so many of the application's addresses and routes
abbrev pub synced_with : ℕ → ℕ → Polled
synced_with n m = polls ra.slaac (with_addrs empty_addrs (added n)) (with_routes empty_routes (added_routes m)) 500

pub record Pinned : Type 0 where
  -- "a lifetime of s seconds .. is 1,000 s"; a sum past 64 bits is the last point
  pub seconds : seconds_of 3 ≡ record { 0 = 3000 }
  -- "all ones too": more milliseconds than 32 bits hold
  pub all_ones : seconds_of 0xffff_ffff ≡ record { 0 = 4294967295000 }
  pub sum : add_of (ms 5) (record { 0 = 7 }) ≡ ms 12
  pub last_sum : add_of (ms (2 ^ 64 - 1)) (record { 0 = 1 }) ≡ ms (2 ^ 64 - 1)
  -- "yes exactly if t <= now; else t joins the deadline", the earlier of the two
  pub at_its_time : asked_of (idle (ms 5)) (ms 5) ≡ record { expired = true; clock = idle (ms 5) }
  pub before_its_time : asked_of (idle (ms 4)) (ms 5) ≡ record { expired = false; clock = waiting_for 4 5 }
  pub earlier_joins : scheduled_of (waiting_for 4 9) (ms 5) ≡ waiting_for 4 5
  pub later_joins_not : scheduled_of (waiting_for 4 5) (ms 9) ≡ waiting_for 4 5
  -- "Link-local is fe80::/10, multicast ff00::/8, unicast is neither multicast nor `::`"
  pub link_local_lem : map is_link_local (map beginning (0xfe7f ∷ 0xfe80 ∷ 0xfebf ∷ 0xfec0 ∷ [])) ≡ false ∷ true ∷ true ∷ false ∷ []
  pub multicast : map is_multicast (map beginning (0xfeff ∷ 0xff00 ∷ 0xffff ∷ [])) ≡ false ∷ true ∷ true ∷ []
  pub unicast : map is_unicast (map beginning (0 ∷ 0x2001 ∷ 0xff02 ∷ [])) ≡ true ∷ true ∷ false ∷ []
  pub unspecified : is_unicast (record { hi = 0; lo = 0 }) ≡ false
  -- `::` alone is unspecified, not every address that ends in zeros
  pub unspecified_below : is_unicast network.address ≡ true
  -- "The fixed bytes of EUI-64 and the sixteen bytes of ff02::2 are written and compared.": RFC 2464's example, and the all-routers address
  pub eui : eui_bytes (record { hi = 0x3456; lo = 0x789a_bcde }) ≡ 0x36 ∷ 0x56 ∷ 0x78 ∷ 0xff ∷ 0xfe ∷ 0x9a ∷ 0xbc ∷ 0xde ∷ []
  pub all_routers_lem : all_routers ≡ 0xff ∷ 0x02 ∷ replicate 13 0 ++ (2 ∷ [])
  pub is_all_routers_lem : map is_all_routers (halves 0xff02_0000_0000_0000 2 ∷ halves 0xff02_0000_0000_0000 1 ∷ halves 0xff02_0000_0000_0002 0 ∷ []) ≡ true ∷ false ∷ false ∷ []
  -- "A hardware address is unicast if the low bit of its first byte is 0."
  pub unicast_hardware : is_unicast_hardware (record { hi = 0xfeff; lo = 0xffff_ffff }) ≡ true
  pub group_hardware : is_unicast_hardware (record { hi = 0x0100; lo = 0 }) ≡ false
  -- "Types 1 and 2 give bytes 2 to 7, the hardware address; type 5 bytes 4 to 7, the MTU."
  pub source_option : checked_of (1 ∷ 1 ∷ 1 ∷ 2 ∷ 3 ∷ 4 ∷ 5 ∷ 6 ∷ []) ≡ Well (SourceLinkLayerAddr (record { hi = 0x0102; lo = 0x0304_0506 })) 1
  pub target_option : checked_of (2 ∷ 1 ∷ 1 ∷ 2 ∷ 3 ∷ 4 ∷ 5 ∷ 6 ∷ []) ≡ Well (TargetLinkLayerAddr (record { hi = 0x0102; lo = 0x0304_0506 })) 1
  pub mtu_option : checked_of (5 ∷ 1 ∷ 1 ∷ 2 ∷ 3 ∷ 4 ∷ 5 ∷ 6 ∷ []) ≡ Well (Mtu 0x0304_0506) 1
  pub redirected_header : checked_of (4 ∷ 6 ∷ replicate 46 0) ≡ Well RedirectedHeader 6
  pub unknown_option : checked_of (14 ∷ 1 ∷ replicate 6 0) ≡ Well (Unknown 14) 1
  -- "flags byte 3 (0x80 on-link, 0x40 autonomous, the rest dropped), valid lifetime 4 to 7, preferred 8 to 11, prefix 16 to 31"
  pub prefix_on_link : checked_of (prefix_option 0xbf) ≡ Well (Prefix (record { prefix_len = 64; on_link = true; addrconf = false; valid_lifetime = 9; preferred_lifetime = 5; prefix = network.address })) 4
  pub prefix_autonomous : checked_of (prefix_option 0x7f) ≡ Well (Prefix (record { prefix_len = 64; on_link = false; addrconf = true; valid_lifetime = 9; preferred_lifetime = 5; prefix = network.address })) 4
  -- "bytes 2 up to 8 L"
  pub option_data : data_of (14 ∷ 1 ∷ 1 ∷ 2 ∷ 3 ∷ 4 ∷ 5 ∷ 6 ∷ 7 ∷ []) ≡ 1 ∷ 2 ∷ 3 ∷ 4 ∷ 5 ∷ 6 ∷ []
  -- "Malformed: .. fewer than 8 L bytes": 15 of 16; and "empty for a malformed option"
  pub truncated : advert_number (answer_to (14 ∷ 2 ∷ replicate 13 0)).answer ≡ 1
  pub whole : advert_number (answer_to (14 ∷ 2 ∷ replicate 14 0)).answer ≡ 0
  pub no_data : data_of (14 ∷ 2 ∷ replicate 13 0) ≡ []
  -- "Writers exist for types 1, 2, 3 and 5, of 8, 8, 32 and 8 bytes, reserved bytes zero, flags only the two named"
  pub written_link_layer : link_layer_bytes 1 mac ≡ 1 ∷ 1 ∷ 2 ∷ 0 ∷ 0 ∷ 0 ∷ 0 ∷ 1 ∷ []
  pub written_mtu : mtu_bytes 1500 ≡ 5 ∷ 1 ∷ 0 ∷ 0 ∷ 0 ∷ 0 ∷ 5 ∷ 0xdc ∷ []
  pub written_prefix : prefix_bytes (offer network 9 5) ≡ prefix_option 0xc0
  -- "RFC 4443's checksum": an odd last byte is padded with zero
  pub odd_byte : words (1 ∷ 2 ∷ 3 ∷ []) ≡ 0x0102 ∷ 0x0300 ∷ []
  -- a solicitation: type 133, code 0, 8 bytes or more, to all routers
  pub solicits_routers : is_router_solicit (133 ∷ replicate 7 0) (address_at all_routers 0) ≡ true
  pub solicits_not : is_router_solicit (134 ∷ replicate 7 0) (address_at all_routers 0) ≡ false
  pub coded_not : is_router_solicit (133 ∷ 1 ∷ replicate 6 0) (address_at all_routers 0) ≡ false
  pub short_not : is_router_solicit (133 ∷ replicate 6 0) (address_at all_routers 0) ≡ false
  pub elsewhere_not : is_router_solicit (133 ∷ replicate 7 0) router ≡ false
  -- "flags in byte 5 (0x80 managed, 0x40 other)"; "Flags are stored; routers-seen becomes true"
  pub managed : flagged 0x80 ≡ record { routers_seen = true; managed = true; other_config = false }
  pub other : flagged 0x40 ≡ record { routers_seen = true; managed = false; other_config = true }
  -- stored as they come, not added to those before
  pub flags_stay : (polls flagged_all empty_addrs empty_routes 0).slaac.state ≡ record { routers_seen = true; managed = true; other_config = true }
  pub flags_anew : (hears (hears (fresh true) (headed 134 0 0x80 0 0) 0).slaac (headed 134 0 0x40 0 0) 0).slaac.state
      ≡ record { routers_seen = true; managed = false; other_config = true }
  -- "router lifetime in seconds in bytes 6 and 7"; "routers 2": 258 seconds, of three routers
  pub two_routers : routers_of (advertised_by 3 (advertised_by 2 (advertised_by 1 (fresh true))))
      ≡ record { addr = router_no 1; valid_until = ms 258000 } ∷ record { addr = router_no 2; valid_until = ms 258000 } ∷ []
  -- "0: its entry gets now": and each of these asks for a sync
  pub router_asks : (advertised_by 1 (fresh true)).sync_required ≡ true
  pub router_ends : routers_of (retires end.slaac) ≡ record { addr = router; valid_until = ms 700 } ∷ []
  pub end_asks : (retires end.slaac).sync_required ≡ true
  pub nothing_asks : (retires (fresh true)).sync_required ≡ false
  pub router_asks_again : (hears end.slaac header 700).slaac.sync_required ≡ true
  pub third_asks_not : (advertised_by 3 full_of_routers).sync_required ≡ false
  -- "Valid = 0: a match gets both times set to now. A refresh, an append and a match with 0 each ask for a sync."
  pub prefix_asks : (hears (fresh true) (headed 134 0 0 0 0 ++ offers 1) 0).slaac.sync_required ≡ true
  pub prefix_ends : prefixes_of (hears end.slaac (headed 134 0 0 0 0 ++ prefix_bytes (offer network 0 0)) 700).slaac ≡ entry network 700 700 ∷ []
  pub unknown_asks_not : (hears (fresh true) (headed 134 0 0 0 0 ++ prefix_bytes (offer network 0 0)) 0).slaac.sync_required ≡ false
  pub refresh_asks : asks_again (offers 1) ≡ true
  pub prefix_end_asks : asks_again (prefix_bytes (offer (net 1) 0 0)) ≡ true
  pub none_asks : asks_again [] ≡ false
  pub fifth_asks_not : (hears full_of_prefixes (headed 134 0 0 0 0 ++ offers 5) 0).slaac.sync_required ≡ false
  -- and what comes after does not take it back
  pub asks_still : asks_again (offers 2 ++ prefix_bytes (offer (net 3) 0 0)) ≡ true
  -- "Entries match on all 16 bytes and the length."
  pub by_length : prefixes_of (answer_to (prefix_bytes (offer network 5 5) ++ prefix_bytes (offer (of_length 65) 5 5))).slaac
      ≡ entry network 5000 5000 ∷ entry (of_length 65) 5000 5000 ∷ []
  pub by_last_bit : prefixes_of (answer_to (prefix_bytes (offer (tidy 0x2001 128) 5 5) ++ prefix_bytes (offer (untidy 0x2001 128) 5 5))).slaac
      ≡ entry (tidy 0x2001 128) 5000 5000 ∷ entry (untidy 0x2001 128) 5000 5000 ∷ []
  -- RFC 4861, 4.6.2: the bits after the prefix length are "ignored by the receiver"; "above that the bytes come as they are"
  pub in_first_half : map (λ n. mask_of n ones) (0 ∷ 1 ∷ 9 ∷ 63 ∷ 64 ∷ [])
      ≡ halves 0 0 ∷ halves 0x8000_0000_0000_0000 0 ∷ halves 0xff80_0000_0000_0000 0 ∷ halves 0xffff_ffff_ffff_fffe 0 ∷ halves 0xffff_ffff_ffff_ffff 0 ∷ []
  pub in_second_half : map (λ n. mask_of n ones) (65 ∷ 100 ∷ 127 ∷ [])
      ≡ halves 0xffff_ffff_ffff_ffff 0x8000_0000_0000_0000
      ∷ halves 0xffff_ffff_ffff_ffff 0xffff_ffff_f000_0000
      ∷ halves 0xffff_ffff_ffff_ffff 0xffff_ffff_ffff_fffe
      ∷ []
  pub whole_address : map (λ n. mask_of n ones) (128 ∷ 129 ∷ 255 ∷ []) ≡ ones ∷ ones ∷ ones ∷ []
  pub read_so : map read_of (0 ∷ 9 ∷ 64 ∷ 100 ∷ 128 ∷ []) ≡ map (λ n. mask_of n ones) (0 ∷ 9 ∷ 64 ∷ 100 ∷ 128 ∷ [])
  pub read_as_it_came : map read_of (129 ∷ 255 ∷ []) ≡ ones ∷ ones ∷ []
  -- "Prefix entries then match on the cleared value", the tests for link-local and multicast see it, and what is written is what was given
  pub same_entry : prefixes_of (answer_to (prefix_bytes (offer (tidy 0x2001 64) 5 5) ++ prefix_bytes (offer (untidy 0x2001 64) 9 9))).slaac
      ≡ entry (tidy 0x2001 64) 9000 9000 ∷ []
  pub below_link_local : learns (offer (untidy 0xfe80 8) 5 5) ≡ entry (tidy 0xfe00 8) 5000 5000 ∷ []
  pub below_multicast : learns (offer (untidy 0xff02 7) 5 5) ≡ entry (tidy 0xfe00 7) 5000 5000 ∷ []
  pub onto_link_local : learns (offer (untidy 0xfec0 9) 5 5) ≡ []
  pub no_length : learns (offer (untidy 0xff02 0) 5 5) ≡ entry (tidy 0 0) 5000 5000 ∷ []
  pub formless : map forms (offer (untidy 0xfe80 8) 5 5 ∷ offer (untidy 0xff02 7) 5 5 ∷ offer (untidy 0x2001 0) 5 5 ∷ []) ≡ [] ∷ [] ∷ [] ∷ []
  pub written_as_given : take 1 (drop 31 (prefix_bytes (offer (untidy 0x2001 64) 5 5))) ≡ 1 ∷ []
  -- all ones are forever, and one less is not
  pub almost_endless : learns (offer network 0xffff_ffff 0xffff_fffe)
      ≡ record { cidr = network; preferred_until = EndsAt (ms 4294967294000); valid_until = Forever } ∷ []
  -- 5: "advertisement under 16 bytes, type not 134 or code not 0"; 6: "advertisement source not link-local"; and Off before them
  pub short : number_for router (134 ∷ replicate 14 0) ≡ 5
  pub solicits : number_for router (headed 133 0 0 0 0) ≡ 5
  pub above : number_for router (headed 135 0 0 0 0) ≡ 5
  pub coded : number_for router (headed 134 1 0 0 0) ≡ 5
  pub from_afar : number_for (beginning 0x2001) (headed 134 0 0 0 0) ≡ 6
  pub off_first : (call_by (time_check (ms 0) 0) (fresh false) empty 0 (beginning 0x2001) [] (ms 0)).answer ≡ Ok Off
  -- "One is skipped if prefix length > 128, autonomous is clear, the prefix is link-local or multicast, or preferred > valid."
  pub on_link_alone : optioned 0x80 ≡ []
  pub autonomous : optioned 0x40 ≡ entry network 5000 9000 ∷ []
  pub link_local_prefix : learns (offer (untidy 0xfe80 64) 5 5) ≡ []
  pub multicast_prefix : learns (offer (untidy 0xff02 64) 5 5) ≡ []
  -- "prefixes 4": "a full table ignores it"
  pub five : prefixes_of (answer_to (offers 1 ++ offers 2 ++ offers 3 ++ offers 4 ++ offers 5)).slaac
      ≡ entry (net 1) 5000 5000 ∷ entry (net 2) 5000 5000 ∷ entry (net 3) 5000 5000 ∷ entry (net 4) 5000 5000 ∷ []
  -- "phase Discovering becomes Maintaining. Phase Start stays."
  pub start_stays : (hears (fresh true) header 0).slaac.discovery.phase ≡ Start
  pub maintains : (hears up.slaac header 500).slaac.discovery.phase ≡ Maintaining
  pub heard_leaves : (hears (fresh true) header 0).slaac.discovery.num_solicitations ≡ 3
  pub heard_keeps : (hears up.slaac header 500).slaac.discovery.num_solicitations ≡ 2
  -- "If a type 1 option occurred, the last one counts; if unicast, it fills the neighbour (interface, source).": "for 60,000 ms"
  pub last_source : taught (link_layer_bytes 1 (record { hi = 0x0200; lo = 9 }) ++ link_layer_bytes 1 hardware) ≡ entry_of (neighbour 1) (Reachable hardware (ms 60000)) ∷ []
  pub group_source : taught (link_layer_bytes 1 (record { hi = 0x0100; lo = 1 })) ≡ []
  pub group_last : taught (link_layer_bytes 1 mac ++ link_layer_bytes 1 group) ≡ []
  pub target_alone : taught (link_layer_bytes 2 mac) ≡ []
  -- "It needs link up, a link-local address in the table"
  pub link_down : (polls_with (fresh true) false addresses 16 0).polled.answer ≡ Ok Quiet
  pub no_link_local : (polls_with (fresh true) true empty_addrs 16 0).polled.answer ≡ Ok Quiet
  -- "(the first is the source)"
  pub first_source : sends (fresh true) (with_addrs empty_addrs (link_local ∷ manual_addr (record { address = router; prefix_len = 64 }) ∷ [])) 0 ≡ sends (fresh true) addresses 0
  -- "phase Discovering, one fewer left, retry 4,000 ms later, scheduled only if some are left": three of them
  pub first_sent : up.slaac.discovery ≡ record { phase = Discovering (ms 4000); num_solicitations = 2 }
  pub retry_waits : (polls_with (fresh true) true addresses 16 0).clock.deadline ≡ Some (ms 4000)
  pub not_yet : (polls up.slaac addresses empty_routes 3999).answer ≡ Ok Quiet
  pub retry : second.answer ≡ Ok Solicited
  pub third_sent : third.answer ≡ Ok Solicited
  pub third_waits_not : (polls_with second.slaac true addresses 16 8000).clock.deadline ≡ None
  pub no_fourth : (polls third.slaac addresses empty_routes 12000).answer ≡ Ok Quiet
  -- "with the retry time expired (asked of the clock last)": not with the link down, and not with none left
  pub retry_still_waits : (polls_with up.slaac true addresses 16 100).clock.deadline ≡ Some (ms 4000)
  pub down_waits_not : (polls_with up.slaac false addresses 16 100).clock.deadline ≡ None
  pub none_left_waits_not : (polls_with third.slaac true addresses 16 9000).clock.deadline ≡ None
  -- "A lent buffer under 16 bytes counts as sent, answers no room"
  pub small : (polls_with (fresh true) true addresses 15 0).polled.answer ≡ Ok TooSmall
  pub small_counts : (polls_with (fresh true) true addresses 15 0).polled.slaac.discovery ≡ up.slaac.discovery
  -- "and stays. Otherwise only its first 16 bytes change"; "With no solicitation to send, the buffer stays."
  pub small_stays : leaves_of (fresh true) true 15 0 ≡ replicate 15 7
  pub only_sixteen : leaves_of (fresh true) true 18 0 ≡ sends (fresh true) addresses 0 ++ (7 ∷ 7 ∷ [])
  pub down_stays : leaves_of (fresh true) false 18 0 ≡ replicate 18 7
  pub quiet_stays : leaves_of up.slaac true 18 100 ≡ replicate 18 7
  -- "Restart sets phase Start and 3 left, and keeps what was learned"; "turning SLAAC on does so with nothing learned, or nothing if on"
  pub restart : (restarted end.slaac).discovery ≡ record { phase = Start; num_solicitations = 3 }
  pub restart_keeps : prefixes_of (restarted end.slaac) ≡ prefixes_of end.slaac
  pub restart_keeps_routers : routers_of (restarted end.slaac) ≡ routers_of end.slaac
  pub restart_keeps_flags : (restarted flagged_all).state ≡ record { routers_seen = true; managed = true; other_config = true }
  pub restart_keeps_request : (restarted ra.slaac).sync_required ≡ true
  pub restart_asks_not : (restarted end.slaac).sync_required ≡ false
  pub on_again : turned_on_is end.slaac ≡ end.slaac
  pub on_anew : turned_on_is (fresh false) ≡ fresh true
  pub off_stays : restarted (fresh false) ≡ fresh false
  -- "the clock is first asked of each": the router's end, and where its lifetime is 0 the prefix's; "the request is cleared", and what expired leaves
  pub router_waits : (polls_with ra.slaac true addresses 16 500).clock.deadline ≡ Some (ms 1800500)
  pub prefix_waits : (polls_with (hears (fresh true) (headed 134 0 0 0 0 ++ offers 1) 0).slaac false addresses 16 0).clock.deadline ≡ Some (ms 5000)
  pub cleared : end.slaac.sync_required ≡ false
  pub prefix_leaves : prefixes_of (polls end.slaac end.addrs end.routes 3600500).slaac ≡ []
  pub router_leaves : routers_of (polls end.slaac end.addrs end.routes 1800500).slaac ≡ []
  -- the clock is asked of valid-until, and not of preferred
  pub valid_waits : (polls_with (hears (fresh true) (headed 134 0 0 0 0 ++ prefix_option 0x40) 0).slaac false addresses 16 0).clock.deadline ≡ Some (ms 9000)
  -- "expired prefixes and routers leave in order": so do the addresses, "later ones move down"
  pub others_in_order : prefixes_of first_over.slaac ≡ entry (net 2) 5000 5000 ∷ entry (net 3) 5000 5000 ∷ []
  pub moved_down : addrs_of first_over.addrs ≡ formed_in 2 ∷ formed_in 3 ∷ []
  -- "Sync follows if asked for, or if any prefix's valid-until or router's time has expired": else not
  pub no_sync : addrs_of (polls end.slaac addresses empty_routes 501).addrs ≡ link_local ∷ []
  -- "only length 64 forms an address"
  pub length_63 : forms (offer (of_length 63) 5 5) ≡ []
  pub length_65 : forms (offer (of_length 65) 5 5) ≡ []
  -- "takes the new preferred time"; "Routers likewise"
  pub renewed_address : addrs_of renewed.addrs ≡ link_local ∷ slaac_addr formed (Until (EndsAt (ms 1800600))) ∷ []
  pub renewed_route : routes_of renewed.routes ≡ slaac_route 0 router (ms 1800600) ∷ []
  -- "heeding only this interface's SLAAC routes"
  pub beside_manual : routed_beside (manual_route 0 anywhere router) ≡ manual_route 0 anywhere router ∷ slaac_route 0 router (ms 1800500) ∷ []
  pub beside_another : routed_beside (slaac_route 1 router (ms 7)) ≡ slaac_route 1 router (ms 7) ∷ slaac_route 0 router (ms 1800500) ∷ []
  -- "Preferred is Until(t) if t > now, else Never."
  pub preferred : preferred_of (ms 4) (EndsAt (ms 5)) ≡ Until (EndsAt (ms 5))
  pub deprecated : preferred_of (ms 5) (EndsAt (ms 5)) ≡ Never
  -- "a missing one is appended if there is room", of "addresses 8 per interface, routes 8"; with SLAAC off the poll answers Off
  pub eighth_address : addrs_of (synced_with 7 7).addrs ≡ added 7 ++ (slaac_addr formed (Until (EndsAt (ms 1800500))) ∷ [])
  pub no_ninth_address : addrs_of (synced_with 8 7).addrs ≡ added 8
  pub eighth_route : routes_of (synced_with 7 7).routes ≡ added_routes 7 ++ (slaac_route 0 router (ms 1800500) ∷ [])
  pub no_ninth_route : routes_of (synced_with 7 8).routes ≡ added_routes 8
  pub poll_off : (polls_with (fresh false) true addresses 16 0).polled.answer ≡ Ok PollOff
  -- "Turning SLAAC off removes its addresses and routes; if an address went, the interface's neighbours and waiting packets are cleared"
  pub off_addresses : addrs_of (off_from end.addrs).addrs ≡ link_local ∷ []
  pub off_routes : routes_of (off_from end.addrs).routes ≡ []
  pub off_clears : entries (off_from end.addrs).cache ≡ []
  pub off_purges : packets (off_from end.addrs).queue ≡ []
  pub off_leaves : entries (off_from addresses).cache ≡ holding Started
  pub off_keeps : packets (off_from addresses).queue ≡ queued 1
  -- request 2026-10: "whose purge now returns its handles like the others"; past the count are zeros
  pub off_returns : (off_from end.addrs).handles ≡ record { slots = 1 ∷ 0 ∷ 0 ∷ 0 ∷ 0 ∷ 0 ∷ 0 ∷ 0 ∷ []; len = 1 }
  pub off_returns_none : (off_from addresses).handles ≡ record { slots = 0 ∷ 0 ∷ 0 ∷ 0 ∷ 0 ∷ 0 ∷ 0 ∷ 0 ∷ []; len = 0 }
  pub off_forgets : (off_from end.addrs).slaac ≡ fresh false
  pub off_each : addrs_of (off_from (with_addrs empty_addrs (formed_in 1 ∷ manual_addr (net 2) ∷ formed_in 3 ∷ []))).addrs ≡ manual_addr (net 2) ∷ []
  pub off_each_route : clear_routes 0 (slaac_route 0 router (ms 5) ∷ slaac_route 1 router (ms 5) ∷ manual_route 0 network router ∷ slaac_route 0 (router_no 2) (ms 5) ∷ [])
      ≡ slaac_route 1 router (ms 5) ∷ manual_route 0 network router ∷ []
  -- "Reachable is Found, even past its time; Started and Incomplete are Pending; the rest NotFound."
  pub lookup_each : answers lookups [] ≡ done ∷ looked (Ok Pending) ∷ done ∷ swept 0 [] ∷ looked (Ok (Known hardware)) ∷ swept 0 [] ∷ looked (Ok NotFound) ∷ []
  pub lookup_incomplete : answers (lookup (neighbour 1) ∷ get (neighbour 1) ∷ []) (holding (Incomplete 2 (ms 9)))
      ≡ looked (Ok Pending) ∷ got (Ok (Some (record { iface = 0; addr = (neighbour 1).addr; state = ListedIncomplete }))) ∷ []
  -- "Fill puts Reachable for 60,000 ms; insert takes an expiry"; "removing or listing an absent key answers Nothing"
  pub filled : table_after (fill (neighbour 1) hardware (ms 5) ∷ []) [] ≡ holding (Reachable hardware (ms 60005))
  pub inserted : table_after (insert (neighbour 1) hardware (ms 5) ∷ []) [] ≡ holding (Reachable hardware (ms 5))
  pub none_there : answers (get (neighbour 2) ∷ remove (neighbour 2) ∷ at 1 ∷ []) (holding Started) ≡ got (Ok None) ∷ got (Ok None) ∷ got (Ok None) ∷ []
  -- "Start puts Started, over an entry of that key too."; a new entry comes last
  pub over : table_after (start (neighbour 2) ∷ start (neighbour 4) ∷ []) (in_states 1 (Stale hardware ∷ Stale hardware ∷ Stale hardware ∷ []))
      ≡ in_states 1 (Stale hardware ∷ Started ∷ Stale hardware ∷ Started ∷ [])
  -- "A full table evicts the first kind present: Stale, Reachable by earliest expiry, Incomplete by earliest due, Started; ties take the lowest index."
  pub stale_goes : victim (in_states 1 (Started ∷ Incomplete 1 (ms 3) ∷ Reachable hardware (ms 2) ∷ Stale hardware ∷ Stale hardware ∷ [])) ≡ 3
  pub reachable_goes : victim (in_states 1 (Started ∷ Incomplete 1 (ms 3) ∷ Reachable hardware (ms 9) ∷ Reachable hardware (ms 5) ∷ Reachable hardware (ms 5) ∷ [])) ≡ 3
  pub incomplete_goes : victim (in_states 1 (Started ∷ Incomplete 1 (ms 9) ∷ Incomplete 2 (ms 5) ∷ Incomplete 1 (ms 5) ∷ [])) ≡ 2
  pub started_goes : victim (in_states 1 (Started ∷ Started ∷ [])) ≡ 0
  -- "The new entry goes there."
  pub goes_there : take 2 (table_after (start (neighbour 17) ∷ []) (table_after (starts_of 16) [])) ≡ entry_of (neighbour 17) Started ∷ entry_of (neighbour 15) Started ∷ []
  -- "Remove moves the last entry in; clearing an interface keeps order."
  pub moved_in : table_after (remove (neighbour 1) ∷ []) (in_states 1 (Started ∷ Stale hardware ∷ Incomplete 1 (ms 3) ∷ []))
      ≡ entry_of (neighbour 3) (Incomplete 1 (ms 3)) ∷ entry_of (neighbour 2) (Stale hardware) ∷ []
  pub cleared_in_order : table_after (clear 0 ∷ []) (on_ifaces 1 (1 ∷ 0 ∷ 2 ∷ 0 ∷ 3 ∷ [])) ≡ on_ifaces 1 (1 ∷ []) ++ on_ifaces 3 (2 ∷ []) ++ on_ifaces 5 (3 ∷ [])
  -- "A listing shows Started as Incomplete."
  pub listed : answers (get (neighbour 1) ∷ []) (holding Started) ≡ got (Ok (Some (record { iface = 0; addr = (neighbour 1).addr; state = ListedIncomplete }))) ∷ []
  pub listed_reachable : answers (at 0 ∷ []) (holding (Reachable hardware (ms 9)))
      ≡ got (Ok (Some (record { iface = 0; addr = (neighbour 1).addr; state = ListedReachable hardware (ms 9) }))) ∷ []
  pub listed_stale : answers (remove (neighbour 1) ∷ []) (holding (Stale hardware))
      ≡ got (Ok (Some (record { iface = 0; addr = (neighbour 1).addr; state = ListedStale hardware }))) ∷ []
  -- "Started becomes Incomplete with 1 probe, due now + 1,000, which is scheduled; each other Incomplete due time is asked of the clock"
  pub starts : (sweep_table 0 (ms 500) (holding Started)).table ≡ holding (Incomplete 1 (ms 1500))
  pub start_waits : (expire_clocks (idle (ms 500)) (holding Started)).deadline ≡ Some (ms 1500)
  pub due_waits : (expire_clocks (idle (ms 500)) (holding (Incomplete 1 (ms 1000)))).deadline ≡ Some (ms 1000)
  pub expiry_waits : (expire_clocks (idle (ms 500)) (holding (Reachable hardware (ms 1000)))).deadline ≡ Some (ms 1000)
  -- what has come is not waited for, and the events "do not touch the clock"
  pub due_waits_not : (expire_clocks (idle (ms 1000)) (holding (Incomplete 1 (ms 1000)))).deadline ≡ None
  pub expiry_waits_not : (expire_clocks (idle (ms 1000)) (holding (Reachable hardware (ms 1000)))).deadline ≡ None
  pub events_wait_not : (swept_in (with_entries empty (holding (Incomplete 1 (ms 1000)))) (idle (ms 1000)) 0).clock.deadline ≡ None
  -- "Expiry pass, all interfaces"
  pub stale_elsewhere : (sweep_table 1 (ms 1000) (holding (Reachable hardware (ms 1000)))).table ≡ holding (Stale hardware)
  -- "waiting packets 8": the eighth is queued, "A push on a full queue drops the oldest and returns it."
  pub eighth : push_answer queue_room (queued 7) ≡ Ok None
  pub ninth : push_answer queue_room (queued 8) ≡ Ok (Some 8)
  -- "Release takes the oldest of its key."
  pub oldest : release_answer (neighbour 1) (packet (neighbour 2) 9 ∷ queued 2) ≡ Ok (Some 2)
  pub oldest_goes : release_list (neighbour 1) (packet (neighbour 2) 9 ∷ queued 2) ≡ packet (neighbour 2) 9 ∷ queued 1
  -- "Purging orphans drops packets whose entry is absent or Stale": "in queue order"
  pub absent : orphaned [] (packet (neighbour 1) 7) ≡ true
  pub started_waits : orphaned (holding Started) (packet (neighbour 1) 7) ≡ false
  pub incomplete_waits : orphaned (holding (Incomplete 3 (ms 9))) (packet (neighbour 1) 7) ≡ false
  pub reachable_waits : orphaned (holding (Reachable hardware (ms 9))) (packet (neighbour 1) 7) ≡ false
  pub stale_waits_not : orphaned (holding (Stale hardware)) (packet (neighbour 1) 7) ≡ true
  pub in_order : dropped_handles (on_iface 0) (queued 3) ≡ 3 ∷ 2 ∷ 1 ∷ []
  pub another_interface : dropped_handles (on_iface 1) (queued 3) ≡ []
  -- "What the application adds has no expiry."
  pub address_added : addrs_of (add_addr_by (addr_check 0 network []) empty_addrs network).addrs ≡ record { cidr = network; origin = Manual; preferred = Always } ∷ []
  pub route_added : routes_of (add_route_by (route_check 1 network router []) empty_routes (manual_route 1 network router)).routes
      ≡ record { cidr = network; via_router = router; iface = 1; origin = ManualRoute; expires_at = Forever } ∷ []
  -- the refusal table, on both sides of each bound (its numbers: `Refusals`)
  pub latest : check_number (time_check (ms (2 ^ 62)) 3) ≡ 0
  pub too_late : check_number (time_check (ms (2 ^ 62 + 1)) 4) ≡ 3
  pub no_interface : check_number (time_check (ms (2 ^ 62)) 4) ≡ 7
  pub group_address : check_number (key_check 3 (beginning 0xff02)) ≡ 2
  pub group_filled : check_number (fill_check (ms 0) 3 (beginning 0x2001) (record { hi = 0x0100; lo = 0 })) ≡ 2
  pub lookup_order : lookup_number 4 0xff02 ∷ lookup_number 3 0xff02 ∷ lookup_number 3 0x2001 ∷ [] ≡ 7 ∷ 2 ∷ 0 ∷ []
  pub fill_order : fill_number (2 ^ 62 + 1) 4 0xff02 group
      ∷ fill_number (2 ^ 62) 4 0xff02 group
      ∷ fill_number (2 ^ 62) 3 0xff02 hardware
      ∷ fill_number (2 ^ 62) 3 0x2001 group
      ∷ fill_number (2 ^ 62) 3 0x2001 hardware
      ∷ []
      ≡ 3 ∷ 7 ∷ 2 ∷ 2 ∷ 0 ∷ []
  -- "Checks go in the table's order."
  pub rows : map row_of (TooLate ∷ NoSuchIface ∷ NotAdvertisement ∷ NotLinkLocal ∷ NotUnicast ∷ Malformed ∷ PrefixTooLong ∷ Duplicate ∷ Full ∷ NoRoom ∷ [])
      ≡ 0 ∷ 1 ∷ 2 ∷ 3 ∷ 4 ∷ 5 ∷ 6 ∷ 7 ∷ 8 ∷ 9 ∷ []
  pub longest : check_number (addr_check 0 (record { address = network.address; prefix_len = 128 }) (added 7)) ≡ 0
  pub too_long : check_number (addr_check 0 (record { address = network.address; prefix_len = 129 }) (added 8)) ≡ 14
  pub twice : check_number (addr_check 0 (net 8) (added 8)) ≡ 9
  pub twice_slaac : check_number (addr_check 0 formed (addrs_of end.addrs)) ≡ 9
  pub address_nowhere : check_number (addr_check 4 (of_length 129) []) ≡ 7
  pub full : check_number (addr_check 0 (net 9) (added 8)) ≡ 8
  pub route_twice : check_number (route_check 1 network router (added_routes 8)) ≡ 9
  pub route_slaac : check_number (route_check 0 (record { address = record { hi = 0; lo = 0 }; prefix_len = 0 }) router (routes_of end.routes)) ≡ 0
  pub route_full : check_number (route_check 2 network router (added_routes 8)) ≡ 8
  pub route_room : check_number (route_check 2 network router (added_routes 7)) ≡ 0
  -- "equal to an application's in prefix, router and interface"
  pub route_other_prefix : check_number (route_check 1 (net 2) router (added_routes 1)) ≡ 0
  pub route_other_length : check_number (route_check 1 (of_length 63) router (added_routes 1)) ≡ 0
  pub route_other_router : check_number (route_check 1 network (router_no 2) (added_routes 1)) ≡ 0
  pub route_nowhere : check_number (route_check 4 (of_length 129) router []) ≡ 7
  pub route_too_long : check_number (route_check 1 (of_length 129) router (added_routes 8)) ≡ 14
  -- "A count above its size reads as the size"
  pub neighbours_count : length (entries (record { slots = replicate 16 blank; len = 17 })) ≡ 16
  pub packets_count : length (packets (record { slots = replicate 8 blankPacket; len = 9 })) ≡ 8
  pub addresses_count : length (addrs_of (record { slots = replicate 8 no_addr; len = 9 })) ≡ 8
  pub routes_count : length (routes_of (record { slots = replicate 8 no_route; len = 9 })) ≡ 8
  pub prefixes_count : length (prefixes_of (with_prefixes (fresh true) (replicate 4 no_prefix) 5)) ≡ 4
  pub routers_count : length (routers_of (with_routers (fresh true) (replicate 2 no_router) 3)) ≡ 2
  -- digits: lower case, and no zero in front
  pub digits : hexed (0x0a ∷ 0xf9 ∷ []) ≡ 0x30 ∷ 0x61 ∷ 0x66 ∷ 0x39 ∷ []
  pub number : decimal 1800500 ≡ 0x31 ∷ 0x38 ∷ 0x30 ∷ 0x30 ∷ 0x35 ∷ 0x30 ∷ 0x30 ∷ []
