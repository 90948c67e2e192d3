-- A packet's way through a card, computed turn by turn: link down, SLAAC on, nothing known. And a run that hears two routers. Assumes nothing.
use Rattle.std.specs.Prelude.{ℕ, ◌≡◌, Bool, true, false, List, [], ◌∷◌, ◌++◌, map, replicate, Some, None, Ok, Err}
use Rattle.time.specs.declared.Instant.{Instant}
use Rattle.wire.specs.declared.error.Refusal.TheVariants.{NotAdvertisement}
use Rattle.wire.specs.declared.ethernet.HardwareAddress.{HardwareAddress}
use Rattle.wire.specs.declared.ipv6.Ipv6Addr.{Ipv6Addr}
use Rattle.ndisc.specs.OptionCalls.{link_layer_bytes}
use Rattle.neighbor.specs.NeighborRules.{entry, lasting}
use Rattle.neighbor.specs.CacheCalls.{entries, key, empty}
use Rattle.sweep.specs.declared.ProbeEvent.TheVariants.{Retransmit, Failed}
use Rattle.sweep.specs.SweepCalls.{event_list}
use Rattle.pending.specs.QueueCalls.{handles_of, empty as noPackets}
use Rattle.iface.specs.declared.addr.AddrOrigin.TheVariants.{Manual}
use Rattle.iface.specs.declared.addr.Preferred.TheVariants.{Always}
use Rattle.iface.specs.AddressRules.{no_addr, empty_addrs}
use Rattle.iface.specs.RouteRules.{empty_routes}
use Rattle.slaac.specs.DiscoveryRules.{fresh}
use Rattle.slaac.specs.LearnedRules.{routers_of}
use Rattle.autoconf.specs.declared.PollAnswer.TheVariants.{Quiet, NoRoom}
use Rattle.mainloop.specs.declared.Card.{Card}
use Rattle.mainloop.specs.declared.Input.{Input}
use Rattle.mainloop.specs.declared.Input.TheVariants.{Timer, LinkUp, RouterAdvert, NeighborAdvert, Packet}
use Rattle.mainloop.specs.declared.Action.TheVariants.{HeardFrom, Send, Solicit}
use Rattle.mainloop.specs.declared.Woken.{Woken}
use Rattle.mainloop.specs.declared.Turned.{Turned}
use Rattle.mainloop.specs.declared.Inbox.{Inbox}
use Rattle.mainloop.specs.LoopRules.{turned, Between, run_over, blank_report}

abbrev pub ms : ℕ → Instant
ms t = record { 0 = t }

abbrev pub new_card : Card
new_card = record { slaac = fresh true; addrs = empty_addrs; routes = empty_routes; cache = empty; queue = noPackets }

-- fe80::1, its hardware address, and the card's own
abbrev pub neighbour : Ipv6Addr
neighbour = record { hi = 0xfe80_0000_0000_0000; lo = 1 }

abbrev pub its_address : HardwareAddress
its_address = record { hi = 0x0200; lo = 1 }

abbrev pub own_address : HardwareAddress
own_address = record { hi = 0x0200; lo = 2 }

-- a turn at a time
abbrev pub turn_at : ℕ → Input → Card → Turned
turn_at t input x = turned [] own_address x [] (record { at = ms t; up = false; input = input; message_from = 0; message_len = 0 })

abbrev pub at0 : Turned
at0 = turn_at 0 (Packet neighbour 7) new_card

abbrev pub at1000 : Turned
at1000 = turn_at 1000 Timer at0.card

abbrev pub at2000 : Turned
at2000 = turn_at 2000 Timer at1000.card

abbrev pub at3000 : Turned
at3000 = turn_at 3000 Timer at2000.card

-- or an answer after the second solicitation
abbrev pub at1500 : Turned
at1500 = turn_at 1500 (NeighborAdvert neighbour its_address) at1000.card

-- Two routers

-- fe80::3, and its hardware address
abbrev pub other : Ipv6Addr
other = record { hi = 0xfe80_0000_0000_0000; lo = 3 }

abbrev pub others_address : HardwareAddress
others_address = record { hi = 0x0200; lo = 3 }

-- an advertisement for 1,800 s with the router's hardware address, of 24 bytes
abbrev pub advert_bytes : HardwareAddress → List ℕ
advert_bytes hw = (0x86 ∷ 0 ∷ 0 ∷ 0 ∷ 0x40 ∷ 0 ∷ 0x07 ∷ 0x08 ∷ replicate 8 0) ++ link_layer_bytes 1 hw

-- one that came while the link was up, with its stretch of the receive buffer
abbrev pub advert_at : ℕ → Ipv6Addr → ℕ → Woken
advert_at t source from = record { at = ms t; up = true; input = RouterAdvert source; message_from = from; message_len = 24 }

abbrev pub inbox : Inbox
inbox = record { slots = advert_at 10 neighbour 0 ∷ advert_at 20 other 24 ∷ replicate 2 (advert_at 0 neighbour 0); len = 2 }

-- a run with a budget, and no room for a solicitation
abbrev pub run_with : ℕ → Between
run_with budget = run_over new_card None inbox (advert_bytes its_address ++ advert_bytes others_address) own_address [] budget

-- The link comes up

-- fe80::2
abbrev pub own_local : Ipv6Addr
own_local = record { hi = 0xfe80_0000_0000_0000; lo = 2 }

-- a card with that address to send from
abbrev pub with_address : Card
with_address =
    record {
      slaac = fresh true;
      addrs = record { slots = record { cidr = record { address = own_local; prefix_len = 64 }; origin = Manual; preferred = Always } ∷ replicate 7 no_addr; len = 1 };
      routes = empty_routes;
      cache = empty;
      queue = noPackets;
    }

abbrev pub link_at : ℕ → Bool → Input → Woken
link_at t up input = record { at = ms t; up = up; input = input; message_from = 0; message_len = 0 }

abbrev pub link_inbox : Inbox
link_inbox = record { slots = link_at 0 false Timer ∷ link_at 10 true LinkUp ∷ replicate 2 (link_at 0 false Timer); len = 2 }

pub record Story : Type 0 where
  -- Packet 7 is for a neighbour that is not known: it waits, the neighbour is to be solicited, and the card may sleep for 1,000 ms.
  pub waits : at0.report.action ≡ Solicit (Ok None)
  pub until_1000 : at0.wake ≡ Some (ms 1000)
  -- Woken too early it finds nothing to do, and sleeps on.
  pub too_early : turn_at 999 Timer at0.card ≡ record { card = at0.card; report = blank_report; wake = Some (ms 1000) }
  -- No answer: the neighbour is to be solicited again, and once more.
  pub again : event_list at1000.report.events ≡ Retransmit neighbour ∷ []
  pub until_2000 : at1000.wake ≡ Some (ms 2000)
  pub once_more : event_list at2000.report.events ≡ Retransmit neighbour ∷ []
  pub until_3000 : at2000.wake ≡ Some (ms 3000)
  -- Still none: the resolution failed, the packet is handed back, and nothing is left to wake for.
  pub failed : event_list at3000.report.events ≡ Failed neighbour ∷ []
  pub handed_back : at3000.report.dropped ≡ handles_of (7 ∷ [])
  pub for_ever : at3000.wake ≡ None
  -- With an answer at 1,500 the packet goes there, none is handed back, and the card sleeps until the neighbour is known no longer.
  pub goes : at1500.report.action ≡ Send its_address
  pub ready : at1500.report.ready ≡ handles_of (7 ∷ [])
  pub none_back : at1500.report.dropped ≡ handles_of []
  pub until_61500 : at1500.wake ≡ Some (ms 61500)
  -- An answer that nobody waits for tells nothing: the card is the new one.
  pub unasked : turn_at 10 (NeighborAdvert neighbour its_address) new_card ≡ record { card = new_card; report = blank_report; wake = None }
  -- An advertisement of that neighbour without a byte is refused, and the turn tells it.
  pub refused : (turn_at 1600 (RouterAdvert neighbour) at1500.card).report.action ≡ HeardFrom (Err NotAdvertisement) its_address
  -- Two advertisements stand in one receive buffer, and each is read from its own stretch: both routers are learned, and each is known as a
  -- neighbour by its own hardware address.
  pub both_learned : routers_of (run_with 2).card.slaac ≡ record { addr = neighbour; valid_until = ms 1800010 } ∷ record { addr = other; valid_until = ms 1800020 } ∷ []
  pub both_known : entries (run_with 2).card.cache
      ≡ entry (key 0 neighbour) (lasting its_address (ms 10)) ∷ entry (key 0 other) (lasting others_address (ms 20)) ∷ []
  -- With a budget of 1 the second is left.
  pub first_only : routers_of (run_with 1).card.slaac ≡ record { addr = neighbour; valid_until = ms 1800010 } ∷ []
  -- Each turn goes by the link as it was then: with the link down none solicits routers, and once it is up one is due (here without room).
  pub link : map (λ r. r.answer) (run_over with_address None link_inbox [] own_address [] 2).reports ≡ Ok Quiet ∷ (Ok NoRoom) ∷ []
