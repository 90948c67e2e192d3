-- Document 01, "Poll": turning SLAAC off, with the handles of request 2026-10. Assumes nothing.
use Rattle.std.specs.Prelude.{ℕ, ◌≡◌, Bool, false, cond, [], Result, Ok, Err}
use Rattle.table.specs.Table.{kept}
use Rattle.wire.specs.declared.error.Refusal.{Refusal}
use Rattle.wire.specs.Refusals.{check_number, outcome_number, decided, iface_check}
use Rattle.neighbor.specs.declared.NeighborCache.{NeighborCache}
use Rattle.neighbor.specs.CacheCalls.{clear_in}
use Rattle.pending.specs.declared.PendingQueue.{PendingQueue}
use Rattle.pending.specs.declared.Handles.{Handles}
use Rattle.pending.specs.QueueRules.{on_iface, dropped_handles}
use Rattle.pending.specs.QueueCalls.{packets, with_packets, handles_of}
use Rattle.iface.specs.declared.addr.IfaceAddrs.{IfaceAddrs}
use Rattle.iface.specs.declared.route.Routes.{Routes}
use Rattle.iface.specs.AddressRules.{clear_addrs}
use Rattle.iface.specs.RouteRules.{routes_of, with_routes, clear_routes}
use Rattle.slaac.specs.declared.Slaac.{Slaac}
use Rattle.slaac.specs.DiscoveryRules.{fresh}
use Rattle.autoconf.specs.declared.TurnedOff.{TurnedOff}

abbrev pub turned_off : Slaac → IfaceAddrs → Routes → NeighborCache → PendingQueue → Handles → Result (Unit {0}) Refusal → TurnedOff
turned_off s t r c q hs o = record { slaac = s; addrs = t; routes = r; cache = c; queue = q; handles = hs; outcome = o }

-- "if an address went, the interface's neighbours and waiting packets are cleared"
abbrev pub cleared_cache : Bool → NeighborCache → ℕ → NeighborCache
cleared_cache went c iface = cond went (clear_in c iface) c

abbrev pub cleared_queue : Bool → PendingQueue → ℕ → PendingQueue
cleared_queue went q iface = cond went (with_packets q (kept (on_iface iface) (packets q))) q

-- request 2026-10: "whose purge now returns its handles like the others", over document 01's "no handle returned"
abbrev pub cleared_handles : Bool → PendingQueue → ℕ → Handles
cleared_handles went q iface = handles_of (cond went (dropped_handles (on_iface iface) (packets q)) [])

-- "Turning SLAAC off removes its addresses and routes"; the state is that of SLAAC off, which is one value
unfoldable pub off_now : IfaceAddrs → Routes → NeighborCache → PendingQueue → ℕ → TurnedOff
off_now t r c q iface =
    turned_off (fresh false) (clear_addrs t).addrs (with_routes r (clear_routes iface (routes_of r))) (cleared_cache (clear_addrs t).any c iface)
    (cleared_queue (clear_addrs t).any q iface) (cleared_handles (clear_addrs t).any q iface) (Ok tt)

-- everything as it came, and no handle
abbrev pub left_alone : Slaac → IfaceAddrs → Routes → NeighborCache → PendingQueue → Result (Unit {0}) Refusal → TurnedOff
left_alone s t r c q o = turned_off s t r c q (handles_of []) o

abbrev pub not_turned_off : Slaac → IfaceAddrs → Routes → NeighborCache → PendingQueue → Refusal → TurnedOff
not_turned_off s t r c q why = left_alone s t r c q (Err why)

-- what is off stays as it is
abbrev pub off_by : Result (Unit {0}) Refusal → Slaac → IfaceAddrs → Routes → NeighborCache → PendingQueue → ℕ → TurnedOff
off_by check s t r c q iface = decided check (not_turned_off s t r c q) (cond s.on (off_now t r c q iface) (left_alone s t r c q (Ok tt)))

pub record TurnedOffTo (s : Slaac) (t : IfaceAddrs) (r : Routes) (c : NeighborCache) (q : PendingQueue) (iface : ℕ) (x : TurnedOff) : Type 0 where
  pub is : x ≡ off_by (iface_check iface) s t r c q iface
  pub number : outcome_number x.outcome ≡ check_number (iface_check iface)
