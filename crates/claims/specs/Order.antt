-- Document 01, "Refusal numbers": "Checks go in the table's order." Assumes nothing.
use Rattle.std.specs.Prelude.{ℕ, ◌≤◌, ◌≡◌, true, List, [], ◌∷◌, ◌++◌, Err}
use Rattle.time.specs.declared.Instant.{Instant}
use Rattle.wire.specs.declared.ethernet.HardwareAddress.{HardwareAddress}
use Rattle.wire.specs.declared.ipv6.Ipv6Addr.{Ipv6Addr}
use Rattle.wire.specs.declared.error.Refusal.{Refusal}
use Rattle.wire.specs.declared.ipv6.Ipv6Cidr.{Ipv6Cidr}
use Rattle.neighbor.specs.declared.NeighborCache.{NeighborCache}
use Rattle.neighbor.specs.NeverRefused.{NeverRefused}
use Rattle.iface.specs.declared.addr.IfaceAddr.{IfaceAddr}
use Rattle.iface.specs.declared.route.Route.{Route}
use Rattle.iface.specs.AddressRules.{addr_rows}
use Rattle.iface.specs.RouteRules.{route_rows}
use Rattle.autoconf.specs.AdvertRules.{message_rows}
use Rattle.wire.specs.Refusals.{Row, row_of, ascends, first_refusal, iface_rows, time_rows, key_rows, fill_rows}

-- each of the rows that fails stands in the table at `why`'s place or below it
abbrev pub NoneAbove : Refusal → List Row → Type 0
NoneAbove why [] = Unit {0}
NoneAbove why (row ∷ rows) = (row.fails ≡ true → row_of why ≤ row_of row.refusal) × NoneAbove why rows

pub record Order : Type 0 where
  -- of a call whose rows go down the table, the refusal is the topmost of those that fail
  pub topmost : (rows : List Row) → ascends rows ≡ true → (why : Refusal) → first_refusal rows ≡ Err why → NoneAbove why rows
  -- and the rows of every call do: lookup and start
  pub lookup_start : (iface : ℕ) (addr : Ipv6Addr) → ascends (key_rows iface addr) ≡ true
  -- fill and insert
  pub fill_insert : (t : Instant) (iface : ℕ) (addr : Ipv6Addr) (hw : HardwareAddress) → ascends (fill_rows t iface addr hw) ≡ true
  -- the sweep and the poll
  pub sweep_poll : (t : Instant) (iface : ℕ) → ascends (time_rows t iface) ≡ true
  -- an advertisement: 3 and 7, and then, with SLAAC on, those of its message
  pub advertisement : (t : Instant) (iface : ℕ) (source : Ipv6Addr) (msg : List ℕ) → ascends (time_rows t iface ++ message_rows source msg) ≡ true
  -- the application's calls
  pub add_ip_addr : (iface : ℕ) (c : Ipv6Cidr) (es : List IfaceAddr) → ascends (addr_rows iface c es) ≡ true
  pub add_route : (iface : ℕ) (c : Ipv6Cidr) (via : Ipv6Addr) (es : List Route) → ascends (route_rows iface c via es) ≡ true
  -- get, remove, clear, the queue's calls, restart, turning SLAAC on and off
  pub on_an_interface : (iface : ℕ) → ascends (iface_rows iface) ≡ true
  -- "times in tables and a clock's deadline are never refused": with the same arguments a call's number is the same for every cache
  pub never_refused : (c c' : NeighborCache) (iface : ℕ) (addr : Ipv6Addr) → NeverRefused c c' iface addr
