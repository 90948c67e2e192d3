-- Document 01, "Neighbour cache": "Keys are (interface, address), never twice." Assumes nothing.
use Rattle.std.specs.Prelude.{ℕ, ◌≤◌, length}
use Rattle.time.specs.declared.Instant.{Instant}
use Rattle.wire.specs.declared.ethernet.HardwareAddress.{HardwareAddress}
use Rattle.wire.specs.declared.ipv6.Ipv6Addr.{Ipv6Addr}
use Rattle.neighbor.specs.declared.NeighborCache.{NeighborCache}
use Rattle.neighbor.specs.declared.Changed.{Changed}
use Rattle.neighbor.specs.declared.Removed.{Removed}
use Rattle.neighbor.specs.NeighborRules.{Table, Key, entries_of}
use Rattle.neighbor.specs.CacheCalls.{entries, empty, StartTo, InsertTo, FillTo, ClearTo, RemovedTo}

pub record Distinct (t : Table) : Type 0 where
  pub once : (k : Key) → length (entries_of k t) ≤ 1

-- no key is twice in the cache
abbrev pub Once : NeighborCache → Type 0
Once c = Distinct (entries c)

-- A new cache has none, and each call that keeps its promise keeps it so.
pub record KeysOnce : Type 0 where
  pub new : Once empty
  pub start_resolution : (c : NeighborCache) (iface : ℕ) (addr : Ipv6Addr) (r : Changed) → StartTo c iface addr r → Once c → Once r.cache
  pub fill : (c : NeighborCache) (iface : ℕ) (addr : Ipv6Addr) (hw : HardwareAddress) (now : Instant) (r : Changed)
      → FillTo c iface addr hw now r → Once c → Once r.cache
  pub insert : (c : NeighborCache) (iface : ℕ) (addr : Ipv6Addr) (hw : HardwareAddress) (expires : Instant) (r : Changed)
      → InsertTo c iface addr hw expires r → Once c → Once r.cache
  pub remove : (c : NeighborCache) (iface : ℕ) (addr : Ipv6Addr) (r : Removed) → RemovedTo c iface addr r → Once c → Once r.cache
  pub clear_iface : (c : NeighborCache) (iface : ℕ) (r : Changed) → ClearTo c iface r → Once c → Once r.cache
