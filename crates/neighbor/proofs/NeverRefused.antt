-- A call's number goes by its arguments. Assumes nothing.
use Prim.Native.Nat.{ℕ}
use mathlib.Core.Path.{sym, ◌∙◌}
use Rattle.neighbor.specs.NeverRefused.{NeverRefused}
use Rattle.neighbor.specs.declared.NeighborCache.{NeighborCache}
use Rattle.wire.specs.declared.ipv6.Ipv6Addr.{Ipv6Addr}

pub never_refused : (c c' : NeighborCache) (iface : ℕ) (addr : Ipv6Addr) → NeverRefused c c' iface addr
never_refused c c' iface addr =
    record {
      lookup = λ r r' h h'. h.number ∙ sym h'.number;
      start_resolution = λ r r' h h'. h.number ∙ sym h'.number;
      fill = λ hw now r r' h h'. h.number ∙ sym h'.number;
      insert = λ hw expires r r' h h'. h.number ∙ sym h'.number;
      get = λ r r' h h'. h.number ∙ sym h'.number;
      remove = λ r r' h h'. h.number ∙ sym h'.number;
      clear_iface = λ r r' h h'. h.number ∙ sym h'.number;
    }
