-- Document 01, "Waiting packets": its rules on the queue, a list whose head is the oldest packet. Assumes nothing.
use Rattle.wire.specs.declared.error.Refusal.{Refusal}
use Rattle.std.specs.Prelude.{ℕ, Bool, true, false, cond, not, List, [], ◌∷◌, ◌++◌, map, length, drop, ltb, eqb, Option, Some, None, Result, Ok}
use Rattle.table.specs.Table.{at_first_is, first_of, dropped}
use Rattle.neighbor.specs.declared.State.{State}
use Rattle.neighbor.specs.declared.State.TheVariants.{Started, Incomplete, Reachable, Stale}
use Rattle.neighbor.specs.declared.Entry.{Entry}
use Rattle.neighbor.specs.NeighborRules.{Table, Key, same_key, is_key}
use Rattle.pending.specs.declared.PendingPacket.{PendingPacket}

abbrev pub Queue : Type 0
Queue = List PendingPacket

-- "Packets are 32-bit handles that may repeat."
abbrev pub handle_of : PendingPacket → ℕ
handle_of p = p.handle

abbrev pub key_of : PendingPacket → Key
key_of p = record { iface = p.iface; addr = p.addr }

abbrev pub packet : Key → ℕ → PendingPacket
packet k handle = record { iface = k.iface; addr = k.addr; handle = handle }

-- the packet waits for k
abbrev pub has_key : Key → PendingPacket → Bool
has_key k p = same_key k (key_of p)

-- "A push on a full queue drops the oldest and returns it.": of a queue with this room
abbrev pub is_full : ℕ → Queue → Bool
is_full room q = not (ltb (length q) room)

unfoldable pub push_list : ℕ → PendingPacket → Queue → Queue
push_list room p q = cond (is_full room q) (drop 1 q) q ++ (p ∷ [])

abbrev pub oldest : Queue → ℕ
oldest [] = 0
oldest (p ∷ q) = handle_of p

unfoldable pub push_answer : ℕ → Queue → Result (Option ℕ) Refusal
push_answer room q = cond (is_full room q) (Ok (Some (oldest q))) (Ok None)

-- "Release takes the oldest of its key."
abbrev pub gone : PendingPacket → Queue
gone p = []

unfoldable pub release_list : Key → Queue → Queue
release_list k q = at_first_is (has_key k) gone [] q

abbrev pub handed : PendingPacket → Result (Option ℕ) Refusal
handed p = Ok (Some (handle_of p))

unfoldable pub release_answer : Key → Queue → Result (Option ℕ) Refusal
release_answer k q = first_of (has_key k) handed (Ok None) q

-- "Purging orphans drops packets whose entry is absent or Stale"
abbrev pub awaits : State → Bool
awaits Started = true
awaits (Incomplete p t) = true
awaits (Reachable h t) = true
awaits (Stale h) = false

abbrev pub awaits_in : Entry → Bool
awaits_in e = awaits e.state

unfoldable pub orphaned : Table → PendingPacket → Bool
orphaned t p = not (first_of (is_key (key_of p)) awaits_in false t)

-- "purging an interface drops its own"
unfoldable pub on_iface : ℕ → PendingPacket → Bool
on_iface iface p = eqb iface p.iface

-- "Dropped handles come back in queue order."
unfoldable pub dropped_handles : (PendingPacket → Bool) → Queue → List ℕ
dropped_handles goes q = map handle_of (dropped goes q)
