-- Document 01, "Waiting packets": release and orphans, said of places and not as scans. Assumes nothing.
use Rattle.std.specs.Prelude.{ℕ, ◌≡◌, true, false, get_or, Some, None, Ok}
use Rattle.table.specs.First.{FirstAt, NoneFrom}
use Rattle.table.specs.Table.{without}
use Rattle.wire.specs.declared.ethernet.HardwareAddress.{HardwareAddress}
use Rattle.neighbor.specs.declared.State.TheVariants.{Stale}
use Rattle.neighbor.specs.CacheCalls.{blank as blankEntry}
use Rattle.neighbor.specs.Eviction.{state_at}
use Rattle.neighbor.specs.NeighborRules.{Table, Key, is_key}
use Rattle.pending.specs.declared.PendingPacket.{PendingPacket}
use Rattle.pending.specs.QueueCalls.{blank}
use Rattle.pending.specs.QueueRules.{Queue, handle_of, key_of, has_key, release_list, release_answer, orphaned}

-- "Release takes the oldest of its key.": the packet that has the key and none before it that has it; where none has it, nothing is taken.
-- One of the two is the case: `FirstFromLaw` of table.
pub record ReleaseLaw : Type 0 where
  pub gives : (k : Key) (q : Queue) (j : ℕ) → FirstAt blank (has_key k) 0 q j → release_answer k q ≡ Ok (Some (handle_of (get_or q j blank)))
  pub takes : (k : Key) (q : Queue) (j : ℕ) → FirstAt blank (has_key k) 0 q j → release_list k q ≡ without q j
  pub gives_none : (k : Key) (q : Queue) (j : ℕ) → NoneFrom blank (has_key k) 0 q j → release_answer k q ≡ Ok None
  pub takes_none : (k : Key) (q : Queue) (j : ℕ) → NoneFrom blank (has_key k) 0 q j → release_list k q ≡ q

-- "Purging orphans drops packets whose entry is absent or Stale": a packet is an orphan if no entry has its key, or the first that has
-- it is Stale, and only then.
pub record OrphanLaw : Type 0 where
  pub absent : (t : Table) (p : PendingPacket) (j : ℕ) → NoneFrom blankEntry (is_key (key_of p)) 0 t j → orphaned t p ≡ true
  pub stale : (t : Table) (p : PendingPacket) (j : ℕ) (h : HardwareAddress) → FirstAt blankEntry (is_key (key_of p)) 0 t j
      → state_at t j ≡ Stale h → orphaned t p ≡ true
  pub awaited : (t : Table) (p : PendingPacket) (j : ℕ) → FirstAt blankEntry (is_key (key_of p)) 0 t j
      → ((h : HardwareAddress) → state_at t j ≡ Stale h → ⊥) → orphaned t p ≡ false
