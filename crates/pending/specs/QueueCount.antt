-- Nothing is lost and nothing is made up: each call takes as many packets of a handle as it leaves in the queue and gives back.
-- Document 01: "Packets are 32-bit handles that may repeat." Assumes nothing.
use Rattle.std.specs.Prelude.{ℕ, suc, ◌+◌, ◌≤◌, ◌<◌, ◌≡◌, Bool, cond, List, [], ◌∷◌, map, length, eqb}
use Rattle.table.specs.Table.{kept}
use Rattle.neighbor.specs.NeighborRules.{Key}
use Rattle.pending.specs.declared.PendingPacket.{PendingPacket}
use Rattle.pending.specs.QueueCalls.{pushed_out, released_out}
use Rattle.pending.specs.QueueRules.{Queue, handle_of, push_list, push_answer, release_list, release_answer, dropped_handles}

-- how often a handle is among these
abbrev pub count_of : ℕ → List ℕ → ℕ
count_of h [] = 0
count_of h (x ∷ xs) = cond (eqb h x) (suc (count_of h xs)) (count_of h xs)

-- how often it waits
unfoldable pub waiting : ℕ → Queue → ℕ
waiting h q = count_of h (map handle_of q)

pub record Accounted : Type 0 where
  pub push : (room h : ℕ) (p : PendingPacket) (q : Queue) → 0 < room
      → waiting h q + count_of h (handle_of p ∷ []) ≡ waiting h (push_list room p q) + count_of h (pushed_out (push_answer room q))
  pub release : (h : ℕ) (k : Key) (q : Queue) → waiting h q ≡ waiting h (release_list k q) + count_of h (released_out (release_answer k q))
  pub purge : (h : ℕ) (goes : PendingPacket → Bool) (q : Queue) → waiting h q ≡ waiting h (kept goes q) + count_of h (dropped_handles goes q)
  -- and a push leaves no more than there is room for
  pub room : (room : ℕ) (p : PendingPacket) (q : Queue) → 0 < room → length q ≤ room → length (push_list room p q) ≤ room
