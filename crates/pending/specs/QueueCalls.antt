-- The calls of the queue: what each answers and leaves. Slots past the packets keep what they held. Assumes nothing.
use Rattle.wire.specs.declared.error.Refusal.{Refusal}
use Rattle.std.specs.Prelude.{ℕ, ◌≡◌, Bool, cond, not, List, [], ◌∷◌, take, drop, length, get_or, replicate, ltb, Result, Ok, Err, Option, Some, None}
use Rattle.table.specs.Calls.{Decides}
use Rattle.table.specs.Table.{filled, any_of, first_of, kept}
use Rattle.wire.specs.declared.ipv6.Ipv6Addr.{Ipv6Addr}
use Rattle.wire.specs.Refusals.{number_of, check_number, outcome_number, iface_check}
use Rattle.neighbor.specs.declared.NeighborCache.{NeighborCache}
use Rattle.neighbor.specs.CacheCalls.{key, entries, unless}
use Rattle.neighbor.specs.NeighborRules.{Key}
use Rattle.pending.specs.declared.PendingPacket.{PendingPacket}
use Rattle.pending.specs.declared.PendingQueue.{PendingQueue}
use Rattle.pending.specs.declared.Handles.{Handles}
use Rattle.pending.specs.declared.Pushed.{Pushed}
use Rattle.pending.specs.declared.Released.{Released}
use Rattle.pending.specs.declared.Purged.{Purged}
use Rattle.pending.specs.QueueRules.{Queue, handle_of, packet, has_key, is_full, oldest, push_list, push_answer, release_list, release_answer, orphaned, on_iface, dropped_handles}

-- "waiting packets 8"
abbrev pub queue_room : ℕ
queue_room = 8

-- the packets: the first `len` slots; "A count above its size reads as the size"
abbrev pub packets : PendingQueue → Queue
packets q = take q.len q.slots

-- the queue with these packets, whose slots past them hold what they held
abbrev pub with_packets : PendingQueue → Queue → PendingQueue
with_packets q xs = record { slots = filled q.slots xs; len = length xs }

-- what a slot that was never used holds
abbrev pub blank : PendingPacket
blank = record { iface = 0; addr = record { hi = 0; lo = 0 }; handle = 0 }

abbrev pub empty : PendingQueue
empty = record { slots = replicate queue_room blank; len = 0 }

-- handles in their array: past the count are zeros
abbrev pub zeros : List ℕ
zeros = replicate queue_room 0

abbrev pub handles_of : List ℕ → Handles
handles_of hs = record { slots = filled zeros hs; len = length hs }

-- document 01's number of an answer, 0 for none, and the handle that it gives back

abbrev pub push_number : Result (Option ℕ) Refusal → ℕ
push_number (Err why) = number_of why
push_number (Ok None) = 0
push_number (Ok (Some h)) = 0

abbrev pub pushed_out : Result (Option ℕ) Refusal → List ℕ
pushed_out (Err why) = []
pushed_out (Ok None) = []
pushed_out (Ok (Some h)) = h ∷ []

abbrev pub release_number : Result (Option ℕ) Refusal → ℕ
release_number (Err why) = number_of why
release_number (Ok None) = 0
release_number (Ok (Some h)) = 0

abbrev pub released_out : Result (Option ℕ) Refusal → List ℕ
released_out (Err why) = []
released_out (Ok None) = []
released_out (Ok (Some h)) = h ∷ []

-- a listing refuses nothing, and shows a packet
abbrev pub waiting_number : Option PendingPacket → ℕ
waiting_number None = 0
waiting_number (Some p) = 0

abbrev pub waiting_shown : Option PendingPacket → Queue
waiting_shown None = []
waiting_shown (Some p) = p ∷ []

-- Push

abbrev pub push_by : Result (Unit {0}) Refusal → PendingQueue → PendingPacket → Pushed
push_by (Err why) q p = record { queue = q; answer = Err why }
push_by (Ok tt) q p = record { queue = with_packets q (push_list queue_room p (packets q)); answer = push_answer queue_room (packets q) }

pub record PushedTo (q : PendingQueue) (iface : ℕ) (addr : Ipv6Addr) (handle : ℕ) (r : Pushed) : Type 0 where
  pub is : r ≡ push_by (iface_check iface) q (packet (key iface addr) handle)
  pub number : push_number r.answer ≡ check_number (iface_check iface)
  pub gives : pushed_out r.answer ≡ unless (iface_check iface) (cond (is_full queue_room (packets q)) (oldest (packets q) ∷ []) [])

-- Release

-- a packet's handle, and nothing else
abbrev pub handle_alone : PendingPacket → List ℕ
handle_alone p = handle_of p ∷ []

abbrev pub release_by : Result (Unit {0}) Refusal → PendingQueue → Key → Released
release_by (Err why) q k = record { queue = q; answer = Err why }
release_by (Ok tt) q k =
    cond (any_of (has_key k) (packets q)) (record { queue = with_packets q (release_list k (packets q)); answer = release_answer k (packets q) })
    (record { queue = q; answer = Ok None })

pub record ReleasedTo (q : PendingQueue) (iface : ℕ) (addr : Ipv6Addr) (r : Released) : Type 0 where
  pub is : r ≡ release_by (iface_check iface) q (key iface addr)
  pub number : release_number r.answer ≡ check_number (iface_check iface)
  pub gives : released_out r.answer ≡ unless (iface_check iface) (first_of (has_key (key iface addr)) handle_alone [] (packets q))

-- Purges

unfoldable pub purged_of : PendingQueue → (PendingPacket → Bool) → Purged
purged_of q goes =
    record { queue = with_packets q (kept goes (packets q)); handles = handles_of (dropped_handles goes (packets q)); outcome = Ok tt }

-- a purge by a test that tells of a packet whether it stays
abbrev pub PurgesBy : (PendingPacket → Bool → Type 0) → PendingQueue → Purged → Type 0
PurgesBy gives q r = (goes : PendingPacket → Bool) → Decides gives (λ x. not (goes x)) → r ≡ purged_of q goes

-- a purge of orphans refuses nothing
pub record OrphansPurged (q : PendingQueue) (c : NeighborCache) (r : Purged) : Type 0 where
  pub is : r ≡ purged_of q (orphaned (entries c))
  pub number : outcome_number r.outcome ≡ 0

abbrev pub purge_by : Result (Unit {0}) Refusal → PendingQueue → (PendingPacket → Bool) → Purged
purge_by (Err why) q goes = record { queue = q; handles = handles_of []; outcome = Err why }
purge_by (Ok tt) q goes = purged_of q goes

pub record PurgedTo (q : PendingQueue) (iface : ℕ) (r : Purged) : Type 0 where
  pub is : r ≡ purge_by (iface_check iface) q (on_iface iface)
  pub number : outcome_number r.outcome ≡ check_number (iface_check iface)

-- the packet at an index, for a listing
abbrev pub at_index : PendingQueue → ℕ → Option PendingPacket
at_index q i = cond (ltb i (length (packets q))) (Some (get_or (packets q) i blank)) None

pub record WaitingAt (q : PendingQueue) (i : ℕ) (r : Option PendingPacket) : Type 0 where
  pub is : r ≡ at_index q i
  pub number : waiting_number r ≡ 0
  pub shows : waiting_shown r ≡ take 1 (drop i (packets q))
