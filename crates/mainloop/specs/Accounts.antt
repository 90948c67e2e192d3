-- No packet is lost in a turn or a run and none comes out twice: as often as a handle waits or comes, it waits afterwards or is given out. Assumes nothing.
use Rattle.std.specs.Prelude.{ℕ, ◌+◌, ◌≡◌, Bool, List, [], ◌∷◌, length, take, Option}
use Rattle.table.specs.Table.{kept}
use Rattle.time.specs.declared.Instant.{Instant}
use Rattle.wire.specs.declared.ethernet.HardwareAddress.{HardwareAddress}
use Rattle.wire.specs.declared.ipv6.Ipv6Addr.{Ipv6Addr}
use Rattle.neighbor.specs.NeighborRules.{Key}
use Rattle.pending.specs.declared.Handles.{Handles}
use Rattle.pending.specs.declared.PendingQueue.{PendingQueue}
use Rattle.pending.specs.QueueRules.{has_key}
use Rattle.pending.specs.QueueCalls.{queue_room, packets, push_number, pushed_out}
use Rattle.pending.specs.QueueCount.{count_of, waiting}
use Rattle.mainloop.specs.declared.Card.{Card}
use Rattle.mainloop.specs.declared.Input.{Input}
use Rattle.mainloop.specs.declared.Input.TheVariants.{Timer, LinkUp, RouterAdvert, NeighborAdvert, Packet}
use Rattle.mainloop.specs.declared.Action.{Action}
use Rattle.mainloop.specs.declared.Action.TheVariants.{Nothing, Heard, HeardFrom, Refused, Send, Wait, Solicit}
use Rattle.mainloop.specs.declared.Woken.{Woken}
use Rattle.mainloop.specs.declared.Report.{Report}
use Rattle.mainloop.specs.declared.Inbox.{Inbox}
use Rattle.mainloop.specs.LoopRules.{ready_of, push_of, taken, settled, turned, inputs_of, run_over}

-- the handles of an array
abbrev pub listed : Handles → List ℕ
listed hs = take hs.len hs.slots

-- how often a handle waits on the card
abbrev pub waits : ℕ → Card → ℕ
waits h x = waiting h (packets x.queue)

-- the packet that comes with an input
abbrev pub comes : Input → List ℕ
comes Timer = []
comes LinkUp = []
comes (RouterAdvert source) = []
comes (NeighborAdvert addr hw) = []
comes (Packet addr handle) = handle ∷ []

-- the packet that is handed back at once: one that was refused, or one that was dropped to make room
abbrev pub handed_back : Input → Action → List ℕ
handed_back input Nothing = []
handed_back input (Heard answer) = []
handed_back input (HeardFrom answer hw) = []
handed_back input (Refused why) = comes input
handed_back input (Send hw) = []
handed_back input (Wait push) = pushed_out push
handed_back input (Solicit push) = pushed_out push

-- how often a handle is given out in a turn: to be sent, handed back at once, or handed back as the card settles
abbrev pub given_out : ℕ → Woken → Report → ℕ
given_out h w r = (count_of h (listed r.ready) + count_of h (handed_back w.input r.action)) + count_of h (listed r.dropped)

-- the same over a run's turns, each with its report, and how often it came
abbrev pub given_out_in : ℕ → List Woken → List Report → ℕ
given_out_in h [] rs = 0
given_out_in h (w ∷ ws) [] = 0
given_out_in h (w ∷ ws) (r ∷ rs) = given_out h w r + given_out_in h ws rs

abbrev pub came_in : ℕ → List Woken → ℕ
came_in h [] = 0
came_in h (w ∷ ws) = count_of h (comes w.input) + came_in h ws

-- the array of the queue has its size, as that of every queue of the code
abbrev pub Sized : Card → Type 0
Sized x = length x.queue.slots ≡ queue_room

pub record Accounts : Type 0 where
  -- What is released is all that waited for the neighbour, and the others wait on, in order.
  pub rest : (k : Key) (q : PendingQueue) → length q.slots ≡ queue_room → packets (ready_of k q).queue ≡ kept (has_key k) (packets q)
  -- An input: what waited or came waits on, or is ready to be sent, or is handed back.
  pub takes : (h : ℕ) (x : Card) (input : Input) (message : List ℕ) (now : Instant) → Sized x
      → waits h x + count_of h (comes input)
      ≡ waits h (taken x input message now).card
      + (count_of h (listed (taken x input message now).ready) + count_of h (handed_back input (taken x input message now).action))
  -- and the push of a packet that waits is never refused
  pub pushed : (x : Card) (addr : Ipv6Addr) (handle : ℕ) → push_number (push_of x addr handle).answer ≡ 0
  -- Settling: what waited waits on, or is handed back.
  pub settles : (h : ℕ) (x : Card) (up : Bool) (hw : HardwareAddress) (buf : List ℕ) (now : Instant)
      → waits h x ≡ waits h (settled x up hw buf now).card + count_of h (listed (settled x up hw buf now).dropped)
  -- A turn is both.
  pub turns : (h : ℕ) (x : Card) (received : List ℕ) (hw : HardwareAddress) (buf : List ℕ) (w : Woken) → Sized x
      → waits h x + count_of h (comes w.input)
      ≡ waits h (turned received hw x buf w).card + given_out h w (turned received hw x buf w).report
  -- and leaves the array its size
  pub sized : (x : Card) (received : List ℕ) (hw : HardwareAddress) (buf : List ℕ) (w : Woken) → Sized x → Sized (turned received hw x buf w).card
  -- A run is its turns: each input within the budget has its report, and the account is right over all of them.
  pub reports : (x : Card) (wake : Option Instant) (inbox : Inbox) (received : List ℕ) (hw : HardwareAddress) (buf : List ℕ) (budget : ℕ)
      → length (run_over x wake inbox received hw buf budget).reports ≡ length (take budget (inputs_of inbox))
  pub runs : (h : ℕ) (x : Card) (wake : Option Instant) (inbox : Inbox) (received : List ℕ) (hw : HardwareAddress) (buf : List ℕ) (budget : ℕ) → Sized x
      → waits h x + came_in h (take budget (inputs_of inbox))
      ≡ waits h (run_over x wake inbox received hw buf budget).card
      + given_out_in h (take budget (inputs_of inbox)) (run_over x wake inbox received hw buf budget).reports
