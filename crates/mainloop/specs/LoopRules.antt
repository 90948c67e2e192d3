-- The turns of a card's main loop, each the calls of the library one after another. Assumes nothing.
use Rattle.std.specs.Prelude.{ℕ, zero, suc, ◌≡◌, Bool, List, [], ◌∷◌, ◌++◌, length, take, drop, replicate, Option, None, Result, Ok, Err}
use Rattle.table.specs.Table.{fold_over, filled as filledSlots}
use Rattle.time.specs.declared.Instant.{Instant}
use Rattle.time.specs.declared.Clock.{Clock}
use Rattle.time.specs.ClockRules.{idle}
use Rattle.wire.specs.declared.error.Refusal.{Refusal}
use Rattle.wire.specs.declared.ethernet.HardwareAddress.{HardwareAddress}
use Rattle.wire.specs.declared.ipv6.Ipv6Addr.{Ipv6Addr}
use Rattle.wire.specs.Refusals.{iface_check, time_check, key_check, fill_check, decided}
use Rattle.neighbor.specs.declared.State.TheVariants.{Started}
use Rattle.neighbor.specs.declared.Answer.{Answer as Known}
use Rattle.neighbor.specs.declared.Answer.TheVariants.{Found, Pending, NotFound}
use Rattle.neighbor.specs.declared.Changed.{Changed}
use Rattle.neighbor.specs.declared.NeighborCache.{NeighborCache}
use Rattle.neighbor.specs.NeighborRules.{Key, lasting}
use Rattle.neighbor.specs.CacheCalls.{entries, key, lookup_by, put_in, change_by}
use Rattle.sweep.specs.declared.Swept.{Swept}
use Rattle.sweep.specs.SweepCalls.{events_table, sweep_check, sweep_by, SweptTo}
use Rattle.pending.specs.declared.PendingQueue.{PendingQueue}
use Rattle.pending.specs.declared.Purged.{Purged}
use Rattle.pending.specs.declared.Pushed.{Pushed}
use Rattle.pending.specs.QueueRules.{packet, has_key, orphaned, dropped_handles}
use Rattle.pending.specs.QueueCalls.{queue_room, packets, handles_of, push_by, release_by, purged_of, OrphansPurged}
use Rattle.slaac.specs.declared.Slaac.{Slaac}
use Rattle.slaac.specs.DiscoveryRules.{restarted}
use Rattle.autoconf.specs.declared.AdvertAnswer.{AdvertAnswer}
use Rattle.autoconf.specs.declared.Advertised.{Advertised}
use Rattle.autoconf.specs.declared.PollAnswer.TheVariants.{Quiet}
use Rattle.autoconf.specs.declared.PolledAt.{PolledAt}
use Rattle.autoconf.specs.AdvertRules.{call_by}
use Rattle.autoconf.specs.PollRules.{poll_by, poll_buffer, PolledTo}
use Rattle.mainloop.specs.declared.Card.{Card}
use Rattle.mainloop.specs.declared.Input.{Input}
use Rattle.mainloop.specs.declared.Input.TheVariants.{Timer, LinkUp, RouterAdvert, NeighborAdvert, Packet}
use Rattle.mainloop.specs.declared.Action.{Action}
use Rattle.mainloop.specs.declared.Action.TheVariants.{Nothing, Heard, HeardFrom, Refused, Send, Wait, Solicit}
use Rattle.mainloop.specs.declared.Ready.{Ready}
use Rattle.mainloop.specs.declared.Taken.{Taken}
use Rattle.mainloop.specs.declared.Settled.{Settled}
use Rattle.mainloop.specs.declared.Woken.{Woken}
use Rattle.mainloop.specs.declared.Report.{Report}
use Rattle.mainloop.specs.declared.Turned.{Turned}
use Rattle.mainloop.specs.declared.Inbox.{Inbox}
use Rattle.mainloop.specs.declared.Reports.{Reports}
use Rattle.mainloop.specs.declared.Ran.{Ran}

-- the card's parts that an input changes
abbrev pub card_with : Card → Slaac → NeighborCache → PendingQueue → Card
card_with x s c q = record { slaac = s; addrs = x.addrs; routes = x.routes; cache = c; queue = q }

abbrev pub taken_as_is : Card → Action → List ℕ → Taken
taken_as_is x a ready = record { card = x; action = a; ready = handles_of ready }

-- "Release takes the oldest of its key.": n times, and with none left nothing

abbrev pub release_of : Key → PendingQueue → PendingQueue
release_of k q = (release_by (iface_check 0) q k).queue

unfoldable pub releases : ℕ → Key → PendingQueue → PendingQueue
releases zero k q = q
releases (suc n) k q = releases n k (release_of k q)

-- all that wait for k, in queue order, and the queue after as many releases as it has room for packets
unfoldable pub ready_of : Key → PendingQueue → Ready
ready_of k q = record { queue = releases queue_room k q; handles = handles_of (dropped_handles (has_key k) (packets q)) }

-- A packet, by what a lookup says of its neighbour

-- pushed on the queue
unfoldable pub push_of : Card → Ipv6Addr → ℕ → Pushed
push_of x addr handle = push_by (iface_check 0) x.queue (packet (key 0 addr) handle)

-- "Start puts Started"
unfoldable pub start_of : Card → Ipv6Addr → Changed
start_of x addr = change_by (key_check 0 addr) x.cache (put_in x.cache (key 0 addr) Started)

abbrev pub sent_by : Result Known Refusal → Card → Ipv6Addr → ℕ → Taken
sent_by (Err why) x addr handle = taken_as_is x (Refused why) []
sent_by (Ok (Found hw)) x addr handle = taken_as_is x (Send hw) (handle ∷ [])
sent_by (Ok Pending) x addr handle =
    taken_as_is (card_with x x.slaac x.cache (push_of x addr handle).queue) (Wait (push_of x addr handle).answer) []
sent_by (Ok NotFound) x addr handle =
    taken_as_is (card_with x x.slaac (start_of x addr).cache (push_of x addr handle).queue) (Solicit (push_of x addr handle).answer) []

unfoldable pub sent : Card → Ipv6Addr → ℕ → Taken
sent x addr handle = sent_by (lookup_by (key_check 0 addr) x.cache (key 0 addr)) x addr handle

-- A neighbour's answer: it is filled in, and where that is done its packets are released

unfoldable pub fill_of : Card → Ipv6Addr → HardwareAddress → Instant → Changed
fill_of x addr hw now = change_by (fill_check now 0 addr hw) x.cache (put_in x.cache (key 0 addr) (lasting hw now))

abbrev pub goes_to : Card → Action → NeighborCache → Ready → Taken
goes_to x action c r = record { card = card_with x x.slaac c r.queue; action = action; ready = r.handles }

abbrev pub filled_by : Result (Unit {0}) Refusal → Card → Ipv6Addr → HardwareAddress → NeighborCache → Taken
filled_by (Err why) x addr hw c = taken_as_is x (Refused why) []
filled_by (Ok tt) x addr hw c = goes_to x (Send hw) c (ready_of (key 0 addr) x.queue)

unfoldable pub filled : Card → Ipv6Addr → HardwareAddress → Instant → Taken
filled x addr hw now = filled_by (fill_of x addr hw now).outcome x addr hw (fill_of x addr hw now).cache

-- RFC 4861 7.2.5: the answer of a neighbour without an entry is discarded. So it is, by what a lookup says, of one that is neither known nor
-- looked for

abbrev pub learned_by : Result Known Refusal → Card → Ipv6Addr → HardwareAddress → Instant → Taken
learned_by (Err why) x addr hw now = taken_as_is x (Refused why) []
learned_by (Ok NotFound) x addr hw now = taken_as_is x Nothing []
learned_by (Ok Pending) x addr hw now = filled x addr hw now
learned_by (Ok (Found old)) x addr hw now = filled x addr hw now

unfoldable pub learned : Card → Ipv6Addr → HardwareAddress → Instant → Taken
learned x addr hw now = learned_by (lookup_by (key_check 0 addr) x.cache (key 0 addr)) x addr hw now

-- An advertisement: where its router is then known as a neighbour, the router's packets are released

abbrev pub heard_by : Result Known Refusal → Card → Ipv6Addr → Result AdvertAnswer Refusal → Taken
heard_by (Ok (Found hw)) x source answer = goes_to x (HeardFrom answer hw) x.cache (ready_of (key 0 source) x.queue)
heard_by (Err why) x source answer = taken_as_is x (Heard answer) []
heard_by (Ok Pending) x source answer = taken_as_is x (Heard answer) []
heard_by (Ok NotFound) x source answer = taken_as_is x (Heard answer) []

abbrev pub heard_as : Card → Ipv6Addr → Advertised → Taken
heard_as x source r =
    heard_by (lookup_by (key_check 0 source) r.cache (key 0 source)) (card_with x r.slaac r.cache x.queue) source r.answer

unfoldable pub heard : Card → Ipv6Addr → List ℕ → Instant → Taken
heard x source message now = heard_as x source (call_by (time_check now 0) x.slaac x.cache 0 source message now)

-- An input

abbrev pub taken_in : Card → Input → List ℕ → Instant → Taken
taken_in x Timer message now = taken_as_is x Nothing []
taken_in x LinkUp message now = taken_as_is (card_with x (restarted x.slaac) x.cache x.queue) Nothing []
taken_in x (RouterAdvert source) message now = heard x source message now
taken_in x (NeighborAdvert addr hw) message now = learned x addr hw now
taken_in x (Packet addr handle) message now = sent x addr handle

-- "A refusal returns its number and changes nothing."
abbrev pub not_taken_is : Card → Refusal → Taken
not_taken_is x why = taken_as_is x (Refused why) []

abbrev pub taken_by : Result (Unit {0}) Refusal → Card → Input → List ℕ → Instant → Taken
taken_by check x input message now = decided check (not_taken_is x) (taken_in x input message now)

abbrev pub taken : Card → Input → List ℕ → Instant → Taken
taken x input message now = taken_by (time_check now 0) x input message now

-- Settle

-- the poll of the card's interface, at a clock that nobody waits on
unfoldable pub poll_of : Card → Bool → HardwareAddress → List ℕ → Instant → PolledAt
poll_of x up hw buf now = poll_by (time_check now 0) x.slaac x.addrs x.routes 0 up hw buf (idle now)

unfoldable pub buffer_after : Card → Bool → HardwareAddress → List ℕ → Instant → List ℕ
buffer_after x up hw buf now = poll_buffer (time_check now 0) x.slaac x.addrs up hw buf (idle now)

-- a sweep of the card's interface
abbrev pub sweep_of : NeighborCache → Clock → Swept
sweep_of c clock = sweep_by (sweep_check clock 0) c clock 0

-- the first after this poll, on the poll's clock, and one more on the clock that the first leaves
abbrev pub first_sweep : Card → PolledAt → Swept
first_sweep x p = sweep_of x.cache p.clock

abbrev pub last_sweep : Card → PolledAt → Swept
last_sweep x p = sweep_of (first_sweep x p).cache (first_sweep x p).clock

-- "Purging orphans drops packets": of the cache that the sweeps leave
abbrev pub purge_after : Card → PolledAt → Purged
purge_after x p = purged_of x.queue (orphaned (entries (last_sweep x p).cache))

-- what is left, by the poll, the two sweeps and the purge: the events are the first sweep's, and the deadline is the second's
abbrev pub settled_by : PolledAt → Swept → Swept → Purged → Settled
settled_by p first again purged =
    record {
      card =
          record {
            slaac = p.polled.slaac;
            addrs = p.polled.addrs;
            routes = p.polled.routes;
            cache = again.cache;
            queue = purged.queue;
          };
      answer = p.polled.answer;
      events = first.events;
      dropped = purged.handles;
      wake = again.clock.deadline;
    }

abbrev pub settled_after : Card → PolledAt → Settled
settled_after x p = settled_by p (first_sweep x p) (last_sweep x p) (purge_after x p)

-- "A refusal returns its number and changes nothing.": no event, no packet that is handed back, no time to wake
abbrev pub not_settled : Card → Refusal → Settled
not_settled x why = record { card = x; answer = Err why; events = events_table []; dropped = handles_of []; wake = None }

unfoldable pub settled : Card → Bool → HardwareAddress → List ℕ → Instant → Settled
settled x up hw buf now = decided (time_check now 0) (not_settled x) (settled_after x (poll_of x up hw buf now))

pub record SettledTo (x : Card) (up : Bool) (hw : HardwareAddress) (buf : List ℕ) (now : Instant) (r : Settled) (buf' : List ℕ) : Type 0 where
  pub is : r ≡ settled x up hw buf now
  pub leaves : buf' ≡ buffer_after x up hw buf now
  -- and at a time that is not refused each part keeps its promise
  pub polls : time_check now 0 ≡ Ok tt → PolledTo x.slaac x.addrs x.routes 0 up hw buf (idle now) (poll_of x up hw buf now) buf'
  pub sweeps : time_check now 0 ≡ Ok tt → SweptTo x.cache (poll_of x up hw buf now).clock 0 (first_sweep x (poll_of x up hw buf now))
  pub sweeps_again : time_check now 0 ≡ Ok tt → SweptTo (first_sweep x (poll_of x up hw buf now)).cache (first_sweep x (poll_of x up hw buf now)).clock 0
      (last_sweep x (poll_of x up hw buf now))
  pub purges : time_check now 0 ≡ Ok tt → OrphansPurged x.queue (last_sweep x (poll_of x up hw buf now)).cache (purge_after x (poll_of x up hw buf now))

-- A turn

-- so many of the bytes that were received, from a place on
abbrev pub message_in : List ℕ → ℕ → ℕ → List ℕ
message_in received from len = take len (drop from received)

-- an input is taken with its message
abbrev pub taken_of : List ℕ → Card → Woken → Taken
taken_of received x w = taken x w.input (message_in received w.message_from w.message_len) w.at

abbrev pub turn_by : Taken → Settled → Turned
turn_by t s =
    record {
      card = s.card;
      report = record { action = t.action; ready = t.ready; answer = s.answer; events = s.events; dropped = s.dropped };
      wake = s.wake;
    }

abbrev pub turn_after : Taken → Bool → HardwareAddress → List ℕ → Instant → Turned
turn_after t up hw buf now = turn_by t (settled t.card up hw buf now)

unfoldable pub turned : List ℕ → HardwareAddress → Card → List ℕ → Woken → Turned
turned received hw x buf w = turn_after (taken_of received x w) w.up hw buf w.at

unfoldable pub turn_buffer : List ℕ → HardwareAddress → Card → List ℕ → Woken → List ℕ
turn_buffer received hw x buf w = buffer_after (taken_of received x w).card w.up hw buf w.at

pub record TurnedTo (x : Card) (w : Woken) (received : List ℕ) (hw : HardwareAddress) (buf : List ℕ) (r : Turned) (buf' : List ℕ) : Type 0 where
  pub is : r ≡ turned received hw x buf w
  pub leaves : buf' ≡ turn_buffer received hw x buf w
  -- and the card that took the input settled
  pub settles : SettledTo (taken_of received x w).card w.up hw buf w.at (settled (taken_of received x w).card w.up hw buf w.at) buf'

-- A run

-- "A count above its size reads as the size"
abbrev pub inputs_of : Inbox → List Woken
inputs_of inbox = take inbox.len inbox.slots

-- the card between two turns: until when it may sleep, the lent buffer, and the reports so far
pub record Between : Type 0 where
  pub card : Card
  pub wake : Option Instant
  pub buffer : List ℕ
  pub reports : List Report

abbrev pub before : Card → Option Instant → List ℕ → Between
before x wake buf = record { card = x; wake = wake; buffer = buf; reports = [] }

abbrev pub after_turn : Between → Turned → List ℕ → Between
after_turn b t buf' = record { card = t.card; wake = t.wake; buffer = buf'; reports = b.reports ++ (t.report ∷ []) }

abbrev pub turn_in : List ℕ → HardwareAddress → Between → Woken → Between
turn_in received hw b w = after_turn b (turned received hw b.card b.buffer w) (turn_buffer received hw b.card b.buffer w)

-- a turn for each input, in order, as far as the budget goes
unfoldable pub run_over : Card → Option Instant → Inbox → List ℕ → HardwareAddress → List ℕ → ℕ → Between
run_over x wake inbox received hw buf budget = fold_over (turn_in received hw) (before x wake buf) (take budget (inputs_of inbox))

-- what a slot without a report holds
abbrev pub blank_report : Report
blank_report = record { action = Nothing; ready = handles_of []; answer = Ok Quiet; events = events_table []; dropped = handles_of [] }

abbrev pub reports_of : List Report → Reports
reports_of rs = record { slots = filledSlots (replicate 4 blank_report) rs; len = length rs }

abbrev pub ran_by : Between → Ran
ran_by b = record { card = b.card; reports = reports_of b.reports; wake = b.wake }

pub record RanTo (x : Card) (wake : Option Instant) (inbox : Inbox) (received : List ℕ) (hw : HardwareAddress) (buf : List ℕ) (budget : ℕ) (r : Ran)
    (buf' : List ℕ) : Type 0 where
  pub is : r ≡ ran_by (run_over x wake inbox received hw buf budget)
  pub leaves : buf' ≡ (run_over x wake inbox received hw buf budget).buffer
