-- Laws of the turns: what the calls' contracts say, put together. Assumes nothing.
use Prim.Native.Nat.{ℕ, ◌+◌, ◌≤◌, ◌<◌, min}
use lib.ListN.{length, take, drop, get_or, set, replicate, length-take, length-set, drop_of_length-le}
use lib.Seq.{length-take-le, drop-set-lt, get_or-take}
use mathlib.Core.Bool.{Bool, false}
use mathlib.Core.List.{List, [], ◌∷◌}
use mathlib.Core.Path.{◌≡◌, refl, ap, ap₂, sym, subst, ◌∙◌}
use native.Mathlib.Omega.{arith}
use Rattle.std.specs.Prelude.{Option, None, Result, Ok, Err}
use Rattle.table.proofs.Laws.{made, entry_at, entries_from, one_more, agree_from}
use Rattle.table.specs.Table.{fold_over}
use Rattle.time.specs.declared.Instant.{Instant}
use Rattle.time.specs.declared.Clock.{Clock}
use Rattle.time.specs.ClockRules.{idle}
use Rattle.wire.specs.declared.error.Refusal.{Refusal}
use Rattle.wire.specs.declared.ethernet.HardwareAddress.{HardwareAddress}
use Rattle.wire.specs.declared.ipv6.Ipv6Addr.{Ipv6Addr}
use Rattle.wire.specs.Refusals.{time_rows, time_check, decided, Tested}
use Rattle.neighbor.specs.declared.Answer.{Answer as Known}
use Rattle.neighbor.specs.declared.Answer.TheVariants.{Found, Pending, NotFound}
use Rattle.neighbor.specs.declared.Changed.{Changed}
use Rattle.neighbor.specs.CacheCalls.{entries, key, LookedUp, StartTo, FillTo}
use Rattle.sweep.specs.declared.Events.{Events}
use Rattle.sweep.specs.declared.Swept.{Swept}
use Rattle.sweep.specs.SweepCalls.{events_table, SweptTo}
use Rattle.pending.specs.declared.Handles.{Handles}
use Rattle.pending.specs.declared.Purged.{Purged}
use Rattle.pending.specs.declared.Pushed.{Pushed}
use Rattle.pending.specs.QueueRules.{orphaned}
use Rattle.pending.specs.QueueCalls.{handles_of, purged_of, OrphansPurged, PushedTo}
use Rattle.autoconf.specs.declared.Advertised.{Advertised}
use Rattle.autoconf.specs.declared.PolledAt.{PolledAt}
use Rattle.autoconf.specs.AdvertRules.{AdvertisedTo}
use Rattle.autoconf.specs.PollRules.{poll_buffer, PolledTo}
use Rattle.mainloop.specs.declared.Action.TheVariants.{Nothing, Heard, HeardFrom, Refused, Send, Wait, Solicit}
use Rattle.mainloop.specs.declared.Card.{Card}
use Rattle.mainloop.specs.declared.Input.TheVariants.{Timer}
use Rattle.mainloop.specs.declared.Ready.{Ready}
use Rattle.mainloop.specs.declared.Inbox.{Inbox}
use Rattle.mainloop.specs.declared.Report.{Report}
use Rattle.mainloop.specs.declared.Reports.{Reports}
use Rattle.mainloop.specs.declared.Settled.{Settled}
use Rattle.mainloop.specs.declared.Taken.{Taken}
use Rattle.mainloop.specs.declared.Turned.{Turned}
use Rattle.mainloop.specs.declared.Woken.{Woken}
use Rattle.mainloop.specs.LoopRules.{card_with, push_of, start_of, sent_by, sent, ready_of, goes_to, fill_of, filled_by, filled, learned_by, learned, heard_by, heard_as, heard, taken, poll_of, buffer_after, first_sweep, last_sweep, settled_by, settled_after, not_settled, settled, SettledTo, message_in, taken_of, turn_by, turned, turn_buffer, TurnedTo, Between, before, after_turn, turn_in, run_over, blank_report, reports_of, ran_by, RanTo}

-- A packet

module _ (x : Card) (addr : Ipv6Addr) (handle : ℕ) (known : Result Known Refusal) (w : LookedUp x.cache 0 addr known) where
  by_lookup : (k : Result Known Refusal) → known ≡ k → sent_by k x addr handle ≡ sent x addr handle
  unfolding sent
  by_lookup k e = ap (λ (y : Result Known Refusal). sent_by y x addr handle) (sym e ∙ w.is)

  pub send_refused : (why : Refusal) → known ≡ Err why → (ready : Handles) → ready ≡ handles_of [] → record { card = x; action = Refused why; ready = ready } ≡ sent x addr handle
  send_refused why e ready none = ap (λ (y : Handles). record { card = x; action = Refused why; ready = y }) none ∙ by_lookup (Err why) e

  pub send_known : (hw : HardwareAddress) → known ≡ Ok (Found hw) → (ready : Handles) → ready ≡ handles_of (handle ∷ []) → record { card = x; action = Send hw; ready = ready } ≡ sent x addr handle
  send_known hw e ready one = ap (λ (y : Handles). record { card = x; action = Send hw; ready = y }) one ∙ by_lookup (Ok (Found hw)) e

  pub send_waits : known ≡ Ok Pending → (p : Pushed) → PushedTo x.queue 0 addr handle p → (ready : Handles) → ready ≡ handles_of []
      → record { card = card_with x x.slaac x.cache p.queue; action = Wait p.answer; ready = ready } ≡ sent x addr handle
  unfolding push_of
  send_waits e p pushed ready none =
      ap₂ (λ (q : Pushed) (y : Handles). record { card = card_with x x.slaac x.cache q.queue; action = Wait q.answer; ready = y }) pushed.is none
      ∙ by_lookup (Ok Pending) e

  pub send_starts : known ≡ Ok NotFound → (p : Pushed) → PushedTo x.queue 0 addr handle p → (s : Changed) → StartTo x.cache 0 addr s → (ready : Handles) → ready ≡ handles_of []
      → record { card = card_with x x.slaac s.cache p.queue; action = Solicit p.answer; ready = ready } ≡ sent x addr handle
  unfolding push_of start_of
  send_starts e p pushed s started ready none =
      (λ i. record { card = card_with x x.slaac (started.is i).cache (pushed.is i).queue; action = Solicit (pushed.is i).answer; ready = none i })
      ∙ by_lookup (Ok NotFound) e

-- A neighbour's answer

module _ (x : Card) (addr : Ipv6Addr) (hw : HardwareAddress) (now : Instant) (change : Changed) (w : FillTo x.cache 0 addr hw now change) where
  by_outcome : (o : Result (Unit {0}) Refusal) → change.outcome ≡ o → filled_by o x addr hw change.cache ≡ filled x addr hw now
  unfolding filled fill_of
  by_outcome o e =
      ap (λ (y : Result (Unit {0}) Refusal). filled_by y x addr hw change.cache) (sym e) ∙ ap (λ (y : Changed). filled_by y.outcome x addr hw y.cache) w.is

  pub fill_refused : (why : Refusal) → change.outcome ≡ Err why → (ready : Handles) → ready ≡ handles_of []
      → record { card = x; action = Refused why; ready = ready } ≡ filled x addr hw now
  fill_refused why e ready none = ap (λ (y : Handles). record { card = x; action = Refused why; ready = y }) none ∙ by_outcome (Err why) e

  pub fill_done : change.outcome ≡ Ok tt → (r : Ready) → r ≡ ready_of (key 0 addr) x.queue → goes_to x (Send hw) change.cache r ≡ filled x addr hw now
  fill_done e r f = ap (goes_to x (Send hw) change.cache) f ∙ by_outcome (Ok tt) e

module _ (x : Card) (addr : Ipv6Addr) (hw : HardwareAddress) (now : Instant) (known : Result Known Refusal) (w : LookedUp x.cache 0 addr known) where
  learn_by : (k : Result Known Refusal) → known ≡ k → learned_by k x addr hw now ≡ learned x addr hw now
  unfolding learned
  learn_by k e = ap (λ (y : Result Known Refusal). learned_by y x addr hw now) (sym e ∙ w.is)

  pub learn_refused : (why : Refusal) → known ≡ Err why → (ready : Handles) → ready ≡ handles_of []
      → record { card = x; action = Refused why; ready = ready } ≡ learned x addr hw now
  learn_refused why e ready none = ap (λ (y : Handles). record { card = x; action = Refused why; ready = y }) none ∙ learn_by (Err why) e

  pub learn_none : known ≡ Ok NotFound → (ready : Handles) → ready ≡ handles_of [] → record { card = x; action = Nothing; ready = ready } ≡ learned x addr hw now
  learn_none e ready none = ap (λ (y : Handles). record { card = x; action = Nothing; ready = y }) none ∙ learn_by (Ok NotFound) e

  pub learn_pending : known ≡ Ok Pending → (r : Taken) → r ≡ filled x addr hw now → r ≡ learned x addr hw now
  learn_pending e r f = f ∙ learn_by (Ok Pending) e

  pub learn_known : (old : HardwareAddress) → known ≡ Ok (Found old) → (r : Taken) → r ≡ filled x addr hw now → r ≡ learned x addr hw now
  learn_known old e r f = f ∙ learn_by (Ok (Found old)) e

-- An advertisement

module _ (x : Card) (source : Ipv6Addr) (message : List ℕ) (now : Instant) (r : Advertised) (w : AdvertisedTo x.slaac x.cache 0 source message now r) (known : Result Known Refusal)
    (l : LookedUp r.cache 0 source known) where
  abbrev after : Card
  after = card_with x r.slaac r.cache x.queue

  by_known : heard_by known after source r.answer ≡ heard x source message now
  unfolding heard
  by_known = ap (λ (k : Result Known Refusal). heard_by k after source r.answer) l.is ∙ ap (heard_as x source) w.is

  -- its router is not known as a neighbour
  pub hear_only : ((hw : HardwareAddress) → known ≡ Ok (Found hw) → ⊥) → (ready : Handles) → ready ≡ handles_of []
      → record { card = after; action = Heard r.answer; ready = ready } ≡ heard x source message now
  hear_only unknown ready none = ap (λ (y : Handles). record { card = after; action = Heard r.answer; ready = y }) none ∙ (go known unknown ∙ by_known)
    where
      go : (k : Result Known Refusal) → ((hw : HardwareAddress) → k ≡ Ok (Found hw) → ⊥) → record { card = after; action = Heard r.answer; ready = handles_of [] } ≡ heard_by k after source r.answer
      go (Err why) f = refl
      go (Ok (Found hw)) f = absurd (f hw refl)
      go (Ok Pending) f = refl
      go (Ok NotFound) f = refl

  pub hear_known : (hw : HardwareAddress) → known ≡ Ok (Found hw) → (q : Ready) → q ≡ ready_of (key 0 source) x.queue
      → goes_to after (HeardFrom r.answer hw) r.cache q ≡ heard x source message now
  hear_known hw e q f =
      ap (goes_to after (HeardFrom r.answer hw) r.cache) f ∙ (ap (λ (k : Result Known Refusal). heard_by k after source r.answer) (sym e) ∙ by_known)

-- The end of a turn

-- a refused time is not fine
never : {A : Type 0} (check : Result (Unit {0}) Refusal) (why : Refusal) → check ≡ Err why → check ≡ Ok tt → A
never check why e f = let z : ◌≡◌ {A = ℕ} 0 1 = cc in absurd (omega arith)

module _ (x : Card) (up : Bool) (hw : HardwareAddress) (buf : List ℕ) (now : Instant) (check : Result (Unit {0}) Refusal) (tested : Tested (time_rows now 0) check) where
  settled_by_lem : (c : Result (Unit {0}) Refusal) → check ≡ c → decided c (not_settled x) (settled_after x (poll_of x up hw buf now)) ≡ settled x up hw buf now
  unfolding settled
  settled_by_lem c e = ap (λ (y : Result (Unit {0}) Refusal). decided y (not_settled x) (settled_after x (poll_of x up hw buf now))) (sym e ∙ tested.is)

  pub settle_late : (why : Refusal) → check ≡ Err why → (events : Events) → events ≡ events_table [] → (dropped : Handles) → dropped ≡ handles_of []
      → SettledTo x up hw buf now (record { card = x; answer = Err why; events = events; dropped = dropped; wake = None }) buf
  unfolding buffer_after
  settle_late why e events none dropped none_dropped =
      let late : time_check now 0 ≡ Err why = sym tested.is ∙ e in
      record {
        is =
            ap₂ (λ (y : Events) (z : Handles). record { card = x; answer = Err why; events = y; dropped = z; wake = None }) none none_dropped
            ∙ settled_by_lem (Err why) e;
        leaves = sym (ap (λ (c : Result (Unit {0}) Refusal). poll_buffer c x.slaac x.addrs up hw buf (idle now)) late);
        polls = never (time_check now 0) why late;
        sweeps = never (time_check now 0) why late;
        sweeps_again = never (time_check now 0) why late;
        purges = never (time_check now 0) why late;
      }

  pub settle_done : check ≡ Ok tt → (k : Clock) (p : PolledAt) (buf' : List ℕ) (first again : Swept) (purged : Purged) → k ≡ idle now
      → PolledTo x.slaac x.addrs x.routes 0 up hw buf k p buf' → SweptTo x.cache p.clock 0 first
      → SweptTo first.cache first.clock 0 again → OrphansPurged x.queue again.cache purged → SettledTo x up hw buf now (settled_by p first again purged) buf'
  unfolding poll_of buffer_after
  settle_done fine k p buf' first again purged e polled swept swept-again purges =
      let poll : PolledAt = poll_of x up hw buf now in
      let w : PolledTo x.slaac x.addrs x.routes 0 up hw buf (idle now) p buf' = rw e at polled in
      let s : SweptTo x.cache poll.clock 0 first = subst (λ (q : PolledAt). SweptTo x.cache q.clock 0 first) w.is swept in
      let a : SweptTo (first_sweep x poll).cache (first_sweep x poll).clock 0 again =
      subst (λ (f : Swept). SweptTo f.cache f.clock 0 again) s.is swept-again in
      record {
        is =
            ap (settled_by p first again) purges.is
            ∙ ((λ i. settled_by (w.is i) (s.is i) (a.is i) (purged_of x.queue (orphaned (entries (a.is i).cache))))
            ∙ settled_by_lem (Ok tt) fine);
        leaves = w.leaves;
        polls = λ ok. subst (λ (q : PolledAt). PolledTo x.slaac x.addrs x.routes 0 up hw buf (idle now) q buf') w.is w;
        sweeps = λ ok. subst (SweptTo x.cache poll.clock 0) s.is s;
        sweeps_again = λ ok. subst (SweptTo (first_sweep x poll).cache (first_sweep x poll).clock 0) a.is a;
        purges = λ ok.
            let purge : OrphansPurged x.queue (last_sweep x poll).cache purged = subst (λ (l : Swept). OrphansPurged x.queue l.cache purged) a.is purges in
            subst (OrphansPurged x.queue (last_sweep x poll).cache) purge.is purge;
      }

-- A turn

pub turn_done : (x : Card) (w : Woken) (received : List ℕ) (hw : HardwareAddress) (buf message : List ℕ) (t : Taken) (s : Settled) (buf' : List ℕ)
    → message ≡ message_in received w.message_from w.message_len → t ≡ taken x w.input message w.at → SettledTo t.card w.up hw buf w.at s buf'
    → TurnedTo x w received hw buf (turn_by t s) buf'
unfolding turned turn_buffer
turn_done x w received hw buf message t s buf' m taking settles =
    let took : Taken = taken_of received x w in
    let e : t ≡ took = taking ∙ ap (λ (bytes : List ℕ). taken x w.input bytes w.at) m in
    let same : SettledTo took.card w.up hw buf w.at s buf' = subst (λ (y : Taken). SettledTo y.card w.up hw buf w.at s buf') e settles in
    record {
      is = λ i. turn_by (e i) (same.is i);
      leaves = same.leaves;
      settles = subst (λ (r : Settled). SettledTo took.card w.up hw buf w.at r buf') same.is same;
    }

-- A run: after `i` turns, of the `n` that there are to be

abbrev pub no_woken : Woken
no_woken = record { at = record { 0 = 0 }; up = false; input = Timer; message_from = 0; message_len = 0 }

abbrev pub between : Card → Option Instant → List ℕ → List Report → Between
between x wake buf rs = record { card = x; wake = wake; buffer = buf; reports = rs }

module _ (received : List ℕ) (hw : HardwareAddress) (start : Between) (given : List Woken) (len budget : ℕ) where
  abbrev inputs : List Woken
  inputs = take budget (take len given)

  pub record Running (n : ℕ) (x : Card) (wake : Option Instant) (buf : List ℕ) (slots : List Report) (i : ℕ) : Type 0 where
    pub so_far : fold_over (turn_in received hw) (between x wake buf (take i slots)) (drop i inputs) ≡ fold_over (turn_in received hw) start inputs
    pub low : i ≤ n
    pub most : n ≤ 4
    pub count : n ≡ length inputs
    pub rest : drop i slots ≡ drop i (replicate 4 blank_report)
    pub long : length slots ≡ 4

  module _ {n : ℕ} {x : Card} {wake : Option Instant} {buf : List ℕ} {slots : List Report} {i : ℕ} (inv : Running n x wake buf slots i) where
    pub run_on : i < n → (r : Turned) (buf' : List ℕ) → TurnedTo x (get_or (take n given) i no_woken) received hw buf r buf'
        → Running n r.card r.wake buf' (set slots i r.report) (i + 1)
    run_on h r buf' turn =
        let w : TurnedTo x (get_or given i no_woken) received hw buf r buf' =
        subst (λ (y : Woken). TurnedTo x y received hw buf r buf') (get_or-take n given i no_woken h) turn in
        let b : Between = between x wake buf (take i slots) in
        let inside : i < length inputs = omega (arith, inv.count) in
        let within : i < length (take len given) = omega (arith, length-take budget (take len given)) in
        let next : drop i inputs ≡ get_or given i no_woken ∷ drop (i + 1) inputs =
        entries_from no_woken (take len given) budget i inside
        ∙ ap (λ (y : Woken). y ∷ drop (i + 1) inputs) (entry_at no_woken given len i within) in
        let room : i < length slots = omega (arith, inv.long, inv.most) in
        let same : between r.card r.wake buf' (take (i + 1) (set slots i r.report)) ≡ turn_in received hw b (get_or given i no_woken) =
        ap (between r.card r.wake buf') (one_more slots i r.report room) ∙ ap₂ (λ (t : Turned) (u : List ℕ). after_turn b t u) w.is w.leaves in
        record {
          so_far =
              ap (λ (y : Between). fold_over (turn_in received hw) y (drop (i + 1) inputs)) same
              ∙ (ap (fold_over (turn_in received hw) b) (sym next) ∙ inv.so_far);
          low = omega arith;
          most = inv.most;
          count = inv.count;
          rest = drop-set-lt (i + 1) slots i r.report (omega arith) ∙ agree_from slots (replicate 4 blank_report) i inv.rest;
          long = length-set slots i r.report ∙ inv.long;
        }

    ended : n ≤ i → between x wake buf (take i slots) ≡ fold_over (turn_in received hw) start inputs
    ended h =
        let l : length inputs ≤ i = omega (arith, inv.count) in
        let none : drop i inputs ≡ [] = drop_of_length-le inputs l in
        ap (fold_over (turn_in received hw) (between x wake buf (take i slots))) (sym none) ∙ inv.so_far

    reported : n ≤ i → record { slots = slots; len = n } ≡ reports_of (take i slots)
    reported h =
        let e : length (take i slots) ≡ i = length-take-le i slots (omega (arith, inv.low, inv.most, inv.long)) in
        ap₂ (λ (y : List Report) (m : ℕ). record { slots = y; len = m }) (made (replicate 4 blank_report) slots (take i slots) i e refl inv.rest)
        (omega (arith, inv.low))

pub run_starts : (received : List ℕ) (hw : HardwareAddress) (x : Card) (wake : Option Instant) (inbox : Inbox) (buf : List ℕ) (budget n m : ℕ) (slots : List Report)
    → length inbox.slots ≡ 4 → m ≡ min inbox.len 4 → n ≡ min m budget → slots ≡ replicate 4 blank_report
    → Running received hw (before x wake buf) inbox.slots inbox.len budget n x wake buf slots 0
run_starts received hw x wake inbox buf budget n m slots full e f g =
    record {
      so_far = refl;
      low = omega arith;
      most = omega arith;
      count = omega (arith, length-take budget (take inbox.len inbox.slots), length-take inbox.len inbox.slots);
      rest = g;
      long = ap length g;
    }

pub run_done : (received : List ℕ) (hw : HardwareAddress) (x₀ : Card) (wake₀ : Option Instant) (inbox : Inbox) (buf₀ : List ℕ) (budget : ℕ) {n : ℕ} {x : Card} {wake : Option Instant}
    {buf : List ℕ} {slots : List Report} {i : ℕ} → Running received hw (before x₀ wake₀ buf₀) inbox.slots inbox.len budget n x wake buf slots i → n ≤ i
    → RanTo x₀ wake₀ inbox received hw buf₀ budget (record { card = x; reports = record { slots = slots; len = n }; wake = wake }) buf
unfolding run_over
run_done received hw x₀ wake₀ inbox buf₀ budget {n} {x} {wake} {buf} {slots} {i} inv h =
    let e = ended received hw (before x₀ wake₀ buf₀) inbox.slots inbox.len budget inv h in
    record {
      is =
          ap (λ (y : Reports). record { card = x; reports = y; wake = wake }) (reported received hw (before x₀ wake₀ buf₀) inbox.slots inbox.len budget inv h)
          ∙ ap ran_by e;
      leaves = ap (λ (y : Between). y.buffer) e;
    }
