-- A card of `mainloop` that settled sleeps until `wake` and misses nothing, and no earlier time is to be waited for. Assumes nothing.
use Rattle.wire.specs.declared.error.Refusal.{Refusal}
use Rattle.std.specs.Prelude.{ℕ, ◌≡◌, Bool, true, false, List, [], ◌∷◌, ◌++◌, take, Option, Result, Ok}
use Rattle.table.specs.Table.{fold_over}
use Rattle.time.specs.declared.Instant.{Instant}
use Rattle.wire.specs.declared.ethernet.HardwareAddress.{HardwareAddress}
use Rattle.wire.specs.Refusals.{time_check}
use Rattle.neighbor.specs.CacheCalls.{entries, empty}
use Rattle.sweep.specs.SweepCalls.{events_table}
use Rattle.pending.specs.QueueCalls.{handles_of}
use Rattle.autoconf.specs.declared.PollAnswer.{PollAnswer}
use Rattle.autoconf.specs.declared.PollAnswer.TheVariants.{Off, Quiet}
use Rattle.autoconf.specs.PollRules.{sender_in}
use Rattle.mainloop.specs.declared.Card.{Card}
use Rattle.mainloop.specs.declared.Input.{Input}
use Rattle.mainloop.specs.declared.Settled.{Settled}
use Rattle.mainloop.specs.declared.Woken.{Woken}
use Rattle.mainloop.specs.declared.Inbox.{Inbox}
use Rattle.mainloop.specs.declared.Ran.{Ran}
use Rattle.mainloop.specs.LoopRules.{taken, SettledTo, turned, inputs_of, Between, before, turn_in, RanTo}
use Rattle.claims.specs.Lists.{All}
use Rattle.claims.specs.Wake.{Asleep, times_of, IsEarliest}
use Rattle.claims.specs.WakePoll.{slaac_times}

-- the card's neighbours are on its interface, 0
abbrev pub OnOne : Card → Type 0
OnOne x = All (λ e. e.iface ≡ 0) (entries x.cache)

-- settling where nothing happens: no event, no packet that is handed back
abbrev pub still : Card → Result PollAnswer Refusal → Option Instant → Settled
still x answer wake = record { card = x; answer = answer; events = events_table []; dropped = handles_of []; wake = wake }

-- the card after these turns
abbrev pub turns_over : Card → Option Instant → List ℕ → HardwareAddress → List ℕ → List Woken → Between
turns_over x told received hw buf woken = fold_over (turn_in received hw) (before x told buf) woken

pub record Sleep : Type 0 where
  -- A card that has no neighbours yet has none elsewhere, and no input and no settling brings one there.
  pub none_yet : (x : Card) → x.cache ≡ empty → OnOne x
  pub takes : (x : Card) (input : Input) (message : List ℕ) (now : Instant) → OnOne x → OnOne (taken x input message now).card
  pub settles : (x : Card) (up : Bool) (hw : HardwareAddress) (buf : List ℕ) (now : Instant) (r : Settled) (buf' : List ℕ) → SettledTo x up hw buf now r buf'
      → OnOne x → OnOne r.card
  -- With SLAAC on, `wake` is exactly the earliest of the times that SLAAC and the neighbours then wait for, or none where they wait for none;
  pub exact : (x : Card) (up : Bool) (hw : HardwareAddress) (buf : List ℕ) (now : Instant) (r : Settled) (buf' : List ℕ) → SettledTo x up hw buf now r buf'
      → time_check now 0 ≡ Ok tt → OnOne x → x.slaac.on ≡ true
      → IsEarliest r.wake (slaac_times (sender_in up x.addrs) r.card.slaac ++ times_of (entries r.card.cache))
  -- and with SLAAC off, of those that the neighbours wait for.
  pub exact_off : (x : Card) (up : Bool) (hw : HardwareAddress) (buf : List ℕ) (now : Instant) (r : Settled) (buf' : List ℕ) → SettledTo x up hw buf now r buf'
      → time_check now 0 ≡ Ok tt → OnOne x → x.slaac.on ≡ false → IsEarliest r.wake (times_of (entries r.card.cache))
  -- The card does not spin: `wake` is after now, or there is none, with SLAAC on and off, and at a time that is refused too.
  pub later : (x : Card) (up : Bool) (hw : HardwareAddress) (buf : List ℕ) (now : Instant) (r : Settled) (buf' : List ℕ) → SettledTo x up hw buf now r buf'
      → Asleep r.wake now
  -- Before that time the card that settles again, with the source to send from as it was, finds nothing: it sends nothing, no neighbour is to be
  -- solicited or has failed, no packet is handed back, the card and the buffer are the very ones, and so is the time until which it may sleep.
  pub asleep : (x : Card) (up : Bool) (hw : HardwareAddress) (buf : List ℕ) (now : Instant) (r : Settled) (buf' : List ℕ) → SettledTo x up hw buf now r buf'
      → time_check now 0 ≡ Ok tt → OnOne x → x.slaac.on ≡ true
      → (up2 : Bool) (hw2 : HardwareAddress) (buf2 : List ℕ) (next : Instant) (r2 : Settled) (buf2' : List ℕ) → SettledTo r.card up2 hw2 buf2 next r2 buf2'
      → time_check next 0 ≡ Ok tt → sender_in up2 r.card.addrs ≡ sender_in up x.addrs → Asleep r.wake next
      → (r2 ≡ still r.card (Ok Quiet) r.wake) × (buf2' ≡ buf2)
  pub asleep_off : (x : Card) (up : Bool) (hw : HardwareAddress) (buf : List ℕ) (now : Instant) (r : Settled) (buf' : List ℕ) → SettledTo x up hw buf now r buf'
      → time_check now 0 ≡ Ok tt → OnOne x → x.slaac.on ≡ false
      → (up2 : Bool) (hw2 : HardwareAddress) (buf2 : List ℕ) (next : Instant) (r2 : Settled) (buf2' : List ℕ) → SettledTo r.card up2 hw2 buf2 next r2 buf2'
      → time_check next 0 ≡ Ok tt → Asleep r.wake next → (r2 ≡ still r.card (Ok Off) r.wake) × (buf2' ≡ buf2)
  -- What a run tells is what its last turn tells, on the card that the turns before it left; without a turn it is what was told before.
  pub run : (x : Card) (told : Option Instant) (inbox : Inbox) (received : List ℕ) (hw : HardwareAddress) (buf : List ℕ) (budget : ℕ) (r : Ran) (buf' : List ℕ)
      → RanTo x told inbox received hw buf budget r buf' → (earlier : List Woken) (last : Woken) → take budget (inputs_of inbox) ≡ earlier ++ (last ∷ [])
      → r.wake ≡ (turned received hw (turns_over x told received hw buf earlier).card (turns_over x told received hw buf earlier).buffer last).wake
  pub no_turn : (x : Card) (told : Option Instant) (inbox : Inbox) (received : List ℕ) (hw : HardwareAddress) (buf : List ℕ) (budget : ℕ) (r : Ran) (buf' : List ℕ)
      → RanTo x told inbox received hw buf budget r buf' → take budget (inputs_of inbox) ≡ [] → r.wake ≡ told
