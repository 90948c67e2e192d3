-- A time above 2^62, which every call that takes one refuses: everything is as it came. Assumes nothing.
use Rattle.std.specs.Prelude.{ℕ, ◌<◌, ◌^◌, ◌≡◌, Bool, List}
use Rattle.time.specs.declared.Instant.{Instant}
use Rattle.wire.specs.declared.error.Refusal.TheVariants.{TooLate}
use Rattle.wire.specs.declared.ethernet.HardwareAddress.{HardwareAddress}
use Rattle.mainloop.specs.declared.Card.{Card}
use Rattle.mainloop.specs.declared.Input.{Input}
use Rattle.mainloop.specs.declared.Woken.{Woken}
use Rattle.mainloop.specs.LoopRules.{not_taken_is, taken, buffer_after, not_settled, settled, turn_by, turned, turn_buffer}

pub record Late : Type 0 where
  -- "A refusal returns its number and changes nothing.": an input is refused, and a packet is its sender's again.
  pub takes : (x : Card) (input : Input) (message : List ℕ) (now : Instant) → 2 ^ 62 < now.0 → taken x input message now ≡ not_taken_is x TooLate
  -- Settling changes neither the card nor the buffer: no event, no packet that is handed back. No time to wake is told.
  pub settles : (x : Card) (up : Bool) (hw : HardwareAddress) (buf : List ℕ) (now : Instant) → 2 ^ 62 < now.0 → settled x up hw buf now ≡ not_settled x TooLate
  pub buffer : (x : Card) (up : Bool) (hw : HardwareAddress) (buf : List ℕ) (now : Instant) → 2 ^ 62 < now.0 → buffer_after x up hw buf now ≡ buf
  -- A turn is both.
  pub turns : (x : Card) (received : List ℕ) (hw : HardwareAddress) (buf : List ℕ) (w : Woken) → 2 ^ 62 < w.at.0
      → turned received hw x buf w ≡ turn_by (not_taken_is x TooLate) (not_settled x TooLate)
  pub turn_buffer_lem : (x : Card) (received : List ℕ) (hw : HardwareAddress) (buf : List ℕ) (w : Woken) → 2 ^ 62 < w.at.0
      → turn_buffer received hw x buf w ≡ buf
