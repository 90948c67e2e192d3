-- A turn at a time above 2^62. Assumes nothing.
use Prim.Native.Nat.{ℕ, ◌<◌, ◌^◌}
use borrow.Author.Tests.{lt-ltb}
use mathlib.Core.Bool.{Bool}
use mathlib.Core.List.{List}
use mathlib.Core.Path.{◌≡◌, ap, ◌∙◌}
use Rattle.std.specs.Prelude.{Result, Err}
use Rattle.wire.specs.declared.error.Refusal.{Refusal}
use Rattle.time.specs.declared.Instant.{Instant}
use Rattle.time.specs.ClockRules.{idle}
use Rattle.wire.specs.declared.error.Refusal.TheVariants.{TooLate}
use Rattle.wire.specs.declared.ethernet.HardwareAddress.{HardwareAddress}
use Rattle.wire.specs.Refusals.{time_check, decided}
use Rattle.autoconf.specs.PollRules.{poll_buffer}
use Rattle.mainloop.specs.declared.Card.{Card}
use Rattle.mainloop.specs.declared.Input.{Input}
use Rattle.mainloop.specs.declared.Taken.{Taken}
use Rattle.mainloop.specs.Late.{Late}
use Rattle.mainloop.specs.LoopRules.{not_taken_is, taken_by, taken, poll_of, buffer_after, settled_after, not_settled, settled, taken_of, turn_after, turn_by, turned, turn_buffer}

module _ (x : Card) (now : Instant) (late : 2 ^ 62 < now.0) where
  late_time : time_check now 0 ≡ Err TooLate
  late_time = simp (lt-ltb (2 ^ 62) now.0 late)

  none_taken : (input : Input) (message : List ℕ) → taken x input message now ≡ not_taken_is x TooLate
  none_taken input message = ap (λ (check : Result (Unit {0}) Refusal). taken_by check x input message now) late_time

  module _ (up : Bool) (hw : HardwareAddress) (buf : List ℕ) where
    none_settled : settled x up hw buf now ≡ not_settled x TooLate
    unfolding settled
    none_settled = ap (λ (check : Result (Unit {0}) Refusal). decided check (not_settled x) (settled_after x (poll_of x up hw buf now))) late_time

    same_buffer : buffer_after x up hw buf now ≡ buf
    unfolding buffer_after
    same_buffer = ap (λ (check : Result (Unit {0}) Refusal). poll_buffer check x.slaac x.addrs up hw buf (idle now)) late_time

pub late : Late
unfolding turned turn_buffer
late =
    record {
      takes = λ x input message now h. none_taken x now h input message;
      settles = λ x up hw buf now h. none_settled x now h up hw buf;
      buffer = λ x up hw buf now h. same_buffer x now h up hw buf;
      turns = λ x received hw buf w h.
          ap (λ (t : Taken). turn_after t w.up hw buf w.at) (none_taken x w.at h w.input _)
          ∙ ap (turn_by (not_taken_is x TooLate)) (none_settled x w.at h w.up hw buf);
      turn_buffer_lem = λ x received hw buf w h. same_buffer (taken_of received x w).card w.at h w.up hw buf;
    }
