-- Laws of what an answer prints: its text by the answer, and how long it is at most. Assumes nothing.
use Prim.Native.Nat.{ℕ, ◌≤◌}
use lib.ListN.{length}
use mathlib.Core.List.{List, []}
use mathlib.Core.Path.{◌≡◌, ap}
use native.Mathlib.Omega.{arith}
use Rattle.std.specs.Prelude.{Result, Ok, Err}
use Rattle.report.proofs.Lengths.{Short, solicit_short, refused_short, off_short}
use Rattle.report.specs.AnswerLines.{Printed, refused_line, event_most}
use Rattle.script.specs.PrintedRules.{poll_text, ra_text, change_text, sweep_text}
use Rattle.autoconf.specs.declared.AdvertAnswer.TheVariants.{Off as TurnedOff, Done as Heard}
use Rattle.autoconf.specs.declared.AdvertAnswer.{AdvertAnswer}
use Rattle.autoconf.specs.declared.PollAnswer.TheVariants.{Off as IsOff, Quiet, Solicited, NoRoom}
use Rattle.autoconf.specs.declared.PollAnswer.{PollAnswer}
use Rattle.sweep.specs.declared.Events.{Events}
use Rattle.text.proofs.PlaceLaws.{put_as}
use Rattle.text.specs.Place.{Put}
use Rattle.wire.specs.Refusals.{number_of}
use Rattle.wire.specs.declared.error.Refusal.{Refusal}

-- a refusal's line, where its number is known by another name
pub refusal : {out out' : List ℕ} {at r : ℕ} (t n : ℕ) (why : Refusal) → n ≡ number_of why → Put out at (refused_line t n) r out' → Put out at (refused_line t (number_of why)) r out'
refusal t n why e p = put_as (ap (refused_line t) e) p

none : Short [] event_most
none = record { is = omega arith }

pub poll_short : (t : ℕ) (a : Result PollAnswer Refusal) (message : List ℕ) → length message ≤ 16 → Short (poll_text t a message) event_most
poll_short t (Err why) message h = refused_short t (number_of why)
poll_short t (Ok IsOff) message h = off_short t
poll_short t (Ok Quiet) message h = none
poll_short t (Ok Solicited) message h = solicit_short t message h
poll_short t (Ok NoRoom) message h = none

pub ra_short : (t : ℕ) (a : Result AdvertAnswer Refusal) → Short (ra_text t a) event_most
ra_short t (Err why) = refused_short t (number_of why)
ra_short t (Ok TurnedOff) = off_short t
ra_short t (Ok Heard) = none

pub change_short : (t : ℕ) (o : Result (Unit {0}) Refusal) → Short (change_text t o) event_most
change_short t (Err why) = refused_short t (number_of why)
change_short t (Ok tt) = none

pub sweep_refused : {out out' : List ℕ} {at r : ℕ} (t n : ℕ) (why : Refusal) (v : Events) → n ≡ number_of why → Put out at (refused_line t n) r out'
    → Printed (sweep_text t (Err why) v) event_most out at r out'
sweep_refused t n why v e p = record { put = refusal t n why e p; short = (refused_short t (number_of why)).is }

pub printed_as : {a b : List ℕ} {m : ℕ} {out out' : List ℕ} {at r : ℕ} → a ≡ b → Printed a m out at r out' → Printed b m out at r out'
printed_as e p = rw e at p
