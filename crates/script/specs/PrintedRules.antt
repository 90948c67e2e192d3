-- Document 01: what an event prints, by the answer of its call. Assumes nothing.
use Rattle.wire.specs.declared.error.Refusal.{Refusal}
use Rattle.std.specs.Prelude.{ℕ, List, [], Result, Ok, Err}
use Rattle.wire.specs.Refusals.{number_of}
use Rattle.report.specs.AnswerLines.{solicit_line, refused_line, off_line, probe_lines}
use Rattle.sweep.specs.declared.Events.{Events}
use Rattle.autoconf.specs.declared.PollAnswer.{PollAnswer}
use Rattle.autoconf.specs.declared.PollAnswer.TheVariants.{Off as IsOff, Quiet, Solicited, NoRoom}
use Rattle.autoconf.specs.declared.AdvertAnswer.{AdvertAnswer}
use Rattle.autoconf.specs.declared.AdvertAnswer.TheVariants.{Off as TurnedOff, Done as Heard}

-- poll: "`solicit` with the message", "`refused` with a number, `off` for an answer Off; otherwise nothing"
abbrev pub poll_text : ℕ → Result PollAnswer Refusal → List ℕ → List ℕ
poll_text t (Err why) message = refused_line t (number_of why)
poll_text t (Ok IsOff) message = off_line t
poll_text t (Ok Quiet) message = []
poll_text t (Ok Solicited) message = solicit_line t message
poll_text t (Ok NoRoom) message = []

-- ra
abbrev pub ra_text : ℕ → Result AdvertAnswer Refusal → List ℕ
ra_text t (Err why) = refused_line t (number_of why)
ra_text t (Ok TurnedOff) = off_line t
ra_text t (Ok Heard) = []

-- start, fill
abbrev pub change_text : ℕ → Result (Unit {0}) Refusal → List ℕ
change_text t (Err why) = refused_line t (number_of why)
change_text t (Ok tt) = []

-- sweep: "`retransmit` or `failed` with an address"
abbrev pub sweep_text : ℕ → Result (Unit {0}) Refusal → Events → List ℕ
sweep_text t (Err why) events = refused_line t (number_of why)
sweep_text t (Ok tt) events = probe_lines t events
