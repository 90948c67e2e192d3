-- What the answers are on paper: document 01's number of a refusal, 0 for none, and the values of each case. Assumes nothing.
use Rattle.wire.specs.declared.error.Refusal.{Refusal}
use Rattle.std.specs.Prelude.{ℕ, Bool, cond, List, [], ◌∷◌, take, Result, Ok, Err, Option, Some, None}
use Rattle.wire.specs.Refusals.{number_of, check_number}
use Rattle.wire.specs.declared.ethernet.HardwareAddress.{HardwareAddress}
use Rattle.autoconf.specs.declared.AdvertAnswer.{AdvertAnswer}
use Rattle.autoconf.specs.declared.AdvertAnswer.TheVariants.{Off as IsOff, Done}
use Rattle.autoconf.specs.declared.PollAnswer.{PollAnswer}
use Rattle.autoconf.specs.declared.PollAnswer.TheVariants.{Off, Quiet, Solicited, NoRoom}

-- the source link-layer address, if an advertisement has one
abbrev pub lladdr_number : Option HardwareAddress → ℕ
lladdr_number None = 0
lladdr_number (Some h) = 0

abbrev pub lladdr_given : Option HardwareAddress → List HardwareAddress
lladdr_given None = []
lladdr_given (Some h) = h ∷ []

abbrev pub advert_number : Result AdvertAnswer Refusal → ℕ
advert_number (Err why) = number_of why
advert_number (Ok IsOff) = 0
advert_number (Ok Done) = 0

-- "answers no room (no refusal)"
abbrev pub poll_number : Result PollAnswer Refusal → ℕ
poll_number (Err why) = number_of why
poll_number (Ok Off) = 0
poll_number (Ok Quiet) = 0
poll_number (Ok Solicited) = 0
poll_number (Ok NoRoom) = 0

-- the solicitation that was sent: the first 16 bytes of the buffer that the poll left
abbrev pub poll_sent : Result PollAnswer Refusal → List ℕ → List ℕ
poll_sent (Err why) buf = []
poll_sent (Ok Off) buf = []
poll_sent (Ok Quiet) buf = []
poll_sent (Ok Solicited) buf = take 16 buf
poll_sent (Ok NoRoom) buf = []

-- "With SLAAC off this call and the poll answer Off, after 3 and 7 and before 5": the number of a call with checks before and after Off
abbrev pub number_around : Result (Unit {0}) Refusal → Bool → Result (Unit {0}) Refusal → ℕ
number_around (Err why) on after = number_of why
number_around (Ok tt) on after = cond on (check_number after) 0
