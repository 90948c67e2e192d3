-- What the answers of the cache are on paper: document 01's number of a refusal, 0 for none, and the values of each case. Assumes nothing.
use Rattle.wire.specs.declared.error.Refusal.{Refusal}
use Rattle.std.specs.Prelude.{ℕ, List, [], ◌∷◌, Result, Ok, Err, Option, Some, None}
use Rattle.wire.specs.Refusals.{number_of}
use Rattle.wire.specs.declared.ethernet.HardwareAddress.{HardwareAddress}
use Rattle.neighbor.specs.declared.State.{State}
use Rattle.neighbor.specs.declared.State.TheVariants.{Started, Incomplete, Reachable, Stale}
use Rattle.neighbor.specs.declared.NeighborState.{NeighborState}
use Rattle.neighbor.specs.declared.NeighborState.TheVariants.{Incomplete as Resolving, Reachable as Known, Stale as Expired}
use Rattle.neighbor.specs.declared.Entry.{Entry}
use Rattle.neighbor.specs.declared.Neighbor.{Neighbor}
use Rattle.neighbor.specs.declared.Answer.{Answer}
use Rattle.neighbor.specs.declared.Answer.TheVariants.{Found, Pending, NotFound}

abbrev pub answer_number : Result Answer Refusal → ℕ
answer_number (Err why) = number_of why
answer_number (Ok (Found h)) = 0
answer_number (Ok Pending) = 0
answer_number (Ok NotFound) = 0

-- the hardware address, if one was found
abbrev pub answer_found : Result Answer Refusal → List HardwareAddress
answer_found (Err why) = []
answer_found (Ok (Found h)) = h ∷ []
answer_found (Ok Pending) = []
answer_found (Ok NotFound) = []

abbrev pub got_number_is : Result (Option Neighbor) Refusal → ℕ
got_number_is (Err why) = number_of why
got_number_is (Ok None) = 0
got_number_is (Ok (Some n)) = 0

-- the neighbour, if there is one
abbrev pub got_shown : Result (Option Neighbor) Refusal → List Neighbor
got_shown (Err why) = []
got_shown (Ok None) = []
got_shown (Ok (Some n)) = n ∷ []

-- a listing refuses nothing, and shows a neighbour
abbrev pub listed_number : Option Neighbor → ℕ
listed_number None = 0
listed_number (Some n) = 0

abbrev pub listed_shown : Option Neighbor → List Neighbor
listed_shown None = []
listed_shown (Some n) = n ∷ []

-- "Reachable is Found, even past its time; Started and Incomplete are Pending; the rest NotFound."
abbrev pub answer_of : State → Answer
answer_of Started = Pending
answer_of (Incomplete p t) = Pending
answer_of (Reachable h t) = Found h
answer_of (Stale h) = NotFound

-- where packets go, by that sentence
abbrev pub sends_to : State → List HardwareAddress
sends_to Started = []
sends_to (Incomplete p t) = []
sends_to (Reachable h t) = h ∷ []
sends_to (Stale h) = []

-- "A listing shows Started as Incomplete."
abbrev pub listed_state : State → NeighborState
listed_state Started = Resolving
listed_state (Incomplete p t) = Resolving
listed_state (Reachable h t) = Known h t
listed_state (Stale h) = Expired h

abbrev pub listed : Entry → Neighbor
listed e = record { iface = e.iface; addr = e.addr; state = listed_state e.state }
