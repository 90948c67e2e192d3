-- The library's calls that return the neighbour cache: what each does to its entries, what it answers, and runs of calls. What else returns one,
-- the main loop and the event program, is made of these. Assumes nothing.
-- A call that is not given the cache cannot change it: states are values.
use Rattle.neighbor.specs.declared.Neighbor.{Neighbor}
use Rattle.std.specs.Prelude.{ℕ, Bool, true, false, cond, List, [], ◌∷◌, length, get_or, ltb, Result, Ok, Err, Option, None}
use Rattle.table.specs.Table.{first_of}
use Rattle.time.specs.declared.Instant.{Instant}
use Rattle.wire.specs.declared.ethernet.HardwareAddress.{HardwareAddress}
use Rattle.wire.specs.declared.error.Refusal.{Refusal}
use Rattle.wire.specs.Refusals.{first_refusal, too_late, no_such_iface, iface_check, key_check, fill_check}
use Rattle.neighbor.specs.declared.State.{State}
use Rattle.neighbor.specs.declared.State.TheVariants.{Started, Reachable}
use Rattle.neighbor.specs.declared.Answer.{Answer as Found}
use Rattle.neighbor.specs.declared.Answer.TheVariants.{NotFound}
use Rattle.neighbor.specs.NeighborRules.{Table, Key, lasting, is_key, find, insert_state, remove_key, clear_iface}
use Rattle.neighbor.specs.CacheCalls.{answer_in, shown, blank}
use Rattle.sweep.specs.declared.ProbeEvent.{ProbeEvent}
use Rattle.sweep.specs.SweepRules.{sweep_table}

-- what an advertisement tells of its sender: the last type 1 option's address, if one occurred, is unicast, and the advertisement is taken
pub data Heard : Type 0 where
  silence : Heard
  address : HardwareAddress → Heard

-- an advertisement comes with the key (interface, source); turning SLAAC off, with whether an address went
pub data Call : Type 0 where
  lookup : Key → Call
  start : Key → Call
  fill : Key → HardwareAddress → Instant → Call
  insert : Key → HardwareAddress → Instant → Call
  get : Key → Call
  at : ℕ → Call
  remove : Key → Call
  clear : ℕ → Call
  sweep : ℕ → Instant → Call
  advertise : Key → Instant → Heard → Call
  turn_off : ℕ → Bool → Call

-- Refusals: the table's first row that fails

unfoldable pub check : Call → Result (Unit {0}) Refusal
check (lookup k) = key_check k.iface k.addr
check (start k) = key_check k.iface k.addr
check (fill k h now) = fill_check now k.iface k.addr h
check (insert k h expires) = fill_check expires k.iface k.addr h
check (get k) = iface_check k.iface
check (at n) = Ok tt
check (remove k) = iface_check k.iface
check (clear i) = iface_check i
check (sweep i now) = first_refusal (too_late now ∷ no_such_iface i ∷ [])
check (advertise k now heard) = Ok tt
check (turn_off i went) = Ok tt

-- Effects

pub data Effect : Type 0 where
  nothing : Effect
  puts : Key → State → Effect
  removes : Key → Effect
  clears : ℕ → Effect
  sweeps : ℕ → Instant → Effect

-- "Fill puts Reachable for 60,000 ms"
abbrev pub reachable : HardwareAddress → Instant → State
reachable h now = lasting h now

-- what a call does if it is taken
abbrev pub if_taken : Call → Effect
if_taken (lookup k) = nothing
if_taken (start k) = puts k Started
if_taken (fill k h now) = puts k (reachable h now)
if_taken (insert k h expires) = puts k (Reachable h expires)
if_taken (get k) = nothing
if_taken (at n) = nothing
if_taken (remove k) = removes k
if_taken (clear i) = clears i
if_taken (sweep i now) = sweeps i now
if_taken (advertise k now silence) = nothing
if_taken (advertise k now (address h)) = puts k (reachable h now)
if_taken (turn_off i false) = nothing
if_taken (turn_off i true) = clears i

-- "A refusal returns its number and changes nothing." "a refused sweep is none"
abbrev pub effect_by : Result (Unit {0}) Refusal → Call → Effect
effect_by (Err why) c = nothing
effect_by (Ok tt) c = if_taken c

abbrev pub effect : Call → Effect
effect c = effect_by (check c) c

-- the entries after an effect, and after a call
abbrev pub does : Effect → Table → Table
does nothing t = t
does (puts k s) t = insert_state k s t
does (removes k) t = remove_key k t
does (clears i) t = clear_iface i t
does (sweeps i now) t = (sweep_table i now t).table

abbrev pub next : Call → Table → Table
next c t = does (effect c) t

-- Answers

-- the events of a sweep come with its interface: an event's key is that interface and its address;
-- what an advertisement and turning SLAAC off answer is no matter of the cache
pub data Answer : Type 0 where
  refused : Refusal → Answer
  done : Answer
  looked : Result Found Refusal → Answer
  got : Result (Option Neighbor) Refusal → Answer
  swept : ℕ → List ProbeEvent → Answer
  not_of_the_cache : Answer

abbrev pub reply : Call → Table → Answer
reply (lookup k) t = looked (first_of (is_key k) answer_in (Ok NotFound) t)
reply (start k) t = done
reply (fill k h now) t = done
reply (insert k h expires) t = done
reply (get k) t = got (first_of (is_key k) shown (Ok None) t)
reply (at n) t = got (cond (ltb n (length t)) (shown (get_or t n blank)) (Ok None))
reply (remove k) t = got (cond (ltb (find k t) (length t)) (shown (get_or t (find k t) blank)) (Ok None))
reply (clear i) t = done
reply (sweep i now) t = swept i (sweep_table i now t).events
reply (advertise k now heard) t = not_of_the_cache
reply (turn_off i went) t = not_of_the_cache

abbrev pub answer_by : Result (Unit {0}) Refusal → Call → Table → Answer
answer_by (Err why) c t = refused why
answer_by (Ok tt) c t = reply c t

abbrev pub answer : Call → Table → Answer
answer c t = answer_by (check c) c t

-- Runs: the answers, one for each call, and the entries after them

abbrev pub answers : List Call → Table → List Answer
answers [] t = []
answers (c ∷ cs) t = answer c t ∷ answers cs (next c t)

abbrev pub table_after : List Call → Table → Table
table_after [] t = t
table_after (c ∷ cs) t = table_after cs (next c t)
