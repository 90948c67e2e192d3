-- Runs of the code's own calls on caches are runs on entries: the promise of each function that is given the cache, call by call. Assumes nothing.
use Rattle.neighbor.specs.declared.Neighbor.{Neighbor}
use Rattle.std.specs.Prelude.{ℕ, ◌≤◌, ◌≡◌, Bool, true, false, cond, List, [], ◌∷◌, length, Result, Ok, Err, Option, Some, None}
use Rattle.time.specs.declared.Instant.{Instant}
use Rattle.time.specs.declared.Clock.{Clock}
use Rattle.wire.specs.declared.ipv6.Ipv6Addr.{Ipv6Addr}
use Rattle.wire.specs.declared.ethernet.HardwareAddress.{HardwareAddress}
use Rattle.neighbor.specs.declared.NeighborCache.{NeighborCache}
use Rattle.neighbor.specs.declared.Answer.{Answer as Found}
use Rattle.neighbor.specs.declared.Answer.TheVariants.{Found as Known, Pending, NotFound}
use Rattle.neighbor.specs.declared.Changed.{Changed}
use Rattle.neighbor.specs.declared.Removed.{Removed}
use Rattle.neighbor.specs.NeighborRules.{Key}
use Rattle.neighbor.specs.Distinct.{Distinct}
use Rattle.neighbor.specs.CacheCalls.{key, empty, entries, LookedUp, GotBy, at_index, RemovedTo, StartTo, InsertTo, FillTo, ClearTo}
use Rattle.wire.specs.Refusals.{iface_check, time_check}
use Rattle.wire.specs.declared.error.Refusal.{Refusal}
use Rattle.wire.specs.Rfc2464.{is_unicast_hardware}
use Rattle.slaac.specs.declared.Slaac.{Slaac}
use Rattle.pending.specs.declared.PendingQueue.{PendingQueue}
use Rattle.iface.specs.declared.addr.IfaceAddrs.{IfaceAddrs}
use Rattle.iface.specs.declared.route.Routes.{Routes}
use Rattle.iface.specs.AddressRules.{clear_addrs}
use Rattle.autoconf.specs.declared.Advertised.{Advertised}
use Rattle.autoconf.specs.declared.TurnedOff.{TurnedOff}
use Rattle.autoconf.specs.OffRules.{TurnedOffTo}
use Rattle.autoconf.specs.AdvertRules.{message_check, options_in, last_source, AdvertisedTo}
use Rattle.sweep.specs.declared.Events.{Events}
use Rattle.sweep.specs.declared.Swept.{Swept}
use Rattle.sweep.specs.SweepCalls.{event_list, SweptTo}
use Rattle.lent.specs.declared.Reported.{Reported}
use Rattle.lent.specs.LentRules.{ReportedTo}
use Rattle.claims.specs.Calls.{Call, lookup, start, fill, insert, get, at, remove, clear, sweep, advertise, turn_off, Heard, silence, address, next, Answer, refused, done, looked, got, swept, not_of_the_cache, answer, answers, table_after}
use Rattle.claims.specs.Watch.{gone, reports_all, told_run}

-- the functions' answers
abbrev pub of_lookup : Result Found Refusal → Answer
of_lookup (Err why) = refused why
of_lookup (Ok (Known h)) = looked (Ok (Known h))
of_lookup (Ok Pending) = looked (Ok Pending)
of_lookup (Ok NotFound) = looked (Ok NotFound)

abbrev pub of_got : Result (Option Neighbor) Refusal → Answer
of_got (Err why) = refused why
of_got (Ok None) = got (Ok None)
of_got (Ok (Some n)) = got (Ok (Some n))

abbrev pub of_outcome : Result (Unit {0}) Refusal → Answer
of_outcome (Err why) = refused why
of_outcome (Ok tt) = done

abbrev pub of_sweep : ℕ → Events → Result (Unit {0}) Refusal → Answer
of_sweep i v (Err why) = refused why
of_sweep i v (Ok tt) = swept i (event_list v)

-- what an advertisement tells of its sender: nothing if it is refused, or SLAAC is off; else step 5's address
abbrev pub heard_addr : Option HardwareAddress → Heard
heard_addr None = silence
heard_addr (Some h) = cond (is_unicast_hardware h) (address h) silence

abbrev pub heard_message : Result (Unit {0}) Refusal → Option HardwareAddress → Heard
heard_message (Err why) l = silence
heard_message (Ok tt) l = heard_addr l

abbrev pub heard_by : Result (Unit {0}) Refusal → Bool → Result (Unit {0}) Refusal → Option HardwareAddress → Heard
heard_by (Err why) on message l = silence
heard_by (Ok tt) on message l = cond on (heard_message message l) silence

abbrev pub heard_in : Slaac → ℕ → Ipv6Addr → List ℕ → Instant → Heard
heard_in s i source msg now = heard_by (time_check now i) s.on (message_check source msg) (last_source (options_in msg))

-- whether an address went when SLAAC was turned off: none if that is refused, or it was off
abbrev pub went_by : Result (Unit {0}) Refusal → Bool → Bool → Bool
went_by (Err why) on any = false
went_by (Ok tt) on any = cond on any false

abbrev pub went_in : Slaac → IfaceAddrs → ℕ → Bool
went_in s t i = went_by (iface_check i) s.on (clear_addrs t).any

-- one call on a cache that its function's promise allows, with its answer and the cache after it; sweeps with the clock lent, and by value
pub data Step : NeighborCache → Call → Answer → NeighborCache → Type 0 where
  looks_up : (c : NeighborCache) (i : ℕ) (a : Ipv6Addr) (r : Result Found Refusal) → LookedUp c i a r → Step c (lookup (key i a)) (of_lookup r) c
  starts : (c : NeighborCache) (i : ℕ) (a : Ipv6Addr) (r : Changed) → StartTo c i a r → Step c (start (key i a)) (of_outcome r.outcome) r.cache
  fills : (c : NeighborCache) (i : ℕ) (a : Ipv6Addr) (h : HardwareAddress) (now : Instant) (r : Changed) → FillTo c i a h now r
      → Step c (fill (key i a) h now) (of_outcome r.outcome) r.cache
  inserts : (c : NeighborCache) (i : ℕ) (a : Ipv6Addr) (h : HardwareAddress) (expires : Instant) (r : Changed) → InsertTo c i a h expires r
      → Step c (insert (key i a) h expires) (of_outcome r.outcome) r.cache
  gets : (c : NeighborCache) (i : ℕ) (a : Ipv6Addr) (r : Result (Option Neighbor) Refusal) → GotBy c i a r → Step c (get (key i a)) (of_got r) c
  lists : (c : NeighborCache) (n : ℕ) (r : Option Neighbor) → r ≡ at_index c n → Step c (at n) (of_got (Ok r)) c
  removes : (c : NeighborCache) (i : ℕ) (a : Ipv6Addr) (r : Removed) → RemovedTo c i a r → Step c (remove (key i a)) (of_got r.taken) r.cache
  clears : (c : NeighborCache) (i : ℕ) (r : Changed) → ClearTo c i r → Step c (clear i) (of_outcome r.outcome) r.cache
  advertises : (c : NeighborCache) (s : Slaac) (i : ℕ) (source : Ipv6Addr) (msg : List ℕ) (now : Instant) (r : Advertised) → AdvertisedTo s c i source msg now r
      → Step c (advertise (key i source) now (heard_in s i source msg now)) not_of_the_cache r.cache
  turns_off : (c : NeighborCache) (s : Slaac) (t : IfaceAddrs) (r : Routes) (q : PendingQueue) (i : ℕ) (x : TurnedOff) → TurnedOffTo s t r c q i x
      → Step c (turn_off i (went_in s t i)) not_of_the_cache x.cache
  sweeps : (c : NeighborCache) (k k' : Clock) (i : ℕ) (r : Reported) → ReportedTo c k i r k'
      → Step c (sweep i k.now) (of_sweep i r.events r.outcome) r.cache
  sweeps_at : (c : NeighborCache) (k : Clock) (i : ℕ) (r : Swept) → SweptTo c k i r → Step c (sweep i k.now) (of_sweep i r.events r.outcome) r.cache

-- calls one after the other
pub data Run : NeighborCache → List Call → List Answer → NeighborCache → Type 0 where
  none : (c : NeighborCache) → Run c [] [] c
  one_more : {c : NeighborCache} {call : Call} {a : Answer} {d : NeighborCache} {cs : List Call} {as' : List Answer} {e : NeighborCache}
      → Step c call a d → Run d cs as' e → Run c (call ∷ cs) (a ∷ as') e

pub record OnCaches : Type 0 where
  -- a call on a cache answers what the call on its entries answers, and leaves those entries; and so does a run
  pub step : (c : NeighborCache) (call : Call) (a : Answer) (d : NeighborCache) → Step c call a d
      → (a ≡ answer call (entries c)) × (entries d ≡ next call (entries c))
  pub run : (c : NeighborCache) (cs : List Call) (as' : List Answer) (d : NeighborCache) → Run c cs as' d
      → (as' ≡ answers cs (entries c)) × (entries d ≡ table_after cs (entries c))
  -- "Keys are (interface, address), never twice", in every cache that these calls made
  pub keys : (cs : List Call) (as' : List Answer) (c : NeighborCache) → Run empty cs as' c → Distinct (entries c) × (length (entries c) ≤ 16)
  -- what a run on caches that these calls made reports of a key is what the key's watch says
  pub reports : (k : Key) (cs : List Call) (as' : List Answer) (c : NeighborCache) → Run empty cs as' c → reports_all k as' ≡ told_run k cs [] gone
  -- "A refusal returns its number and changes nothing.", "With SLAAC off this call .. answer Off, .. and do nothing.": an
  -- advertisement that is refused, for its call's time or interface or as a message, or that comes with SLAAC off, tells nothing of its sender
  pub refused_tells : (s : Slaac) (i : ℕ) (source : Ipv6Addr) (msg : List ℕ) (now : Instant) (why : Refusal) → time_check now i ≡ Err why
      → heard_in s i source msg now ≡ silence
  pub message_tells : (s : Slaac) (i : ℕ) (source : Ipv6Addr) (msg : List ℕ) (now : Instant) (why : Refusal) → message_check source msg ≡ Err why
      → heard_in s i source msg now ≡ silence
  pub off_tells : (s : Slaac) (i : ℕ) (source : Ipv6Addr) (msg : List ℕ) (now : Instant) → s.on ≡ false → heard_in s i source msg now ≡ silence
  -- "If a type 1 option occurred, the last one counts; if unicast, it fills the neighbour (interface, source).": an advertisement without one, or
  -- whose last one's address is a group's, tells nothing of its sender; if it is unicast, then that address, where it is taken with SLAAC on
  pub none_tells : (s : Slaac) (i : ℕ) (source : Ipv6Addr) (msg : List ℕ) (now : Instant) → last_source (options_in msg) ≡ None
      → heard_in s i source msg now ≡ silence
  pub group_tells : (s : Slaac) (i : ℕ) (source : Ipv6Addr) (msg : List ℕ) (now : Instant) (h : HardwareAddress) → last_source (options_in msg) ≡ Some h
      → is_unicast_hardware h ≡ false → heard_in s i source msg now ≡ silence
  pub unicast_tells : (s : Slaac) (i : ℕ) (source : Ipv6Addr) (msg : List ℕ) (now : Instant) (h : HardwareAddress) → time_check now i ≡ Ok tt
      → s.on ≡ true → message_check source msg ≡ Ok tt → last_source (options_in msg) ≡ Some h → is_unicast_hardware h ≡ true
      → heard_in s i source msg now ≡ address h
  -- and no address goes by a turning off that is refused, or where SLAAC is off
  pub refused_keeps : (s : Slaac) (t : IfaceAddrs) (i : ℕ) (why : Refusal) → iface_check i ≡ Err why → went_in s t i ≡ false
  pub off_keeps : (s : Slaac) (t : IfaceAddrs) (i : ℕ) → s.on ≡ false → went_in s t i ≡ false
