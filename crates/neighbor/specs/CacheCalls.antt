-- The calls of the cache: what each answers and leaves. Slots past the entries keep what they held. Assumes nothing.
use Rattle.std.specs.Prelude.{ℕ, ◌≡◌, cond, List, [], ◌∷◌, map, take, drop, length, get_or, replicate, ltb, Result, Ok, Err, Option, Some, None}
use Rattle.table.specs.Table.{filled, first_of}
use Rattle.time.specs.declared.Instant.{Instant}
use Rattle.wire.specs.declared.ipv6.Ipv6Addr.{Ipv6Addr}
use Rattle.wire.specs.declared.ethernet.HardwareAddress.{HardwareAddress}
use Rattle.wire.specs.declared.error.Refusal.{Refusal}
use Rattle.wire.specs.Refusals.{check_number, outcome_number, decided, iface_check, key_check, fill_check}
use Rattle.neighbor.specs.declared.State.{State}
use Rattle.neighbor.specs.declared.State.TheVariants.{Started, Reachable}
use Rattle.neighbor.specs.declared.Entry.{Entry}
use Rattle.neighbor.specs.declared.NeighborCache.{NeighborCache}
use Rattle.neighbor.specs.declared.Answer.{Answer}
use Rattle.neighbor.specs.declared.Answer.TheVariants.{NotFound}
use Rattle.neighbor.specs.declared.Neighbor.{Neighbor}
use Rattle.neighbor.specs.declared.Changed.{Changed}
use Rattle.neighbor.specs.declared.Removed.{Removed}
use Rattle.neighbor.specs.Answers.{answer_number, answer_found, got_number_is, got_shown, listed_number, listed_shown, answer_of, sends_to, listed}
use Rattle.neighbor.specs.NeighborRules.{cache_room, Key, lasting, is_key, find, insert_state, remove_key, clear_iface}

-- the entries: the first `len` slots; "A count above its size reads as the size"
abbrev pub entries : NeighborCache → List Entry
entries c = take c.len c.slots

-- the cache with these entries, whose slots past them hold what they held
abbrev pub with_entries : NeighborCache → List Entry → NeighborCache
with_entries c xs = record { slots = filled c.slots xs; len = length xs }

-- what a slot that was never used holds
abbrev pub blank : Entry
blank = record { iface = 0; addr = record { hi = 0; lo = 0 }; state = Started }

abbrev pub empty : NeighborCache
empty = record { slots = replicate cache_room blank; len = 0 }

abbrev pub key : ℕ → Ipv6Addr → Key
key iface addr = record { iface = iface; addr = addr }

-- the values of an answer: none of a refusal
abbrev pub unless : {A : Type 0} → Result (Unit {0}) Refusal → List A → List A
unless (Err why) xs = []
unless (Ok tt) xs = xs

-- Lookup

abbrev pub answer_in : Entry → Result Answer Refusal
answer_in e = Ok (answer_of e.state)

abbrev pub lookup_by : Result (Unit {0}) Refusal → NeighborCache → Key → Result Answer Refusal
lookup_by (Err why) c k = Err why
lookup_by (Ok tt) c k = first_of (is_key k) answer_in (Ok NotFound) (entries c)

-- where packets for an entry go
abbrev pub sent_to : Entry → List HardwareAddress
sent_to e = sends_to e.state

pub record LookedUp (c : NeighborCache) (iface : ℕ) (addr : Ipv6Addr) (r : Result Answer Refusal) : Type 0 where
  pub is : r ≡ lookup_by (key_check iface addr) c (key iface addr)
  pub number : answer_number r ≡ check_number (key_check iface addr)
  pub found : answer_found r ≡ unless (key_check iface addr) (first_of (is_key (key iface addr)) sent_to [] (entries c))

-- Calls that change the entries

-- the rules of the entries, of a cache: a state put under a key, a key removed, an interface cleared
abbrev pub put_in : NeighborCache → Key → State → NeighborCache
put_in c k s = with_entries c (insert_state k s (entries c))

abbrev pub remove_in : NeighborCache → Key → NeighborCache
remove_in c k = with_entries c (remove_key k (entries c))

abbrev pub clear_in : NeighborCache → ℕ → NeighborCache
clear_in c iface = with_entries c (clear_iface iface (entries c))

abbrev pub changed_to : NeighborCache → Changed
changed_to c = record { cache = c; outcome = Ok tt }

abbrev pub unchanged : NeighborCache → Refusal → Changed
unchanged c why = record { cache = c; outcome = Err why }

abbrev pub change_by : Result (Unit {0}) Refusal → NeighborCache → NeighborCache → Changed
change_by check c c' = decided check (unchanged c) (changed_to c')

pub record ChangedTo (check : Result (Unit {0}) Refusal) (c c' : NeighborCache) (r : Changed) : Type 0 where
  pub is : r ≡ change_by check c c'
  pub number : outcome_number r.outcome ≡ check_number check

-- "Start puts Started, over an entry of that key too."
abbrev pub StartTo : NeighborCache → ℕ → Ipv6Addr → Changed → Type 0
StartTo c iface addr r = ChangedTo (key_check iface addr) c (put_in c (key iface addr) Started) r

-- "insert takes an expiry"
abbrev pub InsertTo : NeighborCache → ℕ → Ipv6Addr → HardwareAddress → Instant → Changed → Type 0
InsertTo c iface addr hw expires r =
    ChangedTo (fill_check expires iface addr hw) c (put_in c (key iface addr) (Reachable hw expires)) r

abbrev pub FillTo : NeighborCache → ℕ → Ipv6Addr → HardwareAddress → Instant → Changed → Type 0
FillTo c iface addr hw now r =
    ChangedTo (fill_check now iface addr hw) c (put_in c (key iface addr) (lasting hw now)) r

-- "clearing an interface keeps order"
abbrev pub ClearTo : NeighborCache → ℕ → Changed → Type 0
ClearTo c iface r = ChangedTo (iface_check iface) c (clear_in c iface) r

-- Get, listing and remove: "removing or listing an absent key answers Nothing"

abbrev pub shown : Entry → Result (Option Neighbor) Refusal
shown e = Ok (Some (listed e))

abbrev pub get_by : Result (Unit {0}) Refusal → NeighborCache → Key → Result (Option Neighbor) Refusal
get_by (Err why) c k = Err why
get_by (Ok tt) c k = first_of (is_key k) shown (Ok None) (entries c)

-- an entry as it is listed, and nothing else
abbrev pub alone : Entry → List Neighbor
alone e = listed e ∷ []

pub record GotBy (c : NeighborCache) (iface : ℕ) (addr : Ipv6Addr) (r : Result (Option Neighbor) Refusal) : Type 0 where
  pub is : r ≡ get_by (iface_check iface) c (key iface addr)
  pub number : got_number_is r ≡ check_number (iface_check iface)
  pub shows : got_shown r ≡ unless (iface_check iface) (first_of (is_key (key iface addr)) alone [] (entries c))

-- the entry at an index, for a listing
abbrev pub at_index : NeighborCache → ℕ → Option Neighbor
at_index c i = cond (ltb i (length (entries c))) (Some (listed (get_or (entries c) i blank))) None

pub record ListedAt (c : NeighborCache) (i : ℕ) (r : Option Neighbor) : Type 0 where
  pub is : r ≡ at_index c i
  pub number : listed_number r ≡ 0
  pub shows : listed_shown r ≡ map listed (take 1 (drop i (entries c)))

abbrev pub remove_by : Result (Unit {0}) Refusal → NeighborCache → Key → Removed
remove_by (Err why) c k = record { cache = c; taken = Err why }
remove_by (Ok tt) c k =
    cond (ltb (find k (entries c)) (length (entries c)))
    (record { cache = remove_in c k; taken = shown (get_or (entries c) (find k (entries c)) blank) })
    (record { cache = c; taken = Ok None })

pub record RemovedTo (c : NeighborCache) (iface : ℕ) (addr : Ipv6Addr) (r : Removed) : Type 0 where
  pub is : r ≡ remove_by (iface_check iface) c (key iface addr)
  pub number : got_number_is r.taken ≡ check_number (iface_check iface)
  pub shows : got_shown r.taken ≡ unless (iface_check iface) (first_of (is_key (key iface addr)) alone [] (entries c))
