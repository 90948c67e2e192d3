-- Document 01, "Neighbour cache": its rules on the entries, a list. Assumes nothing.
use Rattle.std.specs.Prelude.{ℕ, suc, Bool, cond, ◌&&◌, ◌||◌, List, [], ◌∷◌, ◌++◌, length, set, ltb, eqb}
use Rattle.table.specs.Table.{first_from, swap_remove, kept}
use Rattle.time.specs.declared.Instant.{Instant}
use Rattle.time.specs.TimeRules.{add_of}
use Rattle.wire.specs.declared.ipv6.Ipv6Addr.{Ipv6Addr}
use Rattle.wire.specs.declared.ethernet.HardwareAddress.{HardwareAddress}
use Rattle.wire.specs.Rfc4291.{same_addr}
use Rattle.neighbor.specs.declared.State.{State}
use Rattle.neighbor.specs.declared.State.TheVariants.{Started, Incomplete, Reachable, Stale}
use Rattle.neighbor.specs.declared.Entry.{Entry}

abbrev pub Table : Type 0
Table = List Entry

-- "neighbours 16"
abbrev pub cache_room : ℕ
cache_room = 16

-- "Keys are (interface, address), never twice."
pub record Key : Type 0 where
  pub iface : ℕ
  pub addr : Ipv6Addr

unfoldable pub same_key : Key → Key → Bool
same_key a b = eqb a.iface b.iface && same_addr a.addr b.addr

-- "Fill puts Reachable for 60,000 ms"
abbrev pub lasting : HardwareAddress → Instant → State
lasting hw now = Reachable hw (add_of now (record { 0 = 60000 }))

abbrev pub key_of : Entry → Key
key_of e = record { iface = e.iface; addr = e.addr }

abbrev pub entry : Key → State → Entry
entry k s = record { iface = k.iface; addr = k.addr; state = s }

abbrev pub with_state : State → Entry → Entry
with_state s e = record { iface = e.iface; addr = e.addr; state = s }

-- the entry's key is k
abbrev pub is_key : Key → Entry → Bool
is_key k e = same_key k (key_of e)

-- the place of k's entry; the number of entries if it has none
unfoldable pub find : Key → Table → ℕ
find k t = first_from (is_key k) 0 t

-- "A full table evicts the first kind present: Stale, Reachable .., Incomplete .., Started"
abbrev pub kind : State → ℕ
kind (Stale h) = 0
kind (Reachable h e) = 1
kind (Incomplete p d) = 2
kind Started = 3

-- "Reachable by earliest expiry, Incomplete by earliest due"
abbrev pub time : State → ℕ
time (Stale h) = 0
time (Reachable h e) = e.0
time (Incomplete p d) = d.0
time Started = 0

-- s is evicted before s'
unfoldable pub before : State → State → Bool
before s s' = ltb (kind s) (kind s') || (eqb (kind s) (kind s') && ltb (time s) (time s'))

-- the place of the entry that is evicted, i with state s or one of t, which begins at n; "ties take the lowest index"
abbrev pub victim_from : ℕ → State → ℕ → Table → ℕ
victim_from i s n [] = i
victim_from i s n (e ∷ t) = cond (before e.state s) (victim_from n e.state (suc n) t) (victim_from i s (suc n) t)

abbrev pub victim : Table → ℕ
victim [] = 0
victim (e ∷ t) = victim_from 0 e.state 1 t

-- a state is put under a key: over its entry; else at the end; else, in a full table, over the entry that is evicted
unfoldable pub insert_state : Key → State → Table → Table
insert_state k s t =
    cond (ltb (find k t) (length t)) (set t (find k t) (entry k s))
    (cond (ltb (length t) cache_room) (t ++ (entry k s ∷ [])) (set t (victim t) (entry k s)))

-- "Remove moves the last entry in"
unfoldable pub remove_key : Key → Table → Table
remove_key k t = swap_remove (find k t) t

unfoldable pub on_iface : ℕ → Entry → Bool
on_iface i e = eqb i e.iface

-- "clearing an interface keeps order"
abbrev pub clear_iface : ℕ → Table → Table
clear_iface i t = kept (on_iface i) t

-- the states of k's entries, in table order: none or, where keys are never twice, one
abbrev pub entries_of : Key → Table → List State
entries_of k [] = []
entries_of k (e ∷ t) = cond (is_key k e) (e.state ∷ entries_of k t) (entries_of k t)
