-- A run of calls on caches is a run on entries. Assumes nothing.
use Prim.Native.Nat.{ℕ, zero, suc, ◌≤◌}
use borrow.Author.Tests.{ltb-false}
use lib.Dec.{ltb}
use lib.ListN.{length, get_or}
use mathlib.Core.Bool.{Bool, true, false, cond}
use mathlib.Core.List.{List, [], ◌∷◌}
use mathlib.Core.Path.{◌≡◌, refl, sym, ap, ◌∙◌, subst}
use native.Mathlib.Omega.{arith}
use Rattle.std.specs.Prelude.{Result, Ok, Err, Option, Some, None}
use Rattle.claims.proofs.Demand3.{demand3}
use Rattle.claims.specs.Caches.{of_lookup, of_got, of_outcome, of_sweep, Step, looks_up, starts, fills, inserts, gets, lists, removes, clears, advertises, turns_off, sweeps, sweeps_at, went_by, heard_addr, heard_message, heard_by, Run, none, one_more, OnCaches}
use Rattle.claims.specs.Calls.{Call, lookup, start, fill, insert, get, remove, clear, sweep, advertise, turn_off, silence, address, reachable, check, if_taken, does, next, Answer, done, looked, got, swept, answer, answer_by, effect_by, answers, table_after, reply}
use Rattle.claims.specs.Watch.{reports_all}
use Rattle.iface.specs.AddressRules.{clear_addrs}
use Rattle.iface.specs.declared.addr.IfaceAddrs.{IfaceAddrs}
use Rattle.iface.specs.declared.route.Routes.{Routes}
use Rattle.slaac.specs.declared.Slaac.{Slaac}
use Rattle.neighbor.specs.Answers.{answer_of, listed}
use Rattle.neighbor.specs.CacheCalls.{key, entries, with_entries, change_by, ChangedTo, lookup_by, get_by, remove_by, answer_in, shown, blank}
use Rattle.wire.specs.Refusals.{fill_check, key_check, iface_check, time_check}
use Rattle.neighbor.specs.Distinct.{Distinct}
use Rattle.neighbor.specs.NeighborRules.{Table, Key, is_key, find, insert_state, remove_key, clear_iface}
use Rattle.neighbor.specs.declared.Answer.TheVariants.{NotFound}
use Rattle.neighbor.specs.declared.Changed.{Changed}
use Rattle.neighbor.specs.declared.Entry.{Entry}
use Rattle.neighbor.specs.declared.Neighbor.{Neighbor}
use Rattle.neighbor.specs.declared.NeighborCache.{NeighborCache}
use Rattle.neighbor.specs.declared.Removed.{Removed}
use Rattle.neighbor.specs.declared.State.TheVariants.{Started, Incomplete, Reachable, Stale}
use Rattle.neighbor.specs.declared.State.{State}
use Rattle.pending.specs.declared.PendingQueue.{PendingQueue}
use Rattle.autoconf.specs.OffRules.{cleared_cache, off_now, left_alone, off_by}
use Rattle.autoconf.specs.AdvertRules.{message_check, options_in, last_source, filled_by, step5, message_by, call_by}
use Rattle.autoconf.specs.declared.AdvertAnswer.TheVariants.{Off}
use Rattle.autoconf.specs.declared.Advertised.{Advertised}
use Rattle.autoconf.specs.declared.TurnedOff.{TurnedOff}
use Rattle.sweep.proofs.Entries.{entries_of_lem, sweep_entries, sweep_events}
use Rattle.sweep.proofs.SweepLaws.{listed_events}
use Rattle.sweep.specs.SweepCalls.{event_list, swept_in, sweep_by, sweep_check}
use Rattle.sweep.specs.SweepRules.{sweep_table}
use Rattle.table.specs.Table.{swap_remove, first_of}
use Rattle.time.specs.declared.Clock.{Clock}
use Rattle.time.specs.declared.Instant.{Instant}
use Rattle.wire.specs.Rfc2464.{is_unicast_hardware}
use Rattle.wire.specs.declared.error.Refusal.{Refusal}
use Rattle.wire.specs.declared.ethernet.HardwareAddress.{HardwareAddress}
use Rattle.wire.specs.declared.ipv6.Ipv6Addr.{Ipv6Addr}

-- a call that changes the entries
changes : (x : Result (Unit {0}) Refusal) (call : Call) (c : NeighborCache) (xs : Table) → does (if_taken call) (entries c) ≡ xs → reply call (entries c) ≡ done
    → (of_outcome (change_by x c (with_entries c xs)).outcome ≡ answer_by x call (entries c)) × (entries (change_by x c (with_entries c xs)).cache ≡ does (effect_by x call) (entries c))
changes (Err why) call c xs h g = (refl, refl)
changes (Ok tt) call c xs h g = (sym g, entries_of_lem c xs ∙ sym h)

-- a call that does nothing to the entries
quiet : (x : Result (Unit {0}) Refusal) (call : Call) (c : NeighborCache) → does (if_taken call) (entries c) ≡ entries c → entries c ≡ does (effect_by x call) (entries c)
quiet (Err why) call c h = refl
quiet (Ok tt) call c h = sym h

-- a lookup's and a listing's answer stand for themselves
same_lookup : (k : Key) (t : Table) → of_lookup (first_of (is_key k) answer_in (Ok NotFound) t) ≡ looked (first_of (is_key k) answer_in (Ok NotFound) t)
same_lookup k [] = refl
same_lookup k (e ∷ t) = go (is_key k e) (same_lookup k t)
  where
    by : (s : State) → of_lookup (Ok (answer_of s)) ≡ looked (Ok (answer_of s))
    by Started = refl
    by (Incomplete p d) = refl
    by (Reachable h x) = refl
    by (Stale h) = refl

    go : (x : Bool) → of_lookup (first_of (is_key k) answer_in (Ok NotFound) t) ≡ looked (first_of (is_key k) answer_in (Ok NotFound) t)
        → of_lookup (cond x (answer_in e) (first_of (is_key k) answer_in (Ok NotFound) t)) ≡ looked (cond x (answer_in e) (first_of (is_key k) answer_in (Ok NotFound) t))
    go true h = by e.state
    go false h = h

looking : (x : Result (Unit {0}) Refusal) (c : NeighborCache) (k : Key) → of_lookup (lookup_by x c k) ≡ answer_by x (lookup k) (entries c)
looking (Err why) c k = refl
looking (Ok tt) c k = same_lookup k (entries c)

same_got : (k : Key) (t : Table) → of_got (first_of (is_key k) shown (Ok None) t) ≡ got (first_of (is_key k) shown (Ok None) t)
same_got k [] = refl
same_got k (e ∷ t) = go (is_key k e) (same_got k t)
  where
    go : (x : Bool) → of_got (first_of (is_key k) shown (Ok None) t) ≡ got (first_of (is_key k) shown (Ok None) t)
        → of_got (cond x (shown e) (first_of (is_key k) shown (Ok None) t)) ≡ got (cond x (shown e) (first_of (is_key k) shown (Ok None) t))
    go true h = refl
    go false h = h

getting : (x : Result (Unit {0}) Refusal) (c : NeighborCache) (k : Key) → of_got (get_by x c k) ≡ answer_by x (get k) (entries c)
getting (Err why) c k = refl
getting (Ok tt) c k = same_got k (entries c)

listing : (x : Bool) (e : Entry) → of_got (Ok (cond x (Some (listed e)) None)) ≡ got (cond x (shown e) (Ok None))
listing true e = refl
listing false e = refl

-- removing an absent key
swap_past : {A : Type 0} (i : ℕ) (t : List A) → length t ≤ i → swap_remove i t ≡ t
swap_past i [] h = refl
swap_past zero (e ∷ t) h = absurd (omega arith)
swap_past (suc i) (e ∷ t) h = rw (swap_past i t (omega arith))

stays_put : (k : Key) (t : Table) → ltb (find k t) (length t) ≡ false → t ≡ remove_key k t
unfolding remove_key
stays_put k t h = sym (swap_past (find k t) t (ltb-false _ _ h))

removing : (x : Result (Unit {0}) Refusal) (c : NeighborCache) (k : Key)
    → (of_got (remove_by x c k).taken ≡ answer_by x (remove k) (entries c)) × (entries (remove_by x c k).cache ≡ does (effect_by x (remove k)) (entries c))
removing (Err why) c k = (refl, refl)
removing (Ok tt) c k = go (ltb (find k (entries c)) (length (entries c))) refl
  where
    e : Entry
    e = get_or (entries c) (find k (entries c)) blank

    outcome : Bool → Removed
    outcome y = cond y (record { cache = with_entries c (remove_key k (entries c)); taken = shown e }) (record { cache = c; taken = Ok None })

    go : (y : Bool) → ltb (find k (entries c)) (length (entries c)) ≡ y
        → (of_got (outcome y).taken ≡ got (cond y (shown e) (Ok None))) × (entries (outcome y).cache ≡ remove_key k (entries c))
    go true h = (refl, entries_of_lem c (remove_key k (entries c)))
    go false h = (refl, stays_put k (entries c) h)

sweeping : (x : Result (Unit {0}) Refusal) (c : NeighborCache) (k : Clock) (i : ℕ)
    → (of_sweep i (sweep_by x c k i).events (sweep_by x c k i).outcome ≡ answer_by x (sweep i k.now) (entries c))
    × (entries (sweep_by x c k i).cache ≡ does (effect_by x (sweep i k.now)) (entries c))
unfolding swept_in
sweeping (Err why) c k i = (refl, refl)
sweeping (Ok tt) c k i =
    (ap (swept i) (ap event_list (sweep_events c k i) ∙ listed_events (sweep_table i k.now (entries c)).events), sweep_entries c k i)

-- an advertisement fills, or does nothing
telling : (l : Option HardwareAddress) (c : NeighborCache) (i : ℕ) (source : Ipv6Addr) (now : Instant)
    → entries (step5 c i source l now) ≡ does (if_taken (advertise (key i source) now (heard_addr l))) (entries c)
telling None c i source now = refl
telling (Some h) c i source now = go (is_unicast_hardware h)
  where
    go : (b : Bool)
        → entries (cond {A = NeighborCache} b (filled_by c i source h now) c) ≡ does (if_taken (advertise (key i source) now (cond b (address h) silence))) (entries c)
    go true = entries_of_lem c (insert_state (key i source) (reachable h now) (entries c))
    go false = refl

message : (y : Result (Unit {0}) Refusal) (s : Slaac) (c : NeighborCache) (i : ℕ) (source : Ipv6Addr) (msg : List ℕ) (now : Instant)
    → entries (message_by y s c i source msg now).cache ≡ does (if_taken (advertise (key i source) now (heard_message y (last_source (options_in msg))))) (entries c)
message (Err why) s c i source msg now = refl
message (Ok tt) s c i source msg now = telling (last_source (options_in msg)) c i source now

hearing : (x : Result (Unit {0}) Refusal) (s : Slaac) (c : NeighborCache) (i : ℕ) (source : Ipv6Addr) (msg : List ℕ) (now : Instant)
    → entries (call_by x s c i source msg now).cache
    ≡ does (if_taken (advertise (key i source) now (heard_by x s.on (message_check source msg) (last_source (options_in msg))))) (entries c)
hearing (Err why) s c i source msg now = refl
hearing (Ok tt) s c i source msg now = go s.on
  where
    go : (b : Bool)
        → entries (cond {A = Advertised} b (message_by (message_check source msg) s c i source msg now) (record { slaac = s; cache = c; answer = Ok Off })).cache
        ≡ does (if_taken (advertise (key i source) now (cond b (heard_message (message_check source msg) (last_source (options_in msg))) silence))) (entries c)
    go true = message (message_check source msg) s c i source msg now
    go false = refl

-- turning SLAAC off clears, or does nothing
clearing : (went : Bool) (c : NeighborCache) (i : ℕ) → entries (cleared_cache went c i) ≡ does (if_taken (turn_off i went)) (entries c)
clearing true c i = entries_of_lem c (clear_iface i (entries c))
clearing false c i = refl

turning : (x : Result (Unit {0}) Refusal) (s : Slaac) (t : IfaceAddrs) (r : Routes) (c : NeighborCache) (q : PendingQueue) (i : ℕ)
    → entries (off_by x s t r c q i).cache ≡ does (if_taken (turn_off i (went_by x s.on (clear_addrs t).any))) (entries c)
unfolding off_now
turning (Err why) s t r c q i = refl
turning (Ok tt) s t r c q i = go s.on
  where
    go : (b : Bool)
        → entries (cond {A = TurnedOff} b (off_now t r c q i) (left_alone s t r c q (Ok tt))).cache
        ≡ does (if_taken (turn_off i (cond b (clear_addrs t).any false))) (entries c)
    go true = clearing (clear_addrs t).any c i
    go false = refl

-- Steps and runs

abbrev Follows : NeighborCache → Call → Answer → NeighborCache → Type 0
Follows c call a d = (a ≡ answer call (entries c)) × (entries d ≡ next call (entries c))

changed : (x : Result (Unit {0}) Refusal) (call : Call) (c : NeighborCache) (r : Changed) → ChangedTo x c (with_entries c (does (if_taken call) (entries c))) r → reply call (entries c) ≡ done
    → (of_outcome r.outcome ≡ answer_by x call (entries c)) × (entries r.cache ≡ does (effect_by x call) (entries c))
changed x call c r h g = rw h.is (changes x call c (does (if_taken call) (entries c)) refl g)

pub follows : {c : NeighborCache} {call : Call} {a : Answer} {d : NeighborCache} → Step c call a d → Follows c call a d
unfolding check
follows (looks_up c i a r h) = (ap of_lookup h.is ∙ looking (key_check i a) c (key i a), quiet (key_check i a) (lookup (key i a)) c refl)
follows (starts c i a r h) = changed (key_check i a) (start (key i a)) c r h refl
follows (fills c i a hw now r h) = changed (fill_check now i a hw) (fill (key i a) hw now) c r h refl
follows (inserts c i a hw expires r h) = changed (fill_check expires i a hw) (insert (key i a) hw expires) c r h refl
follows (gets c i a r h) = (ap of_got h.is ∙ getting (iface_check i) c (key i a), quiet (iface_check i) (get (key i a)) c refl)
follows (lists c n r h) = (ap (λ (x : Option Neighbor). of_got (Ok x)) h ∙ listing (ltb n (length (entries c))) (get_or (entries c) n blank), refl)
follows (removes c i a r h) = rw h.is (removing (iface_check i) c (key i a))
follows (clears c i r h) = changed (iface_check i) (clear i) c r h refl
follows (advertises c s i source msg now r h) = (refl, ap (λ (q : Advertised). entries q.cache) h.is ∙ hearing (time_check now i) s c i source msg now)
follows (turns_off c s t r q i x h) = (refl, ap (λ (w : TurnedOff). entries w.cache) h.is ∙ turning (iface_check i) s t r c q i)
follows (sweeps c k k' i r h) = rw h.is (sweeping (sweep_check k i) c k i)
follows (sweeps_at c k i r h) = rw h.is (sweeping (sweep_check k i) c k i)

more : (c : NeighborCache) (call : Call) (a : Answer) (d : NeighborCache) (cs : List Call) (as' : List Answer) (e : NeighborCache) → Follows c call a d
    → (as' ≡ answers cs (entries d)) × (entries e ≡ table_after cs (entries d))
    → (a ∷ as' ≡ answers (call ∷ cs) (entries c)) × (entries e ≡ table_after (call ∷ cs) (entries c))
more c call a d cs as' e h g = (cc (ap (answers cs) h.1), g.1 ∙ ap (table_after cs) h.1)

pub follows_all : {c : NeighborCache} {cs : List Call} {as' : List Answer} {d : NeighborCache} → Run c cs as' d
    → (as' ≡ answers cs (entries c)) × (entries d ≡ table_after cs (entries c))
follows_all (none c) = (refl, refl)
follows_all (one_more {c = c} {call = call} {a = a} {d = d} {cs = cs} {as' = as'} {e = e} s r) = more c call a d cs as' e (follows s) (follows_all r)

-- what tells nothing
unheard : (x y : Result (Unit {0}) Refusal) (on : Bool) (l : Option HardwareAddress) (why : Refusal) → y ≡ Err why → heard_by x on y l ≡ silence
unheard (Err reason) y on l why h = refl
unheard (Ok tt) y true l why h = rw h
unheard (Ok tt) y false l why h = refl

off_unheard : (x y : Result (Unit {0}) Refusal) (l : Option HardwareAddress) → heard_by x false y l ≡ silence
off_unheard (Err reason) y l = refl
off_unheard (Ok tt) y l = refl

silent : (x y : Result (Unit {0}) Refusal) (on : Bool) (l : Option HardwareAddress) → heard_addr l ≡ silence → heard_by x on y l ≡ silence
silent (Err why) y on l h = refl
silent (Ok tt) y false l h = refl
silent (Ok tt) (Err why) true l h = refl
silent (Ok _) (Ok _) true l h = h

group_silent : (l : Option HardwareAddress) (h : HardwareAddress) → l ≡ Some h → is_unicast_hardware h ≡ false → heard_addr l ≡ silence
group_silent l h e g = rw (e, g)

told : (x y : Result (Unit {0}) Refusal) (on : Bool) (l : Option HardwareAddress) (h : HardwareAddress) → x ≡ Ok tt → on ≡ true → y ≡ Ok tt → l ≡ Some h → is_unicast_hardware h ≡ true
    → heard_by x on y l ≡ address h
told x y on l h fine is_on taken e g = rw (fine, is_on, taken, e, g)

off_none_went : (x : Result (Unit {0}) Refusal) (any : Bool) → went_by x false any ≡ false
off_none_went (Err why) any = refl
off_none_went (Ok tt) any = refl

pub on_caches : OnCaches
on_caches = record {
  step = λ c call a d h. follows h;
  run = λ c cs as' d h. follows_all h;
  keys = λ cs as' c h. subst (λ (t : Table). Distinct t × (length t ≤ 16)) (sym (follows_all h).1) (demand3.made cs);
  reports = λ k cs as' c h. ap (reports_all k) (follows_all h).0 ∙ demand3.run k cs [] (demand3.made []).0;
  refused_tells = λ s i source msg now why h. rw h;
  message_tells = λ s i source msg now why h. unheard (time_check now i) (message_check source msg) s.on (last_source (options_in msg)) why h;
  off_tells = λ s i source msg now h. rw h (off_unheard (time_check now i) (message_check source msg) (last_source (options_in msg)));
  none_tells = λ s i source msg now e. silent (time_check now i) (message_check source msg) s.on (last_source (options_in msg)) (ap heard_addr e);
  group_tells =
      λ s i source msg now h e g.
      silent (time_check now i) (message_check source msg) s.on (last_source (options_in msg)) (group_silent (last_source (options_in msg)) h e g);
  unicast_tells =
      λ s i source msg now h fine on taken e g. told (time_check now i) (message_check source msg) s.on (last_source (options_in msg)) h fine on taken e g;
  refused_keeps = λ s t i why h. rw h;
  off_keeps = λ s t i h. rw h (off_none_went (iface_check i) (clear_addrs t).any);
}
