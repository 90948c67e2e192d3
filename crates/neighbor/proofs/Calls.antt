-- From what a call found in the table to its promise. `es` are the entries, `s` the slots. Assumes nothing.
use Prim.Native.Nat.{ℕ, suc, ◌+◌, ◌-◌, ◌≤◌, ◌<◌, min}
use borrow.Author.Tests.{lt-ltb, le-ltb, ltb-true, ltb-false}
use lib.Dec.{ltb}
use lib.ListN.{length, take, set, get_or, length-set, length-append}
use lib.Seq.{take_all}
use mathlib.Core.Bool.{Bool, true, false, cond}
use mathlib.Core.List.{List, [], ◌∷◌, ◌++◌}
use mathlib.Core.Path.{◌≡◌, refl, sym, ap, ap₂, ◌∙◌}
use native.Mathlib.Omega.{arith}
use Rattle.std.specs.Prelude.{Result, Ok, Err}
use Rattle.wire.specs.declared.error.Refusal.{Refusal}
use Rattle.neighbor.specs.Answers.{answer_number, answer_found, got_number_is, got_shown, answer_of, sends_to, listed}
use Rattle.neighbor.specs.CacheCalls.{entries, with_entries, blank, key, unless, answer_in, lookup_by, sent_to, LookedUp, put_in, clear_in, changed_to, change_by, ChangedTo, shown, get_by, alone, GotBy, remove_by, RemovedTo}
use Rattle.wire.specs.Refusals.{key_check, iface_check, check_number, outcome_number}
use Rattle.neighbor.specs.NeighborRules.{Table, Key, is_key, entry, find, victim, insert_state, remove_key, on_iface, clear_iface}
use Rattle.neighbor.specs.declared.Answer.TheVariants.{NotFound}
use Rattle.neighbor.specs.declared.Answer.{Answer}
use Rattle.neighbor.specs.declared.Changed.{Changed}
use Rattle.neighbor.specs.declared.Entry.{Entry}
use Rattle.neighbor.specs.declared.Neighbor.{Neighbor}
use Rattle.neighbor.specs.declared.NeighborCache.{NeighborCache}
use Rattle.neighbor.specs.declared.Removed.{Removed}
use Rattle.neighbor.specs.declared.State.TheVariants.{Started, Incomplete, Reachable, Stale}
use Rattle.neighbor.specs.declared.State.{State}
use Rattle.table.proofs.Laws.{Made, entry_at, over, at_end, moved_in, moved_count, counted}
use Rattle.std.proofs.Common.{Option, Some, None, IfSome}
use Rattle.std.proofs.lemmas.List.{take_min}
use Rattle.table.specs.Calls.{place_of}
use Rattle.table.specs.Table.{filled, first_from, first_of, kept, swap_remove}
use Rattle.wire.specs.declared.ipv6.Ipv6Addr.{Ipv6Addr}

-- The place of the first entry that passes

ltb_suc : (a b : ℕ) (t : Bool) → ltb a b ≡ t → ltb (suc a) (suc b) ≡ t
ltb_suc a b true e = let h = ltb-true a b e in lt-ltb (suc a) (suc b) (omega arith)
ltb_suc a b false e = let h = ltb-false a b e in le-ltb (suc a) (suc b) (omega arith)

module _ {A : Type 0} (test : A → Bool) (xs : List A) where
  pub found_at : (i : ℕ) → Some i ≡ place_of test xs → (i < length xs) × (i ≡ first_from test 0 xs)
  unfolding place_of
  found_at i e = go (ltb (first_from test 0 xs) (length xs)) refl e
    where
      go : (b : Bool) → ltb (first_from test 0 xs) (length xs) ≡ b → Some i ≡ cond b (Some (first_from test 0 xs)) None
          → (i < length xs) × (i ≡ first_from test 0 xs)
      go true t q = let p : i ≡ first_from test 0 xs = cc in (omega (arith, ltb-true (first_from test 0 xs) (length xs) t), p)
      go false t q = let z : ◌≡◌ {A = ℕ} 0 1 = cc in absurd (omega arith)

  pub not_found : None ≡ place_of test xs → length xs ≤ first_from test 0 xs
  unfolding place_of
  not_found e = go (ltb (first_from test 0 xs) (length xs)) refl e
    where
      go : (b : Bool) → ltb (first_from test 0 xs) (length xs) ≡ b → None ≡ cond b (Some (first_from test 0 xs)) None → length xs ≤ first_from test 0 xs
      go true t q = let z : ◌≡◌ {A = ℕ} 0 1 = cc in absurd (omega arith)
      go false t q = ltb-false (first_from test 0 xs) (length xs) t

  pub place_within : (r : Option ℕ) (n : ℕ) → r ≡ place_of test xs → length xs ≡ n → IfSome r (λ i. i < n)
  place_within None n p e = tt
  place_within (Some i) n p e = omega (arith, (found_at i p).0)

module _ {A B : Type 0} (d : A) (test : A → Bool) (f : A → B) (other : B) where
  by_place : (xs : List A) → first_of test f other xs
      ≡ cond (ltb (first_from test 0 xs) (length xs)) (f (get_or xs (first_from test 0 xs) d)) other
  by_place [] = refl
  by_place (x ∷ xs) = go (test x) (by_place xs)
    where
      go : (b : Bool) → first_of test f other xs ≡ cond (ltb (first_from test 0 xs) (length xs)) (f (get_or xs (first_from test 0 xs) d)) other
          → cond b (f x) (first_of test f other xs)
          ≡ cond (ltb (cond b 0 (suc (first_from test 0 xs))) (suc (length xs))) (f (get_or (x ∷ xs) (cond b 0 (suc (first_from test 0 xs))) d)) other
      go true h = rw (lt-ltb 0 (suc (length xs)) (omega arith)) refl
      go false h = rw (ltb_suc (first_from test 0 xs) (length xs) (ltb (first_from test 0 xs) (length xs)) refl) h

  -- of the first `n` of the slots
  pub of_place : (s : List A) (n i : ℕ) → Some i ≡ place_of test (take n s) → f (get_or s i d) ≡ first_of test f other (take n s)
  of_place s n i e =
      let q = found_at test (take n s) i e in
      ap f (sym (entry_at d s n i q.0))
      ∙ (simp (← q.1, lt-ltb i (length (take n s)) q.0) at (sym (by_place (take n s))))

  pub of_none : (xs : List A) → None ≡ place_of test xs → other ≡ first_of test f other xs
  of_none xs e = rw (le-ltb (first_from test 0 xs) (length xs) (not_found test xs e)) at (sym (by_place xs))

-- Lookup and get

answer_number_lem : (s : State) → answer_number (Ok (answer_of s)) ≡ 0
answer_number_lem Started = refl
answer_number_lem (Incomplete p t) = refl
answer_number_lem (Reachable h t) = refl
answer_number_lem (Stale h) = refl

looked_number : (k : Key) (es : Table) → answer_number (first_of (is_key k) answer_in (Ok NotFound) es) ≡ 0
looked_number k [] = refl
looked_number k (e ∷ es) = go (is_key k e) (looked_number k es)
  where
    go : (x : Bool) → answer_number (first_of (is_key k) answer_in (Ok NotFound) es) ≡ 0
        → answer_number (cond x (answer_in e) (first_of (is_key k) answer_in (Ok NotFound) es)) ≡ 0
    go true h = answer_number_lem e.state
    go false h = h

got_number : (k : Key) (es : Table) → got_number_is (first_of (is_key k) shown (Ok None) es) ≡ 0
got_number k [] = refl
got_number k (e ∷ es) = go (is_key k e) (got_number k es)
  where
    go : (x : Bool) → got_number_is (first_of (is_key k) shown (Ok None) es) ≡ 0 → got_number_is (cond x (shown e) (first_of (is_key k) shown (Ok None) es)) ≡ 0
    go true h = refl
    go false h = h

-- the values: those of the key's entry

found_state : (s : State) → answer_found (Ok (answer_of s)) ≡ sends_to s
found_state Started = refl
found_state (Incomplete p t) = refl
found_state (Reachable h t) = refl
found_state (Stale h) = refl

found_first : (k : Key) (es : Table) → answer_found (first_of (is_key k) answer_in (Ok NotFound) es) ≡ first_of (is_key k) sent_to [] es
found_first k [] = refl
found_first k (e ∷ es) = go (is_key k e) (found_first k es)
  where
    go : (x : Bool) → answer_found (first_of (is_key k) answer_in (Ok NotFound) es) ≡ first_of (is_key k) sent_to [] es
        → answer_found (cond x (answer_in e) (first_of (is_key k) answer_in (Ok NotFound) es)) ≡ cond x (sent_to e) (first_of (is_key k) sent_to [] es)
    go true h = found_state e.state
    go false h = h

found_by : (x : Result (Unit {0}) Refusal) (c : NeighborCache) (k : Key) → answer_found (lookup_by x c k) ≡ unless x (first_of (is_key k) sent_to [] (entries c))
found_by (Err why) c k = refl
found_by (Ok tt) c k = found_first k (entries c)

shown_first : (k : Key) (es : Table) → got_shown (first_of (is_key k) shown (Ok None) es) ≡ first_of (is_key k) alone [] es
shown_first k [] = refl
shown_first k (e ∷ es) = go (is_key k e) (shown_first k es)
  where
    go : (x : Bool) → got_shown (first_of (is_key k) shown (Ok None) es) ≡ first_of (is_key k) alone [] es
        → got_shown (cond x (shown e) (first_of (is_key k) shown (Ok None) es)) ≡ cond x (alone e) (first_of (is_key k) alone [] es)
    go true h = refl
    go false h = h

shown_by : (x : Result (Unit {0}) Refusal) (c : NeighborCache) (k : Key) → got_shown (get_by x c k) ≡ unless x (first_of (is_key k) alone [] (entries c))
shown_by (Err why) c k = refl
shown_by (Ok tt) c k = shown_first k (entries c)

-- of the entry at the key's place, the same
taken_first : (k : Key) (es : Table)
    → got_shown (cond (ltb (find k es) (length es)) (shown (get_or es (find k es) blank)) (Ok None)) ≡ first_of (is_key k) alone [] es
unfolding find
taken_first k es = ap got_shown (sym (by_place blank (is_key k) shown (Ok None) es)) ∙ shown_first k es

taken_cond : (x : Bool) (a b : Removed) → got_shown (cond x a b).taken ≡ got_shown (cond x a.taken b.taken)
taken_cond true a b = refl
taken_cond false a b = refl

taken_by_lem : (x : Result (Unit {0}) Refusal) (c : NeighborCache) (k : Key) → got_shown (remove_by x c k).taken ≡ unless x (first_of (is_key k) alone [] (entries c))
taken_by_lem (Err why) c k = refl
taken_by_lem (Ok tt) c k =
    taken_cond (ltb (find k (entries c)) (length (entries c))) (record { cache = with_entries c (remove_key k (entries c)); taken = shown (get_or (entries c) (find k (entries c)) blank) })
    (record { cache = c; taken = Ok None })
    ∙ taken_first k (entries c)

module _ (c : NeighborCache) (iface : ℕ) (addr : Ipv6Addr) where
  looked_as : (r : Result Answer Refusal) → r ≡ lookup_by (key_check iface addr) c (key iface addr) → answer_number r ≡ check_number (key_check iface addr) → LookedUp c iface addr r
  looked_as r e n = record { is = e; number = n; found = ap answer_found e ∙ found_by (key_check iface addr) c (key iface addr) }

  got_as : (r : Result (Option Neighbor) Refusal) → r ≡ get_by (iface_check iface) c (key iface addr) → got_number_is r ≡ check_number (iface_check iface) → GotBy c iface addr r
  got_as r e n = record { is = e; number = n; shows = ap got_shown e ∙ shown_by (iface_check iface) c (key iface addr) }

  taken_as : (r : Removed) → r ≡ remove_by (iface_check iface) c (key iface addr) → got_number_is r.taken ≡ check_number (iface_check iface) → RemovedTo c iface addr r
  taken_as r e n =
      record { is = e; number = n; shows = ap (λ (x : Removed). got_shown x.taken) e ∙ taken_by_lem (iface_check iface) c (key iface addr) }

  pub looked : (r : Result Answer Refusal) → key_check iface addr ≡ Ok tt → r ≡ first_of (is_key (key iface addr)) answer_in (Ok NotFound) (entries c)
      → LookedUp c iface addr r
  looked r p e =
      looked_as r (e ∙ ap (λ (x : Result (Unit {0}) Refusal). lookup_by x c (key iface addr)) (sym p))
      (ap answer_number e ∙ (looked_number (key iface addr) (entries c) ∙ ap check_number (sym p)))

  pub got : (r : Result (Option Neighbor) Refusal) → iface_check iface ≡ Ok tt → r ≡ first_of (is_key (key iface addr)) shown (Ok None) (entries c) → GotBy c iface addr r
  got r p e =
      got_as r (e ∙ ap (λ (x : Result (Unit {0}) Refusal). get_by x c (key iface addr)) (sym p))
      (ap got_number_is e ∙ (got_number (key iface addr) (entries c) ∙ ap check_number (sym p)))

-- Calls that change the entries

pub change_done : (check : Result (Unit {0}) Refusal) (c c' : NeighborCache) {r : Changed} → check ≡ Ok tt → r ≡ changed_to c' → ChangedTo check c c' r
change_done check c c' p e =
    record {
      is = e ∙ ap (λ (x : Result (Unit {0}) Refusal). change_by x c c') (sym p);
      number = ap (λ (x : Changed). outcome_number x.outcome) e ∙ ap check_number (sym p);
    }

-- the cache of these entries, from its slots and its count
pub changed_to_lem : (c : NeighborCache) (xs : Table) {s : List Entry} {n : ℕ} → Made c.slots xs s n
    → ◌≡◌ {A = Changed} (record { cache = record { slots = s; len = n }; outcome = Ok tt }) (changed_to (with_entries c xs))
changed_to_lem c xs m = ap₂ (λ (a : List Entry) (b : ℕ). record { cache = record { slots = a; len = b }; outcome = Ok tt }) m.slots m.count

-- An interface is cleared

pub cleared : (c : NeighborCache) (iface n : ℕ) → length c.slots ≡ 16 → n ≡ min c.len 16 → {s : List Entry} {m : ℕ}
    → (s ≡ filled c.slots (kept (on_iface iface) (take n c.slots))) × (m ≡ length (kept (on_iface iface) (take n c.slots)))
    → ◌≡◌ {A = Changed} (record { cache = record { slots = s; len = m }; outcome = Ok tt }) (changed_to (clear_in c iface))
cleared c iface n full e k =
    let t : take n c.slots ≡ entries c = ap (λ (l : ℕ). take l c.slots) (e ∙ ap (min c.len) (sym full)) ∙ take_min c.len c.slots in
    changed_to_lem c (clear_iface iface (entries c)) (record {
      slots = k.0 ∙ ap (λ (l : Table). filled c.slots (clear_iface iface l)) t;
      count = k.1 ∙ ap (λ (l : Table). length (clear_iface iface l)) t;
    })

-- A state is put under a key

module _ (k : Key) (st : State) (es : Table) where
  put_known : (i : ℕ) → find k es ≡ i → i < length es → set es i (entry k st) ≡ insert_state k st es
  unfolding insert_state
  put_known i p h = rw p (simp (lt-ltb i (length es) h))

  put_new : length es ≤ find k es → length es < 16 → es ++ (entry k st ∷ []) ≡ insert_state k st es
  unfolding insert_state
  put_new p h = simp (le-ltb (find k es) (length es) p, lt-ltb (length es) 16 h)

  put_full : (i : ℕ) → length es ≤ find k es → 16 ≤ length es → victim es ≡ i → set es i (entry k st) ≡ insert_state k st es
  unfolding insert_state
  put_full i p h q = rw q (simp (le-ltb (find k es) (length es) p, le-ltb (length es) 16 h))

-- the state stands over the key's entry, at the end, or over the victim
module _ (c : NeighborCache) (k : Key) (st : State) (n : ℕ) (full : length c.slots ≡ 16) (e : n ≡ min c.len 16) where
  abbrev Put : ℕ → ℕ → Type 0
  Put i m = ◌≡◌ {A = Changed} (record { cache = record { slots = set c.slots i (entry k st); len = m }; outcome = Ok tt }) (changed_to (put_in c k st))

  entry_count : n ≡ length (entries c)
  entry_count = counted c.slots c.len 16 n full e

  pub put_over_lem : (i : ℕ) → Some i ≡ place_of (is_key k) (entries c) → Put i n
  unfolding find
  put_over_lem i p =
      let q = found_at (is_key k) (entries c) i p in
      let w = put_known k st (entries c) i (sym q.1) q.0 in
      changed_to_lem c (insert_state k st (entries c))
      (record {
        slots = over c.slots c.len n entry_count i (entry k st) (omega (arith, q.0, entry_count)) ∙ ap (λ (l : List Entry). filled c.slots l) w;
        count = entry_count ∙ (sym (length-set (entries c) i (entry k st)) ∙ ap length w);
      })

  module _ (p : None ≡ place_of (is_key k) (entries c)) where
    nowhere : length (entries c) ≤ find k (entries c)
    unfolding find
    nowhere = not_found (is_key k) (entries c) p

    pub put_end : n < 16 → Put n (n + 1)
    put_end l =
        let w = put_new k st (entries c) nowhere (omega (arith, entry_count)) in
        let m : n + 1 ≡ length (entries c ++ (entry k st ∷ [])) = simp length-append (omega (arith, entry_count)) in
        changed_to_lem c (insert_state k st (entries c))
        (record {
          slots = at_end c.slots c.len n entry_count (entry k st) (omega (arith, full)) ∙ ap (λ (u : List Entry). filled c.slots u) w;
          count = m ∙ ap length w;
        })

    pub put_victim : (v : ℕ) → 16 ≤ n → v ≡ victim c.slots → v < 16 → Put v n
    put_victim v l q lv =
        let whole : entries c ≡ c.slots = take_all c.len c.slots (omega (arith, full, e)) in
        let w = put_full k st (entries c) v nowhere (omega (arith, entry_count)) (ap victim whole ∙ sym q) in
        changed_to_lem c (insert_state k st (entries c))
        (record {
          slots = over c.slots c.len n entry_count v (entry k st) (omega arith) ∙ ap (λ (u : List Entry). filled c.slots u) w;
          count = entry_count ∙ (sym (length-set (entries c) v (entry k st)) ∙ ap length w);
        })

-- An entry is taken out

module _ (c : NeighborCache) (iface : ℕ) (addr : Ipv6Addr) where
  module _ (p : iface_check iface ≡ Ok tt) where
    pub remove_none : None ≡ place_of (is_key (key iface addr)) (entries c) → RemovedTo c iface addr (record { cache = c; taken = Ok None })
    unfolding find
    remove_none f =
        let e : record { cache = c; taken = Ok None } ≡ remove_by (Ok tt) c (key iface addr) =
        simp (le-ltb (find (key iface addr) (entries c)) (length (entries c)) (not_found (is_key (key iface addr)) (entries c) f)) in
        taken_as c iface addr _ (e ∙ ap (λ (x : Result (Unit {0}) Refusal). remove_by x c (key iface addr)) (sym p)) (ap check_number (sym p))

    pub removed : (k i : ℕ) (n : Neighbor) → length c.slots ≡ 16 → k ≡ min c.len 16 → Some i ≡ place_of (is_key (key iface addr)) (entries c)
        → n ≡ listed (get_or c.slots i blank)
        → RemovedTo c iface addr
        (record { cache = record { slots = set c.slots i (get_or c.slots (k - 1) blank); len = k - 1 }; taken = Ok (Some n) })
    unfolding find remove_key
    removed k i n full c_len f q =
        let es : Table = entries c in
        let g = found_at (is_key (key iface addr)) es i f in
        let e : k ≡ length es = counted c.slots c.len 16 k full c_len in
        let h : i < k = omega (arith, g.0, e) in
        let a : set c.slots i (get_or c.slots (k - 1) blank) ≡ filled c.slots (swap_remove i es) = moved_in c.slots c.len k e blank i h in
        let b : k - 1 ≡ length (swap_remove i es) = sym (moved_count c.slots c.len k e blank i h) in
        let m : n ≡ listed (get_or es i blank) = q ∙ ap listed (sym (entry_at blank c.slots c.len i g.0)) in
        let made : ◌≡◌ {A = Removed} (record { cache = record { slots = set c.slots i (get_or c.slots (k - 1) blank); len = k - 1 }; taken = Ok (Some n) })
        (record { cache = with_entries c (swap_remove i es); taken = shown (get_or es i blank) }) =
        ap₂ (λ (x : NeighborCache) (y : Neighbor). record { cache = x; taken = Ok (Some y) })
        (ap₂ (λ (x : List Entry) (y : ℕ). record { slots = x; len = y }) a b) m in
        let by : record { cache = with_entries c (swap_remove i es); taken = shown (get_or es i blank) } ≡ remove_by (Ok tt) c (key iface addr) =
        simp (← g.1, lt-ltb i (length es) g.0) in
        taken_as c iface addr _ (made ∙ (by ∙ ap (λ (x : Result (Unit {0}) Refusal). remove_by x c (key iface addr)) (sym p))) (ap check_number (sym p))
