-- From what a call found in the queue to its promise. `s` are the slots, `n` the number of packets. Assumes nothing.
use Prim.Native.Nat.{ℕ, zero, suc, ◌-◌, ◌+◌, ◌≤◌, ◌<◌, min}
use borrow.Author.Tests.{lt-ltb, le-ltb}
use lib.ListN.{length, take, drop, set, get_or, length-take, length-drop, length-set, length-append}
use lib.Seq.{take-append_seam, drop-append_seam, drop-set-lt, take-suc, take_all}
use mathlib.Core.Bool.{Bool, true, false, cond, not, true≢false}
use mathlib.Core.List.{List, [], ◌∷◌, ◌++◌, append-nil}
use mathlib.Core.Logic.{◌⊎◌, inl, inr}
use mathlib.Core.Path.{◌≡◌, refl, sym, ap, ap₂, subst, ◌∙◌}
use native.Mathlib.Numerals.{add-one}
use native.Mathlib.Omega.{arith}
use denote.Ref.{Bor}
use Rattle.std.proofs.lemmas.List.{map-append}
use Rattle.std.specs.List.{find, copy_within}
use Rattle.std.specs.Option.{MatchOption, option_map}
use Rattle.std.specs.Prelude.{Option, None, Some, ℕ, Result, Ok, Err}
use Rattle.neighbor.specs.CacheCalls.{key, entries, unless}
use Rattle.wire.specs.Refusals.{iface_check, check_number}
use Rattle.neighbor.specs.NeighborRules.{Table, Key, is_key}
use Rattle.neighbor.specs.declared.Entry.{Entry}
use Rattle.neighbor.specs.declared.NeighborCache.{NeighborCache}
use Rattle.wire.specs.Refusals.{outcome_number}
use Rattle.pending.specs.QueueCalls.{queue_room, packets, with_packets, blank, zeros, push_number, pushed_out, push_by, PushedTo, release_number, released_out, handle_alone, release_by, ReleasedTo, handles_of, purged_of, PurgesBy, OrphansPurged, purge_by, PurgedTo}
use Rattle.pending.specs.QueueRules.{Queue, key_of, packet, has_key, is_full, push_list, oldest, push_answer, release_list, handed, release_answer, awaits_in, orphaned, on_iface, dropped_handles}
use Rattle.pending.specs.declared.Handles.{Handles}
use Rattle.pending.specs.declared.PendingPacket.{PendingPacket}
use Rattle.pending.specs.declared.PendingQueue.{PendingQueue}
use Rattle.pending.specs.declared.Purged.{Purged}
use Rattle.pending.specs.declared.Pushed.{Pushed}
use Rattle.pending.specs.declared.Released.{Released}
use Rattle.table.proofs.Laws.{Made, made, counted, take_count, entry_at, entries_from, at_end, one_more, agree, agree_from}
use Rattle.pending.proofs.Scans.{release_law}
use Rattle.table.proofs.First.{first_from_law}
use Rattle.table.proofs.Kept.{kept_append}
use Rattle.table.specs.Calls.{place_of}
use Rattle.table.specs.First.{FirstAt, NoneFrom}
use Rattle.table.specs.Table.{filled, first_from, any_of, first_of, kept, dropped, without}
use Rattle.wire.specs.declared.error.Refusal.{Refusal}
use Rattle.wire.specs.declared.ipv6.Ipv6Addr.{Ipv6Addr}

-- the packets of a queue that was made of them
pub packets_of : (q : PendingQueue) (xs : Queue) → packets (with_packets q xs) ≡ xs
packets_of q xs = take-append_seam xs (drop (length xs) q.slots)

-- One packet more

appended : {A : Type 0} {s₀ xs s : List A} {k : ℕ} (y : A) → Made s₀ xs s k → k < length s → Made s₀ (xs ++ (y ∷ [])) (set s k y) (k + 1)
appended {A} {s₀} {xs} {s} {k} y m h =
    let front : take k s ≡ xs =
    ap₂ (λ (i : ℕ) (l : List A). take i l) m.count m.slots ∙ take-append_seam xs (drop (length xs) s₀) in
    let back : drop k s ≡ drop k s₀ =
    ap₂ (λ (i : ℕ) (l : List A). drop i l) m.count m.slots
    ∙ (drop-append_seam xs (drop (length xs) s₀) ∙ ap (λ (i : ℕ). drop i s₀) (sym m.count)) in
    let c : length (xs ++ (y ∷ [])) ≡ k + 1 = simp length-append (omega (arith, m.count)) in
    record {
      slots =
          made s₀ (set s k y) (xs ++ (y ∷ [])) (k + 1) c (one_more s k y h ∙ ap (λ (l : List A). l ++ (y ∷ [])) front)
          (drop-set-lt (k + 1) s k y (omega arith) ∙ agree_from s s₀ k back);
      count = sym c;
    }

-- Push

push_gives : (b : Bool) (h : ℕ) → pushed_out (cond b (Ok (Some h)) (Ok None)) ≡ cond b (h ∷ []) []
push_gives true h = refl
push_gives false h = refl

pushed_by : (x : Result (Unit {0}) Refusal) (q : PendingQueue) (p : PendingPacket) → pushed_out (push_by x q p).answer ≡ unless x (cond (is_full queue_room (packets q)) (oldest (packets q) ∷ []) [])
unfolding push_answer
pushed_by (Err why) q p = refl
pushed_by (Ok tt) q p = push_gives (is_full queue_room (packets q)) (oldest (packets q))

module _ (q : PendingQueue) (iface : ℕ) (addr : Ipv6Addr) (handle : ℕ) where
  pushed_as : (r : Pushed) → r ≡ push_by (iface_check iface) q (packet (key iface addr) handle) → push_number r.answer ≡ check_number (iface_check iface)
      → PushedTo q iface addr handle r
  pushed_as r e n =
      record { is = e; number = n; gives = ap (λ (x : Pushed). pushed_out x.answer) e ∙ pushed_by (iface_check iface) q (packet (key iface addr) handle) }

  pub pushed : (s : Queue) (n : ℕ) (a : Result (Option ℕ) Refusal) → iface_check iface ≡ Ok tt → Made q.slots (push_list queue_room (packet (key iface addr) handle) (packets q)) s n
      → a ≡ push_answer queue_room (packets q) → push_number a ≡ 0 → PushedTo q iface addr handle (record { queue = record { slots = s; len = n }; answer = a })
  pushed s n a e m t z =
      let made : ◌≡◌ {A = Pushed} (record { queue = record { slots = s; len = n }; answer = a })
      (record { queue = with_packets q (push_list queue_room (packet (key iface addr) handle) (packets q)); answer = push_answer queue_room (packets q) }) =
      ap₂ (λ (x : PendingQueue) (y : Result (Option ℕ) Refusal). record { queue = x; answer = y })
      (ap₂ (λ (x : Queue) (y : ℕ). record { slots = x; len = y }) m.slots m.count) t in
      pushed_as _ (made ∙ ap (λ (x : Result (Unit {0}) Refusal). push_by x q (packet (key iface addr) handle)) (sym e)) (z ∙ ap check_number (sym e))

module _ (y : PendingPacket) (s : Queue) (len n : ℕ) (full : length s ≡ 8) (e : n ≡ min len 8) where
  count : n ≡ length (take len s)
  count = counted s len 8 n full e

  room : n < 8 → is_full queue_room (take len s) ≡ false
  room h = let l : length (take len s) < 8 = omega (arith, count) in simp (lt-ltb (length (take len s)) 8 l)

  no_room : 8 ≤ n → is_full queue_room (take len s) ≡ true
  no_room h = let l : 8 ≤ length (take len s) = omega (arith, count) in simp (le-ltb (length (take len s)) 8 l)

  pub push_room : n < 8 → Made s (push_list queue_room y (take len s)) (set s n y) (n + 1)
  unfolding push_list
  push_room h =
      let w : take len s ++ (y ∷ []) ≡ push_list queue_room y (take len s) = simp (room h) in
      let m : n + 1 ≡ length (take len s ++ (y ∷ [])) = simp length-append (omega (arith, count)) in
      record { slots = at_end s len n count y (omega arith) ∙ ap (λ (l : Queue). filled s l) w; count = m ∙ ap length w }

  pub push_queued : n < 8 → Ok None ≡ push_answer queue_room (take len s)
  unfolding push_answer
  push_queued h = simp (room h)

  pub push_full : 8 ≤ n → Made s (push_list queue_room y (take len s)) (set (copy_within s 1 (length s) 0) 7 y) 8
  unfolding push_list
  push_full h =
      let all : take len s ≡ s = take_all len s (omega (arith, count, length-take len s)) in
      let seven : length (drop 1 s) ≡ 7 = omega (arith, length-drop 1 s) in
      let moved : copy_within s 1 (length s) 0 ≡ filled s (drop 1 s) = simp (full, seven, take_all 7 (drop 1 s) (omega arith)) in
      let m : Made s (drop 1 s ++ (y ∷ [])) (set (copy_within s 1 (length s) 0) 7 y) 8 =
      appended y (record { slots = moved; count = sym seven })
      (rw moved (omega (arith, seven, length-append (drop 1 s) (drop (length (drop 1 s)) s), length-drop (length (drop 1 s)) s))) in
      let w : drop 1 s ++ (y ∷ []) ≡ push_list queue_room y (take len s) = simp (no_room h) (ap (λ (t : Queue). drop 1 t ++ (y ∷ [])) (sym all)) in
      record { slots = m.slots ∙ ap (λ (u : Queue). filled s u) w; count = m.count ∙ ap length w }

  pub push_dropped : 8 ≤ n → Ok (Some (get_or s 0 blank).handle) ≡ push_answer queue_room (take len s)
  unfolding push_answer
  push_dropped h =
      let l : take len s ≡ get_or s 0 blank ∷ drop 1 (take len s) = entries_from blank s len 0 (omega (arith, count)) in
      let o : oldest (take len s) ≡ (get_or s 0 blank).handle = ap oldest l in
      ap (λ x. Ok (Some x)) (sym o) ∙ simp (no_room h)

-- Release

-- the place that a search gives, in words
abbrev Placed : (PendingPacket → Bool) → Queue → Option ℕ → Type 0
Placed test xs None = NoneFrom blank test 0 xs (length xs)
Placed test xs (Some i) = FirstAt blank test 0 xs i

placed : (test : PendingPacket → Bool) (xs : Queue) (r : Option ℕ) → r ≡ place_of test xs → Placed test xs r
unfolding place_of
placed test xs r e = go (first_from_law.is blank test 0 xs)
  where
    go : FirstAt blank test 0 xs (first_from test 0 xs) ⊎ NoneFrom blank test 0 xs (first_from test 0 xs) → Placed test xs r
    go (inl at) =
        let w : place_of test xs ≡ Some (first_from test 0 xs) = simp (lt-ltb (first_from test 0 xs) (length xs) at.inside) in
        subst (λ (o : Option ℕ). Placed test xs o) (sym (e ∙ w)) at
    go (inr none) =
        let l : length xs ≤ first_from test 0 xs = omega (arith, none.end) in
        let w : place_of test xs ≡ None = simp (le-ltb (first_from test 0 xs) (length xs) l) in
        subst (λ (o : Option ℕ). Placed test xs o) (sym (e ∙ w)) (record { end = refl; none = none.none })

pub placed_below : (test : PendingPacket → Bool) (s : Queue) (n : ℕ) {i : ℕ} → Some i ≡ place_of test (take n s) → i < n
placed_below test s n {i} h = let at : FirstAt blank test 0 (take n s) i = placed test (take n s) (Some i) h in omega (arith, at.inside, length-take n s)

module _ (test : PendingPacket → Bool) where
  any_at : (xs : Queue) (i : ℕ) → i < length xs → test (get_or xs i blank) ≡ true → any_of test xs ≡ true
  any_at [] i h p = absurd (omega arith)
  any_at (x ∷ xs) zero h p = ap (λ (b : Bool). cond b true (any_of test xs)) p
  any_at (x ∷ xs) (suc i) h p = go (test x) (any_at xs i (omega arith) p)
    where
      go : (b : Bool) → any_of test xs ≡ true → cond b true (any_of test xs) ≡ true
      go true e = refl
      go false e = e

  any_none : (xs : Queue) → ((i : ℕ) → i < length xs → test (get_or xs i blank) ≡ false) → any_of test xs ≡ false
  any_none [] all = refl
  any_none (x ∷ xs) all =
      ap (λ (b : Bool). cond b true (any_of test xs)) (all 0 (omega arith)) ∙ any_none xs (λ i l. all (suc i) (omega arith))

without_count : (xs : Queue) (i : ℕ) → i < length xs → length (without xs i) ≡ length xs - 1
without_count xs i h = omega (arith, length-append (take i xs) (drop (i + 1) xs), length-take i xs, length-drop (i + 1) xs)

-- an answer by the first packet of the key, or where none is there
gives_first : (k : Key) (ps : Queue) → released_out (first_of (has_key k) handed (Ok None) ps) ≡ first_of (has_key k) handle_alone [] ps
gives_first k [] = refl
gives_first k (p ∷ ps) = go (has_key k p) (gives_first k ps)
  where
    go : (x : Bool) → released_out (first_of (has_key k) handed (Ok None) ps) ≡ first_of (has_key k) handle_alone [] ps
        → released_out (cond x (handed p) (first_of (has_key k) handed (Ok None) ps)) ≡ cond x (handle_alone p) (first_of (has_key k) handle_alone [] ps)
    go true h = refl
    go false h = h

gives_none : (k : Key) (ps : Queue) → any_of (has_key k) ps ≡ false → first_of (has_key k) handle_alone [] ps ≡ []
gives_none k [] h = refl
gives_none k (p ∷ ps) h = go (has_key k p) (gives_none k ps) h
  where
    go : (x : Bool) → (any_of (has_key k) ps ≡ false → first_of (has_key k) handle_alone [] ps ≡ []) → cond x true (any_of (has_key k) ps) ≡ false
        → cond x (handle_alone p) (first_of (has_key k) handle_alone [] ps) ≡ []
    go true g h = absurd (true≢false h)
    go false g h = g h

released_by : (x : Result (Unit {0}) Refusal) (q : PendingQueue) (k : Key) → released_out (release_by x q k).answer ≡ unless x (first_of (has_key k) handle_alone [] (packets q))
unfolding release_answer
released_by (Err why) q k = refl
released_by (Ok tt) q k = go (any_of (has_key k) (packets q)) refl
  where
    go : (b : Bool) → any_of (has_key k) (packets q) ≡ b
        → released_out (cond {A = Released} b (record { queue = with_packets q (release_list k (packets q)); answer = release_answer k (packets q) }) (record { queue = q; answer = Ok None })).answer
        ≡ first_of (has_key k) handle_alone [] (packets q)
    go true e = gives_first k (packets q)
    go false e = sym (gives_none k (packets q) e)

module _ (q : PendingQueue) (iface : ℕ) (addr : Ipv6Addr) where
  released_as : (r : Released) → r ≡ release_by (iface_check iface) q (key iface addr) → release_number r.answer ≡ check_number (iface_check iface) → ReleasedTo q iface addr r
  released_as r e n =
      record { is = e; number = n; gives = ap (λ (x : Released). released_out x.answer) e ∙ released_by (iface_check iface) q (key iface addr) }

  module _ (n : ℕ) (full : length q.slots ≡ 8) (e : n ≡ min q.len 8) (fine : iface_check iface ≡ Ok tt) where
    k : Key
    k = key iface addr

    same : take n q.slots ≡ packets q
    same = take_count q.slots q.len n (counted q.slots q.len 8 n full e)

    placed_in : (r : Option ℕ) → r ≡ place_of (has_key k) (take n q.slots) → Placed (has_key k) (packets q) r
    placed_in r h = placed (has_key k) (packets q) r (h ∙ ap (λ (ps : Queue). place_of (has_key k) ps) same)

    pub release_none : None ≡ place_of (has_key (key iface addr)) (take n q.slots) → ReleasedTo q iface addr (record { queue = q; answer = Ok None })
    unfolding k
    release_none h =
        let at : NoneFrom blank (has_key k) 0 (packets q) (length (packets q)) = placed_in None h in
        let none : any_of (has_key k) (packets q) ≡ false = any_none (has_key k) (packets q) (λ i l. at.none i (omega arith) l) in
        let w : record { queue = q; answer = Ok None } ≡ release_by (Ok tt) q k = simp none in
        released_as _ (w ∙ ap (λ (x : Result (Unit {0}) Refusal). release_by x q k) (sym fine)) (ap check_number (sym fine))

    pub released : (i : ℕ) → Some i ≡ place_of (has_key (key iface addr)) (take n q.slots)
        → ReleasedTo q iface addr
        (record { queue = record { slots = filled q.slots (without (take n q.slots) i); len = n - 1 }; answer = Ok (Some (get_or q.slots i blank).handle) })
    unfolding k
    released i h =
        let at : FirstAt blank (has_key k) 0 (packets q) i = placed_in (Some i) h in
        let some : any_of (has_key k) (packets q) ≡ true = any_at (has_key k) (packets q) i at.inside at.passes in
        let l : without (take n q.slots) i ≡ release_list k (packets q) =
        ap (λ (ps : Queue). without ps i) same ∙ sym (release_law.takes k (packets q) i at) in
        let size : n ≡ length (packets q) = counted q.slots q.len 8 n full e in
        let c : n - 1 ≡ length (release_list k (packets q)) =
        ap (λ (m : ℕ). m - 1) size ∙ (sym (without_count (packets q) i at.inside) ∙ ap length (sym (release_law.takes k (packets q) i at))) in
        let a : Ok (Some (get_or q.slots i blank).handle) ≡ release_answer k (packets q) =
        ap (λ (p : PendingPacket). (Ok (Some p.handle))) (sym (entry_at blank q.slots q.len i at.inside)) ∙ sym (release_law.gives k (packets q) i at) in
        let made : ◌≡◌ {A = Released}
        (record { queue = record { slots = filled q.slots (without (take n q.slots) i); len = n - 1 }; answer = Ok (Some (get_or q.slots i blank).handle) })
        (record { queue = with_packets q (release_list k (packets q)); answer = release_answer k (packets q) }) =
        ap₂ (λ (x : PendingQueue) (y : Result (Option ℕ) Refusal). record { queue = x; answer = y })
        (ap₂ (λ (x : Queue) (y : ℕ). record { slots = x; len = y }) (ap (λ (u : Queue). filled q.slots u) l) c) a in
        let w : record { queue = with_packets q (release_list k (packets q)); answer = release_answer k (packets q) } ≡ release_by (Ok tt) q k = simp some in
        released_as _ (made ∙ (w ∙ ap (λ (x : Result (Unit {0}) Refusal). release_by x q k) (sym fine))) (ap check_number (sym fine))

-- Purges: the loop keeps what stays, and collects the handles of what goes

dropped_append : (goes : PendingPacket → Bool) (xs ys : Queue) → dropped goes (xs ++ ys) ≡ dropped goes xs ++ dropped goes ys
dropped_append goes [] ys = refl
dropped_append goes (x ∷ xs) ys = go (goes x) (dropped_append goes xs ys)
  where
    go : (b : Bool) → dropped goes (xs ++ ys) ≡ dropped goes xs ++ dropped goes ys
        → cond b (x ∷ dropped goes (xs ++ ys)) (dropped goes (xs ++ ys)) ≡ cond b (x ∷ dropped goes xs) (dropped goes xs) ++ dropped goes ys
    go true h = ap (λ (l : Queue). x ∷ l) h
    go false h = h

-- of the first i packets of `q`, those that stay stand in front of `s`, and the handles of the others in `h`
pub record Parted (goes : PendingPacket → Bool) (q : Queue) (i : ℕ) (s : Queue) (k : ℕ) (h : Handles) : Type 0 where
  pub stay : Made q (kept goes (take i q)) s k
  pub go : Made zeros (dropped_handles goes (take i q)) h.slots h.len

-- the same by each test that the closure's answers are those of
pub record Purging (gives : PendingPacket → Bool → Type 0) (q : Queue) (i : ℕ) (s : Queue) (k : ℕ) (h : Handles) : Type 0 where
  pub wide : length s ≡ 8
  pub room : length h.slots ≡ 8
  pub parts : k + h.len ≡ i
  pub rest : drop k s ≡ drop k q
  pub by : (goes : PendingPacket → Bool) → ((x : PendingPacket) (b : Bool) → gives x b → b ≡ not (goes x)) → Parted goes q i s k h

not_not : (b c : Bool) → c ≡ not b → b ≡ not c
not_not true c e = sym (ap not e)
not_not false c e = sym (ap not e)

module _ {gives : PendingPacket → Bool → Type 0} {q : Queue} where
  pub purging : (len : length q ≡ 8) → Purging gives q 0 q 0 (record { slots = zeros; len = 0 })
  unfolding dropped_handles
  purging len =
      record {
        wide = len;
        room = refl;
        parts = refl;
        rest = refl;
        by = λ goes means. record { stay = record { slots = refl; count = refl }; go = record { slots = refl; count = refl } };
      }

  module _ {i : ℕ} {s : Queue} {k : ℕ} {h : Handles} (full : length q ≡ 8) (inv : Purging gives q i s k h) (l : i < 8) where
    abbrev x : PendingPacket
    x = get_or s i blank

    next_one : take (i + 1) q ≡ take i q ++ (x ∷ [])
    next_one =
        let same : x ≡ get_or q i blank = agree s q k i blank (omega (arith, inv.parts)) inv.rest in
        rw (add-one i) (take-suc q i blank (omega arith) ∙ ap (λ (y : PendingPacket). take i q ++ (y ∷ [])) (sym same))

    pub one_stays : gives x true → Purging gives q (i + 1) (set s k x) (k + 1) h
    unfolding dropped_handles
    one_stays g =
        record {
          wide = length-set s k x ∙ inv.wide;
          room = inv.room;
          parts = omega (arith, inv.parts);
          rest = drop-set-lt (k + 1) s k x (omega arith) ∙ agree_from s q k inv.rest;
          by =
              λ goes means.
              let p : Parted goes q i s k h = inv.by goes means in
              let e : goes x ≡ false = not_not _ _ (means _ _ g) in
              let stay : kept goes (take i q) ++ (x ∷ []) ≡ kept goes (take (i + 1) q) = simp (next_one, kept_append, e) in
              let go : dropped_handles goes (take i q) ≡ dropped_handles goes (take (i + 1) q) = simp (next_one, dropped_append, e, append-nil) in
              record {
                stay = subst (λ (xs : Queue). Made q xs (set s k x) (k + 1)) stay (appended _ p.stay (omega (arith, inv.parts, inv.wide)));
                go = subst (λ (xs : List ℕ). Made zeros xs h.slots h.len) go p.go;
              };
        }

    pub one_goes : gives x false → Purging gives q (i + 1) s k (record { slots = set h.slots h.len x.handle; len = h.len + 1 })
    unfolding dropped_handles
    one_goes g =
        record {
          wide = inv.wide;
          room = length-set h.slots h.len x.handle ∙ inv.room;
          parts = omega (arith, inv.parts);
          rest = inv.rest;
          by =
              λ goes means.
              let p : Parted goes q i s k h = inv.by goes means in
              let e : goes x ≡ true = not_not _ _ (means _ _ g) in
              let stay : kept goes (take i q) ≡ kept goes (take (i + 1) q) = simp (next_one, kept_append, e, append-nil) in
              let go : dropped_handles goes (take i q) ++ (x.handle ∷ []) ≡ dropped_handles goes (take (i + 1) q) =
              simp (next_one, dropped_append, e, map-append) in
              record {
                stay = subst (λ (xs : Queue). Made q xs s k) stay p.stay;
                go =
                    subst (λ (xs : List ℕ). Made zeros xs (set h.slots h.len x.handle) (h.len + 1)) go
                    (appended _ p.go (omega (arith, inv.parts, inv.room)));
              };
        }

pub purged : {gives : PendingPacket → Bool → Type 0} (q : PendingQueue) {n : ℕ} {s : Queue} {k : ℕ} {h : Handles} → length q.slots ≡ 8
    → n ≡ min q.len 8 → Purging gives q.slots n s k h
    → PurgesBy gives q (record { queue = record { slots = s; len = k }; handles = h; outcome = Ok tt })
unfolding purged_of
purged q {n} {s} {k} {h} full e inv =
    λ goes means.
    let p = inv.by goes means in
    let same : take n q.slots ≡ packets q = take_count q.slots q.len n (counted q.slots q.len 8 n full e) in
    ap₂ (λ (x : PendingQueue) (y : Handles). record { queue = x; handles = y; outcome = Ok tt })
    (ap₂ (λ (x : Queue) (y : ℕ). record { slots = x; len = y }) p.stay.slots p.stay.count)
    (ap₂ (λ (x : List ℕ) (y : ℕ). record { slots = x; len = y }) p.go.slots p.go.count)
    ∙ ap (λ (ps : Queue). record { queue = with_packets q (kept goes ps); handles = handles_of (dropped_handles goes ps); outcome = Ok tt }) same

-- what a purge by a test leaves and hands back
pub purged_orphans : (q : PendingQueue) (c : NeighborCache) (r : Purged) → r ≡ purged_of q (orphaned (entries c)) → OrphansPurged q c r
unfolding purged_of
purged_orphans q c r e = record { is = e; number = ap (λ (x : Purged). outcome_number x.outcome) e }

pub purged_iface : (q : PendingQueue) (iface : ℕ) (r : Purged) → iface_check iface ≡ Ok tt → r ≡ purged_of q (on_iface iface) → PurgedTo q iface r
unfolding purged_of
purged_iface q iface r fine e =
    record {
      is = e ∙ ap (λ (x : Result (Unit {0}) Refusal). purge_by x q (on_iface iface)) (sym fine);
      number = ap (λ (x : Purged). outcome_number x.outcome) e ∙ ap check_number (sym fine);
    }

-- Orphans

abbrev awaits_found : Option Entry → Bool
awaits_found None = false
awaits_found (Some e) = awaits_in e

module _ (k : Key) where
  awaits_first : (t : Table) → awaits_found (find (is_key k) t) ≡ first_of (is_key k) awaits_in false t
  awaits_first [] = refl
  awaits_first (e ∷ t) = go (is_key k e) (awaits_first t)
    where
      go : (b : Bool) → awaits_found (find (is_key k) t) ≡ first_of (is_key k) awaits_in false t
          → awaits_found (cond b (Some e) (find (is_key k) t)) ≡ cond b (awaits_in e) (first_of (is_key k) awaits_in false t)
      go true h = refl
      go false h = h

  pub awaited_first : (t : Table) (o : Option (Bor Entry)) (r : Bool) → option_map (λ (e : Bor Entry). e.now) o ≡ find (is_key k) t
      → MatchOption o (r ≡ false) (λ e. r ≡ awaits_in e.now) → r ≡ first_of (is_key k) awaits_in false t
  awaited_first t None r e m = m ∙ (ap awaits_found e ∙ awaits_first t)
  awaited_first t (Some x) r e m = m ∙ (ap awaits_found e ∙ awaits_first t)

-- a packet stays where it is awaited among the entries
pub awaited_stays : (c : NeighborCache) (n : ℕ) → length c.slots ≡ 16 → n ≡ min c.len 16 → (p : PendingPacket) (b : Bool)
    → b ≡ first_of (is_key (key_of p)) awaits_in false (take n c.slots) → b ≡ not (orphaned (entries c) p)
unfolding orphaned
awaited_stays c n full e p b h =
    let same : take n c.slots ≡ entries c = take_count c.slots c.len n (counted c.slots c.len 16 n full e) in
    h ∙ (ap (λ (t : Table). first_of (is_key (key_of p)) awaits_in false t) same ∙ not_not _ _ refl)
