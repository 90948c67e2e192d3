-- A call's number is that of the first row that fails, and then nothing changed. Assumes nothing.
use Prim.Native.Nat.{ℕ, ◌+◌, ◌<◌, ◌≤◌}
use borrow.Author.Tests.{leb-true}
use lib.Dec.{eqb, leb, ltb}
use lib.ListN.{length, take, drop}
use mathlib.Core.Bool.{Bool, true, false, cond, not, ◌&&◌}
use mathlib.Core.List.{List, [], ◌∷◌, ◌++◌}
use mathlib.Core.Logic.{◌⊎◌, inl, inr}
use mathlib.Core.Path.{◌≡◌, refl, ap, sym, subst, ◌∙◌}
use native.Mathlib.Bridge.{le_by_compare, IsLe}
use native.Mathlib.Omega.{arith}
use Rattle.std.specs.Prelude.{Result, Ok, Err}
use Rattle.autoconf.specs.AdvertRules.{message_rows, message_check, message_by, not_heard, advertised, AdvertisedTo}
use Rattle.autoconf.specs.Answers.{advert_number, number_around, poll_number}
use Rattle.autoconf.specs.OffRules.{off_by, TurnedOffTo}
use Rattle.autoconf.specs.PollRules.{buffer_of, polled, sender_in, poll_on, not_polled, poll_by, poll_buffer, PolledTo}
use Rattle.autoconf.specs.declared.AdvertAnswer.TheVariants.{Off as NotHeard}
use Rattle.autoconf.specs.declared.Advertised.{Advertised}
use Rattle.autoconf.specs.declared.PollAnswer.TheVariants.{Off}
use Rattle.autoconf.specs.declared.Polled.{Polled}
use Rattle.autoconf.specs.declared.PolledAt.{PolledAt}
use Rattle.autoconf.specs.declared.TurnedOff.{TurnedOff}
use Rattle.claims.specs.Refusals.{FirstFails, here, below, NoneFails, Refuses, NothingToChange, malformed_row, write_rows, advert_rows, Unheard, Unswept, Unpolled, NotTurnedOff, Refusals}
use Rattle.iface.specs.AddressRules.{addrs_of, addr_rows, add_addr_by, AddedTo}
use Rattle.iface.specs.RouteRules.{routes_of, manual_route, route_rows, add_route_by, AddedRouteTo}
use Rattle.iface.specs.declared.addr.Added.{Added}
use Rattle.iface.specs.declared.addr.IfaceAddrs.{IfaceAddrs}
use Rattle.iface.specs.declared.route.AddedRoute.{AddedRoute}
use Rattle.iface.specs.declared.route.Routes.{Routes}
use Rattle.lent.specs.LentRules.{ReportedTo, PolledBy}
use Rattle.lent.specs.declared.Reported.{Reported}
use Rattle.ndisc.specs.Answers.{checked_number, written_number, walk_number, next_number, advert_number as headerNumber}
use Rattle.ndisc.specs.OptionCalls.{room, Wrote}
use Rattle.ndisc.specs.OptionWalk.{walked, malformed_option, Steps}
use Rattle.ndisc.specs.Rfc4861Messages.{not_advertisement, solicitation, solicit_in}
use Rattle.ndisc.specs.Rfc4861Options.{malformed}
use Rattle.ndisc.specs.declared.ndiscoption.Next.{Next}
use Rattle.neighbor.specs.Answers.{answer_number, got_number_is}
use Rattle.neighbor.specs.CacheCalls.{key, put_in, clear_in, change_by, ChangedTo, remove_by, RemovedTo}
use Rattle.neighbor.specs.NeighborRules.{lasting}
use Rattle.neighbor.specs.declared.Changed.{Changed}
use Rattle.neighbor.specs.declared.NeighborCache.{NeighborCache}
use Rattle.neighbor.specs.declared.Removed.{Removed}
use Rattle.neighbor.specs.declared.State.TheVariants.{Started, Reachable}
use Rattle.pending.specs.QueueCalls.{push_number, pushed_out, release_number, released_out, push_by, PushedTo, release_by, ReleasedTo, purge_by, PurgedTo}
use Rattle.pending.specs.QueueRules.{packet, on_iface}
use Rattle.pending.specs.declared.PendingQueue.{PendingQueue}
use Rattle.pending.specs.declared.Purged.{Purged}
use Rattle.pending.specs.declared.Pushed.{Pushed}
use Rattle.pending.specs.declared.Released.{Released}
use Rattle.slaac.specs.DiscoveryRules.{restarted, turned_on_is, turn_by, TurnedTo}
use Rattle.slaac.specs.declared.Changed.{Changed as Turned}
use Rattle.slaac.specs.declared.Slaac.{Slaac}
use Rattle.sweep.specs.SweepCalls.{events_table, sweep_check, sweep_by, SweptTo}
use Rattle.sweep.specs.declared.Swept.{Swept}
use Rattle.time.specs.declared.Clock.{Clock}
use Rattle.time.specs.declared.Instant.{Instant}
use Rattle.wire.proofs.Tests.{row_fails, row_holds, parts, or_else}
use Rattle.wire.specs.Refusals.{Row, number_of, check_number, outcome_number, first_refusal, decided, iface_rows, time_rows, key_rows, fill_rows, time_check}
use Rattle.wire.specs.declared.error.Refusal.TheVariants.{Malformed, NotUnicast, TooLate, NoRoom, NotAdvertisement, NotLinkLocal, NoSuchIface, Full, Duplicate, PrefixTooLong}
use Rattle.wire.specs.declared.error.Refusal.{Refusal}
use Rattle.wire.specs.declared.ethernet.HardwareAddress.{HardwareAddress}
use Rattle.wire.specs.declared.ipv6.Ipv6Addr.{Ipv6Addr}
use Rattle.wire.specs.declared.ipv6.Ipv6Cidr.{Ipv6Cidr}

-- The table

above_none : (why : Refusal) → 0 < number_of why
unfolding IsLe
above_none TooLate = le_by_compare 1 3 tt
above_none NoSuchIface = le_by_compare 1 7 tt
above_none NotAdvertisement = le_by_compare 1 5 tt
above_none NotLinkLocal = le_by_compare 1 6 tt
above_none NotUnicast = le_by_compare 1 2 tt
above_none Malformed = le_by_compare 1 1 tt
above_none PrefixTooLong = le_by_compare 1 14 tt
above_none Duplicate = le_by_compare 1 9 tt
above_none Full = le_by_compare 1 8 tt
above_none NoRoom = le_by_compare 1 4 tt

-- the refusal of a number
abbrev whose : ℕ → Refusal
whose n =
    cond (eqb n 3) TooLate
    (cond (eqb n 7) NoSuchIface
    (cond (eqb n 5) NotAdvertisement
    (cond (eqb n 6) NotLinkLocal
    (cond (eqb n 2) NotUnicast
    (cond (eqb n 1) Malformed
    (cond (eqb n 14) PrefixTooLong
    (cond (eqb n 9) Duplicate
    (cond (eqb n 8) Full NoRoom))))))))

its : (why : Refusal) → whose (number_of why) ≡ why
its TooLate = refl
its NoSuchIface = refl
its NotAdvertisement = refl
its NotLinkLocal = refl
its NotUnicast = refl
its Malformed = refl
its PrefixTooLong = refl
its Duplicate = refl
its Full = refl
its NoRoom = refl

one_each : (why other : Refusal) → number_of why ≡ number_of other → why ≡ other
one_each why other e = sym (its why) ∙ ap whose e ∙ its other

-- Rows

either : (rows : List Row) → ((why : Refusal) × FirstFails why rows) ⊎ NoneFails rows
either [] = inr tt
either (row ∷ rows) = go row.fails refl (either rows)
  where
    go : (x : Bool) → row.fails ≡ x → ((why : Refusal) × FirstFails why rows) ⊎ NoneFails rows
        → ((why : Refusal) × FirstFails why (row ∷ rows)) ⊎ NoneFails (row ∷ rows)
    go true f on = inl (row.refusal, here refl f)
    go false f (inl first) = inl (first.0, below f first.1)
    go false f (inr none) = inr (f, none)

first_refuses : {why : Refusal} (rows : List Row) → FirstFails why rows → first_refusal rows ≡ Err why
first_refuses rows (here {row = row} {rows = others} e f) = row_fails row others f ∙ ap Err e
first_refuses rows (below {row = row} {rows = others} f first) = row_holds row others f ∙ first_refuses others first

none_refuses : (rows : List Row) → NoneFails rows → first_refusal rows ≡ Ok tt
none_refuses [] none = refl
none_refuses (row ∷ rows) none = row_holds row rows none.0 ∙ none_refuses rows none.1

module _ (rows : List Row) (number : ℕ) (AsItCame : Type 0) (is : number ≡ check_number (first_refusal rows))
    (undone : (why : Refusal) → first_refusal rows ≡ Err why → AsItCame) where
  first_number_lem : (why : Refusal) → FirstFails why rows → number ≡ number_of why
  first_number_lem why first = is ∙ ap check_number (first_refuses rows first)

  no_number : NoneFails rows → number ≡ 0
  no_number none = is ∙ ap check_number (none_refuses rows none)

  only_so : (why : Refusal) → number ≡ number_of why → FirstFails why rows
  only_so why e = go (either rows)
    where
      go : ((other : Refusal) × FirstFails other rows) ⊎ NoneFails rows → FirstFails why rows
      go (inl first) = subst (λ x. FirstFails x rows) (one_each first.0 why (sym (first_number_lem first.0 first.1) ∙ e)) first.1
      go (inr none) = let z = no_number none in let p = above_none why in absurd (omega (arith, e, z, p))

  only_then : number ≡ 0 → NoneFails rows
  only_then e = go (either rows)
    where
      go : ((other : Refusal) × FirstFails other rows) ⊎ NoneFails rows → NoneFails rows
      go (inl first) = let z = first_number_lem first.0 first.1 in let p = above_none first.0 in absurd (omega (arith, e, z, p))
      go (inr none) = none

  leaves : 0 < number → AsItCame
  leaves e = go (either rows)
    where
      go : ((other : Refusal) × FirstFails other rows) ⊎ NoneFails rows → AsItCame
      go (inl first) = undone first.0 (first_refuses rows first.1)
      go (inr none) = let z = no_number none in absurd (omega (arith, e, z))

  refuses : Refuses rows number AsItCame
  refuses = record { refused = first_number_lem; only_so = only_so; taken = no_number; only_then = only_then; leaves = leaves }

-- The calls: what each left where its check refused it

module _ (rows : List Row) where
  changed : (c c' : NeighborCache) (r : Changed) → ChangedTo (first_refusal rows) c c' r → Refuses rows (outcome_number r.outcome) (r.cache ≡ c)
  changed c c' r h =
      refuses rows (outcome_number r.outcome) (r.cache ≡ c) h.number
      (λ why e. ap (λ (x : Changed). x.cache) (h.is ∙ ap (λ (x : Result (Unit {0}) Refusal). change_by x c c') e))

  turned : (s s' : Slaac) (r : Turned) → TurnedTo (first_refusal rows) s s' r → Refuses rows (outcome_number r.outcome) (r.slaac ≡ s)
  turned s s' r h =
      refuses rows (outcome_number r.outcome) (r.slaac ≡ s) h.number
      (λ why e. ap (λ (x : Turned). x.slaac) (h.is ∙ ap (λ (x : Result (Unit {0}) Refusal). turn_by x s s') e))

removed : (c : NeighborCache) (iface : ℕ) (addr : Ipv6Addr) (r : Removed) → RemovedTo c iface addr r
    → Refuses (iface_rows iface) (got_number_is r.taken) (r.cache ≡ c)
removed c iface addr r h =
    refuses (iface_rows iface) (got_number_is r.taken) (r.cache ≡ c) h.number
    (λ why e. ap (λ (x : Removed). x.cache) (h.is ∙ ap (λ (x : Result (Unit {0}) Refusal). remove_by x c (key iface addr)) e))

-- the sweep

unswept : (why : Refusal) (c : NeighborCache) (k : Clock) (iface : ℕ) (x : Result (Unit {0}) Refusal) → x ≡ Err why
    → Unswept c k (sweep_by x c k iface).cache (sweep_by x c k iface).clock (sweep_by x c k iface).events
unfolding events_table
unswept why c k iface x e = subst (λ (y : Result (Unit {0}) Refusal). Unswept c k (sweep_by y c k iface).cache (sweep_by y c k iface).clock (sweep_by y c k iface).events) (sym e) (refl, refl, refl)

swept_at : (c : NeighborCache) (k : Clock) (iface : ℕ) (r : Swept) → SweptTo c k iface r
    → Refuses (time_rows k.now iface) (outcome_number r.outcome) (Unswept c k r.cache r.clock r.events)
swept_at c k iface r h =
    refuses (time_rows k.now iface) (outcome_number r.outcome) (Unswept c k r.cache r.clock r.events) h.number
    (λ why e. subst (λ (x : Swept). Unswept c k x.cache x.clock x.events) (sym h.is) (unswept why c k iface (sweep_check k iface) e))

swept : (c : NeighborCache) (k : Clock) (iface : ℕ) (r : Reported) (k' : Clock) → ReportedTo c k iface r k'
    → Refuses (time_rows k.now iface) (outcome_number r.outcome) (Unswept c k r.cache k' r.events)
swept c k iface r k' h =
    refuses (time_rows k.now iface) (outcome_number r.outcome) (Unswept c k r.cache k' r.events) h.number
    (λ why e.
    subst (λ (x : Reported). Unswept c k x.cache k' x.events) (sym h.is)
    (subst (λ (x : Clock). Unswept c k (sweep_by (sweep_check k iface) c k iface).cache x (sweep_by (sweep_check k iface) c k iface).events) (sym h.clock)
    (unswept why c k iface (sweep_check k iface) e)))

-- the queue

pushed : (q : PendingQueue) (iface : ℕ) (addr : Ipv6Addr) (handle : ℕ) (r : Pushed) → PushedTo q iface addr handle r
    → Refuses (iface_rows iface) (push_number r.answer) ((r.queue ≡ q) × (pushed_out r.answer ≡ []))
pushed q iface addr handle r h =
    refuses (iface_rows iface) (push_number r.answer) ((r.queue ≡ q) × (pushed_out r.answer ≡ [])) h.number
    (λ why e.
    let is : r ≡ push_by (Err why) q (packet (key iface addr) handle) = h.is ∙ ap (λ (x : Result (Unit {0}) Refusal). push_by x q (packet (key iface addr) handle)) e in
    (ap (λ (x : Pushed). x.queue) is, ap (λ (x : Pushed). pushed_out x.answer) is))

released : (q : PendingQueue) (iface : ℕ) (addr : Ipv6Addr) (r : Released) → ReleasedTo q iface addr r
    → Refuses (iface_rows iface) (release_number r.answer) ((r.queue ≡ q) × (released_out r.answer ≡ []))
released q iface addr r h =
    refuses (iface_rows iface) (release_number r.answer) ((r.queue ≡ q) × (released_out r.answer ≡ [])) h.number
    (λ why e.
    let is : r ≡ release_by (Err why) q (key iface addr) = h.is ∙ ap (λ (x : Result (Unit {0}) Refusal). release_by x q (key iface addr)) e in
    (ap (λ (x : Released). x.queue) is, ap (λ (x : Released). released_out x.answer) is))

purged : (q : PendingQueue) (iface : ℕ) (r : Purged) → PurgedTo q iface r
    → Refuses (iface_rows iface) (outcome_number r.outcome) ((r.queue ≡ q) × (r.handles.len ≡ 0))
purged q iface r h =
    refuses (iface_rows iface) (outcome_number r.outcome) ((r.queue ≡ q) × (r.handles.len ≡ 0)) h.number
    (λ why e.
    let is : r ≡ purge_by (Err why) q (on_iface iface) = h.is ∙ ap (λ (x : Result (Unit {0}) Refusal). purge_by x q (on_iface iface)) e in
    (ap (λ (x : Purged). x.queue) is, ap (λ (x : Purged). x.handles.len) is))

-- the application's calls

added : (t : IfaceAddrs) (iface : ℕ) (c : Ipv6Cidr) (r : Added) → AddedTo t iface c r
    → Refuses (addr_rows iface c (addrs_of t)) (outcome_number r.outcome) (r.addrs ≡ t)
added t iface c r h =
    refuses (addr_rows iface c (addrs_of t)) (outcome_number r.outcome) (r.addrs ≡ t) h.number
    (λ why e. ap (λ (x : Added). x.addrs) (h.is ∙ ap (λ (x : Result (Unit {0}) Refusal). add_addr_by x t c) e))

added_route : (t : Routes) (iface : ℕ) (c : Ipv6Cidr) (via : Ipv6Addr) (r : AddedRoute) → AddedRouteTo t iface c via r
    → Refuses (route_rows iface c via (routes_of t)) (outcome_number r.outcome) (r.routes ≡ t)
added_route t iface c via r h =
    refuses (route_rows iface c via (routes_of t)) (outcome_number r.outcome) (r.routes ≡ t) h.number
    (λ why e. ap (λ (x : AddedRoute). x.routes) (h.is ∙ ap (λ (x : Result (Unit {0}) Refusal). add_route_by x t (manual_route iface c via)) e))

-- turning SLAAC off

turned_off : (s : Slaac) (t : IfaceAddrs) (r : Routes) (c : NeighborCache) (q : PendingQueue) (iface : ℕ) (x : TurnedOff)
    → TurnedOffTo s t r c q iface x → Refuses (iface_rows iface) (outcome_number x.outcome) (NotTurnedOff s t r c q x)
turned_off s t r c q iface x h =
    refuses (iface_rows iface) (outcome_number x.outcome) (NotTurnedOff s t r c q x) h.number
    (λ why e.
    let is : x ≡ off_by (Err why) s t r c q iface = h.is ∙ ap (λ (y : Result (Unit {0}) Refusal). off_by y s t r c q iface) e in
    subst (NotTurnedOff s t r c q) (sym is) (refl, refl, refl, refl, refl, refl))

-- an advertisement

around : (x : Result (Unit {0}) Refusal) (on : Bool) (rows : List Row) → number_around x on (first_refusal rows) ≡ check_number (or_else x (first_refusal (cond on rows [])))
around (Err why) on rows = refl
around (Ok tt) true rows = refl
around (Ok tt) false rows = refl

module _ (s : Slaac) (c : NeighborCache) (iface : ℕ) (source : Ipv6Addr) (msg : List ℕ) (now : Instant) where
  abbrev heard_by : Result (Unit {0}) Refusal → Bool → Advertised
  heard_by x on = decided x (not_heard s c) (cond on (message_by (message_check source msg) s c iface source msg now) (advertised s c (Ok NotHeard)))

  unheard : (why : Refusal) (x : Result (Unit {0}) Refusal) (on : Bool) → or_else x (first_refusal (cond on (message_rows source msg) [])) ≡ Err why → Unheard s c (heard_by x on)
  unheard why (Err other) on e = (refl, refl)
  unheard why (Ok tt) true e = subst (λ (y : Result (Unit {0}) Refusal). Unheard s c (message_by y s c iface source msg now)) (sym e) (refl, refl)
  unheard why (Ok tt) false e = (refl, refl)

  unheard_off : (x : Result (Unit {0}) Refusal) (on : Bool) → x ≡ Ok tt → on ≡ false → ((heard_by x on).answer ≡ Ok NotHeard) × Unheard s c (heard_by x on)
  unheard_off x on e f =
      subst (λ (y : Result (Unit {0}) Refusal). ((heard_by y on).answer ≡ Ok NotHeard) × Unheard s c (heard_by y on)) (sym e)
      (subst (λ (b : Bool). ((heard_by (Ok tt) b).answer ≡ Ok NotHeard) × Unheard s c (heard_by (Ok tt) b)) (sym f) (refl, (refl, refl)))

  module _ (r : Advertised) (h : AdvertisedTo s c iface source msg now r) where
    advertised_to : Refuses (advert_rows s.on now iface source msg) (advert_number r.answer) (Unheard s c r)
    advertised_to =
        refuses (advert_rows s.on now iface source msg) (advert_number r.answer) (Unheard s c r)
        (h.number ∙ around (time_check now iface) s.on (message_rows source msg) ∙ ap check_number (sym rows_parts))
        (λ why e. subst (Unheard s c) (sym h.is) (unheard why (time_check now iface) s.on (sym rows_parts ∙ e)))
      where
        rows_parts : first_refusal (advert_rows s.on now iface source msg) ≡ or_else (time_check now iface) (first_refusal (cond s.on (message_rows source msg) []))
        rows_parts = parts (time_rows now iface) (cond s.on (message_rows source msg) [])

    advertised_off : s.on ≡ false → NoneFails (time_rows now iface) → (r.answer ≡ Ok NotHeard) × Unheard s c r
    advertised_off off none =
        subst (λ (x : Advertised). (x.answer ≡ Ok NotHeard) × Unheard s c x) (sym h.is)
        (unheard_off (time_check now iface) s.on (none_refuses (time_rows now iface) none) off)

-- the poll

module _ (s : Slaac) (t : IfaceAddrs) (r : Routes) (iface : ℕ) (up : Bool) (hw : HardwareAddress) (buf : List ℕ) (k : Clock) where
  abbrev polled_by : Result (Unit {0}) Refusal → Bool → PolledAt
  polled_by x on = decided x (not_polled s t r k) (cond on (poll_on s t r iface up hw buf k) (polled s t r k (Ok Off)))

  abbrev buffer_by : Result (Unit {0}) Refusal → Bool → List ℕ
  buffer_by (Err why) on = buf
  buffer_by (Ok tt) on = cond on (buffer_of s.discovery (sender_in up t) hw buf k) buf

  abbrev Left : PolledAt → List ℕ → Type 0
  Left p buf' = Unpolled s t r k buf p.polled p.clock buf'

  abbrev IsOff : PolledAt → List ℕ → Type 0
  IsOff p buf' = (p.polled.answer ≡ Ok Off) × Left p buf'

  left : (why : Refusal) (x : Result (Unit {0}) Refusal) → x ≡ Err why → Left (polled_by x s.on) (poll_buffer x s t up hw buf k)
  left why x e = subst (λ (y : Result (Unit {0}) Refusal). Left (polled_by y s.on) (poll_buffer y s t up hw buf k)) (sym e) (refl, refl, refl, refl, refl)

  left_off : (x : Result (Unit {0}) Refusal) → x ≡ Ok tt → s.on ≡ false → IsOff (polled_by x s.on) (poll_buffer x s t up hw buf k)
  left_off x e off =
      subst (λ (y : Result (Unit {0}) Refusal). IsOff (polled_by y s.on) (poll_buffer y s t up hw buf k)) (sym e)
      (subst (λ (b : Bool). IsOff (polled_by (Ok tt) b) (buffer_by (Ok tt) b)) (sym off) (refl, (refl, refl, refl, refl, refl)))

  module _ (p : PolledAt) (buf' : List ℕ) (h : PolledTo s t r iface up hw buf k p buf') where
    becomes : (P : PolledAt → List ℕ → Type 0)
        → P (polled_by (time_check k.now iface) s.on) (poll_buffer (time_check k.now iface) s t up hw buf k) → P p buf'
    becomes P x = subst (λ (y : PolledAt). P y buf') (sym h.is) (subst (P (polled_by (time_check k.now iface) s.on)) (sym h.leaves) x)

    polled_at : Refuses (time_rows k.now iface) (poll_number p.polled.answer) (Unpolled s t r k buf p.polled p.clock buf')
    polled_at =
        refuses (time_rows k.now iface) (poll_number p.polled.answer) (Left p buf') h.number
        (λ why e. becomes Left (left why (time_check k.now iface) e))

    polled_at_off : s.on ≡ false → NoneFails (time_rows k.now iface) → (p.polled.answer ≡ Ok Off) × Unpolled s t r k buf p.polled p.clock buf'
    polled_at_off off none = becomes IsOff (left_off (time_check k.now iface) (none_refuses (time_rows k.now iface) none) off)

  -- the clock lent is the clock by value
  module _ (p : Polled) (buf' : List ℕ) (k' : Clock) (h : PolledBy s t r iface up hw buf k p buf' k') where
    by_value : PolledTo s t r iface up hw buf k (record { clock = k'; polled = p }) buf'
    by_value =
        record {
          is =
              ap (λ (x : Clock). record { clock = x; polled = p }) h.clock
              ∙ ap (λ (x : Polled). record { clock = (poll_by (time_check k.now iface) s t r iface up hw buf k).clock; polled = x }) h.is;
          number = h.number;
          sends = h.sends;
          leaves = h.leaves;
        }

-- Messages and options

cond_row : (why : Refusal) (b : Bool) → cond b (number_of why) 0 ≡ check_number (first_refusal (record { refusal = why; fails = b } ∷ []))
cond_row why true = refl
cond_row why false = refl

module _ (msg : List ℕ) (at : ℕ) (bs : List ℕ) (r : Result (Unit {0}) Refusal) (msg' : List ℕ) (h : Wrote msg at bs r msg') where
  written : Refuses (write_rows msg at bs) (written_number r) (msg' ≡ msg)
  written = refuses (write_rows msg at bs) (written_number r) (msg' ≡ msg) (h.number ∙ by_room (room msg at (length bs))) (λ why e. h.leaves ∙ kept why (room msg at (length bs)) e)
    where
      by_room : (b : Bool) → cond b 0 4 ≡ check_number (first_refusal (record { refusal = NoRoom; fails = not b } ∷ []))
      by_room true = refl
      by_room false = refl

      kept : (why : Refusal) (b : Bool) → first_refusal (record { refusal = NoRoom; fails = not b } ∷ []) ≡ Err why
          → cond b (take at msg ++ bs ++ drop (at + length bs) msg) msg ≡ msg
      kept why true e = let z : 0 ≡ number_of why = ap check_number e in let p = above_none why in absurd (omega (arith, z, p))
      kept why false e = refl

stepped : (msg : List ℕ) (at : ℕ) (r : Next) → Steps msg at r
    → Refuses (malformed_row (ltb at (length msg) && malformed (drop at msg)) ∷ []) (next_number r) NothingToChange
stepped msg at r h =
    refuses (malformed_row (ltb at (length msg) && malformed (drop at msg)) ∷ []) (next_number r) NothingToChange
    (h.number ∙ both (ltb at (length msg)) (malformed (drop at msg))) (λ why e. tt)
  where
    both : (a b : Bool) → cond a (cond b 1 0) 0 ≡ check_number (first_refusal (malformed_row (a && b) ∷ []))
    both true true = refl
    both true false = refl
    both false b = refl

too_short : (buf : List ℕ) (src : Ipv6Addr) (hw : HardwareAddress) → length buf < 16 → solicit_in buf src hw ≡ buf
too_short buf src hw short = go (leb 16 (length buf)) refl
  where
    go : (b : Bool) → leb 16 (length buf) ≡ b → cond b (solicitation src hw ++ drop 16 buf) buf ≡ buf
    go true e = let z : 16 ≤ length buf = leb-true 16 (length buf) e in absurd (omega (arith, short, z))
    go false e = refl

pub refusals : Refusals
unfolding walked
refusals =
    record {
      numbers = refl;
      above_none = above_none;
      one_each = one_each;
      either = either;
      each = refl;
      none = refl;
      check = λ rows r h. refuses rows (check_number r) NothingToChange (ap check_number h.is) (λ why e. tt);
      lookup = λ c iface addr r h. refuses (key_rows iface addr) (answer_number r) NothingToChange h.number (λ why e. tt);
      start_resolution = λ c iface addr r h. changed (key_rows iface addr) c (put_in c (key iface addr) Started) r h;
      fill = λ c iface addr hw now r h. changed (fill_rows now iface addr hw) c (put_in c (key iface addr) (lasting hw now)) r h;
      insert = λ c iface addr hw expires r h. changed (fill_rows expires iface addr hw) c (put_in c (key iface addr) (Reachable hw expires)) r h;
      get = λ c iface addr r h. refuses (iface_rows iface) (got_number_is r) NothingToChange h.number (λ why e. tt);
      remove = removed;
      clear_iface = λ c iface r h. changed (iface_rows iface) c (clear_in c iface) r h;
      sweep_at = swept_at;
      sweep = swept;
      push = pushed;
      release = released;
      purge_iface = purged;
      add_ip_addr = added;
      add_route = added_route;
      restart = λ s iface r h. turned (iface_rows iface) s (restarted s) r h;
      turn_on = λ s iface r h. turned (iface_rows iface) s (turned_on_is s) r h;
      turn_off = turned_off;
      advertisement = advertised_to;
      poll_at = polled_at;
      poll =
          λ s t r iface up hw buf k p buf' k' h.
          polled_at s t r iface up hw buf k (record { clock = k'; polled = p }) buf' (by_value s t r iface up hw buf k p buf' k' h);
      advertisement_off = advertised_off;
      poll_at_off = polled_at_off;
      poll_off =
          λ s t r iface up hw buf k p buf' k' h.
          polled_at_off s t r iface up hw buf k (record { clock = k'; polled = p }) buf' (by_value s t r iface up hw buf k p buf' k' h);
      router_advert = λ msg r h. refuses (not_advertisement msg ∷ []) (headerNumber r) NothingToChange h.number (λ why e. tt);
      check_option =
          λ option r h.
          refuses (malformed_row (malformed option) ∷ []) (checked_number r) NothingToChange (h.number ∙ cond_row Malformed (malformed option)) (λ why e. tt);
      check_options = λ msg from r h. refuses (malformed_option msg from ∷ []) (walk_number r) NothingToChange h.number (λ why e. tt);
      next_option = stepped;
      write = written;
      write_solicit = λ buf src hw r buf' h. (h.number, λ short. h.leaves ∙ too_short buf src hw short);
      purge_orphans = λ q c r h. h.number;
      neighbour_at = λ c index r h. h.number;
      packet_at = λ q index r h. h.number;
      address_at = λ t index r h. h.number;
      route_at = λ t index r h. h.number;
      prefix_at = λ s index r h. h.number;
      router_at = λ s index r h. h.number;
      link_local = λ t r h. h.number;
      from_link_prefix = λ hw c r h. h.number;
    }
