-- The source to send from stays. Assumes nothing.
use Prim.Native.Nat.{ℕ, ◌≤◌}
use lib.Dec.{ltb}
use lib.ListN.{length}
use mathlib.Core.Bool.{Bool, true, false, cond, true≢false}
use mathlib.Core.List.{List, [], ◌∷◌, ◌++◌}
use mathlib.Core.Path.{◌≡◌, refl, sym, ap, ◌∙◌, subst}
use native.Mathlib.Omega.{arith}
use Rattle.std.specs.Prelude.{Option, Some, None, Result, Ok, Err}
use Rattle.wire.specs.declared.error.Refusal.{Refusal}
use Rattle.claims.proofs.Backed.{formed_is, on_sync}
use Rattle.claims.proofs.Keeps.{Keeps, keep_step, keep_run, call_keeps, restart_keeps}
use Rattle.claims.proofs.Lists.{either_none, all_of, all_append, all_first, all_if, all_kept, all_with}
use Rattle.claims.proofs.Sleep.{sleep}
use Rattle.claims.proofs.Standing.{same_cidr_lem, unskipped, learned_all, leave_all}
use Rattle.claims.specs.Arrives.{end_host}
use Rattle.claims.specs.Clocks.{Poll, polled as lent, polled_at as valued}
use Rattle.claims.specs.Examples.{link_local}
use Rattle.claims.specs.Early.{Host, HostCall, poll, add_addr, Step, polled, polled_at, Run}
use Rattle.claims.specs.Lists.{All}
use Rattle.claims.specs.SameSource.{NoneLocal, source_in, host_with, host_of, SameSource}
use Rattle.autoconf.specs.AdvertRules.{options_in, prefix_options, step2, last_source, steps2to4, call_by}
use Rattle.autoconf.specs.declared.Advertised.{Advertised}
use Rattle.autoconf.specs.declared.Polled.{Polled}
use Rattle.autoconf.specs.PollRules.{sender_of, turn_of, buffer_of, sent_of, sync_turn, poll_on}
use Rattle.autoconf.specs.SyncRules.{preferred_of, sync_prefix, sync_router, sync_addrs, sync_routes}
use Rattle.iface.proofs.Distinct.{addrs_of_lem}
use Rattle.iface.specs.AddressRules.{addrs_of, is_addr, is_from_slaac, is_local, source_of, slaac_addr, manual_addr, add_addr_by, addr_check, refreshed, gone, put_addr, drop_addr, clear_addrs, first_local}
use Rattle.iface.specs.RouteRules.{put_route, drop_route}
use Rattle.iface.specs.declared.addr.Added.{Added}
use Rattle.iface.specs.declared.addr.IfaceAddr.{IfaceAddr}
use Rattle.iface.specs.declared.addr.IfaceAddrs.{IfaceAddrs}
use Rattle.iface.specs.declared.addr.Preferred.{Preferred}
use Rattle.iface.specs.declared.route.Routes.{Routes}
use Rattle.mainloop.specs.LoopRules.{card_with, sent_by, sent, fill_of, filled_by, filled, learned_by, learned as learnedOf, heard_by, heard, taken_in, taken_by, poll_of, not_settled, settled_after, settled, SettledTo}
use Rattle.mainloop.specs.declared.Card.{Card}
use Rattle.mainloop.specs.declared.Input.TheVariants.{Timer, LinkUp, RouterAdvert, NeighborAdvert, Packet}
use Rattle.mainloop.specs.declared.Input.{Input}
use Rattle.mainloop.specs.declared.Settled.{Settled}
use Rattle.mainloop.specs.declared.Taken.{Taken}
use Rattle.ndisc.specs.OptionWalk.{walked, options_of}
use Rattle.ndisc.specs.Rfc4443Checksum.{checksum_of}
use Rattle.ndisc.specs.declared.ndiscoption.PrefixInformation.{PrefixInformation}
use Rattle.neighbor.specs.CacheCalls.{key, lookup_by}
use Rattle.neighbor.specs.NeighborRules.{same_key, find, before, insert_state, on_iface}
use Rattle.neighbor.specs.declared.Answer.TheVariants.{Found, Pending, NotFound}
use Rattle.neighbor.specs.declared.Answer.{Answer as Known}
use Rattle.neighbor.specs.declared.NeighborCache.{NeighborCache}
use Rattle.slaac.specs.DiscoveryRules.{due as turnDue, sent as turnSent, solicitation}
use Rattle.slaac.specs.ExpiryRules.{sync_due, leave_expired}
use Rattle.slaac.specs.LearnedRules.{prefixes_of, is_skipped, is_prefix, cidr_of, prefix_of, prefix_ends, add_prefix, expire_prefix, process_prefix_is, add_router, expire_router, process_router_is}
use Rattle.slaac.specs.declared.Prefix.{Prefix}
use Rattle.slaac.specs.declared.Slaac.{Slaac}
use Rattle.table.specs.Table.{if_room, kept, at_first_is, any_of, fold_over}
use Rattle.time.specs.ClockRules.{idle}
use Rattle.time.specs.declared.Clock.{Clock}
use Rattle.time.specs.declared.Instant.{Instant}
use Rattle.wire.specs.Refusals.{time_check, key_check, decided}
use Rattle.wire.specs.Rfc2464.{formed_of}
use Rattle.wire.specs.Rfc4291.{is_link_local}
use Rattle.wire.specs.declared.ethernet.HardwareAddress.{HardwareAddress}
use Rattle.wire.specs.declared.ipv6.Formed.TheVariants.{Addr}
use Rattle.wire.specs.declared.ipv6.Ipv6Addr.{Ipv6Addr}
use Rattle.wire.specs.declared.ipv6.Ipv6Cidr.{Ipv6Cidr}

abbrev Wide : IfaceAddr → Type 0
Wide e = is_from_slaac e ≡ true → is_local e ≡ false

abbrev WidePrefix : Prefix → Type 0
WidePrefix p = is_link_local p.cidr.address ≡ false

-- The first link-local address of a list

first_same : (test : IfaceAddr → Bool) (f : IfaceAddr → List IfaceAddr) (new : List IfaceAddr) → first_local new ≡ None
    → ((x : IfaceAddr) (rest : List IfaceAddr) → Wide x → first_local (f x ++ rest) ≡ first_local (x ∷ rest)) → (es : List IfaceAddr) → All Wide es
    → first_local (at_first_is test f new es) ≡ first_local es
unfolding first_local
first_same test f new n g [] h = n
first_same test f new n g (x ∷ es) h = go (test x) (first_same test f new n g es h.1)
  where
    go : (b : Bool) → first_local (at_first_is test f new es) ≡ first_local es → first_local (cond b (f x ++ es) (x ∷ at_first_is test f new es)) ≡ first_local (x ∷ es)
    go true ih = g x es h.0
    go false ih = ap (λ (y : Option Ipv6Addr). cond (is_local x) (source_of x) y) ih

module _ (c : Ipv6Cidr) (p : Preferred) (wide : is_link_local c.address ≡ false) where
  put_same : (es : List IfaceAddr) → All Wide es → first_local (put_addr c p es) ≡ first_local es
  unfolding put_addr first_local
  put_same es h = first_same (is_addr c) (refreshed p) (if_room 8 es (slaac_addr c p)) (new (ltb (length es) 8)) (λ x rest w. again x rest (is_from_slaac x)) es h
    where
      new : (b : Bool) → first_local (cond b (slaac_addr c p ∷ []) []) ≡ None
      new true = rw wide
      new false = refl

      again : (x : IfaceAddr) (rest : List IfaceAddr) (b : Bool) → first_local (cond b (slaac_addr x.cidr p ∷ []) (x ∷ []) ++ rest) ≡ first_local (x ∷ rest)
      again x rest true = refl
      again x rest false = refl

  put_wide : (es : List IfaceAddr) → All Wide es → All Wide (put_addr c p es)
  unfolding put_addr
  put_wide es h =
      all_first Wide (is_addr c) (refreshed p) (if_room 8 es (slaac_addr c p)) es h (all_if Wide (ltb (length es) 8) (slaac_addr c p) (λ e. wide))
      (λ x e w. again x w (is_from_slaac x) refl)
    where
      again : (x : IfaceAddr) → Wide x → (b : Bool) → is_from_slaac x ≡ b → All Wide (cond b (slaac_addr x.cidr p ∷ []) (x ∷ []))
      again x w true q = ((λ e. w q), tt)
      again x w false q = (w, tt)

module _ (c : Ipv6Cidr) where
  drop_same : (es : List IfaceAddr) → All Wide es → first_local (drop_addr c es) ≡ first_local es
  unfolding drop_addr first_local
  drop_same es h = first_same (is_addr c) gone [] refl (λ x rest w. less x rest w (is_from_slaac x) refl) es h
    where
      less : (x : IfaceAddr) (rest : List IfaceAddr) → Wide x → (b : Bool) → is_from_slaac x ≡ b → first_local (cond b [] (x ∷ []) ++ rest) ≡ first_local (x ∷ rest)
      less x rest w true q = rw (w q)
      less x rest w false q = refl

  drop_wide : (es : List IfaceAddr) → All Wide es → All Wide (drop_addr c es)
  unfolding drop_addr
  drop_wide es h = all_first Wide (is_addr c) gone [] es h tt (λ x e w. less x w (is_from_slaac x))
    where
      less : (x : IfaceAddr) → Wide x → (b : Bool) → All Wide (cond b [] (x ∷ []))
      less x w true = tt
      less x w false = (w, tt)

kept_same : (es : List IfaceAddr) → All Wide es → first_local (kept is_from_slaac es) ≡ first_local es
unfolding first_local
kept_same [] h = refl
kept_same (x ∷ es) h = go (is_from_slaac x) refl (kept_same es h.1)
  where
    go : (b : Bool) → is_from_slaac x ≡ b → first_local (kept is_from_slaac es) ≡ first_local es
        → first_local (cond b (kept is_from_slaac es) (x ∷ kept is_from_slaac es)) ≡ first_local (x ∷ es)
    go true q ih = rw (h.0 q) ih
    go false q ih = ap (λ (y : Option Ipv6Addr). cond (is_local x) (source_of x) y) ih

-- one more at the end, where there is a source
more_same : (a : Ipv6Addr) (e : IfaceAddr) (es : List IfaceAddr) → first_local es ≡ Some a → first_local (es ++ (e ∷ [])) ≡ Some a
unfolding first_local
more_same a e [] h = absurd (no_source h)
  where
    no_source : None ≡ Some a → ⊥
    no_source q = let z : ◌≡◌ {A = ℕ} 0 1 = cc in omega arith
more_same a e (x ∷ es) h = go (is_local x) h (more_same a e es)
  where
    go : (b : Bool) → cond b (source_of x) (first_local es) ≡ Some a → (first_local es ≡ Some a → first_local (es ++ (e ∷ [])) ≡ Some a)
        → cond b (source_of x) (first_local (es ++ (e ∷ []))) ≡ Some a
    go true q f = q
    go false q f = f q

-- Prefixes

formed_wide : (hw : HardwareAddress) (c a : Ipv6Cidr) → is_link_local c.address ≡ false → formed_of hw c ≡ Addr a → is_link_local a.address ≡ false
formed_wide hw c a w q = subst (λ (y : Ipv6Cidr). is_link_local y.address ≡ false) (formed_is hw c a q).1 w

ends_wide : (now : Instant) (o : PrefixInformation) → o.valid_lifetime ≤ 0 → WidePrefix (prefix_of o now) → (x : Prefix) → is_prefix (cidr_of o) x ≡ true
    → All WidePrefix (prefix_ends now x)
ends_wide now o z w x e = (subst (λ (y : Ipv6Cidr). is_link_local y.address ≡ false) (sym (same_cidr_lem x.cidr (cidr_of o) e)) w, tt)

-- What the calls keep: of the source, what holds of it

module _ (Q : Option Ipv6Addr → Type 0) where
  record Good (s : Slaac) (t : IfaceAddrs) : Type 0 where
    prefixes : All WidePrefix (prefixes_of s)
    addresses : All Wide (addrs_of t)
    source : Q (first_local (addrs_of t))

  abbrev Fit : List IfaceAddr → Type 0
  Fit es = All Wide es × Q (first_local es)

  sync_one : (hw : HardwareAddress) (now : Instant) (t : IfaceAddrs) (p : Prefix) → WidePrefix p → Fit (addrs_of t) → Fit (addrs_of (sync_prefix hw now t p))
  sync_one hw now t p w h =
      on_sync hw now Fit t p (λ f. h)
      (λ c f e.
      let l = formed_wide hw p.cidr c w f in
      (put_wide c (preferred_of now p.preferred_until) l (addrs_of t) h.0, subst Q (sym (put_same c (preferred_of now p.preferred_until) l (addrs_of t) h.0)) h.1))
      (λ c f e. (drop_wide c (addrs_of t) h.0, subst Q (sym (drop_same c (addrs_of t) h.0)) h.1))

  sync_each : (hw : HardwareAddress) (now : Instant) (ps : List Prefix) (t : IfaceAddrs) → All WidePrefix ps → Fit (addrs_of t)
      → Fit (addrs_of (fold_over (sync_prefix hw now) t ps))
  sync_each hw now [] t w h = h
  sync_each hw now (p ∷ ps) t w h = sync_each hw now ps (sync_prefix hw now t p) w.1 (sync_one hw now t p w.0 h)

  learned : (s : Slaac) (source : Ipv6Addr) (msg : List ℕ) (now : Instant) → All WidePrefix (prefixes_of s) → All WidePrefix (prefixes_of (steps2to4 s source msg now))
  learned s source msg now h =
      learned_all WidePrefix ends_wide s source msg now h
      (all_of (λ o. is_skipped o ≡ false → WidePrefix (prefix_of o now)) (λ o e. (unskipped o e).1) (prefix_options (options_in msg)))

  added : (x : Result (Unit {0}) Refusal) (s : Slaac) (t : IfaceAddrs) (c : Ipv6Cidr) → Q (first_local (addrs_of t ++ (manual_addr c ∷ []))) → Good s t → Good s (add_addr_by x t c).addrs
  added (Err why) s t c q g = g
  added (Ok tt) s t c q g =
      record {
        prefixes = g.prefixes;
        addresses = all_with Wide t.slots (addrs_of t ++ (manual_addr c ∷ [])) (all_append Wide (addrs_of t) (manual_addr c ∷ []) g.addresses ((λ e. absurd (true≢false (sym e))), tt));
        source = subst (λ (es : List IfaceAddr). Q (first_local es)) (sym (addrs_of_lem t (addrs_of t ++ (manual_addr c ∷ [])))) q;
      }

  cleared : (s : Slaac) (t : IfaceAddrs) → Good s t → All Wide (addrs_of (clear_addrs t).addrs) × Q (first_local (addrs_of (clear_addrs t).addrs))
  unfolding clear_addrs
  cleared s t g = (
    all_with Wide t.slots (kept is_from_slaac (addrs_of t)) (all_kept Wide is_from_slaac (addrs_of t) g.addresses),
    subst (λ (es : List IfaceAddr). Q (first_local es)) (sym (addrs_of_lem t (kept is_from_slaac (addrs_of t)))) (subst Q (sym (kept_same (addrs_of t) g.addresses)) g.source),
  )

  good : (i : ℕ) (hw : HardwareAddress) (allowed : HostCall → Type 0)
      → ((t : IfaceAddrs) (c : Ipv6Cidr) → allowed add_addr → Q (first_local (addrs_of t)) → Q (first_local (addrs_of t ++ (manual_addr c ∷ []))))
      → Keeps i hw allowed (λ s t r. Good s t)
  unfolding sync_addrs
  good i hw allowed more = record {
    discovery = λ s t r d g. record { prefixes = g.prefixes; addresses = g.addresses; source = g.source };
    learns = λ s t r from msg now ok taken g. record { prefixes = learned s from msg now g.prefixes; addresses = g.addresses; source = g.source };
    syncs =
        λ s t r now ok taken on g.
        let f = sync_each hw now (prefixes_of s) t g.prefixes (g.addresses, g.source) in
        record { prefixes = leave_all WidePrefix now s g.prefixes; addresses = f.0; source = f.1 };
    begins = λ s t r e g. record { prefixes = tt; addresses = g.addresses; source = g.source };
    adds = λ s t r c w ok p g. subst (λ (q : Added). Good s q.addrs) (sym p.is) (added (addr_check i c (addrs_of t)) s t c (more t c ok g.source) g);
    routes = λ s t r j c via w ok p g. g;
    clears = λ s t r ok g. let f = cleared s t g in record { prefixes = tt; addresses = f.0; source = f.1 };
    syncs_there = λ s t r j now u n g. g;
    clears_there = λ s t r j n g. g;
  }

-- any source, one that is as it was, and one that there is

abbrev Any : Option Ipv6Addr → Type 0
Any s = Unit {0}

abbrev Anything : HostCall → Type 0
Anything c = Unit {0}

abbrev NotAdding : HostCall → Type 0
NotAdding c = c ≡ add_addr → ⊥

from : (x : Host) → NoneLocal x → (Q : Option Ipv6Addr → Type 0) → Q (source_in x) → Good Q x.slaac x.addrs
from x h Q q = record { prefixes = h.prefixes; addresses = h.addresses; source = q }

any_call : (i : ℕ) (hw : HardwareAddress) → Keeps i hw Anything (λ s t r. Good Any s t)
any_call i hw = good Any i hw Anything (λ t c ok q. tt)

no_adding : (a : Option Ipv6Addr) (i : ℕ) (hw : HardwareAddress) → Keeps i hw NotAdding (λ s t r. Good (λ y. y ≡ a) s t)
no_adding a i hw = good (λ y. y ≡ a) i hw NotAdding (λ t c ok q. absurd (ok refl))

with_source : (a : Ipv6Addr) (i : ℕ) (hw : HardwareAddress) → Keeps i hw Anything (λ s t r. Good (λ y. y ≡ Some a) s t)
with_source a i hw = good (λ y. y ≡ Some a) i hw Anything (λ t c ok q. more_same a (manual_addr c) (addrs_of t) q)

none : (x : Host) → Good Any x.slaac x.addrs → NoneLocal x
none x g = record { prefixes = g.prefixes; addresses = g.addresses }

none_comes : (i : ℕ) (hw : HardwareAddress) (x y : Host) (c : HostCall) → Step i hw x c y → NoneLocal x → NoneLocal y
none_comes i hw x y c s h = none y (keep_step Anything (λ s t r. Good Any s t) (any_call i hw) s tt (from x h Any tt))

none_ever : (i : ℕ) (hw : HardwareAddress) (x y : Host) (cs : List HostCall) → Run i hw x cs y → NoneLocal x → NoneLocal y
none_ever i hw x y cs s h =
    none y (keep_run Anything (λ s t r. Good Any s t) (any_call i hw) s (all_of Anything (λ c. tt) cs) (from x h Any tt))

same : (i : ℕ) (hw : HardwareAddress) (x y : Host) (c : HostCall) → Step i hw x c y → NoneLocal x → NotAdding c → source_in y ≡ source_in x
same i hw x y c s h ok =
    (keep_step NotAdding (λ s t r. Good (λ z. z ≡ source_in x) s t) (no_adding (source_in x) i hw) s ok (from x h (λ z. z ≡ source_in x) refl)).source

same_ever : (i : ℕ) (hw : HardwareAddress) (x y : Host) (cs : List HostCall) → Run i hw x cs y → NoneLocal x → All NotAdding cs → source_in y ≡ source_in x
same_ever i hw x y cs s h ok =
    (keep_run NotAdding (λ s t r. Good (λ z. z ≡ source_in x) s t) (no_adding (source_in x) i hw) s ok (from x h (λ z. z ≡ source_in x) refl)).source

stays : (i : ℕ) (hw : HardwareAddress) (x y : Host) (c : HostCall) → Step i hw x c y → NoneLocal x → (a : Ipv6Addr) → source_in x ≡ Some a → source_in y ≡ Some a
stays i hw x y c s h a q = (keep_step Anything (λ s t r. Good (λ z. z ≡ Some a) s t) (with_source a i hw) s tt (from x h (λ z. z ≡ Some a) q)).source

stays_ever : (i : ℕ) (hw : HardwareAddress) (x y : Host) (cs : List HostCall) → Run i hw x cs y → NoneLocal x → (a : Ipv6Addr) → source_in x ≡ Some a → source_in y ≡ Some a
stays_ever i hw x y cs s h a q =
    (keep_run Anything (λ s t r. Good (λ z. z ≡ Some a) s t) (with_source a i hw) s (all_of Anything (λ c. tt) cs) (from x h (λ z. z ≡ Some a) q)).source

-- A poll

a_poll : (now : Instant) → NotAdding (poll now)
a_poll now e = let z : ◌≡◌ {A = ℕ} 0 1 = cc in omega arith

module _ {i : ℕ} {up : Bool} {hw : HardwareAddress} where
  poll_source : {s : Slaac} {t : IfaceAddrs} {r : Routes} {buf : List ℕ} {k : Clock} {p : Polled} {buf' : List ℕ} {k' : Clock} → Poll i up hw s t r buf k p buf' k'
      → NoneLocal (host_with s t r) → first_local (addrs_of p.addrs) ≡ first_local (addrs_of t)
  poll_source (lent s t r buf k p buf' k' h) n =
      same i hw (host_with s t r) (host_with p.slaac p.addrs p.routes) (poll k.now) (polled (host_with s t r) up buf buf' k k' p h) n (a_poll k.now)
  poll_source (valued s t r buf k p buf' h) n =
      same i hw (host_with s t r) (host_with p.polled.slaac p.polled.addrs p.polled.routes) (poll k.now) (polled_at (host_with s t r) up buf buf' k p h) n (a_poll k.now)

-- A card

module _ (x : Card) (up : Bool) (hw : HardwareAddress) (buf : List ℕ) (now : Instant) (r : Settled) (buf' : List ℕ) (h : SettledTo x up hw buf now r buf') (n : NoneLocal (host_of x)) where
  step : time_check now 0 ≡ Ok tt → Step 0 hw (host_of x) (poll now) (host_of (settled_after x (poll_of x up hw buf now)).card)
  step ok = polled_at (host_of x) up buf buf' (idle now) (poll_of x up hw buf now) (h.polls ok)

  -- of a time that is refused the card is as it was
  settles_by : (check : Result (Unit {0}) Refusal) → time_check now 0 ≡ check
      → NoneLocal (host_of (decided check (not_settled x) (settled_after x (poll_of x up hw buf now))).card)
      × (source_in (host_of (decided check (not_settled x) (settled_after x (poll_of x up hw buf now))).card) ≡ source_in (host_of x))
  settles_by (Err why) e = (n, refl)
  settles_by (Ok tt) e = (
    none_comes 0 hw (host_of x) (host_of (settled_after x (poll_of x up hw buf now)).card) (poll now) (step e) n,
    same 0 hw (host_of x) (host_of (settled_after x (poll_of x up hw buf now)).card) (poll now) (step e) n (a_poll now),
  )

  card_settles : NoneLocal (host_of r.card) × (source_in (host_of r.card) ≡ source_in (host_of x))
  unfolding settled
  card_settles =
      subst (λ (q : Settled). NoneLocal (host_of q.card) × (source_in (host_of q.card) ≡ source_in (host_of x))) (sym h.is) (settles_by (time_check now 0) refl)

-- what an input leaves: SLAAC by itself, and the addresses
abbrev Leaves : Card → Taken → Type 0
Leaves x t = NoneLocal (host_of t.card) × (t.card.addrs ≡ x.addrs)

module _ (x : Card) (n : NoneLocal (host_of x)) where
  of_slaac : (s : Slaac) → Good Any s x.addrs → NoneLocal (host_with s x.addrs x.routes)
  of_slaac s g = record { prefixes = g.prefixes; addresses = g.addresses }

  start : Good Any x.slaac x.addrs
  start = from (host_of x) n Any tt

  sends : (w : Result Known Refusal) (addr : Ipv6Addr) (handle : ℕ) → Leaves x (sent_by w x addr handle)
  sends (Err why) addr handle = (n, refl)
  sends (Ok (Found hw)) addr handle = (n, refl)
  sends (Ok Pending) addr handle = (record { prefixes = n.prefixes; addresses = n.addresses }, refl)
  sends (Ok NotFound) addr handle = (record { prefixes = n.prefixes; addresses = n.addresses }, refl)

  fills : (o : Result (Unit {0}) Refusal) (addr : Ipv6Addr) (hw : HardwareAddress) (c : NeighborCache) → Leaves x (filled_by o x addr hw c)
  fills (Err why) addr hw c = (n, refl)
  fills (Ok tt) addr hw c = (record { prefixes = n.prefixes; addresses = n.addresses }, refl)

  learns : (w : Result Known Refusal) (addr : Ipv6Addr) (hw : HardwareAddress) (now : Instant) → Leaves x (learned_by w x addr hw now)
  unfolding filled fill_of
  learns (Err why) addr hw now = (n, refl)
  learns (Ok NotFound) addr hw now = (n, refl)
  learns (Ok Pending) addr hw now = fills (fill_of x addr hw now).outcome addr hw (fill_of x addr hw now).cache
  learns (Ok (Found old)) addr hw now = fills (fill_of x addr hw now).outcome addr hw (fill_of x addr hw now).cache

  hears : (w : Result Known Refusal) (r : Advertised) (source : Ipv6Addr) → NoneLocal (host_with r.slaac x.addrs x.routes)
      → Leaves x (heard_by w (card_with x r.slaac r.cache x.queue) source r.answer)
  hears (Err why) r source g = (record { prefixes = g.prefixes; addresses = g.addresses }, refl)
  hears (Ok (Found hw)) r source g = (record { prefixes = g.prefixes; addresses = g.addresses }, refl)
  hears (Ok Pending) r source g = (record { prefixes = g.prefixes; addresses = g.addresses }, refl)
  hears (Ok NotFound) r source g = (record { prefixes = g.prefixes; addresses = g.addresses }, refl)

  takes_in : (input : Input) (message : List ℕ) (now : Instant) → Leaves x (taken_in x input message now)
  unfolding heard learnedOf sent
  takes_in Timer message now = (n, refl)
  takes_in LinkUp message now = (
    of_slaac _
        (restart_keeps (λ s t r. Good Any s t) (Ok tt) x.slaac x.addrs x.routes
        (λ d. record { prefixes = n.prefixes; addresses = n.addresses; source = tt }) start),
    refl,
  )
  takes_in (RouterAdvert source) message now =
      let r : Advertised = call_by (time_check now 0) x.slaac x.cache 0 source message now in
      hears (lookup_by (key_check 0 source) r.cache (key 0 source)) r source
      (of_slaac r.slaac
      (call_keeps (λ s t q. Good Any s t) (time_check now 0) x.slaac x.addrs x.routes x.cache 0 source message now
      (λ ok. record { prefixes = learned Any x.slaac source message now n.prefixes; addresses = n.addresses; source = tt }) start))
  takes_in (NeighborAdvert addr hw) message now = learns (lookup_by (key_check 0 addr) x.cache (key 0 addr)) addr hw now
  takes_in (Packet addr handle) message now = sends (lookup_by (key_check 0 addr) x.cache (key 0 addr)) addr handle

  takes_by : (check : Result (Unit {0}) Refusal) (input : Input) (message : List ℕ) (now : Instant) → Leaves x (taken_by check x input message now)
  takes_by (Err why) input message now = (n, refl)
  takes_by (Ok tt) input message now = takes_in input message now

none_slaac : (es : List IfaceAddr) → any_of is_from_slaac es ≡ false → All Wide es
none_slaac [] h = tt
none_slaac (e ∷ es) h =
    let o = either_none (is_from_slaac e) (any_of is_from_slaac es) h in
    ((λ q. absurd (true≢false (sym q ∙ o.0))), none_slaac es o.1)

file_none : NoneLocal end_host
unfolding formed_of walked options_of checksum_of same_key find before insert_state on_iface put_addr drop_addr first_local put_route drop_route add_prefix expire_prefix process_prefix_is add_router expire_router process_router_is turnDue turnSent solicitation sync_due leave_expired step2 last_source sync_prefix sync_router sync_addrs sync_routes turn_of buffer_of sent_of sync_turn poll_on
file_none = record { prefixes = (refl, tt); addresses = ((λ e. absurd (true≢false (sym e))), ((λ e. refl), tt)) }

file_source : source_in end_host ≡ Some link_local.cidr.address
unfolding formed_of walked options_of checksum_of same_key find before insert_state on_iface put_addr drop_addr first_local put_route drop_route add_prefix expire_prefix process_prefix_is add_router expire_router process_router_is turnDue turnSent solicitation sync_due leave_expired step2 last_source sync_prefix sync_router sync_addrs sync_routes turn_of buffer_of sent_of sync_turn poll_on
file_source = refl

pub same_source : SameSource
same_source =
    record {
      none_yet = λ on t r h. record { prefixes = tt; addresses = none_slaac (addrs_of t) h };
      none_comes = none_comes;
      none_ever = none_ever;
      same = same;
      same_ever = same_ever;
      stays = stays;
      stays_ever = stays_ever;
      polls = λ i up hw s t r buf k p buf' k' h n. ap (sender_of up) (poll_source h n);
      card_takes = λ x input message now n. takes_by x n (time_check now 0) input message now;
      card_settles = card_settles;
      asleep = λ x up hw buf now r buf' h ok own on n hw2 buf2 next r2 buf2' h2 ok2 a.
          sleep.asleep x up hw buf now r buf' h ok own on up hw2 buf2 next r2 buf2' h2 ok2 (ap (sender_of up) (card_settles x up hw buf now r buf' h n).1) a;
      file_none = file_none;
      file_source = file_source;
    }
