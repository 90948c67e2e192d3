-- SLAAC addresses have prefixes, leave when their time has come, and arrive. Assumes nothing.
use Prim.Native.Nat.{ℕ, ◌+◌, ◌≤◌, ◌<◌}
use borrow.Author.Tests.{lt-ltb}
use lib.Dec.{ltb}
use lib.ListN.{length, replicate}
use mathlib.Core.Bool.{Bool, true, false, cond, ◌||◌, true≢false}
use mathlib.Core.List.{List, [], ◌∷◌, ◌++◌}
use mathlib.Core.Logic.{inl, inr}
use mathlib.Core.Path.{◌≡◌, refl, sym, ap, ◌∙◌, subst}
use native.Mathlib.Omega.{arith}
use Rattle.std.specs.Prelude.{Result, Ok, Err}
use Rattle.wire.specs.declared.error.Refusal.{Refusal}
use Rattle.claims.proofs.Clocks.{turn_forward}
use Rattle.claims.proofs.Keeps.{turn_cases, turn_in, poll_cases, Keeps, keep_run}
use Rattle.claims.proofs.Lists.{or_left, or_right, fold_append, entries_with, first_length, one_most, if_most, none_most, any_first, first_comes, all_after, all_first, all_if, some_first, some_length, some_weaken, some_apply, some_hit, some_new, some_clash}
use Rattle.claims.proofs.Standing.{steps_prefixes, same_cidr_lem}
use Rattle.claims.proofs.Backed.{Based, addr_inj, backed, based, has, none_off, nothing_formed, on_sync, same_cidr_refl, steps_on, sync_has}
use Rattle.claims.proofs.Polling.{due_asked, due_prefix, refused_fine, synced_step}
use Rattle.claims.specs.Arrives.{FormsWith, Made, AllEnded, AllValid, has_place, NamesOther, Teaches, Taught, Meanwhile, HasRoom, Comes, Offered, start_host, up_host, ra_host, end_host, second, second_host, both, both_host, hour, hour_host, Arrives}
use Rattle.claims.specs.Examples.{mac, router, network, link_local, formed, header, offer, up, ra, end}
use Rattle.claims.specs.Lists.{All, Some, Member}
use Rattle.claims.specs.Traces.{ms, neighbour}
use Rattle.claims.specs.Early.{Host, HostCall, advertise, poll, Step, Run, advertised, polled, polled_at, none, one_more, TakesPoll, stands}
use Rattle.iface.specs.AddressRules.{addrs_of, is_addr, is_from_slaac, slaac_addr, refreshed, gone, put_addr, drop_addr, first_local}
use Rattle.iface.specs.RouteRules.{put_route, drop_route}
use Rattle.iface.specs.declared.addr.IfaceAddr.{IfaceAddr}
use Rattle.iface.specs.declared.addr.IfaceAddrs.{IfaceAddrs}
use Rattle.iface.specs.declared.addr.Preferred.{Preferred}
use Rattle.iface.specs.declared.route.Routes.{Routes}
use Rattle.ndisc.specs.OptionCalls.{prefix_bytes}
use Rattle.ndisc.specs.OptionWalk.{walked, options_of}
use Rattle.ndisc.specs.Rfc4443Checksum.{checksum_of}
use Rattle.ndisc.specs.Rfc4861Messages.{router_advert_at}
use Rattle.ndisc.specs.declared.ndiscoption.PrefixInformation.{PrefixInformation}
use Rattle.neighbor.specs.CacheCalls.{empty}
use Rattle.neighbor.specs.NeighborRules.{same_key, find, before, insert_state, on_iface}
use Rattle.neighbor.specs.declared.NeighborCache.{NeighborCache}
use Rattle.slaac.specs.DiscoveryRules.{due as turnDue, sent, solicitation}
use Rattle.slaac.specs.ExpiryRules.{sync_due, leave_expired}
use Rattle.slaac.specs.Fields.{with_discovery}
use Rattle.slaac.specs.LearnedRules.{prefixes_of, is_skipped, is_prefix, cidr_of, prefix_of, put_over, add_prefix, prefix_ends, expire_prefix, process_prefix_is, add_router, expire_router, process_router_is}
use Rattle.slaac.specs.declared.Prefix.{Prefix}
use Rattle.slaac.specs.declared.Slaac.{Slaac}
use Rattle.autoconf.specs.AdvertRules.{message_check, options_in, prefix_options, step2, last_source, steps2to4, message_by, call_by}
use Rattle.autoconf.specs.PollRules.{sync_turn, turn_of, buffer_of, sent_of, sender_in, poll_on, poll_by}
use Rattle.autoconf.specs.SyncRules.{preferred_of, sync_prefix, sync_router, sync_addrs, sync_routes}
use Rattle.autoconf.specs.declared.AdvertAnswer.TheVariants.{Off}
use Rattle.autoconf.specs.declared.Advertised.{Advertised}
use Rattle.autoconf.specs.declared.PollAnswer.{PollAnswer}
use Rattle.autoconf.specs.declared.Polled.{Polled}
use Rattle.autoconf.specs.declared.PolledAt.{PolledAt}
use Rattle.autoconf.specs.declared.Turn.{Turn}
use Rattle.table.specs.Table.{if_room, at_first_is, any_of, fold_over}
use Rattle.time.specs.ClockRules.{idle, is_after}
use Rattle.time.specs.TimeRules.{add_of, seconds_of}
use Rattle.time.specs.declared.Clock.{Clock}
use Rattle.time.specs.declared.Duration.{Duration}
use Rattle.time.specs.declared.Instant.{Instant}
use Rattle.wire.specs.Refusals.{time_check}
use Rattle.wire.specs.Rfc2464.{formed_of}
use Rattle.wire.specs.Rfc4291.{same_cidr}
use Rattle.wire.specs.declared.ethernet.HardwareAddress.{HardwareAddress}
use Rattle.wire.specs.declared.ipv6.Formed.TheVariants.{Addr}
use Rattle.wire.specs.declared.ipv6.Ipv6Addr.{Ipv6Addr}
use Rattle.wire.specs.declared.ipv6.Ipv6Cidr.{Ipv6Cidr}

-- A poll that is taken after every prefix's end

module _ (hw : HardwareAddress) (a : Ipv6Cidr) where
  gone_sync : (s : Slaac) (t : IfaceAddrs) (r : Routes) (i : ℕ) (now : Instant) (k : Clock) (w : Result PollAnswer Refusal) → k.now ≡ now → Based hw a s t → AllEnded hw a now s
      → has a (addrs_of (sync_turn s t r i hw now k w).polled.addrs) ≡ false
  unfolding sync_addrs
  gone_sync s t r i now k w same g l =
      turn_cases (λ q. has a (addrs_of q.polled.addrs) ≡ false) s t r i hw now k w (λ e. synced (has a (addrs_of (sync_addrs hw now t s))) refl)
      (λ e. still (has a (addrs_of t)) refl e)
    where
      synced : (b : Bool) → has a (addrs_of (sync_addrs hw now t s)) ≡ b → b ≡ false
      synced true h = absurd (some_clash (FormsWith hw a) (λ p. is_after p.valid_until now) (prefixes_of s) l (sync_has hw a now (prefixes_of s) t g.once g.prefix h))
      synced false h = refl

      still : (b : Bool) → has a (addrs_of t) ≡ b → (sync_due s k).expired ≡ false → b ≡ false
      still true h e = absurd (true≢false (sym (due_prefix s k now same (some_apply (FormsWith hw a) (λ p. is_after p.valid_until now ≡ false) (prefixes_of s) (g.prefix h) l)) ∙ e))
      still false h e = refl

  gone_poll : (x : Result (Unit {0}) Refusal) (s : Slaac) (t : IfaceAddrs) (r : Routes) (i : ℕ) (up : Bool) (buf : List ℕ) (k : Clock) → x ≡ Ok tt → Based hw a s t
      → AllEnded hw a k.now s → has a (addrs_of (poll_by x s t r i up hw buf k).polled.addrs) ≡ false
  gone_poll (Err why) s t r i linked buf k fine g l = absurd (refused_fine why fine)
  gone_poll (Ok tt) s t r i linked buf k fine g l =
      poll_cases (λ q. has a (addrs_of q.polled.addrs) ≡ false) s t r i linked hw buf k
      (λ e.
      gone_sync (with_discovery s u.discovery) t r i k.now u.clock (Ok u.answer) (turn_forward s.discovery (sender_in linked t) buf k).now
      (record { once = g.once; off = g.off; prefix = g.prefix }) l)
      (λ e. g.off e)
    where
      u : Turn
      u = turn_in s t linked buf k

  gone_step : {i : ℕ} {x y : Host} {now : Instant} → Step i hw x (poll now) y → TakesPoll i now → Based hw a x.slaac x.addrs → AllEnded hw a now x.slaac
      → has a (addrs_of y.addrs) ≡ false
  gone_step {i} (polled x up buf buf' k k' r p) fine g l =
      subst (λ (q : Polled). has a (addrs_of q.addrs) ≡ false) (sym p.is) (gone_poll (time_check k.now i) x.slaac x.addrs x.routes i up buf k fine g l)
  gone_step {i} (polled_at x up buf buf' k r p) fine g l =
      subst (λ (q : PolledAt). has a (addrs_of q.polled.addrs) ≡ false) (sym p.is) (gone_poll (time_check k.now i) x.slaac x.addrs x.routes i up buf k fine g l)

-- An address that is there stays while its prefixes are valid, and comes if there is room

put_length : (c : Ipv6Cidr) (q : Preferred) (es : List IfaceAddr) → length (put_addr c q es) ≤ length es + 1
unfolding put_addr
put_length c q es =
    first_length (is_addr c) (refreshed q) (if_room 8 es (slaac_addr c q)) es (λ x. one_most (is_from_slaac x) (slaac_addr x.cidr q) x)
    (if_most (ltb (length es) 8) (slaac_addr c q))

drop-length : (c : Ipv6Cidr) (es : List IfaceAddr) → length (drop_addr c es) ≤ length es + 1
unfolding drop_addr
drop-length c es = first_length (is_addr c) gone [] es (λ x. none_most (is_from_slaac x) x) (omega arith)

refreshed_there : (a : Ipv6Cidr) (q : Preferred) (x : IfaceAddr) → is_addr a x ≡ true → any_of (is_addr a) (refreshed q x) ≡ true
refreshed_there a q x u = go (is_from_slaac x)
  where
    go : (b : Bool) → any_of (is_addr a) (cond b (slaac_addr x.cidr q ∷ []) (x ∷ [])) ≡ true
    go true = rw u
    go false = rw u

put_keeps : (a c : Ipv6Cidr) (q : Preferred) (es : List IfaceAddr) → any_of (is_addr a) es ≡ true → any_of (is_addr a) (put_addr c q es) ≡ true
unfolding put_addr
put_keeps a c q es h = any_first (is_addr a) (is_addr c) (refreshed q) (if_room 8 es (slaac_addr c q)) es h (λ x e u. refreshed_there a q x u)

put_comes : (a : Ipv6Cidr) (q : Preferred) (es : List IfaceAddr) → length es < 8 → any_of (is_addr a) (put_addr a q es) ≡ true
unfolding put_addr
put_comes a q es l =
    first_comes (is_addr a) (refreshed q) (if_room 8 es (slaac_addr a q)) es (λ x u. refreshed_there a q x u)
    (new (ltb (length es) 8) (lt-ltb (length es) 8 l))
  where
    new : (b : Bool) → b ≡ true → any_of (is_addr a) (cond b (slaac_addr a q ∷ []) []) ≡ true
    new true e = rw (same_cidr_refl a)
    new false e = absurd (true≢false (sym e))

drop_keeps : (a c : Ipv6Cidr) (es : List IfaceAddr) → (c ≡ a → ⊥) → any_of (is_addr a) es ≡ true → any_of (is_addr a) (drop_addr c es) ≡ true
unfolding drop_addr
drop_keeps a c es n h = any_first (is_addr a) (is_addr c) gone [] es h (λ x e u. absurd (n (sym (same_cidr_lem x.cidr c e) ∙ same_cidr_lem x.cidr a u)))

module _ (hw : HardwareAddress) (a : Ipv6Cidr) (now : Instant) where
  pub step_keeps : (t : IfaceAddrs) (p : Prefix) → (FormsWith hw a p → is_after p.valid_until now ≡ true) → any_of (is_addr a) (addrs_of t) ≡ true
      → any_of (is_addr a) (addrs_of (sync_prefix hw now t p)) ≡ true
  step_keeps t p v h =
      on_sync hw now (λ es. any_of (is_addr a) es ≡ true) t p (λ f. h) (λ c f e. put_keeps a c (preferred_of now p.preferred_until) (addrs_of t) h)
      (λ c f e. drop_keeps a c (addrs_of t) (λ same. true≢false (sym (v (f ∙ ap Addr same)) ∙ e)) h)

  pub step_comes : (t : IfaceAddrs) (p : Prefix) → FormsWith hw a p → is_after p.valid_until now ≡ true → length (addrs_of t) < 8
      → any_of (is_addr a) (addrs_of (sync_prefix hw now t p)) ≡ true
  step_comes t p g v l =
      on_sync hw now (λ es. any_of (is_addr a) es ≡ true) t p (λ f. absurd (nothing_formed a (sym f ∙ g)))
      (λ c f e.
      subst (λ (x : Ipv6Cidr). any_of (is_addr a) (put_addr x (preferred_of now p.preferred_until) (addrs_of t)) ≡ true) (sym (addr_inj a c (sym f ∙ g)))
      (put_comes a (preferred_of now p.preferred_until) (addrs_of t) l))
      (λ c f e. absurd (true≢false (sym v ∙ e)))

  step_length : (t : IfaceAddrs) (p : Prefix) → length (addrs_of (sync_prefix hw now t p)) ≤ length (addrs_of t) + 1
  step_length t p =
      on_sync hw now (λ es. length es ≤ length (addrs_of t) + 1) t p (λ f. omega arith) (λ c f e. put_length c (preferred_of now p.preferred_until) (addrs_of t))
      (λ c f e. drop-length c (addrs_of t))

  pub fold_keeps : (ps : List Prefix) (t : IfaceAddrs) → All (λ p. FormsWith hw a p → is_after p.valid_until now ≡ true) ps → any_of (is_addr a) (addrs_of t) ≡ true
      → any_of (is_addr a) (addrs_of (fold_over (sync_prefix hw now) t ps)) ≡ true
  fold_keeps [] t l h = h
  fold_keeps (p ∷ ps) t l h = fold_keeps ps (sync_prefix hw now t p) l.1 (step_keeps t p l.0 h)

  fold_comes : (ps : List Prefix) (t : IfaceAddrs) → All (λ p. FormsWith hw a p → is_after p.valid_until now ≡ true) ps → Some (FormsWith hw a) ps
      → length (addrs_of t) + length ps ≤ 8 → any_of (is_addr a) (addrs_of (fold_over (sync_prefix hw now) t ps)) ≡ true
  fold_comes [] t l h r = absurd h
  fold_comes (p ∷ ps) t l (inl h) r = fold_keeps ps (sync_prefix hw now t p) l.1 (step_comes t p h (l.0 h) (omega arith))
  fold_comes (p ∷ ps) t l (inr h) r = fold_comes ps (sync_prefix hw now t p) l.1 h (omega (arith, r, step_length t p))

  abbrev Own : IfaceAddr → Type 0
  Own e = is_addr a e ≡ true → is_from_slaac e ≡ true

  step_own : (t : IfaceAddrs) (p : Prefix) → All Own (addrs_of t) → All Own (addrs_of (sync_prefix hw now t p))
  unfolding put_addr drop_addr
  step_own t p h = on_sync hw now (λ es. All Own es) t p (λ f. h) (λ c f e. put c) (λ c f e. drop c)
    where
      q : Preferred
      q = preferred_of now p.preferred_until

      renew : (x : IfaceAddr) → Own x → All Own (refreshed q x)
      renew x o = go (is_from_slaac x)
        where
          go : (b : Bool) → All Own (cond b (slaac_addr x.cidr q ∷ []) (x ∷ []))
          go true = ((λ e. refl), tt)
          go false = (o, tt)

      less : (x : IfaceAddr) → Own x → All Own (gone x)
      less x o = go (is_from_slaac x)
        where
          go : (b : Bool) → All Own (cond b [] (x ∷ []))
          go true = tt
          go false = (o, tt)

      put : (c : Ipv6Cidr) → All Own (put_addr c q (addrs_of t))
      put c =
          all_first Own (is_addr c) (refreshed q) (if_room 8 (addrs_of t) (slaac_addr c q)) (addrs_of t) h
          (all_if Own (ltb (length (addrs_of t)) 8) (slaac_addr c q) (λ e. refl)) (λ x e o. renew x o)

      drop : (c : Ipv6Cidr) → All Own (drop_addr c (addrs_of t))
      drop c = all_first Own (is_addr c) gone [] (addrs_of t) h tt (λ x e o. less x o)

  fold_own : (ps : List Prefix) (t : IfaceAddrs) → All Own (addrs_of t) → All Own (addrs_of (fold_over (sync_prefix hw now) t ps))
  fold_own [] t h = h
  fold_own (p ∷ ps) t h = fold_own ps (sync_prefix hw now t p) (step_own t p h)

  own_stands : (es : List IfaceAddr) → All Own es → any_of (is_addr a) es ≡ true → stands a es ≡ true
  own_stands [] l h = h
  own_stands (e ∷ es) l h = go (is_addr a e) refl h (own_stands es l.1)
    where
      go : (b : Bool) → is_addr a e ≡ b → cond b true (any_of (is_addr a) es) ≡ true → (any_of (is_addr a) es ≡ true → stands a es ≡ true)
          → cond b (is_from_slaac e) (stands a es) ≡ true
      go true q g ih = l.0 q
      go false q g ih = ih g

-- what follows from the tables of the poll
module _ (i : ℕ) (hw : HardwareAddress) (a : Ipv6Cidr) (now : Instant) (x y : Host) (s : Step i hw x (poll now) y) (fine : TakesPoll i now) (on : x.slaac.on ≡ true)
    (asked : x.slaac.sync_required ≡ true) where
  abbrev last : IfaceAddrs
  last = fold_over (sync_prefix hw now) x.addrs (prefixes_of x.slaac)

  comes_by : any_of (is_addr a) (addrs_of last) ≡ true → Comes a x y
  comes_by h =
      record {
        there = subst (λ (t : IfaceAddrs). any_of (is_addr a) (addrs_of t) ≡ true) (sym same) h;
        from_slaac =
            λ own.
            subst (λ (t : IfaceAddrs). stands a (addrs_of t) ≡ true) (sym same)
            (own_stands hw a now (addrs_of last) (fold_own hw a now (prefixes_of x.slaac) x.addrs own) h);
      }
    where
      same : y.addrs ≡ last
      same = (synced_step hw s fine on (λ c e. due_asked x.slaac c asked)).0

in_turn : (i : ℕ) (hw : HardwareAddress) (a : Ipv6Cidr) (p : Prefix) (now : Instant) (x y : Host) → Step i hw x (poll now) y → TakesPoll i now
    → Taught x.slaac p → FormsWith hw a p → AllValid hw a now x.slaac → (before after : List Prefix) → prefixes_of x.slaac ≡ before ++ (p ∷ after)
    → length (addrs_of (fold_over (sync_prefix hw now) x.addrs before)) < 8 → Comes a x y
in_turn i hw a p now x y s fine k f v before after e room =
    comes_by i hw a now x y s fine k.is_on k.asked
    (subst (λ (ps : List Prefix). any_of (is_addr a) (addrs_of (fold_over (sync_prefix hw now) x.addrs ps)) ≡ true) (sym e)
    (subst (λ (t : IfaceAddrs). any_of (is_addr a) (addrs_of t) ≡ true) (sym (fold_append (sync_prefix hw now) x.addrs before (p ∷ after)))
    (fold_keeps hw a now after (sync_prefix hw now turn p) rest.1 (step_comes hw a now turn p f (rest.0 f) room))))
  where
    turn : IfaceAddrs
    turn = fold_over (sync_prefix hw now) x.addrs before

    rest : All (λ q. FormsWith hw a q → is_after q.valid_until now ≡ true) (p ∷ after)
    rest = all_after _ before (p ∷ after) (subst (All (λ q. FormsWith hw a q → is_after q.valid_until now ≡ true)) e v)

comes : (i : ℕ) (hw : HardwareAddress) (a : Ipv6Cidr) (p : Prefix) (now : Instant) (x y : Host) → Step i hw x (poll now) y → TakesPoll i now
    → Taught x.slaac p → FormsWith hw a p → AllValid hw a now x.slaac → HasRoom a x → Comes a x y
comes i hw a p now x y s fine k f v room = comes_by i hw a now x y s fine k.is_on k.asked (there room)
  where
    there : HasRoom a x → any_of (is_addr a) (addrs_of (fold_over (sync_prefix hw now) x.addrs (prefixes_of x.slaac))) ≡ true
    there (inl h) = fold_keeps hw a now (prefixes_of x.slaac) x.addrs v h
    there (inr h) =
        fold_comes hw a now (prefixes_of x.slaac) x.addrs v
        (some_weaken (λ q. q ≡ p) (FormsWith hw a) (λ q e. ap (λ (z : Prefix). formed_of hw z.cidr) e ∙ f) (prefixes_of x.slaac) k.there)
        (omega (arith, h, some_length (λ q. q ≡ p) (prefixes_of x.slaac) k.there))

-- What an advertisement teaches

-- the prefix is in the table, and a sync is asked for
record Noted (p : Prefix) (s : Slaac) : Type 0 where
  there : Member p (prefixes_of s)
  asked : s.sync_required ≡ true

add_noted : (s : Slaac) (p : Prefix) → has_place p.cidr (prefixes_of s) ≡ true → Noted p (add_prefix s p)
unfolding add_prefix
add_noted s p h =
    record {
      there =
          subst (Member p) (sym (entries_with s.prefixes (at_first_is (is_prefix p.cidr) (put_over p) (if_room 4 (prefixes_of s) p) (prefixes_of s))))
          (go (any_of (is_prefix p.cidr) (prefixes_of s)) (ltb (length (prefixes_of s)) 4) refl h);
      asked = or_right s.sync_required (has_place p.cidr (prefixes_of s)) h;
    }
  where
    go : (x y : Bool) → any_of (is_prefix p.cidr) (prefixes_of s) ≡ x → (x || y) ≡ true
        → Member p (at_first_is (is_prefix p.cidr) (put_over p) (cond y (p ∷ []) []) (prefixes_of s))
    go true y e g = some_hit (λ q. q ≡ p) (is_prefix p.cidr) (put_over p) (λ x u. inl refl) (cond y (p ∷ []) []) (prefixes_of s) e
    go false true e g = some_new (λ q. q ≡ p) (is_prefix p.cidr) (put_over p) (λ x u. inl refl) (p ∷ []) (prefixes_of s) (inl refl)
    go false false e g = absurd (true≢false (sym g))

-- an option that is not skipped and names another prefix
module _ (p : Prefix) (now : Instant) where
  other_entry : (c : Ipv6Cidr) (f : Prefix → List Prefix) (new xs : List Prefix) → same_cidr c p.cidr ≡ false → Member p xs
      → Member p (at_first_is (is_prefix c) f new xs)
  other_entry c f new xs n h = some_first (λ q. q ≡ p) (is_prefix c) f new xs (λ x e u. absurd (twice x e u)) h
    where
      twice : (x : Prefix) → is_prefix c x ≡ true → x ≡ p → ⊥
      twice x e u =
          true≢false
          (sym (subst (λ (z : Ipv6Cidr). same_cidr z p.cidr ≡ true) (ap (λ (w : Prefix). w.cidr) (sym u) ∙ same_cidr_lem x.cidr c e) (same_cidr_refl p.cidr)) ∙ n)

  noted_option : (s : Slaac) (o : PrefixInformation) → (is_skipped o ≡ false → same_cidr (cidr_of o) p.cidr ≡ false) → Noted p s → Noted p (process_prefix_is now s o)
  unfolding process_prefix_is add_prefix expire_prefix
  noted_option s o n g = go (is_skipped o) (ltb 0 o.valid_lifetime) refl
    where
      put : List Prefix
      put = at_first_is (is_prefix (cidr_of o)) (put_over (prefix_of o now)) (if_room 4 (prefixes_of s) (prefix_of o now)) (prefixes_of s)

      ends : List Prefix
      ends = at_first_is (is_prefix (cidr_of o)) (prefix_ends now) [] (prefixes_of s)

      go : (x y : Bool) → is_skipped o ≡ x → Noted p (cond {A = Slaac} x s (cond {A = Slaac} y (add_prefix s (prefix_of o now)) (expire_prefix s (cidr_of o) now)))
      go true y e = g
      go false true e =
          record {
            there = subst (Member p) (sym (entries_with s.prefixes put)) (other_entry (cidr_of o) (put_over (prefix_of o now)) (if_room 4 (prefixes_of s) (prefix_of o now)) (prefixes_of s) (n e) g.there);
            asked = or_left s.sync_required _ g.asked;
          }
      go false false e =
          record {
            there = subst (Member p) (sym (entries_with s.prefixes ends)) (other_entry (cidr_of o) (prefix_ends now) [] (prefixes_of s) (n e) g.there);
            asked = or_left s.sync_required _ g.asked;
          }

  noted_options : (os : List PrefixInformation) (s : Slaac) → All (λ o. is_skipped o ≡ false → same_cidr (cidr_of o) p.cidr ≡ false) os → Noted p s
      → Noted p (fold_over (process_prefix_is now) s os)
  noted_options [] s l g = g
  noted_options (o ∷ os) s l g = noted_options os (process_prefix_is now s o) l.1 (noted_option s o l.0 g)

option_noted : (now : Instant) (s : Slaac) (o : PrefixInformation) → is_skipped o ≡ false → 0 < o.valid_lifetime → has_place (cidr_of o) (prefixes_of s) ≡ true
    → Noted (prefix_of o now) (process_prefix_is now s o)
unfolding process_prefix_is
option_noted now s o n v h = go (is_skipped o) (ltb 0 o.valid_lifetime) n (lt-ltb 0 o.valid_lifetime v)
  where
    go : (x y : Bool) → x ≡ false → y ≡ true
        → Noted (prefix_of o now) (cond {A = Slaac} x s (cond {A = Slaac} y (add_prefix s (prefix_of o now)) (expire_prefix s (cidr_of o) now)))
    go true y e f = absurd (true≢false e)
    go false true e f = add_noted s (prefix_of o now) h
    go false false e f = absurd (true≢false (sym f))

pub router_asked : (now : Instant) (s : Slaac) (source : Ipv6Addr) (d : Duration) → s.sync_required ≡ true → (process_router_is now s source d).sync_required ≡ true
unfolding process_router_is add_router expire_router
router_asked now s source d h = go (ltb 0 d.0)
  where
    go : (x : Bool) → (cond {A = Slaac} x (add_router s (record { addr = source; valid_until = add_of now d })) (expire_router s source now)).sync_required ≡ true
    go true = or_left s.sync_required _ h
    go false = or_left s.sync_required _ h

message_taken : (x : Result (Unit {0}) Refusal) (s : Slaac) (c : NeighborCache) (i : ℕ) (source : Ipv6Addr) (msg : List ℕ) (now : Instant) → x ≡ Ok tt
    → (message_by x s c i source msg now).slaac ≡ steps2to4 s source msg now
message_taken (Err why) s c i source msg now e = absurd (refused_fine why e)
message_taken (Ok tt) s c i source msg now e = refl

pub call_taken : (x : Result (Unit {0}) Refusal) (s : Slaac) (c : NeighborCache) (i : ℕ) (source : Ipv6Addr) (msg : List ℕ) (now : Instant) → x ≡ Ok tt → s.on ≡ true
    → message_check source msg ≡ Ok tt → (call_by x s c i source msg now).slaac ≡ steps2to4 s source msg now
call_taken (Err why) s c i source msg now e on m = absurd (refused_fine why e)
call_taken (Ok tt) s c i source msg now e on m = go s.on on
  where
    go : (b : Bool) → b ≡ true
        → (cond {A = Advertised} b (message_by (message_check source msg) s c i source msg now) (record { slaac = s; cache = c; answer = Ok Off })).slaac ≡ steps2to4 s source msg now
    go true f = message_taken (message_check source msg) s c i source msg now m
    go false f = absurd (true≢false (sym f))

taught_steps : (i : ℕ) (s : Slaac) (source : Ipv6Addr) (msg : List ℕ) (now : Instant) (o : PrefixInformation) → Teaches i s source msg now o
    → Taught (steps2to4 s source msg now) (prefix_of o now)
unfolding step2
taught_steps i s source msg now o k =
    record {
      there = subst (Member (prefix_of o now)) (sym (steps_prefixes s source msg now)) learned.there;
      is_on = steps_on s source msg now ∙ k.is_on;
      asked = router_asked now (fold_over (process_prefix_is now) s (prefix_options (options_in msg))) source (seconds_of (router_advert_at msg).router_lifetime) learned.asked;
    }
  where
    first : Slaac
    first = fold_over (process_prefix_is now) s k.before

    same : fold_over (process_prefix_is now) s (prefix_options (options_in msg)) ≡ fold_over (process_prefix_is now) (process_prefix_is now first o) k.after
    same = ap (λ (os : List PrefixInformation). fold_over (process_prefix_is now) s os) k.options ∙ fold_append (process_prefix_is now) s k.before (o ∷ k.after)

    learned : Noted (prefix_of o now) (fold_over (process_prefix_is now) s (prefix_options (options_in msg)))
    learned =
        subst (Noted (prefix_of o now)) (sym same)
        (noted_options (prefix_of o now) now k.after (process_prefix_is now first o) k.last (option_noted now first o k.not_skipped k.lifetime k.place))

-- what is taught waits
learns_other : (p : Prefix) (s : Slaac) (source : Ipv6Addr) (msg : List ℕ) (now : Instant) → All (NamesOther p.cidr) (prefix_options (options_in msg)) → Taught s p
    → Taught (steps2to4 s source msg now) p
unfolding step2
learns_other p s source msg now l k =
    record {
      there = subst (Member p) (sym (steps_prefixes s source msg now)) noted.there;
      is_on = steps_on s source msg now ∙ k.is_on;
      asked = router_asked now (fold_over (process_prefix_is now) s (prefix_options (options_in msg))) source (seconds_of (router_advert_at msg).router_lifetime) noted.asked;
    }
  where
    noted : Noted p (fold_over (process_prefix_is now) s (prefix_options (options_in msg)))
    noted = noted_options p now (prefix_options (options_in msg)) s l (record { there = k.there; asked = k.asked })

waiting : (i : ℕ) (hw : HardwareAddress) (p : Prefix) → Keeps i hw (Meanwhile i p.cidr) (λ s t r. Taught s p)
waiting i hw p = record {
  discovery = λ s t r d k. record { there = k.there; is_on = k.is_on; asked = k.asked };
  learns = λ s t r source msg now ok taken k. learns_other p s source msg now (ok taken) k;
  syncs = λ s t r now ok taken on k. absurd (ok taken);
  begins = λ s t r e k. absurd (true≢false (sym k.is_on ∙ e));
  adds = λ s t r c a ok h k. k;
  routes = λ s t r j c via a ok h k. k;
  clears = λ s t r ok k. absurd ok;
  syncs_there = λ s t r j now u n k. k;
  clears_there = λ s t r j n k. k;
}

waits : (i : ℕ) (hw : HardwareAddress) (p : Prefix) (x y : Host) (cs : List HostCall) → Run i hw x cs y → All (Meanwhile i p.cidr) cs → Taught x.slaac p
    → Taught y.slaac p
waits i hw p x y cs run ok k = keep_run (Meanwhile i p.cidr) (λ s t r. Taught s p) (waiting i hw p) run ok k

taught_step : {i : ℕ} {hw : HardwareAddress} {source : Ipv6Addr} {msg : List ℕ} {now : Instant} {x y : Host} (o : PrefixInformation)
    → Step i hw x (advertise source msg now) y → Teaches i x.slaac source msg now o → Taught y.slaac (prefix_of o now)
taught_step {i} o (advertised x c source msg now r p) k =
    subst (λ (s : Slaac). Taught s (prefix_of o now))
    (sym (ap (λ (q : Advertised). q.slaac) p.is ∙ call_taken (time_check now i) x.slaac c i source msg now k.taken.0 k.is_on k.taken.1))
    (taught_steps i x.slaac source msg now o k)

offered_comes : (i : ℕ) (hw : HardwareAddress) (o : PrefixInformation) (a : Ipv6Cidr) (between : List HostCall) (x y z : Host) → Offered i hw o a between x y z
    → Comes a y z
offered_comes i hw o a between x y z k =
    comes i hw a p k.later y z k.polls k.taken
    (waits i hw p k.heard y between k.waits k.meanwhile (taught_step o k.hears k.teaches)) k.forms k.valid k.room
  where
    p : Prefix
    p = prefix_of o k.now

-- Document 01's event file

pub file_starts : Step 0 mac start_host (poll (ms 0)) up_host
unfolding formed_of walked options_of checksum_of same_key find before insert_state on_iface put_addr drop_addr first_local put_route drop_route add_prefix expire_prefix process_prefix_is add_router expire_router process_router_is turnDue sent solicitation sync_due leave_expired step2 last_source sync_prefix sync_router sync_addrs sync_routes turn_of buffer_of sent_of sync_turn poll_on
file_starts =
    polled start_host true (replicate 16 0) _ (idle (ms 0)) _ up (record { is = refl; number = refl; sends = refl; leaves = refl; clock = refl })

pub file_hears : Step 0 mac up_host (advertise router (header ++ prefix_bytes (offer network 3600 1800)) (ms 500)) ra_host
unfolding formed_of walked options_of checksum_of same_key find before insert_state on_iface put_addr drop_addr first_local put_route drop_route add_prefix expire_prefix process_prefix_is add_router expire_router process_router_is turnDue sent solicitation sync_due leave_expired step2 last_source sync_prefix sync_router sync_addrs sync_routes turn_of buffer_of sent_of sync_turn poll_on
file_hears = advertised up_host empty router (header ++ prefix_bytes (offer network 3600 1800)) (ms 500) ra (record { is = refl; number = refl })

pub file_syncs : Step 0 mac ra_host (poll (ms 500)) end_host
unfolding formed_of walked options_of checksum_of same_key find before insert_state on_iface put_addr drop_addr first_local put_route drop_route add_prefix expire_prefix process_prefix_is add_router expire_router process_router_is turnDue sent solicitation sync_due leave_expired step2 last_source sync_prefix sync_router sync_addrs sync_routes turn_of buffer_of sent_of sync_turn poll_on
file_syncs =
    polled ra_host true (replicate 16 0) _ (idle (ms 500)) _ end (record { is = refl; number = refl; sends = refl; leaves = refl; clock = refl })

pub file_polls : Step 0 mac end_host (poll (ms 3600500)) hour_host
unfolding formed_of walked options_of checksum_of same_key find before insert_state on_iface put_addr drop_addr first_local put_route drop_route add_prefix expire_prefix process_prefix_is add_router expire_router process_router_is turnDue sent solicitation sync_due leave_expired step2 last_source sync_prefix sync_router sync_addrs sync_routes turn_of buffer_of sent_of sync_turn poll_on
file_polls =
    polled end_host true (replicate 16 0) _ (idle (ms 3600500)) _ hour (record { is = refl; number = refl; sends = refl; leaves = refl; clock = refl })

pub file_second : Step 0 mac ra_host (advertise (neighbour 2).addr header (ms 500)) second_host
unfolding formed_of walked options_of checksum_of same_key find before insert_state on_iface put_addr drop_addr first_local put_route drop_route add_prefix expire_prefix process_prefix_is add_router expire_router process_router_is turnDue sent solicitation sync_due leave_expired step2 last_source sync_prefix sync_router sync_addrs sync_routes turn_of buffer_of sent_of sync_turn poll_on
file_second = advertised ra_host empty (neighbour 2).addr header (ms 500) second (record { is = refl; number = refl })

pub file_both : Step 0 mac second_host (poll (ms 600)) both_host
unfolding formed_of walked options_of checksum_of same_key find before insert_state on_iface put_addr drop_addr first_local put_route drop_route add_prefix expire_prefix process_prefix_is add_router expire_router process_router_is turnDue sent solicitation sync_due leave_expired step2 last_source sync_prefix sync_router sync_addrs sync_routes turn_of buffer_of sent_of sync_turn poll_on
file_both =
    polled second_host true (replicate 16 0) _ (idle (ms 600)) _ both (record { is = refl; number = refl; sends = refl; leaves = refl; clock = refl })

file_teaches : Teaches 0 up.slaac router (header ++ prefix_bytes (offer network 3600 1800)) (ms 500) (offer network 3600 1800)
unfolding formed_of walked options_of checksum_of same_key find before insert_state on_iface put_addr drop_addr first_local put_route drop_route add_prefix expire_prefix process_prefix_is add_router expire_router process_router_is turnDue sent solicitation sync_due leave_expired step2 last_source sync_prefix sync_router sync_addrs sync_routes turn_of buffer_of sent_of sync_turn poll_on
file_teaches =
    record {
      taken = (refl, refl);
      is_on = refl;
      before = [];
      after = [];
      options = refl;
      not_skipped = refl;
      lifetime = omega arith;
      place = refl;
      last = tt;
    }

file_offers : Offered 0 mac (offer network 3600 1800) formed [] up_host ra_host end_host
unfolding formed_of walked options_of checksum_of same_key find before insert_state on_iface put_addr drop_addr first_local put_route drop_route add_prefix expire_prefix process_prefix_is add_router expire_router process_router_is turnDue sent solicitation sync_due leave_expired step2 last_source sync_prefix sync_router sync_addrs sync_routes turn_of buffer_of sent_of sync_turn poll_on
file_offers =
    record {
      source = router;
      msg = header ++ prefix_bytes (offer network 3600 1800);
      now = ms 500;
      later = ms 500;
      heard = ra_host;
      hears = file_hears;
      teaches = file_teaches;
      forms = refl;
      waits = none ra_host;
      meanwhile = tt;
      polls = file_syncs;
      taken = refl;
      valid = ((λ f. refl), tt);
      room = inr (omega arith);
    }

file_waits : Offered 0 mac (offer network 3600 1800) formed (advertise (neighbour 2).addr header (ms 500) ∷ []) up_host second_host both_host
unfolding formed_of walked options_of checksum_of same_key find before insert_state on_iface put_addr drop_addr first_local put_route drop_route add_prefix expire_prefix process_prefix_is add_router expire_router process_router_is turnDue sent solicitation sync_due leave_expired step2 last_source sync_prefix sync_router sync_addrs sync_routes turn_of buffer_of sent_of sync_turn poll_on
file_waits =
    record {
      source = router;
      msg = header ++ prefix_bytes (offer network 3600 1800);
      now = ms 500;
      later = ms 600;
      heard = ra_host;
      hears = file_hears;
      teaches = file_teaches;
      forms = refl;
      waits = one_more file_second (none second_host);
      meanwhile = ((λ taken. tt), tt);
      polls = file_both;
      taken = refl;
      valid = ((λ f. refl), tt);
      room = inr (omega arith);
    }

file_made : Made 0 mac end_host
file_made =
    record {
      start = start_host;
      calls = poll (ms 0) ∷ advertise router (header ++ prefix_bytes (offer network 3600 1800)) (ms 500) ∷ poll (ms 500) ∷ [];
      run = one_more file_starts (one_more file_hears (one_more file_syncs (none end_host)));
      none_yet = refl;
      once = record { once = λ c. if_most (is_addr c link_local) link_local };
    }

file_stands : stands formed (addrs_of end_host.addrs) ≡ true
unfolding formed_of walked options_of checksum_of same_key find before insert_state on_iface put_addr drop_addr first_local put_route drop_route add_prefix expire_prefix process_prefix_is add_router expire_router process_router_is turnDue sent solicitation sync_due leave_expired step2 last_source sync_prefix sync_router sync_addrs sync_routes turn_of buffer_of sent_of sync_turn poll_on
file_stands = refl

file_ends : AllEnded mac formed (ms 3600500) end_host.slaac
unfolding formed_of walked options_of checksum_of same_key find before insert_state on_iface put_addr drop_addr first_local put_route drop_route add_prefix expire_prefix process_prefix_is add_router expire_router process_router_is turnDue sent solicitation sync_due leave_expired step2 last_source sync_prefix sync_router sync_addrs sync_routes turn_of buffer_of sent_of sync_turn poll_on
file_ends = ((λ f. refl), tt)

pub arrives : Arrives
arrives = record {
  backed = backed;
  none_off = none_off;
  leaves =
      λ i hw a now x y s fine on once some ended.
      gone_step hw a s fine (record { once = once; off = λ e. absurd (true≢false (sym on ∙ e)); prefix = λ h. some }) ended;
  leaves_made = λ i hw a now x y made s fine ended. gone_step hw a s fine (based hw a i x made) ended;
  taught = λ i hw source msg now o x y s k. taught_step o s k;
  waits = waits;
  comes = comes;
  in_turn = in_turn;
  arrives = offered_comes;
  file_offers = file_offers;
  file_waits = file_waits;
  file_made = file_made;
  file_stands = file_stands;
  file_ends = file_ends;
  file_polls = file_polls;
  file_taken = refl;
}
