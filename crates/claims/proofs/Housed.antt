-- Every prefix has its address while there is room. Assumes nothing.
use Prim.Native.Nat.{ℕ, ◌≤◌}
use borrow.Author.Tests.{ltb-true, ltb-false, le-ltb}
use lib.Dec.{ltb}
use lib.ListN.{length, length-append}
use mathlib.Core.Bool.{Bool, true, false, cond, not, ◌&&◌, true≢false}
use mathlib.Core.List.{List, [], ◌∷◌, ◌++◌}
use mathlib.Core.Logic.{◌⊎◌, inl, inr}
use mathlib.Core.Path.{◌≡◌, refl, sym, ap, ◌∙◌, subst}
use native.Mathlib.Omega.{arith}
use Rattle.std.specs.Prelude.{Result, Ok, Err}
use Rattle.wire.specs.declared.error.Refusal.{Refusal}
use Rattle.claims.proofs.Arrives.{step_keeps, step_comes, fold_keeps, router_asked}
use Rattle.claims.proofs.Backed.{Based, added_cases, addr_inj, based_calls, has, manual_none, none_of, on_sync, put_none, drop_none, same_cidr_refl, some_process}
use Rattle.claims.proofs.Cleared.{Clear, Masked, Good, ended, keeps, message_masked, taken_clear, ended_clear, one_prefix, one_address}
use Rattle.claims.proofs.Keeps.{turn_cases, turn_in, poll_cases, Keeps, keep_run}
use Rattle.claims.proofs.Lists.{either_none, none_either, or_none, entries_with, none_append, any_append, all_of, all_first_or, all_kept, all_weaken, all_apply, some_apply, any_some}
use Rattle.claims.proofs.Polling.{due_asked, refused_fine}
use Rattle.claims.proofs.Standing.{same_cidr_lem, steps_prefixes, process_all}
use Rattle.claims.specs.Arrives.{FormsWith}
use Rattle.claims.specs.Cleared.{Fresh, FormOne}
use Rattle.claims.specs.Early.{Host, HostCall, poll, Step, polled, polled_at, Run, TakesPoll}
use Rattle.claims.specs.Housed.{HasAddressOrFull, Housed}
use Rattle.claims.specs.Lists.{All, Some, Apart}
use Rattle.autoconf.specs.AdvertRules.{options_in, prefix_options, step2, steps2to4}
use Rattle.autoconf.specs.PollRules.{turn_of, sync_turn, poll_on, poll_by}
use Rattle.autoconf.specs.SyncRules.{preferred_of, sync_prefix, sync_addrs}
use Rattle.autoconf.specs.declared.Polled.{Polled}
use Rattle.autoconf.specs.declared.PolledAt.{PolledAt}
use Rattle.autoconf.specs.declared.Turn.{Turn}
use Rattle.iface.specs.AddressRules.{addrs_of, is_addr, is_from_slaac, manual_addr, AddedTo, refreshed, gone, put_addr, drop_addr, first_local}
use Rattle.iface.specs.Distinct.{AddrsOnce, is_slaac_addr}
use Rattle.iface.specs.declared.addr.Added.{Added}
use Rattle.iface.specs.declared.addr.IfaceAddr.{IfaceAddr}
use Rattle.iface.specs.declared.addr.IfaceAddrs.{IfaceAddrs}
use Rattle.iface.specs.declared.addr.Preferred.{Preferred}
use Rattle.iface.specs.declared.route.Routes.{Routes}
use Rattle.ndisc.specs.OptionWalk.{walked, options_of}
use Rattle.ndisc.specs.Rfc4861Messages.{router_advert_at}
use Rattle.ndisc.specs.declared.ndiscoption.PrefixInformation.{PrefixInformation}
use Rattle.slaac.specs.DiscoveryRules.{due as turnDue, sent, solicitation, fresh}
use Rattle.slaac.specs.ExpiryRules.{prefix_gone, sync_due, leave_expired}
use Rattle.slaac.specs.Fields.{with_discovery}
use Rattle.slaac.specs.LearnedRules.{prefixes_of, is_skipped, is_prefix, cidr_of, prefix_of, put_over, add_prefix, prefix_ends, expire_prefix, process_prefix_is, add_router, process_router_is}
use Rattle.slaac.specs.declared.Prefix.{Prefix}
use Rattle.slaac.specs.declared.Slaac.{Slaac}
use Rattle.table.specs.Table.{if_room, kept, at_first_is, any_of, fold_over}
use Rattle.time.specs.ClockRules.{is_after}
use Rattle.time.specs.TimeRules.{seconds_of}
use Rattle.time.specs.declared.Clock.{Clock}
use Rattle.time.specs.declared.Instant.{Instant}
use Rattle.wire.specs.Refusals.{time_check}
use Rattle.wire.specs.Rfc2464.{formed_of}
use Rattle.wire.specs.Rfc4291.{same_cidr}
use Rattle.wire.specs.declared.ethernet.HardwareAddress.{HardwareAddress}
use Rattle.wire.specs.declared.ipv6.Formed.TheVariants.{Addr}
use Rattle.wire.specs.declared.ipv6.Ipv6Addr.{Ipv6Addr}
use Rattle.wire.specs.declared.ipv6.Ipv6Cidr.{Ipv6Cidr}

-- One address

-- an entry of it, whoever put it there; `has` is of SLAAC's
abbrev there : Ipv6Cidr → List IfaceAddr → Bool
there a es = any_of (is_addr a) es

no_entry : (a : Ipv6Cidr) (es : List IfaceAddr) → there a es ≡ false → has a es ≡ false
no_entry a [] h = refl
no_entry a (e ∷ es) h = let o = either_none (is_addr a e) (there a es) h in rw o.0 (no_entry a es o.1)

-- without SLAAC's entry neither a refresh nor an end changes anything, if there is no room
untouched : (c : Ipv6Cidr) (f : IfaceAddr → List IfaceAddr) → ((x : IfaceAddr) → is_from_slaac x ≡ false → f x ≡ x ∷ []) → (es : List IfaceAddr) → has c es ≡ false
    → at_first_is (is_addr c) f [] es ≡ es
untouched c f own [] h = refl
untouched c f own (e ∷ es) h = go (is_addr c e) (is_from_slaac e) refl h (untouched c f own es)
  where
    go : (x y : Bool) → is_from_slaac e ≡ y → cond (x && y) true (has c es) ≡ false → (has c es ≡ false → at_first_is (is_addr c) f [] es ≡ es)
        → cond x (f e ++ es) (e ∷ at_first_is (is_addr c) f [] es) ≡ e ∷ es
    go true true q g ih = absurd (true≢false g)
    go true false q g ih = ap (λ (l : List IfaceAddr). l ++ es) (own e q)
    go false y q g ih = ap (λ (l : List IfaceAddr). e ∷ l) (ih g)

put_same : (c : Ipv6Cidr) (p : Preferred) (es : List IfaceAddr) → 8 ≤ length es → has c es ≡ false → put_addr c p es ≡ es
unfolding put_addr
put_same c p es l h = rw (le-ltb (length es) 8 l) (untouched c (refreshed p) (λ x q. rw q) es h)

drop_same : (c : Ipv6Cidr) (es : List IfaceAddr) → has c es ≡ false → drop_addr c es ≡ es
unfolding drop_addr
drop_same c es h = untouched c gone (λ x q. rw q) es h

-- if no sync is asked for, the table is full
abbrev Full : Slaac → IfaceAddrs → Type 0
Full s t = s.sync_required ≡ false → 8 ≤ length (addrs_of t)

module _ (hw : HardwareAddress) where
  -- Prefixes in table order: while one is without its address, SLAAC has none for a later one. So the first that waits takes the place that is left,
  -- and where none is left nothing changes.

  -- SLAAC has no entry of the prefix's address
  abbrev Lacks : List IfaceAddr → Prefix → Type 0
  Lacks es p = (a : Ipv6Cidr) → FormsWith hw a p → has a es ≡ false

  -- each prefix has its address, or F, which says that the table is full, and SLAAC has none for a later one
  abbrev InOrder : Type 0 → List IfaceAddr → List Prefix → Type 0
  InOrder F es [] = Unit {0}
  InOrder F es (p ∷ ps) = ((a : Ipv6Cidr) → FormsWith hw a p → (there a es ≡ true) ⊎ (F × All (Lacks es) ps)) × InOrder F es ps

  order_houses : (F : Type 0) (es : List IfaceAddr) → (F → 8 ≤ length es) → (ps : List Prefix) → InOrder F es ps → All (HasAddressOrFull hw es) ps
  order_houses F es full [] h = tt
  order_houses F es full (p ∷ ps) h = ((λ a f. go a (h.0 a f)), order_houses F es full ps h.1)
    where
      go : (a : Ipv6Cidr) → (there a es ≡ true) ⊎ (F × All (Lacks es) ps) → (there a es ≡ true) ⊎ (8 ≤ length es)
      go a (inl t) = inl t
      go a (inr (x, n)) = inr (full x)

  -- other entries, where no prefix loses its address and SLAAC comes by none
  abbrev Alike : List IfaceAddr → List IfaceAddr → Prefix → Type 0
  Alike es fs p = (a : Ipv6Cidr) → FormsWith hw a p → (there a es ≡ true → there a fs ≡ true) × (has a es ≡ false → has a fs ≡ false)

  order_alike : (F G : Type 0) (es fs : List IfaceAddr) → (F → G) → (ps : List Prefix) → All (Alike es fs) ps → InOrder F es ps → InOrder G fs ps
  order_alike F G es fs full [] l h = tt
  order_alike F G es fs full (p ∷ ps) l h = ((λ a f. go a f (h.0 a f)), order_alike F G es fs full ps l.1 h.1)
    where
      go : (a : Ipv6Cidr) → FormsWith hw a p → (there a es ≡ true) ⊎ (F × All (Lacks es) ps) → (there a fs ≡ true) ⊎ (G × All (Lacks fs) ps)
      go a f (inl t) = inl ((l.0 a f).0 t)
      go a f (inr (x, n)) =
          inr (full x, all_apply (Lacks es) (Lacks fs) ps n (all_weaken (Alike es fs) (λ q. Lacks es q → Lacks fs q) (λ q k m b g. (k b g).1 (m b g)) ps l.1))

  order_as : (F G : Type 0) (es : List IfaceAddr) → (F → G) → (ps : List Prefix) → InOrder F es ps → InOrder G es ps
  order_as F G es full ps h = order_alike F G es es full ps (all_of (Alike es es) (λ p a f. ((λ t. t), (λ n. n))) ps) h

  -- the first prefix that passes gives way to one that forms the same address, or one without SLAAC's comes at the end
  order_first : (F : Type 0) (es : List IfaceAddr) (test : Prefix → Bool) (g : Prefix → Prefix) (new : List Prefix) → ((x : Prefix) → test x ≡ true → x.cidr ≡ (g x).cidr)
      → (ps : List Prefix) → (any_of test ps ≡ false → All (Lacks es) new × InOrder F es new) → InOrder F es ps → InOrder F es (at_first_is test (λ x. g x ∷ []) new ps)
  order_first F es test g new same [] n h = (n refl).1
  order_first F es test g new same (x ∷ ps) n h = go (test x) refl (λ k. order_first F es test g new same ps k h.1)
    where
      after : List Prefix
      after = at_first_is test (λ y. g y ∷ []) new ps

      rest : test x ≡ false → any_of test ps ≡ false → All (Lacks es) new × InOrder F es new
      rest e q = n (none_either (test x) (any_of test ps) e q)

      forms : (y : Prefix) → test y ≡ true → (a : Ipv6Cidr) → FormsWith hw a (g y) → FormsWith hw a y
      forms y e a f = ap (formed_of hw) (same y e) ∙ f

      later : test x ≡ false → (a : Ipv6Cidr) → (there a es ≡ true) ⊎ (F × All (Lacks es) ps) → (there a es ≡ true) ⊎ (F × All (Lacks es) after)
      later e a (inl t) = inl t
      later e a (inr (u, l)) =
          inr (u, all_first_or (Lacks es) test (λ y. g y ∷ []) new ps l (λ q. (rest e q).0) (λ y k m. ((λ b f. m b (forms y k b f)), tt)))

      go : (b : Bool) → test x ≡ b → ((any_of test ps ≡ false → All (Lacks es) new × InOrder F es new) → InOrder F es after) → InOrder F es (cond b (g x ∷ ps) (x ∷ after))
      go true e ih = ((λ a f. h.0 a (forms x e a f)), h.1)
      go false e ih = ((λ a f. later e a (h.0 a f)), ih (rest e))

  -- An advertisement, option by option

  record Sound (s : Slaac) (t : IfaceAddrs) : Type 0 where
    clear : All Clear (prefixes_of s)
    based : (a : Ipv6Cidr) → has a (addrs_of t) ≡ true → Some (FormsWith hw a) (prefixes_of s)
    order : InOrder (Full s t) (addrs_of t) (prefixes_of s)

  -- SLAAC has no entry of a new prefix's address: another prefix would form it, and the two would be one
  new_lacks : (s : Slaac) (t : IfaceAddrs) (p : Prefix) → Clear p → Sound s t → any_of (is_prefix p.cidr) (prefixes_of s) ≡ false → Lacks (addrs_of t) p
  new_lacks s t p c k n a f = go (has a (addrs_of t)) refl
    where
      matches : (q : Prefix) → Clear q → FormsWith hw a q → is_prefix p.cidr q ≡ true
      matches q d g = subst (λ (x : Ipv6Cidr). same_cidr x p.cidr ≡ true) (sym (one_prefix hw q p d c (a, g, f))) (same_cidr_refl p.cidr)

      go : (b : Bool) → has a (addrs_of t) ≡ b → b ≡ false
      go true h =
          absurd (true≢false (sym (any_some (is_prefix p.cidr) (prefixes_of s)
          (some_apply (FormsWith hw a) (λ q. is_prefix p.cidr q ≡ true) (prefixes_of s) (k.based a h)
          (all_weaken Clear (λ q. FormsWith hw a q → is_prefix p.cidr q ≡ true) matches (prefixes_of s) k.clear))) ∙ n))
      go false h = refl

  add_order : (s : Slaac) (t : IfaceAddrs) (p : Prefix) → Clear p → Sound s t → InOrder (Full (add_prefix s p) t) (addrs_of t) (prefixes_of (add_prefix s p))
  unfolding add_prefix
  add_order s t p c k =
      subst (InOrder full (addrs_of t)) (sym (entries_with s.prefixes (at_first_is (is_prefix p.cidr) (put_over p) (if_room 4 ps p) ps)))
      (order_first full (addrs_of t) (is_prefix p.cidr) (λ x. p) (if_room 4 ps p) (λ x e. same_cidr_lem x.cidr p.cidr e) ps (λ n. new n (ltb (length ps) 4) refl)
      (order_as (Full s t) full (addrs_of t) (λ l e. l (or_none s.sync_required _ e).0) ps k.order))
    where
      ps : List Prefix
      ps = prefixes_of s

      full : Type 0
      full = Full (add_prefix s p) t

      asked : ltb (length ps) 4 ≡ true → full
      asked r e = absurd (true≢false (sym r ∙ (or_none (any_of (is_prefix p.cidr) ps) _ (or_none s.sync_required _ e).1).1))

      new : any_of (is_prefix p.cidr) ps ≡ false → (b : Bool) → ltb (length ps) 4 ≡ b
          → All (Lacks (addrs_of t)) (cond b (p ∷ []) []) × InOrder full (addrs_of t) (cond b (p ∷ []) [])
      new n true r = ((new_lacks s t p c k n, tt), ((λ a f. inr (asked r, tt)), tt))
      new n false r = (tt, tt)

  expire_order : (s : Slaac) (t : IfaceAddrs) (c : Ipv6Cidr) (now : Instant) → Sound s t
      → InOrder (Full (expire_prefix s c now) t) (addrs_of t) (prefixes_of (expire_prefix s c now))
  unfolding expire_prefix
  expire_order s t c now k =
      subst (InOrder full (addrs_of t)) (sym (entries_with s.prefixes (at_first_is (is_prefix c) (prefix_ends now) [] ps)))
      (order_first full (addrs_of t) (is_prefix c) (ended now) [] (λ x e. refl) ps (λ n. (tt, tt))
      (order_as (Full s t) full (addrs_of t) (λ l e. l (or_none s.sync_required _ e).0) ps k.order))
    where
      ps : List Prefix
      ps = prefixes_of s

      full : Type 0
      full = Full (expire_prefix s c now) t

  option_order : (now : Instant) (s : Slaac) (t : IfaceAddrs) (o : PrefixInformation) → Masked o → Sound s t
      → InOrder (Full (process_prefix_is now s o) t) (addrs_of t) (prefixes_of (process_prefix_is now s o))
  unfolding process_prefix_is
  option_order now s t o m k = go (is_skipped o) (ltb 0 o.valid_lifetime) refl
    where
      next : Bool → Bool → Slaac
      next x y = cond {A = Slaac} x s (cond {A = Slaac} y (add_prefix s (prefix_of o now)) (expire_prefix s (cidr_of o) now))

      go : (x y : Bool) → is_skipped o ≡ x → InOrder (Full (next x y) t) (addrs_of t) (prefixes_of (next x y))
      go true y e = k.order
      go false true e = add_order s t (prefix_of o now) (taken_clear now o m e) k
      go false false e = expire_order s t (cidr_of o) now k

  options_sound : (now : Instant) (t : IfaceAddrs) (os : List PrefixInformation) (s : Slaac) → All Masked os → Sound s t → Sound (fold_over (process_prefix_is now) s os) t
  options_sound now t [] s m k = k
  options_sound now t (o ∷ os) s m k =
      options_sound now t os (process_prefix_is now s o) m.1
      (record {
        clear = process_all Clear ended_clear now s o k.clear (taken_clear now o m.0);
        based = λ a h. some_process hw a now s o (k.based a h);
        order = option_order now s t o m.0 k;
      })

  learned_order : (s : Slaac) (t : IfaceAddrs) (source : Ipv6Addr) (msg : List ℕ) (now : Instant) → Sound s t
      → InOrder (Full (steps2to4 s source msg now) t) (addrs_of t) (prefixes_of (steps2to4 s source msg now))
  unfolding step2
  learned_order s t source msg now k =
      subst (InOrder (Full (steps2to4 s source msg now) t) (addrs_of t)) (sym (steps_prefixes s source msg now))
      (order_as (Full heard t) (Full (steps2to4 s source msg now) t) (addrs_of t) (λ l e. l (before heard.sync_required refl e)) (prefixes_of heard)
      (options_sound now t (prefix_options (options_in msg)) s (message_masked msg) k).order)
    where
      heard : Slaac
      heard = fold_over (process_prefix_is now) s (prefix_options (options_in msg))

      before : (b : Bool) → heard.sync_required ≡ b → (steps2to4 s source msg now).sync_required ≡ false → b ≡ false
      before true q e = absurd (true≢false (sym (router_asked now heard source (seconds_of (router_advert_at msg).router_lifetime) q) ∙ e))
      before false q e = refl

  -- The sync

  module _ (now : Instant) where
    -- an address that the prefix does not form
    step_other : (t : IfaceAddrs) (p : Prefix) (a : Ipv6Cidr) → (FormsWith hw a p → ⊥)
        → (there a (addrs_of t) ≡ true → there a (addrs_of (sync_prefix hw now t p)) ≡ true) × (has a (addrs_of t) ≡ false → has a (addrs_of (sync_prefix hw now t p)) ≡ false)
    step_other t p a n = (
      step_keeps hw a now t p (λ f. absurd (n f)),
      λ h.
          on_sync hw now (λ es. has a es ≡ false) t p (λ f. h)
          (λ c f e. put_none a c (preferred_of now p.preferred_until) (unlike c f (same_cidr c a) refl) (addrs_of t) h)
          (λ c f e. drop_none a c (addrs_of t) h),
    )
      where
        unlike : (c : Ipv6Cidr) → FormsWith hw c p → (b : Bool) → same_cidr c a ≡ b → b ≡ false
        unlike c f true e = absurd (n (f ∙ ap Addr (same_cidr_lem c a e)))
        unlike c f false e = refl

    -- a full table, and none of SLAAC's: nothing changes
    step_full : (t : IfaceAddrs) (p : Prefix) → 8 ≤ length (addrs_of t) → Lacks (addrs_of t) p → addrs_of (sync_prefix hw now t p) ≡ addrs_of t
    step_full t p l n =
        on_sync hw now (λ es. es ≡ addrs_of t) t p (λ f. refl) (λ c f e. put_same c (preferred_of now p.preferred_until) (addrs_of t) l (n c f))
        (λ c f e. drop_same c (addrs_of t) (n c f))

    fold_full : (ps : List Prefix) (t : IfaceAddrs) → 8 ≤ length (addrs_of t) → All (Lacks (addrs_of t)) ps → addrs_of (fold_over (sync_prefix hw now) t ps) ≡ addrs_of t
    fold_full [] t l n = refl
    fold_full (p ∷ ps) t l n =
        let same : addrs_of (sync_prefix hw now t p) ≡ addrs_of t = step_full t p l n.0 in
        fold_full ps (sync_prefix hw now t p) (subst (λ (es : List IfaceAddr). 8 ≤ length es) (sym same) l)
        (subst (λ (es : List IfaceAddr). All (Lacks es) ps) (sym same) n.1)
        ∙ same

    -- a valid prefix has its address after its turn, or it was missing and there was no room
    step_valid : (t : IfaceAddrs) (p : Prefix) (a : Ipv6Cidr) → FormsWith hw a p → is_after p.valid_until now ≡ true
        → (there a (addrs_of (sync_prefix hw now t p)) ≡ true) ⊎ ((8 ≤ length (addrs_of t)) × (there a (addrs_of t) ≡ false))
    step_valid t p a f v = go (there a (addrs_of t)) (ltb (length (addrs_of t)) 8) refl refl
      where
        go : (x y : Bool) → there a (addrs_of t) ≡ x → ltb (length (addrs_of t)) 8 ≡ y
            → (there a (addrs_of (sync_prefix hw now t p)) ≡ true) ⊎ ((8 ≤ length (addrs_of t)) × (x ≡ false))
        go true y h r = inl (step_keeps hw a now t p (λ g. v) h)
        go false true h r = inl (step_comes hw a now t p f v (ltb-true (length (addrs_of t)) 8 r))
        go false false h r = inr (ltb-false (length (addrs_of t)) 8 r, refl)

    sync_order : (F : Type 0) (ps : List Prefix) (t : IfaceAddrs) → Apart (FormOne hw) ps → InOrder F (addrs_of t) ps
        → InOrder (8 ≤ length (addrs_of (fold_over (sync_prefix hw now) t ps))) (addrs_of (fold_over (sync_prefix hw now) t ps)) (kept (prefix_gone now) ps)
    sync_order F [] t apart h = tt
    sync_order F (p ∷ ps) t apart h =
        go (is_after p.valid_until now) refl (sync_order F ps next apart.1 (order_alike F F (addrs_of t) (addrs_of next) (λ x. x) ps others h.1))
      where
        next : IfaceAddrs
        next = sync_prefix hw now t p

        es : List IfaceAddr
        es = addrs_of (fold_over (sync_prefix hw now) next ps)

        others : All (Alike (addrs_of t) (addrs_of next)) ps
        others = all_weaken (λ q. FormOne hw p q → ⊥) (Alike (addrs_of t) (addrs_of next)) (λ q n a f. step_other t p a (λ g. n (a, g, f))) ps apart.0

        -- no later prefix forms its address
        stays : (a : Ipv6Cidr) → FormsWith hw a p → there a (addrs_of next) ≡ true → there a es ≡ true
        stays a f g =
            fold_keeps hw a now ps next
            (all_weaken (λ q. FormOne hw p q → ⊥) (λ q. FormsWith hw a q → is_after q.valid_until now ≡ true) (λ q n k. absurd (n (a, f, k))) ps apart.0) g

        -- no room: later ones change nothing
        waits : (a : Ipv6Cidr) → FormsWith hw a p → 8 ≤ length (addrs_of t) → there a (addrs_of t) ≡ false → (there a (addrs_of t) ≡ true) ⊎ (F × All (Lacks (addrs_of t)) ps)
            → (8 ≤ length es) × All (Lacks es) (kept (prefix_gone now) ps)
        waits a f l m (inl g) = absurd (true≢false (sym g ∙ m))
        waits a f l m (inr (x, n)) =
            subst (λ (fs : List IfaceAddr). (8 ≤ length fs) × All (Lacks fs) (kept (prefix_gone now) ps)) (sym same)
            (l, all_kept (Lacks (addrs_of t)) (prefix_gone now) ps n)
          where
            same : es ≡ addrs_of t
            same = fold_full (p ∷ ps) t l ((λ b g. no_entry b (addrs_of t) (subst (λ (c : Ipv6Cidr). there c (addrs_of t) ≡ false) (addr_inj b a (sym f ∙ g)) m)), n)

        place : (a : Ipv6Cidr) → FormsWith hw a p → (there a (addrs_of next) ≡ true) ⊎ ((8 ≤ length (addrs_of t)) × (there a (addrs_of t) ≡ false))
            → (there a es ≡ true) ⊎ ((8 ≤ length es) × All (Lacks es) (kept (prefix_gone now) ps))
        place a f (inl g) = inl (stays a f g)
        place a f (inr (l, m)) = inr (waits a f l m (h.0 a f))

        go : (v : Bool) → is_after p.valid_until now ≡ v → InOrder (8 ≤ length es) es (kept (prefix_gone now) ps)
            → InOrder (8 ≤ length es) es (cond (not v) (kept (prefix_gone now) ps) (p ∷ kept (prefix_gone now) ps))
        go true e ih = ((λ a f. place a f (step_valid t p a f e)), ih)
        go false e ih = ih

  -- Whatever is called

  record Held (s : Slaac) (t : IfaceAddrs) : Type 0 where
    good : Good (prefixes_of s)
    based : (a : Ipv6Cidr) → Based hw a s t
    order : InOrder (Full s t) (addrs_of t) (prefixes_of s)

  added_order : (i : ℕ) (s : Slaac) (t : IfaceAddrs) (c : Ipv6Cidr) (w : Added) → AddedTo t i c w → InOrder (Full s t) (addrs_of t) (prefixes_of s)
      → InOrder (Full s w.addrs) (addrs_of w.addrs) (prefixes_of s)
  added_order i s t c w p h =
      added_cases (λ es. InOrder (s.sync_required ≡ false → 8 ≤ length es) es (prefixes_of s)) i t c w p h
      (order_alike (Full s t) (s.sync_required ≡ false → 8 ≤ length more) (addrs_of t) more (λ l e. omega (arith, l e, length-append (addrs_of t) (manual_addr c ∷ [])))
      (prefixes_of s)
      (all_of (Alike (addrs_of t) more)
      (λ q a f. (any_append (is_addr a) (addrs_of t) (manual_addr c ∷ []), λ n. none_append (is_slaac_addr a) (addrs_of t) (manual_addr c ∷ []) n (manual_none a c))) (prefixes_of s)) h)
    where
      more : List IfaceAddr
      more = addrs_of t ++ (manual_addr c ∷ [])

  synced_order : (s : Slaac) (t : IfaceAddrs) (now : Instant) → Good (prefixes_of s) → InOrder (Full s t) (addrs_of t) (prefixes_of s)
      → InOrder (Full (leave_expired now s) (sync_addrs hw now t s)) (addrs_of (sync_addrs hw now t s)) (prefixes_of (leave_expired now s))
  unfolding leave_expired sync_addrs
  synced_order s t now g h =
      subst (InOrder full es) (sym (entries_with s.prefixes (kept (prefix_gone now) (prefixes_of s))))
      (order_as (8 ≤ length es) full es (λ l e. l) (kept (prefix_gone now) (prefixes_of s)) (sync_order now (Full s t) (prefixes_of s) t (one_address hw (prefixes_of s) g) h))
    where
      es : List IfaceAddr
      es = addrs_of (sync_addrs hw now t s)

      full : Type 0
      full = Full (leave_expired now s) (sync_addrs hw now t s)

  held_calls : (i : ℕ) → Keeps i hw (λ c. Unit {0}) (λ s t r. Held s t)
  unfolding Good
  held_calls i =
      record {
        discovery = λ s t r d h. record { good = h.good; based = λ a. (based_calls hw a i).discovery s t r d (h.based a); order = h.order };
        learns =
            λ s t r source msg now ok taken h.
            record {
              good = (keeps i hw).learns s t r source msg now ok taken h.good;
              based = λ a. (based_calls hw a i).learns s t r source msg now ok taken (h.based a);
              order = learned_order s t source msg now (record { clear = h.good.0; based = λ a. (h.based a).prefix; order = h.order });
            };
        syncs =
            λ s t r now ok taken on h.
            record {
              good = (keeps i hw).syncs s t r now ok taken on h.good;
              based = λ a. (based_calls hw a i).syncs s t r now ok taken on (h.based a);
              order = synced_order s t now h.good h.order;
            };
        begins = λ s t r e h. record { good = (tt, tt); based = λ a. (based_calls hw a i).begins s t r e (h.based a); order = tt };
        adds = λ s t r c w ok p h. record { good = h.good; based = λ a. (based_calls hw a i).adds s t r c w ok p (h.based a); order = added_order i s t c w p h.order };
        routes = λ s t r j c via w ok p h. h;
        clears = λ s t r ok h. record { good = (tt, tt); based = λ a. (based_calls hw a i).clears s t r ok (h.based a); order = tt };
        syncs_there = λ s t r j now u n h. h;
        clears_there = λ s t r j n h. h;
      }

  held_fresh : (on : Bool) (t : IfaceAddrs) → any_of is_from_slaac (addrs_of t) ≡ false → AddrsOnce t → Held (fresh on) t
  unfolding Good
  held_fresh on t n o =
      record {
        good = (tt, tt);
        based = λ a. let none = none_of hw a (addrs_of t) n in record { once = o; off = λ e. none; prefix = λ h. absurd (true≢false (sym h ∙ none)) };
        order = tt;
      }

  all_housed : (i : ℕ) (x y : Host) (cs : List HostCall) → Run i hw x cs y → Fresh x → any_of is_from_slaac (addrs_of x.addrs) ≡ false → AddrsOnce x.addrs
      → y.slaac.sync_required ≡ false → All (HasAddressOrFull hw (addrs_of y.addrs)) (prefixes_of y.slaac)
  all_housed i x y cs run (on, same) n o e =
      order_houses (Full y.slaac y.addrs) (addrs_of y.addrs) (λ l. l e) (prefixes_of y.slaac)
      (keep_run (λ c. Unit {0}) (λ s t r. Held s t) (held_calls i) run (all_of (λ c. Unit {0}) (λ c. tt) cs)
      (subst (λ (s : Slaac). Held s x.addrs) (sym same) (held_fresh on x.addrs n o))).order

  -- A poll that is taken, with SLAAC on

  settled_turn : (s : Slaac) (t : IfaceAddrs) (r : Routes) (i : ℕ) (up : Bool) (buf : List ℕ) (k : Clock) (x : Result (Unit {0}) Refusal) → x ≡ Ok tt → s.on ≡ true
      → (poll_by x s t r i up hw buf k).polled.slaac.sync_required ≡ false
  unfolding leave_expired
  settled_turn s t r i up buf k (Err why) fine on = absurd (refused_fine why fine)
  settled_turn s t r i up buf k (Ok tt) fine on =
      poll_cases (λ q. q.polled.slaac.sync_required ≡ false) s t r i up hw buf k
      (λ e. turn_cases (λ q. q.polled.slaac.sync_required ≡ false) u t r i hw k.now turn.clock (Ok turn.answer) (λ d. refl) (λ d. quiet s.sync_required refl d))
      (λ e. absurd (true≢false (sym on ∙ e)))
    where
      turn : Turn
      turn = turn_in s t up buf k

      u : Slaac
      u = with_discovery s turn.discovery

      quiet : (b : Bool) → s.sync_required ≡ b → (sync_due u turn.clock).expired ≡ false → b ≡ false
      quiet true q d = absurd (true≢false (sym (due_asked u turn.clock q) ∙ d))
      quiet false q d = refl

  settled : {i : ℕ} {now : Instant} {x y : Host} → Step i hw x (poll now) y → TakesPoll i now → x.slaac.on ≡ true → y.slaac.sync_required ≡ false
  settled {i} (polled x up buf buf' k k' r p) fine on =
      subst (λ (q : Polled). q.slaac.sync_required ≡ false) (sym p.is) (settled_turn x.slaac x.addrs x.routes i up buf k (time_check k.now i) fine on)
  settled {i} (polled_at x up buf buf' k r p) fine on =
      subst (λ (q : PolledAt). q.polled.slaac.sync_required ≡ false) (sym p.is)
      (settled_turn x.slaac x.addrs x.routes i up buf k (time_check k.now i) fine on)

pub housed : Housed
unfolding formed_of walked options_of put_addr drop_addr first_local add_prefix process_prefix_is add_router process_router_is turnDue sent solicitation sync_due leave_expired step2 sync_prefix sync_addrs turn_of sync_turn poll_on
housed =
    record {
      housed = λ i hw x y cs run. all_housed hw i x y cs run;
      settles = λ i hw now x y s. settled hw s;
      one_comes = refl;
      both_learned = refl;
      not_asked = refl;
      other_comes = refl;
      one_left = refl;
    }
