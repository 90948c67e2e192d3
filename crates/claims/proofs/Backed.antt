-- Every SLAAC address in a host that calls made has a prefix that forms it. Assumes nothing.
use Prim.Native.Nat.{ℕ, ◌≤◌}
use borrow.Author.Tests.{eq-eqb, eqb-true}
use lib.Dec.{ltb, eqb}
use lib.ListN.{length}
use mathlib.Core.Bool.{Bool, true, false, cond, not, ◌&&◌, true≢false}
use mathlib.Core.List.{List, [], ◌∷◌, ◌++◌, append_assoc}
use mathlib.Core.Logic.{◌⊎◌, inl, inr}
use mathlib.Core.Path.{◌≡◌, refl, sym, ap, ◌∙◌, subst}
use native.Mathlib.Omega.{arith}
use Rattle.std.specs.Prelude.{Result, Ok, Err}
use Rattle.wire.specs.declared.error.Refusal.{Refusal}
use Rattle.claims.proofs.Keeps.{Keeps, keep_run}
use Rattle.claims.proofs.Lists.{either_none, none_either, none_append, none_first, none_if, back, all_of, some_first, some_with, some_both, some_kept}
use Rattle.claims.proofs.Standing.{steps_prefixes, same_cidr_lem, same_addr_refl}
use Rattle.claims.specs.Arrives.{FormsWith, Made}
use Rattle.claims.specs.Early.{Host, HostCall, Run}
use Rattle.claims.specs.Lists.{All, Some}
use Rattle.iface.proofs.Distinct.{addrs_of_lem, distinct_put, distinct_drop, once_added, once_clear}
use Rattle.iface.specs.AddressRules.{addrs_of, with_addrs, is_addr, is_from_slaac, slaac_addr, manual_addr, add_addr_by, addr_check, AddedTo, refreshed, gone, put_addr, drop_addr, clear_addrs}
use Rattle.iface.specs.Distinct.{entries_of, Distinct, AddrsOnce, is_slaac_addr}
use Rattle.iface.specs.declared.addr.Added.{Added}
use Rattle.iface.specs.declared.addr.IfaceAddr.{IfaceAddr}
use Rattle.iface.specs.declared.addr.IfaceAddrs.{IfaceAddrs}
use Rattle.iface.specs.declared.addr.Preferred.{Preferred}
use Rattle.ndisc.specs.Rfc4861Messages.{router_advert_at}
use Rattle.ndisc.specs.declared.ndiscoption.PrefixInformation.{PrefixInformation}
use Rattle.slaac.specs.ExpiryRules.{prefix_gone, leave_expired}
use Rattle.slaac.specs.LearnedRules.{prefixes_of, is_skipped, is_prefix, cidr_of, prefix_of, put_over, add_prefix, prefix_ends, expire_prefix, process_prefix_is, add_router, expire_router, process_router_is}
use Rattle.slaac.specs.declared.Prefix.{Prefix}
use Rattle.slaac.specs.declared.Slaac.{Slaac}
use Rattle.autoconf.specs.AdvertRules.{options_in, prefix_options, step2, steps2to4}
use Rattle.autoconf.specs.SyncRules.{preferred_of, sync_formed, sync_prefix, sync_addrs}
use Rattle.table.specs.Table.{if_room, kept, at_first_is, any_of, fold_over}
use Rattle.time.specs.ClockRules.{is_after}
use Rattle.time.specs.TimeRules.{add_of, seconds_of}
use Rattle.time.specs.declared.Duration.{Duration}
use Rattle.time.specs.declared.Instant.{Instant}
use Rattle.wire.specs.Rfc2464.{formed_addr, formed_of}
use Rattle.wire.specs.Rfc4291.{same_cidr}
use Rattle.wire.specs.declared.ethernet.HardwareAddress.{HardwareAddress}
use Rattle.wire.specs.declared.ipv6.Formed.TheVariants.{Nothing, Addr}
use Rattle.wire.specs.declared.ipv6.Formed.{Formed}
use Rattle.wire.specs.declared.ipv6.Ipv6Addr.{Ipv6Addr}
use Rattle.wire.specs.declared.ipv6.Ipv6Cidr.{Ipv6Cidr}

-- Equal addresses

pub same_cidr_refl : (a : Ipv6Cidr) → same_cidr a a ≡ true
same_cidr_refl a = rw (same_addr_refl a.address, eq-eqb a.prefix_len a.prefix_len refl)

pub addr_inj : (a c : Ipv6Cidr) → Addr c ≡ Addr a → c ≡ a
addr_inj a c e = cc

pub nothing_formed : (a : Ipv6Cidr) → Nothing ≡ Addr a → ⊥
nothing_formed a e = let z : ◌≡◌ {A = ℕ} 0 1 = cc in omega arith

-- "only length 64 forms an address"
pub formed_is : (hw : HardwareAddress) (c a : Ipv6Cidr) → formed_of hw c ≡ Addr a → (c.prefix_len ≡ 64) × (formed_addr hw c ≡ a)
unfolding formed_of
formed_is hw c a = go (eqb c.prefix_len 64) refl
  where
    go : (b : Bool) → eqb c.prefix_len 64 ≡ b → cond {A = Formed} b (Addr (formed_addr hw c)) Nothing ≡ Addr a → (c.prefix_len ≡ 64) × (formed_addr hw c ≡ a)
    go true e q = (eqb-true c.prefix_len 64 e, addr_inj a (formed_addr hw c) q)
    go false e q = absurd (nothing_formed a q)

-- The application's address: nothing changes, or it comes at the end

pub added_cases : (P : List IfaceAddr → Type 0) (i : ℕ) (t : IfaceAddrs) (c : Ipv6Cidr) (r : Added) → AddedTo t i c r → P (addrs_of t) → P (addrs_of t ++ (manual_addr c ∷ []))
    → P (addrs_of r.addrs)
added_cases P i t c r p h g = subst (λ (q : Added). P (addrs_of q.addrs)) (sym p.is) (by (addr_check i c (addrs_of t)))
  where
    by : (x : Result (Unit {0}) Refusal) → P (addrs_of (add_addr_by x t c).addrs)
    by (Err why) = h
    by (Ok tt) = subst P (sym (addrs_of_lem t (addrs_of t ++ (manual_addr c ∷ [])))) g

-- One prefix of the sync: what it does to the entries

module _ (hw : HardwareAddress) (now : Instant) where
  pub on_sync : (P : List IfaceAddr → Type 0) (t : IfaceAddrs) (p : Prefix) → (formed_of hw p.cidr ≡ Nothing → P (addrs_of t))
      → ((c : Ipv6Cidr) → formed_of hw p.cidr ≡ Addr c → is_after p.valid_until now ≡ true → P (put_addr c (preferred_of now p.preferred_until) (addrs_of t)))
      → ((c : Ipv6Cidr) → formed_of hw p.cidr ≡ Addr c → is_after p.valid_until now ≡ false → P (drop_addr c (addrs_of t)))
      → P (addrs_of (sync_prefix hw now t p))
  unfolding sync_prefix
  on_sync P t p nothing put drop = go (formed_of hw p.cidr) refl
    where
      at : (c : Ipv6Cidr) → formed_of hw p.cidr ≡ Addr c → (b : Bool) → is_after p.valid_until now ≡ b
          → P (addrs_of (cond {A = IfaceAddrs} b (with_addrs t (put_addr c (preferred_of now p.preferred_until) (addrs_of t))) (with_addrs t (drop_addr c (addrs_of t)))))
      at c f true e = subst P (sym (addrs_of_lem t (put_addr c (preferred_of now p.preferred_until) (addrs_of t)))) (put c f e)
      at c f false e = subst P (sym (addrs_of_lem t (drop_addr c (addrs_of t)))) (drop c f e)

      go : (f : Formed) → formed_of hw p.cidr ≡ f → P (addrs_of (sync_formed f now t p))
      go Nothing f = nothing f
      go (Addr c) f = at c f (is_after p.valid_until now) refl

  sync_once : (t : IfaceAddrs) (p : Prefix) → AddrsOnce t → AddrsOnce (sync_prefix hw now t p)
  sync_once t p o = on_sync Distinct t p (λ f. o) (λ c f e. distinct_put c (preferred_of now p.preferred_until) (addrs_of t) o) (λ c f e. distinct_drop c (addrs_of t) o)

-- SLAAC's entry of one address

module _ (a : Ipv6Cidr) where
  abbrev pub has : List IfaceAddr → Bool
  has es = any_of (is_slaac_addr a) es

  none_and : (x y : Bool) → x ≡ false → (x && y) ≡ false
  none_and x y e = rw e

  pub put_none : (c : Ipv6Cidr) (q : Preferred) → same_cidr c a ≡ false → (es : List IfaceAddr) → has es ≡ false → has (put_addr c q es) ≡ false
  unfolding put_addr
  put_none c q n es h =
      none_first (is_slaac_addr a) (is_addr c) (refreshed q) (if_room 8 es (slaac_addr c q)) es h
      (none_if (is_slaac_addr a) (ltb (length es) 8) (slaac_addr c q) (none_and (same_cidr c a) true n)) same
    where
      same : (x : IfaceAddr) → is_addr c x ≡ true → is_slaac_addr a x ≡ false → any_of (is_slaac_addr a) (refreshed q x) ≡ false
      same x e u = go (is_from_slaac x)
        where
          other : same_cidr x.cidr a ≡ false
          other = ap (λ (y : Ipv6Cidr). same_cidr y a) (same_cidr_lem x.cidr c e) ∙ n

          go : (b : Bool) → any_of (is_slaac_addr a) (cond b (slaac_addr x.cidr q ∷ []) (x ∷ [])) ≡ false
          go true = rw other
          go false = rw u

  pub drop_none : (c : Ipv6Cidr) (es : List IfaceAddr) → has es ≡ false → has (drop_addr c es) ≡ false
  unfolding drop_addr
  drop_none c es h = none_first (is_slaac_addr a) (is_addr c) gone [] es h refl same
    where
      same : (x : IfaceAddr) → is_addr c x ≡ true → is_slaac_addr a x ≡ false → any_of (is_slaac_addr a) (gone x) ≡ false
      same x e u = go (is_from_slaac x)
        where
          go : (b : Bool) → any_of (is_slaac_addr a) (cond b [] (x ∷ [])) ≡ false
          go true = refl
          go false = rw u

  -- what the application adds is not SLAAC's
  pub manual_none : (c : Ipv6Cidr) → has (manual_addr c ∷ []) ≡ false
  manual_none c = go (same_cidr c a)
    where
      go : (b : Bool) → cond (b && false) true false ≡ false
      go true = refl
      go false = refl

  absent : (es : List IfaceAddr) → length (entries_of a es) ≤ 0 → has es ≡ false
  absent [] h = refl
  absent (e ∷ es) h = go (is_addr a e) (is_from_slaac e) h (absent es)
    where
      go : (x y : Bool) → length (cond x (e ∷ entries_of a es) (entries_of a es)) ≤ 0 → (length (entries_of a es) ≤ 0 → has es ≡ false)
          → cond (x && y) true (has es) ≡ false
      go true y g ih = absurd (omega (arith, g))
      go false y g ih = ih g

  -- it goes, where no address is twice
  drop_gone : (es : List IfaceAddr) → length (entries_of a es) ≤ 1 → has (drop_addr a es) ≡ false
  unfolding drop_addr
  drop_gone [] h = refl
  drop_gone (e ∷ es) h = go (is_addr a e) refl h (drop_gone es)
    where
      left : (y : Bool) → is_from_slaac e ≡ y → is_addr a e ≡ true → has es ≡ false → has (cond y [] (e ∷ []) ++ es) ≡ false
      left true q x n = n
      left false q x n = rw (x, q) n

      go : (x : Bool) → is_addr a e ≡ x → length (cond x (e ∷ entries_of a es) (entries_of a es)) ≤ 1
          → (length (entries_of a es) ≤ 1 → has (at_first_is (is_addr a) gone [] es) ≡ false)
          → has (cond x (gone e ++ es) (e ∷ at_first_is (is_addr a) gone [] es)) ≡ false
      go true x g ih = left (is_from_slaac e) refl x (absent es (omega (arith, g)))
      go false x g ih = rw x (ih g)

-- The sync and one address

module _ (hw : HardwareAddress) (a : Ipv6Cidr) (now : Instant) where
  abbrev pub Valid : Prefix → Type 0
  Valid p = FormsWith hw a p × (is_after p.valid_until now ≡ true)

  -- after one prefix it was there and the prefix did not end it, or the prefix gave it
  step_has : (t : IfaceAddrs) (p : Prefix) → AddrsOnce t → has a (addrs_of (sync_prefix hw now t p)) ≡ true
      → ((has a (addrs_of t) ≡ true) × (FormsWith hw a p → is_after p.valid_until now ≡ true)) ⊎ Valid p
  step_has t p o =
      on_sync hw now (λ es. has a es ≡ true → ((has a (addrs_of t) ≡ true) × (FormsWith hw a p → is_after p.valid_until now ≡ true)) ⊎ Valid p) t p
      (λ f h. inl (h, λ g. absurd (nothing_formed a (sym f ∙ g)))) (λ c f e h. put c f e h (same_cidr c a) refl) (λ c f e h. drop c f e h (same_cidr c a) refl)
    where
      until : Preferred
      until = preferred_of now p.preferred_until

      put : (c : Ipv6Cidr) → formed_of hw p.cidr ≡ Addr c → is_after p.valid_until now ≡ true → has a (put_addr c until (addrs_of t)) ≡ true
          → (b : Bool) → same_cidr c a ≡ b → ((has a (addrs_of t) ≡ true) × (FormsWith hw a p → is_after p.valid_until now ≡ true)) ⊎ Valid p
      put c f e h true s = inr (f ∙ ap Addr (same_cidr_lem c a s), e)
      put c f e h false s = inl (back (is_slaac_addr a) (addrs_of t) (put_addr c until (addrs_of t)) (put_none a c until s (addrs_of t)) h, λ g. e)

      drop : (c : Ipv6Cidr) → formed_of hw p.cidr ≡ Addr c → is_after p.valid_until now ≡ false → has a (drop_addr c (addrs_of t)) ≡ true
          → (b : Bool) → same_cidr c a ≡ b → ((has a (addrs_of t) ≡ true) × (FormsWith hw a p → is_after p.valid_until now ≡ true)) ⊎ Valid p
      drop c f e h true s =
          absurd (true≢false (sym (subst (λ (x : Ipv6Cidr). has a (drop_addr x (addrs_of t)) ≡ true) (same_cidr_lem c a s) h) ∙ drop_gone a (addrs_of t) (o.once a)))
      drop c f e h false s =
          inl (
            back (is_slaac_addr a) (addrs_of t) (drop_addr c (addrs_of t)) (drop_none a c (addrs_of t)) h,
            λ g. absurd (true≢false (sym (subst (λ (x : Ipv6Cidr). same_cidr x a ≡ true) (sym (addr_inj a c (sym f ∙ g))) (same_cidr_refl a)) ∙ s)),
          )

  fold_has : (ps : List Prefix) (t : IfaceAddrs) → AddrsOnce t → has a (addrs_of (fold_over (sync_prefix hw now) t ps)) ≡ true
      → ((has a (addrs_of t) ≡ true) × All (λ p. FormsWith hw a p → is_after p.valid_until now ≡ true) ps) ⊎ Some Valid ps
  fold_has [] t o h = inl (h, tt)
  fold_has (p ∷ ps) t o h = go (fold_has ps (sync_prefix hw now t p) (sync_once hw now t p o) h) (step_has t p o)
    where
      one : All (λ p. FormsWith hw a p → is_after p.valid_until now ≡ true) ps
          → ((has a (addrs_of t) ≡ true) × (FormsWith hw a p → is_after p.valid_until now ≡ true)) ⊎ Valid p
          → ((has a (addrs_of t) ≡ true) × All (λ p. FormsWith hw a p → is_after p.valid_until now ≡ true) (p ∷ ps)) ⊎ Some Valid (p ∷ ps)
      one l (inl g) = inl (g.0, (g.1, l))
      one l (inr g) = inr (inl g)

      go : ((has a (addrs_of (sync_prefix hw now t p)) ≡ true) × All (λ p. FormsWith hw a p → is_after p.valid_until now ≡ true) ps) ⊎ Some Valid ps
          → (has a (addrs_of (sync_prefix hw now t p)) ≡ true → ((has a (addrs_of t) ≡ true) × (FormsWith hw a p → is_after p.valid_until now ≡ true)) ⊎ Valid p)
          → ((has a (addrs_of t) ≡ true) × All (λ p. FormsWith hw a p → is_after p.valid_until now ≡ true) (p ∷ ps)) ⊎ Some Valid (p ∷ ps)
      go (inr g) f = inr (inr g)
      go (inl g) f = one g.1 (f g.0)

  fold_once : (ps : List Prefix) (t : IfaceAddrs) → AddrsOnce t → AddrsOnce (fold_over (sync_prefix hw now) t ps)
  fold_once [] t o = o
  fold_once (p ∷ ps) t o = fold_once ps (sync_prefix hw now t p) (sync_once hw now t p o)

  pub sync_has : (ps : List Prefix) (t : IfaceAddrs) → AddrsOnce t → (has a (addrs_of t) ≡ true → Some (FormsWith hw a) ps)
      → has a (addrs_of (fold_over (sync_prefix hw now) t ps)) ≡ true → Some Valid ps
  sync_has ps t o b h = go (fold_has ps t o h)
    where
      go : ((has a (addrs_of t) ≡ true) × All (λ p. FormsWith hw a p → is_after p.valid_until now ≡ true) ps) ⊎ Some Valid ps → Some Valid ps
      go (inl g) = some_both (FormsWith hw a) (λ p. is_after p.valid_until now ≡ true) ps (b g.0) g.1
      go (inr g) = g

  stays_in : (ps : List Prefix) → Some Valid ps → Some (FormsWith hw a) (kept (prefix_gone now) ps)
  stays_in ps h = some_kept Valid (FormsWith hw a) (prefix_gone now) (λ p g. (ap not g.1, g.0)) ps h

-- An advertisement: steps 3 and 4 leave the prefixes, and no step turns SLAAC on or off

router_on : (now : Instant) (s : Slaac) (source : Ipv6Addr) (d : Duration) → (process_router_is now s source d).on ≡ s.on
unfolding process_router_is add_router expire_router
router_on now s source d = go (ltb 0 d.0)
  where
    go : (x : Bool) → (cond {A = Slaac} x (add_router s (record { addr = source; valid_until = add_of now d })) (expire_router s source now)).on ≡ s.on
    go true = refl
    go false = refl

option_on : (now : Instant) (s : Slaac) (o : PrefixInformation) → (process_prefix_is now s o).on ≡ s.on
unfolding process_prefix_is add_prefix expire_prefix
option_on now s o = go (is_skipped o) (ltb 0 o.valid_lifetime)
  where
    go : (x y : Bool) → (cond {A = Slaac} x s (cond {A = Slaac} y (add_prefix s (prefix_of o now)) (expire_prefix s (cidr_of o) now))).on ≡ s.on
    go true y = refl
    go false true = refl
    go false false = refl

pub options_on : (now : Instant) (os : List PrefixInformation) (s : Slaac) → (fold_over (process_prefix_is now) s os).on ≡ s.on
options_on now [] s = refl
options_on now (o ∷ os) s = options_on now os (process_prefix_is now s o) ∙ option_on now s o

pub steps_on : (s : Slaac) (source : Ipv6Addr) (msg : List ℕ) (now : Instant) → (steps2to4 s source msg now).on ≡ s.on
unfolding step2
steps_on s source msg now =
    router_on now (fold_over (process_prefix_is now) s (prefix_options (options_in msg))) source (seconds_of (router_advert_at msg).router_lifetime)
    ∙ options_on now (prefix_options (options_in msg)) s

-- What every call keeps

module _ (hw : HardwareAddress) (a : Ipv6Cidr) where
  pub record Based (s : Slaac) (t : IfaceAddrs) : Type 0 where
    pub once : AddrsOnce t
    pub off : s.on ≡ false → has a (addrs_of t) ≡ false
    pub prefix : has a (addrs_of t) ≡ true → Some (FormsWith hw a) (prefixes_of s)

  formed_alike : (x : Prefix) (c : Ipv6Cidr) → is_prefix c x ≡ true → FormsWith hw a x → formed_of hw c ≡ Addr a
  formed_alike x c e h = ap (formed_of hw) (sym (same_cidr_lem x.cidr c e)) ∙ h

  some_add : (s : Slaac) (p : Prefix) → Some (FormsWith hw a) (prefixes_of s) → Some (FormsWith hw a) (prefixes_of (add_prefix s p))
  unfolding add_prefix
  some_add s p h =
      some_with (FormsWith hw a) s.prefixes (at_first_is (is_prefix p.cidr) (put_over p) (if_room 4 (prefixes_of s) p) (prefixes_of s))
      (some_first (FormsWith hw a) (is_prefix p.cidr) (put_over p) (if_room 4 (prefixes_of s) p) (prefixes_of s) (λ x e g. inl (formed_alike x p.cidr e g)) h)

  some_expire : (s : Slaac) (c : Ipv6Cidr) (now : Instant) → Some (FormsWith hw a) (prefixes_of s) → Some (FormsWith hw a) (prefixes_of (expire_prefix s c now))
  unfolding expire_prefix
  some_expire s c now h =
      some_with (FormsWith hw a) s.prefixes (at_first_is (is_prefix c) (prefix_ends now) [] (prefixes_of s))
      (some_first (FormsWith hw a) (is_prefix c) (prefix_ends now) [] (prefixes_of s) (λ x e g. inl g) h)

  pub some_process : (now : Instant) (s : Slaac) (o : PrefixInformation) → Some (FormsWith hw a) (prefixes_of s) → Some (FormsWith hw a) (prefixes_of (process_prefix_is now s o))
  unfolding process_prefix_is
  some_process now s o h = go (is_skipped o) (ltb 0 o.valid_lifetime)
    where
      go : (x y : Bool) → Some (FormsWith hw a) (prefixes_of (cond {A = Slaac} x s (cond {A = Slaac} y (add_prefix s (prefix_of o now)) (expire_prefix s (cidr_of o) now))))
      go true y = h
      go false true = some_add s (prefix_of o now) h
      go false false = some_expire s (cidr_of o) now h

  some_options : (now : Instant) (os : List PrefixInformation) (s : Slaac) → Some (FormsWith hw a) (prefixes_of s) → Some (FormsWith hw a) (prefixes_of (fold_over (process_prefix_is now) s os))
  some_options now [] s h = h
  some_options now (o ∷ os) s h = some_options now os (process_prefix_is now s o) (some_process now s o h)

  based_options : (s : Slaac) (t : IfaceAddrs) (source : Ipv6Addr) (msg : List ℕ) (now : Instant) → Based s t → Based (steps2to4 s source msg now) t
  unfolding step2
  based_options s t source msg now g =
      record {
        once = g.once;
        off = λ e. g.off (sym (steps_on s source msg now) ∙ e);
        prefix =
            λ h.
            subst (Some (FormsWith hw a)) (sym (steps_prefixes s source msg now))
            (some_options now (prefix_options (options_in msg)) s (g.prefix h));
      }

  based_added : (i : ℕ) (s : Slaac) (t : IfaceAddrs) (c : Ipv6Cidr) (r : Added) → AddedTo t i c r → Based s t → Based s r.addrs
  based_added i s t c r p g =
      record {
        once = once_added t i c r p g.once;
        off = λ e. none_added (g.off e);
        prefix = λ h. g.prefix (back (is_slaac_addr a) (addrs_of t) (addrs_of r.addrs) none_added h);
      }
    where
      none_added : has a (addrs_of t) ≡ false → has a (addrs_of r.addrs) ≡ false
      none_added h =
          added_cases (λ es. has a es ≡ false) i t c r p h (none_append (is_slaac_addr a) (addrs_of t) (manual_addr c ∷ []) h (manual_none a c))

  cleared : (es : List IfaceAddr) → has a (kept is_from_slaac es) ≡ false
  cleared [] = refl
  cleared (e ∷ es) = go (is_from_slaac e) refl (cleared es)
    where
      and_none : (x y : Bool) → y ≡ false → (x && y) ≡ false
      and_none true y h = h
      and_none false y h = refl

      go : (b : Bool) → is_from_slaac e ≡ b → has a (kept is_from_slaac es) ≡ false → has a (cond b (kept is_from_slaac es) (e ∷ kept is_from_slaac es)) ≡ false
      go true q h = h
      go false q h = none_either (is_slaac_addr a e) (has a (kept is_from_slaac es)) (and_none (is_addr a e) (is_from_slaac e) q) h

  none_left : (t : IfaceAddrs) → has a (addrs_of (clear_addrs t).addrs) ≡ false
  unfolding clear_addrs
  none_left t = subst (λ (es : List IfaceAddr). has a es ≡ false) (sym (addrs_of_lem t (kept is_from_slaac (addrs_of t)))) (cleared (addrs_of t))

  pub based_calls : (i : ℕ) → Keeps i hw (λ c. Unit {0}) (λ s t r. Based s t)
  unfolding sync_addrs leave_expired
  based_calls i = record {
    discovery = λ s t r d g. record { once = g.once; off = g.off; prefix = g.prefix };
    learns = λ s t r source msg now ok taken g. based_options s t source msg now g;
    syncs =
        λ s t r now ok taken on g.
        record {
          once = fold_once hw a now (prefixes_of s) t g.once;
          off = λ e. absurd (true≢false (sym on ∙ e));
          prefix = λ h. some_with (FormsWith hw a) s.prefixes (kept (prefix_gone now) (prefixes_of s)) (stays_in hw a now (prefixes_of s) (sync_has hw a now (prefixes_of s) t g.once g.prefix h));
        };
    begins = λ s t r e g. record { once = g.once; off = λ h. absurd (true≢false h); prefix = λ h. absurd (true≢false (sym h ∙ g.off e)) };
    adds = λ s t r c w ok p g. based_added i s t c w p g;
    routes = λ s t r j c via w ok p g. g;
    clears = λ s t r ok g. record { once = once_clear t g.once; off = λ e. none_left t; prefix = λ h. absurd (true≢false (sym h ∙ none_left t)) };
    syncs_there = λ s t r j now u n g. g;
    clears_there = λ s t r j n g. g;
  }

  based_run : {i : ℕ} {x y : Host} (cs : List HostCall) → Run i hw x cs y → Based x.slaac x.addrs → Based y.slaac y.addrs
  based_run {i} cs r g = keep_run (λ c. Unit {0}) (λ s t r. Based s t) (based_calls i) r (all_of (λ c. Unit {0}) (λ c. tt) cs) g

  -- none at all, so none of that address
  pub none_of : (es : List IfaceAddr) → any_of is_from_slaac es ≡ false → has a es ≡ false
  none_of [] h = refl
  none_of (e ∷ es) h = go (is_addr a e) (either_none (is_from_slaac e) (any_of is_from_slaac es) h) (none_of es)
    where
      go : (x : Bool) → (is_from_slaac e ≡ false) × (any_of is_from_slaac es ≡ false) → (any_of is_from_slaac es ≡ false → has a es ≡ false) → cond (x && is_from_slaac e) true (has a es) ≡ false
      go true o ih = rw o.0 (ih o.1)
      go false o ih = ih o.1

  pub based : (i : ℕ) (y : Host) → Made i hw y → Based y.slaac y.addrs
  based i y m =
      let n = none_of (addrs_of m.start.addrs) m.none_yet in
      based_run m.calls m.run (record { once = m.once; off = λ e. n; prefix = λ h. absurd (true≢false (sym h ∙ n)) })

-- the entries of a table by the addresses that are there
all_has : (P : IfaceAddr → Type 0) (all : List IfaceAddr) → ((e : IfaceAddr) → is_from_slaac e ≡ true → has e.cidr all ≡ true → P e)
    → (before es : List IfaceAddr) → before ++ es ≡ all → All (λ e. is_from_slaac e ≡ true → P e) es
all_has P all f before [] q = tt
all_has P all f before (e ∷ es) q = (
  (λ h. f e h (subst (λ (l : List IfaceAddr). has e.cidr l ≡ true) q (at_seam before h))),
  all_has P all f (before ++ (e ∷ [])) es (append_assoc before (e ∷ []) es ∙ q),
)
  where
    at_seam : (l : List IfaceAddr) → is_from_slaac e ≡ true → has e.cidr (l ++ (e ∷ es)) ≡ true
    at_seam [] h = rw (same_cidr_refl e.cidr, h)
    at_seam (x ∷ l) h = go (is_slaac_addr e.cidr x) (at_seam l h)
      where
        go : (b : Bool) → has e.cidr (l ++ (e ∷ es)) ≡ true → cond b true (has e.cidr (l ++ (e ∷ es))) ≡ true
        go true r = refl
        go false r = r

pub backed : (i : ℕ) (hw : HardwareAddress) (y : Host) → Made i hw y
    → All (λ e. is_from_slaac e ≡ true → Some (FormsWith hw e.cidr) (prefixes_of y.slaac)) (addrs_of y.addrs)
backed i hw y m =
    all_has (λ e. Some (FormsWith hw e.cidr) (prefixes_of y.slaac)) (addrs_of y.addrs) (λ e s h. (based hw e.cidr i y m).prefix h) [] (addrs_of y.addrs) refl

none_by : (es : List IfaceAddr) → ((a : Ipv6Cidr) → has a es ≡ false) → any_of is_from_slaac es ≡ false
none_by [] f = refl
none_by (e ∷ es) f = go (is_from_slaac e) refl (none_by es rest)
  where
    rest : (a : Ipv6Cidr) → has a es ≡ false
    rest a = (either_none (is_slaac_addr a e) (has a es) (f a)).1

    go : (b : Bool) → is_from_slaac e ≡ b → any_of is_from_slaac es ≡ false → cond b true (any_of is_from_slaac es) ≡ false
    go true q ih = absurd (true≢false (sym (simp (same_cidr_refl e.cidr, q)) ∙ (either_none (is_slaac_addr e.cidr e) (has e.cidr es) (f e.cidr)).0))
    go false q ih = ih

pub none_off : (i : ℕ) (hw : HardwareAddress) (y : Host) → Made i hw y → y.slaac.on ≡ false → any_of is_from_slaac (addrs_of y.addrs) ≡ false
none_off i hw y m e = none_by (addrs_of y.addrs) (λ a. (based hw a i y m).off e)
