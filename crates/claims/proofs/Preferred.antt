-- No address deprecated early. Assumes nothing.
use Prim.Native.Nat.{ℕ, ◌≤◌}
use mathlib.Core.Bool.{Bool, true, false, cond}
use mathlib.Core.List.{List, [], ◌∷◌, ◌++◌}
use mathlib.Core.Path.{◌≡◌, refl, sym, ap, ◌∙◌, subst}
use native.Mathlib.Omega.{arith}
use Rattle.std.specs.Prelude.{Result, Ok, Err}
use Rattle.wire.specs.declared.error.Refusal.{Refusal}
use Rattle.claims.proofs.Keeps.{Keeps, keep_run}
use Rattle.claims.proofs.Lists.{entries_with}
use Rattle.claims.proofs.Standing.{same_cidr_lem, at_once, outlasts, put_stands, drop_stands, add_stands, learned_all, leave_all, expired_other, other}
use Rattle.claims.specs.Early.{Host, HostCall, Run, Earlier, Reaches}
use Rattle.claims.specs.Lists.{All}
use Rattle.claims.specs.Preferred.{preferred_in, PreferredTo, StandsPreferred, PrefersTo, Renewing, NotDeprecated}
use Rattle.iface.specs.AddressRules.{addrs_of, with_addrs, is_addr, is_from_slaac, slaac_addr, refreshed, gone, manual_addr, add_addr_by, addr_check, put_addr, drop_addr, first_local}
use Rattle.iface.specs.RouteRules.{put_route, drop_route}
use Rattle.iface.specs.declared.addr.Added.{Added}
use Rattle.iface.specs.declared.addr.IfaceAddr.{IfaceAddr}
use Rattle.iface.specs.declared.addr.IfaceAddrs.{IfaceAddrs}
use Rattle.iface.specs.declared.addr.Preferred.TheVariants.{Until, Never}
use Rattle.iface.specs.declared.addr.Preferred.{Preferred}
use Rattle.slaac.specs.DiscoveryRules.{due as turnDue, sent, solicitation}
use Rattle.slaac.specs.ExpiryRules.{sync_due, leave_expired}
use Rattle.slaac.specs.LearnedRules.{prefixes_of, is_prefix, cidr_of, prefix_of, add_prefix, prefix_ends, expire_prefix, process_prefix_is, add_router, expire_router, process_router_is}
use Rattle.slaac.specs.declared.Prefix.{Prefix}
use Rattle.slaac.specs.declared.Slaac.{Slaac}
use Rattle.ndisc.specs.OptionWalk.{walked, options_of}
use Rattle.ndisc.specs.Rfc4443Checksum.{checksum_of}
use Rattle.ndisc.specs.declared.ndiscoption.PrefixInformation.{PrefixInformation}
use Rattle.autoconf.specs.AdvertRules.{step2, last_source}
use Rattle.autoconf.specs.PollRules.{sync_turn, turn_of, buffer_of, poll_on}
use Rattle.autoconf.specs.SyncRules.{preferred_of, sync_formed, sync_prefix, sync_router, sync_addrs, sync_routes}
use Rattle.table.specs.Table.{if_room, at_first_is, fold_over}
use Rattle.time.specs.ClockRules.{is_after}
use Rattle.time.specs.declared.Expiry.{Expiry}
use Rattle.time.specs.declared.Instant.{Instant}
use Rattle.wire.specs.Rfc2464.{formed_of}
use Rattle.wire.specs.Rfc4291.{same_cidr}
use Rattle.wire.specs.declared.ethernet.HardwareAddress.{HardwareAddress}
use Rattle.wire.specs.declared.ipv6.Formed.TheVariants.{Nothing, Addr}
use Rattle.wire.specs.declared.ipv6.Formed.{Formed}
use Rattle.wire.specs.declared.ipv6.Ipv6Cidr.{Ipv6Cidr}

module _ (w : Expiry) (hw : HardwareAddress) (a : Ipv6Cidr) where
  -- The entry of the address, in a table of addresses

  abbrev till : List IfaceAddr → Type 0
  till es = PreferredTo w (preferred_in a es)

  lift_till : (y : Bool) (q u v : Preferred) → (PreferredTo w u → PreferredTo w v) → PreferredTo w (cond y q u) → PreferredTo w (cond y q v)
  lift_till true q u v f h = h
  lift_till false q u v f h = f h

  -- a put refreshes it, or passes it by
  first_till : (c : Ipv6Cidr) (p : Preferred) (new es : List IfaceAddr) → (same_cidr c a ≡ true → PreferredTo w p) → till es
      → till (at_first_is (is_addr c) (refreshed p) new es)
  first_till c p new [] own h = absurd h
  first_till c p new (e ∷ es) own h = go (is_addr c e) refl (first_till c p new es own)
    where
      by : (y : Bool) → same_cidr e.cidr a ≡ y → is_addr c e ≡ true → PreferredTo w (cond y e.preferred (preferred_in a es))
          → PreferredTo w (cond y p (preferred_in a es))
      by true r q g = own (ap (λ (x : Ipv6Cidr). same_cidr x a) (sym (same_cidr_lem e.cidr c q)) ∙ r)
      by false r q g = g

      same : (z : Bool) → is_addr c e ≡ true → till (cond z (slaac_addr e.cidr p ∷ []) (e ∷ []) ++ es)
      same true q = by (same_cidr e.cidr a) refl q h
      same false q = h

      go : (x : Bool) → is_addr c e ≡ x → (till es → till (at_first_is (is_addr c) (refreshed p) new es))
          → till (cond x (refreshed p e ++ es) (e ∷ at_first_is (is_addr c) (refreshed p) new es))
      go true q f = same (is_from_slaac e) q
      go false q f = lift_till (is_addr a e) e.preferred (preferred_in a es) (preferred_in a (at_first_is (is_addr c) (refreshed p) new es)) f h

  -- another address goes
  drop_till : (c : Ipv6Cidr) → same_cidr c a ≡ false → (es : List IfaceAddr) → till es → till (at_first_is (is_addr c) gone [] es)
  drop_till c n [] h = absurd h
  drop_till c n (e ∷ es) h = go (is_addr c e) refl (drop_till c n es)
    where
      less : (z : Bool) → is_addr c e ≡ true → till (cond z [] (e ∷ []) ++ es)
      less true q = subst (λ (y : Bool). PreferredTo w (cond y e.preferred (preferred_in a es))) (other e.cidr c a q n) h
      less false q = h

      go : (x : Bool) → is_addr c e ≡ x → (till es → till (at_first_is (is_addr c) gone [] es)) → till (cond x (gone e ++ es) (e ∷ at_first_is (is_addr c) gone [] es))
      go true q f = less (is_from_slaac e) q
      go false q f = lift_till (is_addr a e) e.preferred (preferred_in a es) (preferred_in a (at_first_is (is_addr c) gone [] es)) f h

  add_till : (n : IfaceAddr) (es : List IfaceAddr) → till es → till (es ++ (n ∷ []))
  add_till n [] h = absurd h
  add_till n (e ∷ es) h = lift_till (is_addr a e) e.preferred (preferred_in a es) (preferred_in a (es ++ (n ∷ []))) (add_till n es) h

  abbrev good : IfaceAddrs → Type 0
  good t = StandsPreferred w a (addrs_of t)

  good_with : (t : IfaceAddrs) (es : List IfaceAddr) → StandsPreferred w a es → good (with_addrs t es)
  good_with t es h = rw (entries_with t.slots es) h

  good_put : (t : IfaceAddrs) (c : Ipv6Cidr) (p : Preferred) → (same_cidr c a ≡ true → PreferredTo w p) → good t → good (with_addrs t (put_addr c p (addrs_of t)))
  unfolding put_addr
  good_put t c p own h =
      good_with t (at_first_is (is_addr c) (refreshed p) (if_room 8 (addrs_of t) (slaac_addr c p)) (addrs_of t))
      (record {
        there = put_stands a c p (addrs_of t) h.there;
        time = first_till c p (if_room 8 (addrs_of t) (slaac_addr c p)) (addrs_of t) own h.time;
      })

  good_drop : (t : IfaceAddrs) (c : Ipv6Cidr) → same_cidr c a ≡ false → good t → good (with_addrs t (drop_addr c (addrs_of t)))
  unfolding drop_addr
  good_drop t c n h =
      good_with t (at_first_is (is_addr c) gone [] (addrs_of t))
      (record { there = drop_stands a c n (addrs_of t) h.there; time = drop_till c n (addrs_of t) h.time })

  good_added : (x : Result (Unit {0}) Refusal) (t : IfaceAddrs) (c : Ipv6Cidr) → good t → good (add_addr_by x t c).addrs
  good_added (Err why) t c h = h
  good_added (Ok tt) t c h =
      good_with t (addrs_of t ++ (manual_addr c ∷ []))
      (record { there = add_stands a (manual_addr c) (addrs_of t) h.there; time = add_till (manual_addr c) (addrs_of t) h.time })

  -- A sync before w

  abbrev lasts : Prefix → Type 0
  lasts = PrefersTo w hw a

  -- a time of w or later is still to come
  to_come : (now : Instant) (e : Expiry) → Earlier w now → Reaches w e → PreferredTo w (preferred_of now e)
  to_come now e early long = go (is_after e now) refl
    where
      go : (b : Bool) → is_after e now ≡ b → PreferredTo w (cond b (Until e) Never)
      go true q = long
      go false q = absurd (outlasts w e now early long q)

  sync_one : (now : Instant) → Earlier w now → (t : IfaceAddrs) (p : Prefix) → lasts p → good t → good (sync_prefix hw now t p)
  unfolding sync_prefix
  sync_one now early t p l h = go (formed_of hw p.cidr) refl
    where
      at : (c : Ipv6Cidr) → formed_of hw p.cidr ≡ Addr c → (b : Bool) → is_after p.valid_until now ≡ b
          → good (cond {A = IfaceAddrs} b (with_addrs t (put_addr c (preferred_of now p.preferred_until) (addrs_of t))) (with_addrs t (drop_addr c (addrs_of t))))
      at c f true e =
          good_put t c (preferred_of now p.preferred_until)
          (λ q. to_come now p.preferred_until early (l (f ∙ ap Addr (same_cidr_lem c a q))).1) h
      at c f false e = good_drop t c (expired_other w hw a c now p early (λ q. (l q).0) f e) h

      go : (f : Formed) → formed_of hw p.cidr ≡ f → good (sync_formed f now t p)
      go Nothing f = h
      go (Addr c) f = at c f (is_after p.valid_until now) refl

  sync_each : (now : Instant) → Earlier w now → (ps : List Prefix) (t : IfaceAddrs) → All lasts ps → good t → good (fold_over (sync_prefix hw now) t ps)
  sync_each now early [] t l h = h
  sync_each now early (p ∷ ps) t l h = sync_each now early ps (sync_prefix hw now t p) l.1 (sync_one now early t p l.0 h)

  -- The prefixes

  -- an option without a lifetime ends a prefix now, and says that of it
  ends_lasts : (now : Instant) (o : PrefixInformation) → o.valid_lifetime ≤ 0 → lasts (prefix_of o now) → (x : Prefix) → is_prefix (cidr_of o) x ≡ true
      → All lasts (prefix_ends now x)
  ends_lasts now o z g x e =
      ((λ f. let r = at_once w now o.valid_lifetime z (g (ap (formed_of hw) (sym (same_cidr_lem x.cidr (cidr_of o) e)) ∙ f)).0 in (r, r)), tt)

  -- What every call keeps

  record Kept (s : Slaac) (t : IfaceAddrs) : Type 0 where
    stays : good t
    long : All lasts (prefixes_of s)

  kept : (i : ℕ) → Keeps i hw (Renewing i w hw a) (λ s t r. Kept s t)
  unfolding sync_addrs
  kept i = record {
    discovery = λ s t r d g. record { stays = g.stays; long = g.long };
    learns = λ s t r source msg now ok taken g. record { stays = g.stays; long = learned_all lasts ends_lasts s source msg now g.long (ok taken) };
    syncs = λ s t r now ok taken on g. record { stays = sync_each now (ok taken) (prefixes_of s) t g.long g.stays; long = leave_all lasts now s g.long };
    begins = λ s t r e g. record { stays = g.stays; long = tt };
    adds =
        λ s t r c v ok p g.
        record { stays = subst (λ (q : Added). good q.addrs) (sym p.is) (good_added (addr_check i c (addrs_of t)) t c g.stays); long = g.long };
    routes = λ s t r j c via v ok p g. g;
    clears = λ s t r ok g. absurd ok;
    syncs_there = λ s t r j now u n g. g;
    clears_there = λ s t r j n g. g;
  }

  kept_run : {i : ℕ} {x y : Host} {cs : List HostCall} → Run i hw x cs y → All (Renewing i w hw a) cs → Kept x.slaac x.addrs → Kept y.slaac y.addrs
  kept_run {i} r h g = keep_run (Renewing i w hw a) (λ s t r. Kept s t) (kept i) r h g

pub not_deprecated : NotDeprecated
unfolding formed_of walked options_of checksum_of put_addr drop_addr first_local put_route drop_route add_prefix expire_prefix process_prefix_is add_router expire_router process_router_is turnDue sent solicitation sync_due leave_expired step2 last_source sync_prefix sync_router sync_addrs sync_routes turn_of buffer_of sync_turn poll_on
not_deprecated = record {
  address = λ i hw a w x y cs r h l q. (kept_run w hw a r q (record { stays = h; long = l })).stays;
  there = record { there = refl; time = omega arith };
  long = ((λ f. (omega arith, omega arith)), tt);
  before = refl;
  at_last = refl;
}
