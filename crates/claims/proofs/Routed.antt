-- SLAAC's default route by one router among the routes, and the sync of routers. Assumes nothing.
use Prim.Native.Nat.{ℕ, ◌≤◌, ◌<◌}
use borrow.Author.Tests.{eqb-true, eq-eqb}
use lib.Dec.{ltb, eqb}
use lib.ListN.{length, length-append}
use mathlib.Core.Bool.{Bool, true, false, cond, true≢false, not}
use mathlib.Core.List.{List, [], ◌∷◌, ◌++◌}
use mathlib.Core.Logic.{inl, inr, ◌⊎◌}
use mathlib.Core.Path.{◌≡◌, refl, sym, ap, ◌∙◌, subst}
use native.Mathlib.Omega.{arith}
use Rattle.claims.proofs.Lists.{append-nil, entries_with, if_most, some_both, some_kept, any_some, some_any}
use Rattle.claims.proofs.Standing.{same_addr_refl, same_addr_lem, installed_here, installed_via, same_route}
use Rattle.claims.specs.Lists.{All, Some}
use Rattle.autoconf.specs.SyncRules.{sync_router}
use Rattle.iface.specs.AddressRules.{anywhere}
use Rattle.iface.specs.RouteRules.{put_route, drop_route, is_slaac, is_route, is_installed, is_learned, extended, none_left_is, clear_routes, slaac_route, routes_of, with_routes, manual_route}
use Rattle.iface.specs.declared.route.Route.{Route}
use Rattle.iface.specs.declared.route.Routes.{Routes}
use Rattle.neighbor.proofs.Keys.{and_true}
use Rattle.slaac.specs.ExpiryRules.{router_gone}
use Rattle.slaac.specs.LearnedRules.{is_router}
use Rattle.slaac.specs.declared.Router.{Router}
use Rattle.table.proofs.Kept.{dropped_apart}
use Rattle.table.specs.Table.{if_room, at_first_is, any_of, fold_over, kept, dropped}
use Rattle.time.specs.ClockRules.{is_after}
use Rattle.time.specs.declared.Expiry.TheVariants.{At}
use Rattle.time.specs.declared.Instant.{Instant}
use Rattle.wire.specs.Rfc4291.{same_addr}
use Rattle.wire.specs.declared.ipv6.Ipv6Addr.{Ipv6Addr}
use Rattle.wire.specs.declared.ipv6.Ipv6Cidr.{Ipv6Cidr}

-- Lists: the entries that pass

module _ {A : Type 0} (seen : A → Bool) where
  dropped_append : (xs ys : List A) → dropped seen (xs ++ ys) ≡ dropped seen xs ++ dropped seen ys
  dropped_append [] ys = refl
  dropped_append (x ∷ xs) ys = go (seen x) (dropped_append xs ys)
    where
      go : (b : Bool) → dropped seen (xs ++ ys) ≡ dropped seen xs ++ dropped seen ys
          → cond b (x ∷ dropped seen (xs ++ ys)) (dropped seen (xs ++ ys)) ≡ cond b (x ∷ dropped seen xs) (dropped seen xs) ++ dropped seen ys
      go true h = ap (λ (l : List A). x ∷ l) h
      go false h = h

  unseen : (x : A) → seen x ≡ false → dropped seen (x ∷ []) ≡ []
  unseen x h = rw h

  dropped_most : (xs : List A) → length (dropped seen xs) ≤ length xs
  dropped_most [] = omega arith
  dropped_most (x ∷ xs) = go (seen x) (dropped_most xs)
    where
      go : (b : Bool) → length (dropped seen xs) ≤ length xs → length (cond b (x ∷ dropped seen xs) (dropped seen xs)) ≤ length (x ∷ xs)
      go true h = omega arith
      go false h = omega arith

  pub any_dropped : (xs : List A) → any_of seen xs ≡ true → 0 < length (dropped seen xs)
  any_dropped [] h = absurd (true≢false (sym h))
  any_dropped (x ∷ xs) h = go (seen x) h (any_dropped xs)
    where
      go : (b : Bool) → cond b true (any_of seen xs) ≡ true → (any_of seen xs ≡ true → 0 < length (dropped seen xs))
          → 0 < length (cond b (x ∷ dropped seen xs) (dropped seen xs))
      go true g ih = omega arith
      go false g ih = ih g

  pub none_dropped : (xs : List A) → length (dropped seen xs) ≤ 0 → any_of seen xs ≡ false
  none_dropped xs h = go (any_of seen xs) refl
    where
      go : (b : Bool) → any_of seen xs ≡ b → b ≡ false
      go true e = absurd (omega (arith, any_dropped xs e, h))
      go false e = refl

  pub dropped_none : (xs : List A) → any_of seen xs ≡ false → length (dropped seen xs) ≤ 0
  dropped_none [] h = omega arith
  dropped_none (x ∷ xs) h = go (seen x) h (dropped_none xs)
    where
      go : (b : Bool) → cond b true (any_of seen xs) ≡ false → (any_of seen xs ≡ false → length (dropped seen xs) ≤ 0)
          → length (cond b (x ∷ dropped seen xs) (dropped seen xs)) ≤ 0
      go true g ih = absurd (true≢false g)
      go false g ih = ih g

  -- a change of entries that do not pass leaves those that do
  first_apart : (test : A → Bool) (f : A → List A) (new xs : List A) → ((x : A) → test x ≡ true → dropped seen (f x) ≡ dropped seen (x ∷ []))
      → dropped seen new ≡ [] → dropped seen (at_first_is test f new xs) ≡ dropped seen xs
  first_apart test f new [] m n = n
  first_apart test f new (x ∷ xs) m n = go (test x) refl (first_apart test f new xs m n)
    where
      go : (b : Bool) → test x ≡ b → dropped seen (at_first_is test f new xs) ≡ dropped seen xs
          → dropped seen (cond b (f x ++ xs) (x ∷ at_first_is test f new xs)) ≡ dropped seen (x ∷ xs)
      go true e ih = dropped_append (f x) xs ∙ (ap (λ (l : List A). l ++ dropped seen xs) (m x e) ∙ sym (dropped_append (x ∷ []) xs))
      go false e ih = ap (λ (l : List A). cond (seen x) (x ∷ l) l) ih

  kept_none : (test : A → Bool) → ((x : A) → test x ≡ false → seen x ≡ false) → (xs : List A) → length (dropped seen (kept test xs)) ≤ 0
  kept_none test m [] = omega arith
  kept_none test m (x ∷ xs) = go (test x) refl (kept_none test m xs)
    where
      go : (b : Bool) → test x ≡ b → length (dropped seen (kept test xs)) ≤ 0 → length (dropped seen (cond b (kept test xs) (x ∷ kept test xs))) ≤ 0
      go true e ih = ih
      go false e ih = rw (m x e) ih

  -- what is put over the first that passes, or at the end
  first_once : (f : A → List A) (new xs : List A) → ((x : A) → length (f x) ≤ 1) → length new ≤ 1 → length (dropped seen xs) ≤ 1
      → length (dropped seen (at_first_is seen f new xs)) ≤ 1
  first_once f new [] m n h = omega (arith, dropped_most new, n)
  first_once f new (x ∷ xs) m n h = go (seen x) refl h (first_once f new xs m n)
    where
      go : (b : Bool) → seen x ≡ b → length (cond b (x ∷ dropped seen xs) (dropped seen xs)) ≤ 1
          → (length (dropped seen xs) ≤ 1 → length (dropped seen (at_first_is seen f new xs)) ≤ 1)
          → length (dropped seen (cond b (f x ++ xs) (x ∷ at_first_is seen f new xs))) ≤ 1
      go true e g ih =
          omega (arith, g, ap length (dropped_append (f x) xs), length-append (dropped seen (f x)) (dropped seen xs), dropped_most (f x), m x)
      go false e g ih = rw e (ih g)

  first_none : (f : A → List A) (xs : List A) → ((x : A) → f x ≡ []) → length (dropped seen xs) ≤ 1 → length (dropped seen (at_first_is seen f [] xs)) ≤ 0
  first_none f [] m h = omega arith
  first_none f (x ∷ xs) m h = go (seen x) refl h (first_none f xs m)
    where
      go : (b : Bool) → seen x ≡ b → length (cond b (x ∷ dropped seen xs) (dropped seen xs)) ≤ 1
          → (length (dropped seen xs) ≤ 1 → length (dropped seen (at_first_is seen f [] xs)) ≤ 0)
          → length (dropped seen (cond b (f x ++ xs) (x ∷ at_first_is seen f [] xs))) ≤ 0
      go true e g ih = rw (m x) (omega (arith, g))
      go false e g ih = rw e (ih g)

-- The routes, and one router's among them

module _ (i : ℕ) (via : Ipv6Addr) where
  abbrev pub ours : List Route → List Route
  ours es = dropped (is_installed i via) es

  not_ours : (j : ℕ) (by : Ipv6Addr) → (j ≡ i → by ≡ via → ⊥) → (x : Route) → is_installed j by x ≡ true → is_installed i via x ≡ false
  not_ours j by n x e = go (is_installed i via x) refl
    where
      go : (b : Bool) → is_installed i via x ≡ b → b ≡ false
      go true q = let z = same_route i j via by x e q in absurd (n z.0 z.1)
      go false q = refl

  put_apart : (j : ℕ) (by : Ipv6Addr) (until : Instant) → (j ≡ i → by ≡ via → ⊥) → (es : List Route) → ours (put_route j by until es) ≡ ours es
  unfolding put_route
  put_apart j by until n es =
      first_apart (is_installed i via) (is_installed j by) (extended until) (if_room 8 es (slaac_route j by until)) es
      (λ x e. renewed x e ∙ sym (unseen (is_installed i via) x (not_ours j by n x e))) (new (ltb (length es) 8))
    where
      longer : (x : Route) → is_installed j by x ≡ true → is_route i anywhere via x ≡ false
      longer x e = go (is_route i anywhere via x) refl
        where
          go : (b : Bool) → is_route i anywhere via x ≡ b → b ≡ false
          go true q =
              let o : is_slaac x.origin ≡ true = (and_true (is_slaac x.origin) (is_route j anywhere by x) e).0 in
              let y : is_installed i via x ≡ true = rw (o, q) in
              absurd (true≢false (sym y ∙ not_ours j by n x e))
          go false q = refl

      renewed : (x : Route) → is_installed j by x ≡ true → ours (extended until x) ≡ []
      renewed x e = rw (longer x e)

      other : is_installed i via (slaac_route j by until) ≡ false
      other = go (is_installed i via (slaac_route j by until)) refl
        where
          go : (b : Bool) → is_installed i via (slaac_route j by until) ≡ b → b ≡ false
          go true q = absurd (n (installed_here i via (slaac_route j by until) q) (installed_via i via (slaac_route j by until) q))
          go false q = refl

      new : (b : Bool) → ours (cond b (slaac_route j by until ∷ []) []) ≡ []
      new true = unseen (is_installed i via) (slaac_route j by until) other
      new false = refl

  drop_apart : (j : ℕ) (by : Ipv6Addr) → (j ≡ i → by ≡ via → ⊥) → (es : List Route) → ours (drop_route j by es) ≡ ours es
  unfolding drop_route
  drop_apart j by n es = first_apart (is_installed i via) (is_installed j by) none_left_is [] es (λ x e. sym (unseen (is_installed i via) x (not_ours j by n x e))) refl

  pub clear_apart : (j : ℕ) → (j ≡ i → ⊥) → (es : List Route) → ours (clear_routes j es) ≡ ours es
  unfolding clear_routes
  clear_apart j n es = dropped_apart (is_learned j) (is_installed i via) es (λ x e. go x e (is_installed i via x) refl)
    where
      go : (x : Route) → is_learned j x ≡ true → (b : Bool) → is_installed i via x ≡ b → b ≡ false
      go x e true q = absurd (n (sym (eqb-true x.iface j (and_true (is_slaac x.origin) (eqb x.iface j) e).1) ∙ installed_here i via x q))
      go x e false q = refl

  pub learned_of : (x : Route) → is_learned i x ≡ false → is_installed i via x ≡ false
  learned_of x e = go (is_installed i via x) refl
    where
      go : (b : Bool) → is_installed i via x ≡ b → b ≡ false
      go true q =
          let o : is_slaac x.origin ≡ true = (and_true (is_slaac x.origin) (is_route i anywhere via x) q).0 in
          let y : is_learned i x ≡ true = rw (o, eq-eqb x.iface i (installed_here i via x q)) in
          absurd (true≢false (sym y ∙ e))
      go false q = refl

  pub clear_ours : (es : List Route) → length (ours (clear_routes i es)) ≤ 0
  unfolding clear_routes
  clear_ours es = kept_none (is_installed i via) (is_learned i) learned_of es

  put_once : (until : Instant) (es : List Route) → length (ours es) ≤ 1 → length (ours (put_route i via until es)) ≤ 1
  unfolding put_route
  put_once until es h =
      first_once (is_installed i via) (extended until) (if_room 8 es (slaac_route i via until)) es (λ x. omega arith) (if_most (ltb (length es) 8) (slaac_route i via until)) h

  drop_ours : (es : List Route) → length (ours es) ≤ 1 → length (ours (drop_route i via es)) ≤ 0
  unfolding drop_route
  drop_ours es h = first_none (is_installed i via) none_left_is es (λ x. refl) h

  pub add_apart : (j : ℕ) (c : Ipv6Cidr) (by : Ipv6Addr) (es : List Route) → ours (es ++ (manual_route j c by ∷ [])) ≡ ours es
  add_apart j c by es = dropped_append (is_installed i via) es (manual_route j c by ∷ []) ∙ append-nil (ours es)

-- One router of the sync

routes_with_lem : (t : Routes) (es : List Route) → routes_of (with_routes t es) ≡ es
routes_with_lem t es = entries_with t.slots es

pub on_router : (P : List Route → Type 0) (j : ℕ) (now : Instant) (t : Routes) (r : Router)
    → (is_after (At r.valid_until) now ≡ true → P (put_route j r.addr r.valid_until (routes_of t)))
    → (is_after (At r.valid_until) now ≡ false → P (drop_route j r.addr (routes_of t))) → P (routes_of (sync_router j now t r))
unfolding sync_router
on_router P j now t r put drop = go (is_after (At r.valid_until) now) refl
  where
    go : (b : Bool) → is_after (At r.valid_until) now ≡ b
        → P (routes_of (cond {A = Routes} b (with_routes t (put_route j r.addr r.valid_until (routes_of t))) (with_routes t (drop_route j r.addr (routes_of t)))))
    go true e = subst P (sym (routes_with_lem t (put_route j r.addr r.valid_until (routes_of t)))) (put e)
    go false e = subst P (sym (routes_with_lem t (drop_route j r.addr (routes_of t)))) (drop e)

module _ (i : ℕ) (via : Ipv6Addr) where
  -- other interfaces, and other routers
  router_apart : (j : ℕ) (now : Instant) (t : Routes) (r : Router) → (j ≡ i → r.addr ≡ via → ⊥) → ours i via (routes_of (sync_router j now t r)) ≡ ours i via (routes_of t)
  router_apart j now t r n =
      on_router (λ es. ours i via es ≡ ours i via (routes_of t)) j now t r (λ e. put_apart i via j r.addr r.valid_until n (routes_of t))
      (λ e. drop_apart i via j r.addr n (routes_of t))

  pub elsewhere_apart : (j : ℕ) (now : Instant) → (j ≡ i → ⊥) → (rs : List Router) (t : Routes) → ours i via (routes_of (fold_over (sync_router j now) t rs)) ≡ ours i via (routes_of t)
  elsewhere_apart j now n [] t = refl
  elsewhere_apart j now n (r ∷ rs) t = elsewhere_apart j now n rs (sync_router j now t r) ∙ router_apart j now t r (λ same by. n same)

  -- the interface's own
  module _ (now : Instant) where
    abbrev pub Lives : Router → Type 0
    Lives r = (is_router via r ≡ true) × (is_after (At r.valid_until) now ≡ true)

    abbrev Spared : Router → Type 0
    Spared r = is_router via r ≡ true → is_after (At r.valid_until) now ≡ true

    router_once : (t : Routes) (r : Router) → length (ours i via (routes_of t)) ≤ 1 → length (ours i via (routes_of (sync_router i now t r))) ≤ 1
    router_once t r h = go (is_router via r) refl
      where
        go : (b : Bool) → is_router via r ≡ b → length (ours i via (routes_of (sync_router i now t r))) ≤ 1
        go true e =
            on_router (λ es. length (ours i via es) ≤ 1) i now t r
            (λ v.
            subst (λ (a : Ipv6Addr). length (ours i via (put_route i a r.valid_until (routes_of t))) ≤ 1) (sym (same_addr_lem r.addr via e))
            (put_once i via r.valid_until (routes_of t) h))
            (λ v.
            subst (λ (a : Ipv6Addr). length (ours i via (drop_route i a (routes_of t))) ≤ 1) (sym (same_addr_lem r.addr via e))
            (omega (arith, drop_ours i via (routes_of t) h)))
        go false e = subst (λ (l : List Route). length l ≤ 1) (sym (router_apart i now t r (λ same by. other by e))) h
          where
            other : r.addr ≡ via → is_router via r ≡ false → ⊥
            other by q = true≢false (sym (subst (λ (a : Ipv6Addr). same_addr a via ≡ true) (sym by) (same_addr_refl via)) ∙ q)

    router_has : (t : Routes) (r : Router) → length (ours i via (routes_of t)) ≤ 1 → 0 < length (ours i via (routes_of (sync_router i now t r)))
        → ((0 < length (ours i via (routes_of t))) × Spared r) ⊎ Lives r
    router_has t r h = go (is_router via r) refl
      where
        other : r.addr ≡ via → is_router via r ≡ false → ⊥
        other by q = true≢false (sym (subst (λ (a : Ipv6Addr). same_addr a via ≡ true) (sym by) (same_addr_refl via)) ∙ q)

        go : (b : Bool) → is_router via r ≡ b → 0 < length (ours i via (routes_of (sync_router i now t r))) → ((0 < length (ours i via (routes_of t))) × Spared r) ⊎ Lives r
        go true e =
            on_router (λ es. 0 < length (ours i via es) → ((0 < length (ours i via (routes_of t))) × Spared r) ⊎ Lives r) i now t r (λ v g. inr (e, v))
            (λ v g.
            let z : 0 < length (ours i via (drop_route i via (routes_of t))) =
            subst (λ (a : Ipv6Addr). 0 < length (ours i via (drop_route i a (routes_of t)))) (same_addr_lem r.addr via e) g in
            absurd (omega (arith, z, drop_ours i via (routes_of t) h)))
        go false e =
            λ g.
            inl (subst (λ (l : List Route). 0 < length l) (router_apart i now t r (λ same by. other by e)) g, λ q. absurd (true≢false (sym q ∙ e)))

    pub routers_once : (rs : List Router) (t : Routes) → length (ours i via (routes_of t)) ≤ 1 → length (ours i via (routes_of (fold_over (sync_router i now) t rs))) ≤ 1
    routers_once [] t h = h
    routers_once (r ∷ rs) t h = routers_once rs (sync_router i now t r) (router_once t r h)

    routers_has : (rs : List Router) (t : Routes) → length (ours i via (routes_of t)) ≤ 1 → 0 < length (ours i via (routes_of (fold_over (sync_router i now) t rs)))
        → ((0 < length (ours i via (routes_of t))) × All Spared rs) ⊎ Some Lives rs
    routers_has [] t o h = inl (h, tt)
    routers_has (r ∷ rs) t o h = go (routers_has rs (sync_router i now t r) (router_once t r o) h) (router_has t r o)
      where
        one : All Spared rs → ((0 < length (ours i via (routes_of t))) × Spared r) ⊎ Lives r
            → ((0 < length (ours i via (routes_of t))) × All Spared (r ∷ rs)) ⊎ Some Lives (r ∷ rs)
        one l (inl g) = inl (g.0, (g.1, l))
        one l (inr g) = inr (inl g)

        go : ((0 < length (ours i via (routes_of (sync_router i now t r)))) × All Spared rs) ⊎ Some Lives rs
            → (0 < length (ours i via (routes_of (sync_router i now t r))) → ((0 < length (ours i via (routes_of t))) × Spared r) ⊎ Lives r)
            → ((0 < length (ours i via (routes_of t))) × All Spared (r ∷ rs)) ⊎ Some Lives (r ∷ rs)
        go (inr g) f = inr (inr g)
        go (inl g) f = one g.1 (f g.0)

    pub routers_live : (rs : List Router) (t : Routes) → length (ours i via (routes_of t)) ≤ 1 → (0 < length (ours i via (routes_of t)) → any_of (is_router via) rs ≡ true)
        → 0 < length (ours i via (routes_of (fold_over (sync_router i now) t rs))) → Some Lives rs
    routers_live rs t o b h = go (routers_has rs t o h)
      where
        go : ((0 < length (ours i via (routes_of t))) × All Spared rs) ⊎ Some Lives rs → Some Lives rs
        go (inl g) = some_both (λ r. is_router via r ≡ true) (λ r. is_after (At r.valid_until) now ≡ true) rs (some_any (is_router via) rs (b g.0)) g.1
        go (inr g) = g

    pub lives_on : (rs : List Router) → Some Lives rs → any_of (is_router via) (kept (router_gone now) rs) ≡ true
    lives_on rs h = any_some (is_router via) (kept (router_gone now) rs) (some_kept Lives (λ r. is_router via r ≡ true) (router_gone now) (λ r g. (ap not g.1, g.0)) rs h)
