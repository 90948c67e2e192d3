-- Laws of the sync.
use Prim.Native.Nat.{ℕ, ◌+◌, ◌<◌, ◌≤◌, min}
use borrow.Author.Tests.{lt-ltb, le-ltb}
use lib.ListN.{length, take, drop, get_or, set, drop_of_length-le}
use mathlib.Core.Bool.{Bool, true, false}
use mathlib.Core.List.{List, [], ◌∷◌}
use mathlib.Core.Path.{◌≡◌, ap, sym, ◌∙◌}
use native.Mathlib.Omega.{arith}
use Rattle.iface.proofs.Addresses.{addrs_made}
use Rattle.iface.proofs.Routes.{routes_made}
use Rattle.iface.specs.AddressRules.{addrs_of, with_addrs, no_addr, is_addr, is_from_slaac, slaac_addr, refreshed, put_addr, drop_addr}
use Rattle.table.specs.Table.{if_room, at_first_is, first_from, fold_over}
use Rattle.iface.specs.RouteRules.{routes_of, with_routes, is_installed, slaac_route, extended, put_route, drop_route}
use Rattle.iface.specs.declared.addr.IfaceAddr.{IfaceAddr}
use Rattle.iface.specs.declared.addr.IfaceAddrs.{IfaceAddrs}
use Rattle.iface.specs.declared.addr.Preferred.{Preferred}
use Rattle.iface.specs.declared.route.Route.{Route}
use Rattle.iface.specs.declared.route.Routes.{Routes}
use Rattle.slaac.specs.declared.Prefix.{Prefix}
use Rattle.slaac.specs.declared.Router.{Router}
use Rattle.autoconf.specs.SyncRules.{preferred_of, sync_formed, sync_prefix, sync_router}
use Rattle.table.proofs.Laws.{Made, Finding, counted, take_count, found_over, found_stays, absent_end, absent_stays}
use Rattle.table.specs.Calls.{place_of}
use Rattle.std.proofs.Common.{Option, Some, None}
use Rattle.slaac.proofs.SlotLaws.{placed, unplaced, sought, passes}
use Rattle.time.specs.ClockRules.{is_after}
use Rattle.time.specs.declared.Expiry.TheVariants.{At}
use Rattle.time.specs.declared.Instant.{Instant}
use Rattle.wire.specs.Rfc2464.{formed_of}
use Rattle.wire.specs.declared.ethernet.HardwareAddress.{HardwareAddress}
use Rattle.wire.specs.declared.ipv6.Formed.TheVariants.{Nothing, Addr}
use Rattle.wire.specs.declared.ipv6.Formed.{Formed}
use Rattle.wire.specs.declared.ipv6.Ipv6Cidr.{Ipv6Cidr}

-- A table of 8 with `x` put into it: the first entry that passes becomes `f` of it, and where none passes `x` comes at the end, if there is room
abbrev pub Put : {A : Type 0} → (A → Bool) → (A → List A) → A → List A → ℕ → List A → ℕ → Type 0
Put test f x s k t m = Made s (at_first_is test f (if_room 8 (take k s) x) (take k s)) t m

-- The answer of the search in it: `k` is the count, which may be above the size, after it has been cut
module _ {A : Type 0} (d : A) (test : A → Bool) (f : A → List A) (x : A) (s : List A) (n k : ℕ) (r : Option ℕ) (full : length s ≡ 8) (e : k ≡ min n 8)
    (p : r ≡ place_of test (take k s)) where
  abbrev new : List A
  new = if_room 8 (take n s) x

  module _ (i : ℕ) (h : r ≡ Some i) where
    at : (i ≡ first_from test 0 (take k s)) × (i < k)
    at = placed test s k r p i h

    inv : Finding 8 test f new s n k i
    inv = sought 8 test s n k i full e at.0 f new

    here : test (get_or s i d) ≡ true
    here = passes 8 test s n k i full e at.0 d at.1

    pub put_over_lem : (y : A) → f (get_or s i d) ≡ y ∷ [] → Put test f x s n (set s i y) k
    put_over_lem y q = found_over d inv at.1 here y q

    pub put_stays : f (get_or s i d) ≡ get_or s i d ∷ [] → Put test f x s n s k
    put_stays q = found_stays d inv at.1 here q

  module _ (h : r ≡ None) where
    missed : Finding 8 test f new s n k k
    missed = sought 8 test s n k k full e (unplaced test s k r p n (rw full e) h) f new

    past : k ≤ k
    past = omega arith

    pub put_end : k < 8 → Put test f x s n (set s k x) (k + 1)
    put_end l = absent_end d missed past x l (simp (lt-ltb (length (take n s)) 8 (omega (arith, missed.count))))

    pub put_none : 8 ≤ k → Put test f x s n s k
    put_none l = absent_stays d missed past (simp (le-ltb (length (take n s)) 8 (omega (arith, missed.count))))

-- Of the addresses: one that SLAAC installed takes the new preferred time, the application's stays
module _ (a : Ipv6Cidr) (q : Preferred) (s : List IfaceAddr) (n k : ℕ) (r : Option ℕ) (full : length s ≡ 8) (e : k ≡ min n 8)
    (p : r ≡ place_of (is_addr a) (take k s)) (i : ℕ) (h : r ≡ Some i) where
  pub put_refreshed : is_from_slaac (get_or s i no_addr) ≡ true
      → Put (is_addr a) (refreshed q) (slaac_addr a q) s n (set s i (slaac_addr (get_or s i no_addr).cidr q)) k
  put_refreshed o = put_over_lem no_addr (is_addr a) (refreshed q) (slaac_addr a q) s n k r full e p i h _ (simp o)

  pub put_spared : is_from_slaac (get_or s i no_addr) ≡ false → Put (is_addr a) (refreshed q) (slaac_addr a q) s n s k
  put_spared o = put_stays no_addr (is_addr a) (refreshed q) (slaac_addr a q) s n k r full e p i h (simp o)

module _ (hw : HardwareAddress) (now : Instant) (t : IfaceAddrs) (p : Prefix) where
  pub sync_nothing : formed_of hw p.cidr ≡ Nothing → t ≡ sync_prefix hw now t p
  unfolding sync_prefix
  sync_nothing e = ap (λ (f : Formed). sync_formed f now t p) (sym e)

  addr_put : (a : Ipv6Cidr) (q : Preferred) (s : List IfaceAddr) (m : ℕ) → Put (is_addr a) (refreshed q) (slaac_addr a q) t.slots t.len s m
      → ◌≡◌ {A = IfaceAddrs} (record { slots = s; len = m }) (with_addrs t (put_addr a q (addrs_of t)))
  unfolding put_addr
  addr_put a q s m w = addrs_made t _ s m w

  pub sync_put : (a : Ipv6Cidr) (q : Preferred) (s : List IfaceAddr) (m : ℕ) → formed_of hw p.cidr ≡ Addr a
      → is_after p.valid_until now ≡ true → q ≡ preferred_of now p.preferred_until
      → Put (is_addr a) (refreshed q) (slaac_addr a q) t.slots t.len s m
      → ◌≡◌ {A = IfaceAddrs} (record { slots = s; len = m }) (sync_prefix hw now t p)
  unfolding sync_prefix
  sync_put a q s m e v f w = simp (e, v) (addr_put a q s m w ∙ ap (λ (x : Preferred). with_addrs t (put_addr a x (addrs_of t))) f)

  pub sync_drop : (a : Ipv6Cidr) (r : IfaceAddrs) → formed_of hw p.cidr ≡ Addr a → is_after p.valid_until now ≡ false
      → r ≡ with_addrs t (drop_addr a (addrs_of t)) → r ≡ sync_prefix hw now t p
  unfolding sync_prefix
  sync_drop a r e v g = simp (e, v) g

module _ (iface : ℕ) (now : Instant) (t : Routes) (p : Router) where
  pub route_put : (s : List Route) (m : ℕ) → is_after (At p.valid_until) now ≡ true
      → Put (is_installed iface p.addr) (extended p.valid_until) (slaac_route iface p.addr p.valid_until) t.slots t.len s m
      → ◌≡◌ {A = Routes} (record { slots = s; len = m }) (sync_router iface now t p)
  unfolding sync_router put_route
  route_put s m v w = simp v (routes_made t _ s m w)

  pub route_drop : (r : Routes) → is_after (At p.valid_until) now ≡ false → r ≡ with_routes t (drop_route iface p.addr (routes_of t))
      → r ≡ sync_router iface now t p
  unfolding sync_router
  route_drop r v g = simp v g

-- the loop over the first k slots: those from `i` on are still to come
pub record Stepping {A B : Type 0} (step : B → A → B) (b₀ : B) (es : List A) (i : ℕ) (b : B) : Type 0 where
  pub same : fold_over step b (drop i es) ≡ fold_over step b₀ es

module _ {A B : Type 0} (d : A) {step : B → A → B} {b₀ : B} {es : List A} {i : ℕ} {b : B} (inv : Stepping step b₀ es i b) where
  pub stepped : (s : List A) (n size k : ℕ) → es ≡ take k s → length s ≡ size → k ≡ min n size → length es ≤ i → b ≡ fold_over step b₀ (take n s)
  stepped s n size k e full c h =
      let a : fold_over step b (drop i es) ≡ b = simp (drop_of_length-le es h) in
      sym a ∙ (inv.same ∙ ap (fold_over step b₀) (e ∙ take_count s n k (counted s n size k full c)))
