-- Laws of what is learned.
use Prim.Native.Nat.{ℕ, ◌+◌, ◌<◌, ◌≤◌, min}
use Rattle.std.proofs.Common.{Option, Some, None}
use Rattle.slaac.proofs.SlotLaws.{placed, unplaced, sought, passes}
use Rattle.table.specs.Calls.{place_of}
use Rattle.time.specs.declared.Expiry.TheVariants.{At}
use borrow.Author.Tests.{lt-ltb, le-ltb}
use lib.Dec.{ltb}
use lib.ListN.{length, take, get_or, set}
use mathlib.Core.Bool.{Bool, true, false, ◌||◌, not}
use mathlib.Core.List.{List, [], ◌∷◌}
use mathlib.Core.Path.{◌≡◌, refl, ap, sym, ◌∙◌}
use native.Mathlib.Omega.{arith}
use Rattle.slaac.specs.Fields.{with_prefixes, with_routers, with_sync}
use Rattle.slaac.specs.LearnedRules.{no_prefix, no_router, prefixes_of, routers_of, is_prefix, is_router, cidr_of, prefix_of, put_over, prefix_ends, router_ends, having_prefixes, having_routers, add_prefix, expire_prefix, process_prefix_is, add_router, expire_router, process_router_is, is_skipped}
use Rattle.slaac.specs.Slots.{PutTo}
use Rattle.table.specs.Table.{filled, at_first_is, any_of, if_room}
use Rattle.slaac.specs.declared.Prefix.{Prefix}
use Rattle.slaac.specs.declared.Router.{Router}
use Rattle.slaac.specs.declared.Slaac.{Slaac}
use Rattle.ndisc.specs.declared.ndiscoption.PrefixInformation.{PrefixInformation}
use Rattle.table.proofs.Laws.{Made, Finding, found_over, found_any, absent_end, absent_stays, absent_any}
use Rattle.time.specs.TimeRules.{add_of}
use Rattle.time.specs.declared.Duration.{Duration}
use Rattle.time.specs.declared.Instant.{Instant}
use Rattle.wire.specs.declared.ipv6.Ipv6Addr.{Ipv6Addr}
use Rattle.wire.specs.declared.ipv6.Ipv6Cidr.{Ipv6Cidr}

pub not-true : (b : Bool) → not b ≡ true → b ≡ false
not-true true e = sym e
not-true false e = refl

pub not-false : (b : Bool) → not b ≡ false → b ≡ true
not-false true e = refl
not-false false e = sym e

-- a sync is asked for by a match
met_alone : (b a : Bool) → a ≡ true → true ≡ (b || a)
met_alone true a e = refl
met_alone false a e = sym e

none_alone : (b a : Bool) → a ≡ false → b ≡ (b || a)
none_alone true a e = refl
none_alone false a e = sym e

-- Prefixes

-- SLAAC with other slots, another count, another request
abbrev pub prefixed : Slaac → List Prefix → ℕ → Bool → Slaac
prefixed s t n sync = with_sync (with_prefixes s t n) sync

prefixes_made : (s : Slaac) (es t : List Prefix) (n : ℕ) (b b' : Bool) → Made s.prefixes es t n → b ≡ b'
    → prefixed s t n b ≡ with_sync (having_prefixes s es) b'
prefixes_made s es t n b b' m e = λ i. prefixed s (m.slots i) (m.count i) (e i)

pub prefix_put : (s : Slaac) (p : Prefix) (t : List Prefix) (n : ℕ) (put : Bool) → length s.prefixes ≡ 4
    → PutTo (is_prefix p.cidr) p s.prefixes s.prefix_count t n put → prefixed s t n (s.sync_required || put) ≡ add_prefix s p
unfolding add_prefix
prefix_put s p t n put full w =
    let es : ℕ → List Prefix = λ size. at_first_is (is_prefix p.cidr) (put_over p) (if_room size (prefixes_of s) p) (prefixes_of s) in
    let asks : ℕ → Bool = λ size. s.sync_required || (any_of (is_prefix p.cidr) (prefixes_of s) || ltb (length (prefixes_of s)) size) in
    prefixes_made s (es 4) t n (s.sync_required || put) (asks 4)
    (record { slots = w.slots ∙ ap (λ (m : ℕ). filled s.prefixes (es m)) full; count = w.count ∙ ap (λ (m : ℕ). length (es m)) full })
    (ap (λ (b : Bool). s.sync_required || b) w.told ∙ ap asks full)

module _ (s : Slaac) (p : Prefix) (k i : ℕ)
    (inv : Finding 4 (is_prefix p.cidr) (put_over p) (if_room 4 (prefixes_of s) p) s.prefixes s.prefix_count k i) where
  pub prefix_end_lem : k ≤ i → k < 4 → prefixed s (set s.prefixes k p) (k + 1) true ≡ add_prefix s p
  unfolding add_prefix
  prefix_end_lem h l =
      let c : length (prefixes_of s) < 4 = omega (arith, inv.count) in
      prefixes_made s _ _ (k + 1) true _ (absent_end no_prefix inv h p l (simp (lt-ltb (length (prefixes_of s)) 4 c)))
      (met_alone s.sync_required _ (simp (absent_any no_prefix inv h, lt-ltb (length (prefixes_of s)) 4 c)))

module _ (s : Slaac) (a : Ipv6Cidr) (now : Instant) (k i : ℕ) (inv : Finding 4 (is_prefix a) (prefix_ends now) [] s.prefixes s.prefix_count k i) where
  pub prefix_ends_lem : (e : Prefix) → i < k → is_prefix a (get_or s.prefixes i no_prefix) ≡ true → prefix_ends now (get_or s.prefixes i no_prefix) ≡ e ∷ []
      → prefixed s (set s.prefixes i e) k true ≡ expire_prefix s a now
  unfolding expire_prefix
  prefix_ends_lem e h q g =
      prefixes_made s _ _ k true _ (found_over no_prefix inv h q e g) (met_alone s.sync_required _ (found_any no_prefix inv h q))

module _ (s : Slaac) (a : Ipv6Cidr) (now : Instant) (k : ℕ) (r : Option ℕ) (full : length s.prefixes ≡ 4) (e : k ≡ min s.prefix_count 4)
    (p : r ≡ place_of (is_prefix a) (take k s.prefixes)) where
  pub prefix_found : (i : ℕ) → r ≡ Some i → prefixed s (set s.prefixes i (record { cidr = (get_or s.prefixes i no_prefix).cidr; preferred_until = At now; valid_until = At now })) k true ≡ expire_prefix s a now
  unfolding expire_prefix
  prefix_found i h =
      let w = placed (is_prefix a) s.prefixes k r p i h in
      let inv = sought 4 (is_prefix a) s.prefixes s.prefix_count k i full e w.0 (prefix_ends now) [] in
      let here = passes 4 (is_prefix a) s.prefixes s.prefix_count k i full e w.0 no_prefix w.1 in
      prefixes_made s _ _ k true _ (found_over no_prefix inv w.1 here _ refl) (met_alone s.sync_required _ (found_any no_prefix inv w.1 here))

  pub prefix_absent : r ≡ None → prefixed s s.prefixes k s.sync_required ≡ expire_prefix s a now
  unfolding expire_prefix
  prefix_absent h =
      let w = unplaced (is_prefix a) s.prefixes k r p s.prefix_count (rw full e) h in
      let inv = sought 4 (is_prefix a) s.prefixes s.prefix_count k k full e w (prefix_ends now) [] in
      let past : k ≤ k = omega arith in
      prefixes_made s _ _ k _ _ (absent_stays no_prefix inv past refl) (none_alone s.sync_required _ (absent_any no_prefix inv past))

-- Routers

-- SLAAC with other slots, another count, another request
abbrev pub routered : Slaac → List Router → ℕ → Bool → Slaac
routered s t n sync = with_sync (with_routers s t n) sync

routers_made : (s : Slaac) (es t : List Router) (n : ℕ) (b b' : Bool) → Made s.routers es t n → b ≡ b'
    → routered s t n b ≡ with_sync (having_routers s es) b'
routers_made s es t n b b' m e = λ i. routered s (m.slots i) (m.count i) (e i)

pub router_put : (s : Slaac) (p : Router) (t : List Router) (n : ℕ) (put : Bool) → length s.routers ≡ 2
    → PutTo (is_router p.addr) p s.routers s.router_count t n put → routered s t n (s.sync_required || put) ≡ add_router s p
unfolding add_router
router_put s p t n put full w =
    let es : ℕ → List Router = λ size. at_first_is (is_router p.addr) (put_over p) (if_room size (routers_of s) p) (routers_of s) in
    let asks : ℕ → Bool = λ size. s.sync_required || (any_of (is_router p.addr) (routers_of s) || ltb (length (routers_of s)) size) in
    routers_made s (es 2) t n (s.sync_required || put) (asks 2)
    (record { slots = w.slots ∙ ap (λ (m : ℕ). filled s.routers (es m)) full; count = w.count ∙ ap (λ (m : ℕ). length (es m)) full })
    (ap (λ (b : Bool). s.sync_required || b) w.told ∙ ap asks full)

module _ (s : Slaac) (p : Router) (k i : ℕ)
    (inv : Finding 2 (is_router p.addr) (put_over p) (if_room 2 (routers_of s) p) s.routers s.router_count k i) where
  pub router_end_lem : k ≤ i → k < 2 → routered s (set s.routers k p) (k + 1) true ≡ add_router s p
  unfolding add_router
  router_end_lem h l =
      let c : length (routers_of s) < 2 = omega (arith, inv.count) in
      routers_made s _ _ (k + 1) true _ (absent_end no_router inv h p l (simp (lt-ltb (length (routers_of s)) 2 c)))
      (met_alone s.sync_required _ (simp (absent_any no_router inv h, lt-ltb (length (routers_of s)) 2 c)))

module _ (s : Slaac) (a : Ipv6Addr) (now : Instant) (k i : ℕ) (inv : Finding 2 (is_router a) (router_ends now) [] s.routers s.router_count k i) where
  pub router_ends_lem : (e : Router) → i < k → is_router a (get_or s.routers i no_router) ≡ true → router_ends now (get_or s.routers i no_router) ≡ e ∷ []
      → routered s (set s.routers i e) k true ≡ expire_router s a now
  unfolding expire_router
  router_ends_lem e h q g =
      routers_made s _ _ k true _ (found_over no_router inv h q e g) (met_alone s.sync_required _ (found_any no_router inv h q))

module _ (s : Slaac) (a : Ipv6Addr) (now : Instant) (k : ℕ) (r : Option ℕ) (full : length s.routers ≡ 2) (e : k ≡ min s.router_count 2)
    (p : r ≡ place_of (is_router a) (take k s.routers)) where
  pub router_found : (i : ℕ) → r ≡ Some i → routered s (set s.routers i (record { addr = (get_or s.routers i no_router).addr; valid_until = now })) k true ≡ expire_router s a now
  unfolding expire_router
  router_found i h =
      let w = placed (is_router a) s.routers k r p i h in
      let inv = sought 2 (is_router a) s.routers s.router_count k i full e w.0 (router_ends now) [] in
      let here = passes 2 (is_router a) s.routers s.router_count k i full e w.0 no_router w.1 in
      routers_made s _ _ k true _ (found_over no_router inv w.1 here _ refl) (met_alone s.sync_required _ (found_any no_router inv w.1 here))

  pub router_absent : r ≡ None → routered s s.routers k s.sync_required ≡ expire_router s a now
  unfolding expire_router
  router_absent h =
      let w = unplaced (is_router a) s.routers k r p s.router_count (rw full e) h in
      let inv = sought 2 (is_router a) s.routers s.router_count k k full e w (router_ends now) [] in
      let past : k ≤ k = omega arith in
      routers_made s _ _ k _ _ (absent_stays no_router inv past refl) (none_alone s.sync_required _ (absent_any no_router inv past))

-- Step 2, one option

module _ (now : Instant) (s : Slaac) (o : PrefixInformation) where
  pub prefix_skipped : is_skipped o ≡ true → s ≡ process_prefix_is now s o
  unfolding process_prefix_is
  prefix_skipped e = simp e

  pub prefix_added : (p : Prefix) (r : Slaac) → is_skipped o ≡ false → 0 < o.valid_lifetime → p ≡ prefix_of o now → r ≡ add_prefix s p
      → r ≡ process_prefix_is now s o
  unfolding process_prefix_is
  prefix_added p r e h f g = simp (e, lt-ltb 0 o.valid_lifetime h) (g ∙ ap (λ (x : Prefix). add_prefix s x) f)

  pub prefix_expired : (x : Ipv6Cidr) (r : Slaac) → is_skipped o ≡ false → o.valid_lifetime ≤ 0 → x ≡ cidr_of o → r ≡ expire_prefix s x now
      → r ≡ process_prefix_is now s o
  unfolding process_prefix_is
  prefix_expired x r e h f g = simp (e, le-ltb 0 o.valid_lifetime h) (g ∙ ap (λ (y : Ipv6Cidr). expire_prefix s y now) f)

-- Step 3

module _ (now : Instant) (s : Slaac) (a : Ipv6Addr) (d : Duration) where
  pub router_added : (t : Instant) (r : Slaac) → 0 < d.0 → t ≡ add_of now d → r ≡ add_router s (record { addr = a; valid_until = t })
      → r ≡ process_router_is now s a d
  unfolding process_router_is
  router_added t r h f g = simp (lt-ltb 0 d.0 h) (g ∙ ap (λ (x : Instant). add_router s (record { addr = a; valid_until = x })) f)

  pub router_expired : (r : Slaac) → d.0 ≤ 0 → r ≡ expire_router s a now → r ≡ process_router_is now s a d
  unfolding process_router_is
  router_expired r h g = simp (le-ltb 0 d.0 h) g
