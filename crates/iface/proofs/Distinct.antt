-- No address twice: a new table has none, each call keeps it so, and then the sync's rules are those of the SLAAC entry. Assumes nothing.
use Prim.Native.Nat.{ℕ, ◌+◌, ◌≤◌}
use borrow.Author.Tests.{eqb-true}
use lib.Dec.{ltb, leb, eqb}
use lib.ListN.{length, drop}
use lib.Seq.{take-append_seam}
use mathlib.Core.Bool.{Bool, true, false, cond, ◌&&◌, true≢false}
use mathlib.Core.List.{List, [], ◌∷◌, ◌++◌, append-nil}
use mathlib.Core.Path.{◌≡◌, refl, ap, sym, ◌∙◌, subst}
use native.Mathlib.Omega.{arith}
use Rattle.std.specs.Prelude.{Ok, Err}
use Rattle.iface.specs.AddressRules.{addrs_of, with_addrs, empty_addrs, is_from_slaac, is_addr, manual_addr, add_addr_by, AddedTo, slaac_addr, refreshed, put_addr, gone, drop_addr, clear_addrs}
use Rattle.iface.specs.Distinct.{entries_of, Distinct, AddrsOnce, is_slaac_addr, renewed, put_slaac, leaving, drop_slaac, AddrsOnceLaw}
use Rattle.iface.specs.declared.addr.Added.{Added}
use Rattle.iface.specs.declared.addr.IfaceAddr.{IfaceAddr}
use Rattle.iface.specs.declared.addr.IfaceAddrs.{IfaceAddrs}
use Rattle.iface.specs.declared.addr.Preferred.{Preferred}
use Rattle.table.specs.Table.{kept, dropped, at_first_is, any_of, if_room}
use Rattle.wire.specs.Rfc4291.{same_addr, same_cidr}
use Rattle.wire.specs.declared.error.Refusal.TheVariants.{NoSuchIface, PrefixTooLong, Duplicate, Full}
use Rattle.wire.specs.declared.ipv6.Ipv6Addr.{Ipv6Addr}
use Rattle.wire.specs.declared.ipv6.Ipv6Cidr.{Ipv6Cidr}

-- Equal addresses, tested and stated

both : (x y : Bool) → (x && y) ≡ true → (x ≡ true) × (y ≡ true)
both true y e = (refl, e)
both false y e = absurd (true≢false (sym e))

same_addr_lem : (a b : Ipv6Addr) → same_addr a b ≡ true → a ≡ b
same_addr_lem a b e = λ i. record { hi = eqb-true a.hi b.hi x.0 i; lo = eqb-true a.lo b.lo x.1 i }
  where
    x : (eqb a.hi b.hi ≡ true) × (eqb a.lo b.lo ≡ true)
    x = both _ _ e

same_cidr_lem : (a b : Ipv6Cidr) → same_cidr a b ≡ true → a ≡ b
same_cidr_lem a b e =
    λ i. record { address = same_addr_lem a.address b.address x.0 i; prefix_len = eqb-true a.prefix_len b.prefix_len x.1 i }
  where
    x : (same_addr a.address b.address ≡ true) × (eqb a.prefix_len b.prefix_len ≡ true)
    x = both _ _ e

-- The first entry that passes, and one at the end

module _ {A : Type 0} (test : A → Bool) (f : A → List A) (new : List A) where
  first_there : (es : List A) → any_of test es ≡ true → at_first_is test f new es ≡ at_first_is test f [] es
  first_there [] h = absurd (true≢false (sym h))
  first_there (e ∷ es) h = go (test e) h (first_there es)
    where
      go : (x : Bool) → cond x true (any_of test es) ≡ true → (any_of test es ≡ true → at_first_is test f new es ≡ at_first_is test f [] es)
          → cond x (f e ++ es) (e ∷ at_first_is test f new es) ≡ cond x (f e ++ es) (e ∷ at_first_is test f [] es)
      go true g k = refl
      go false g k = ap (λ (l : List A). e ∷ l) (k g)

  first_missing : (es : List A) → any_of test es ≡ false → at_first_is test f new es ≡ es ++ new
  first_missing [] h = refl
  first_missing (e ∷ es) h = go (test e) h (first_missing es)
    where
      go : (x : Bool) → cond x true (any_of test es) ≡ false → (any_of test es ≡ false → at_first_is test f new es ≡ es ++ new)
          → cond x (f e ++ es) (e ∷ at_first_is test f new es) ≡ e ∷ (es ++ new)
      go true g k = absurd (true≢false g)
      go false g k = ap (λ (l : List A). e ∷ l) (k g)

module _ {A : Type 0} (test : A → Bool) where
  none_listed : (es : List A) → any_of test es ≡ false → length (dropped test es) ≤ 0
  none_listed [] h = omega arith
  none_listed (e ∷ es) h = go (test e) h (none_listed es)
    where
      go : (x : Bool) → cond x true (any_of test es) ≡ false → (any_of test es ≡ false → length (dropped test es) ≤ 0)
          → length (cond x (e ∷ dropped test es) (dropped test es)) ≤ 0
      go true g k = absurd (true≢false g)
      go false g k = k g

  at_end : (es : List A) (x : A) → length (dropped test (es ++ (x ∷ []))) ≤ length (dropped test es) + length (dropped test (x ∷ []))
  at_end [] x = omega arith
  at_end (e ∷ es) x = go (test e) (at_end es x)
    where
      go : (b : Bool) → length (dropped test (es ++ (x ∷ []))) ≤ length (dropped test es) + length (dropped test (x ∷ []))
          → length (cond b (e ∷ dropped test (es ++ (x ∷ []))) (dropped test (es ++ (x ∷ []))))
          ≤ length (cond b (e ∷ dropped test es) (dropped test es)) + length (dropped test (x ∷ []))
      go true h = omega arith
      go false h = h

-- No more entries of an address than before

one_more : (b : Bool) (x y : IfaceAddr) (xs ys : List IfaceAddr) → length xs ≤ length ys → length (cond b (x ∷ xs) xs) ≤ length (cond b (y ∷ ys) ys)
one_more true x y xs ys h = omega arith
one_more false x y xs ys h = h

one_less : (b : Bool) (x : IfaceAddr) (xs : List IfaceAddr) → length xs ≤ length (cond b (x ∷ xs) xs)
one_less true x xs = omega arith
one_less false x xs = omega arith

module _ (a : Ipv6Cidr) where
  first_few : (c : Ipv6Cidr) (f : IfaceAddr → List IfaceAddr)
      → ((e : IfaceAddr) (es : List IfaceAddr) → length (entries_of a (f e ++ es)) ≤ length (entries_of a (e ∷ es)))
      → (es : List IfaceAddr) → length (entries_of a (at_first_is (is_addr c) f [] es)) ≤ length (entries_of a es)
  first_few c f few [] = omega arith
  first_few c f few (e ∷ es) = go (is_addr c e) (first_few c f few es)
    where
      go : (x : Bool) → length (entries_of a (at_first_is (is_addr c) f [] es)) ≤ length (entries_of a es)
          → length (entries_of a (cond x (f e ++ es) (e ∷ at_first_is (is_addr c) f [] es))) ≤ length (entries_of a (e ∷ es))
      go true h = few e es
      go false h = one_more (is_addr a e) e e _ _ h

  refreshed_few : (p : Preferred) (e : IfaceAddr) (es : List IfaceAddr) → length (entries_of a (refreshed p e ++ es)) ≤ length (entries_of a (e ∷ es))
  refreshed_few p e es = go (is_from_slaac e)
    where
      go : (x : Bool) → length (entries_of a (cond x (slaac_addr e.cidr p ∷ []) (e ∷ []) ++ es)) ≤ length (entries_of a (e ∷ es))
      go true = one_more (is_addr a e) (slaac_addr e.cidr p) e (entries_of a es) (entries_of a es) (omega arith)
      go false = omega arith

  gone_few : (e : IfaceAddr) (es : List IfaceAddr) → length (entries_of a (gone e ++ es)) ≤ length (entries_of a (e ∷ es))
  gone_few e es = go (is_from_slaac e)
    where
      go : (x : Bool) → length (entries_of a (cond x [] (e ∷ []) ++ es)) ≤ length (entries_of a (e ∷ es))
      go true = one_less (is_addr a e) e (entries_of a es)
      go false = omega arith

  kept_few : (test : IfaceAddr → Bool) (es : List IfaceAddr) → length (entries_of a (kept test es)) ≤ length (entries_of a es)
  kept_few test [] = omega arith
  kept_few test (e ∷ es) = go (test e) (kept_few test es)
    where
      go : (x : Bool) → length (entries_of a (kept test es)) ≤ length (entries_of a es)
          → length (entries_of a (cond x (kept test es) (e ∷ kept test es))) ≤ length (entries_of a (e ∷ es))
      go true h = let l = one_less (is_addr a e) e (entries_of a es) in omega (arith, l, h)
      go false h = one_more (is_addr a e) e e _ _ h

  end_few : (es : List IfaceAddr) (x : IfaceAddr) → any_of (is_addr x.cidr) es ≡ false → length (entries_of a es) ≤ 1
      → length (entries_of a (es ++ (x ∷ []))) ≤ 1
  end_few es x h d = go (is_addr a x) refl (at_end (is_addr a) es x)
    where
      go : (b : Bool) → is_addr a x ≡ b
          → length (entries_of a (es ++ (x ∷ []))) ≤ length (entries_of a es) + length (cond b (x ∷ []) [])
          → length (entries_of a (es ++ (x ∷ []))) ≤ 1
      go true e m =
          let none : length (entries_of a es) ≤ 0 =
          none_listed (is_addr a) es (subst (λ (c : Ipv6Cidr). any_of (is_addr c) es ≡ false) (same_cidr_lem x.cidr a e) h) in
          omega (arith, m, none)
      go false e m = omega (arith, m, d)

-- On the entries

distinct_end : (es : List IfaceAddr) (x : IfaceAddr) → any_of (is_addr x.cidr) es ≡ false → Distinct es → Distinct (es ++ (x ∷ []))
distinct_end es x h d = record { once = λ a. end_few a es x h (d.once a) }

pub distinct_put : (c : Ipv6Cidr) (p : Preferred) (es : List IfaceAddr) → Distinct es → Distinct (put_addr c p es)
unfolding put_addr
distinct_put c p es d = go (any_of (is_addr c) es) refl
  where
    new : List IfaceAddr
    new = if_room 8 es (slaac_addr c p)

    room : (b : Bool) → any_of (is_addr c) es ≡ false → Distinct (es ++ cond b (slaac_addr c p ∷ []) [])
    room true h = distinct_end es (slaac_addr c p) h d
    room false h = subst Distinct (sym (append-nil es)) d

    few : (a : Ipv6Cidr) → length (entries_of a (at_first_is (is_addr c) (refreshed p) [] es)) ≤ 1
    few a = omega (arith, first_few a c (refreshed p) (refreshed_few a p) es, d.once a)

    go : (b : Bool) → any_of (is_addr c) es ≡ b → Distinct (at_first_is (is_addr c) (refreshed p) new es)
    go true h = subst Distinct (sym (first_there (is_addr c) (refreshed p) new es h)) (record { once = few })
    go false h = subst Distinct (sym (first_missing (is_addr c) (refreshed p) new es h)) (room (ltb (length es) 8) h)

pub distinct_drop : (c : Ipv6Cidr) (es : List IfaceAddr) → Distinct es → Distinct (drop_addr c es)
unfolding drop_addr
distinct_drop c es d = record { once = few }
  where
    few : (a : Ipv6Cidr) → length (entries_of a (at_first_is (is_addr c) gone [] es)) ≤ 1
    few a = omega (arith, first_few a c gone (gone_few a) es, d.once a)

pub distinct_kept : (test : IfaceAddr → Bool) (es : List IfaceAddr) → Distinct es → Distinct (kept test es)
distinct_kept test es d = record { once = few }
  where
    few : (a : Ipv6Cidr) → length (entries_of a (kept test es)) ≤ 1
    few a = omega (arith, kept_few a test es, d.once a)

-- The first entry is the SLAAC entry, or there is none

module _ (c : Ipv6Cidr) (f : IfaceAddr → List IfaceAddr) where
  none_slaac : (es : List IfaceAddr) → length (entries_of c es) ≤ 0 → at_first_is (is_slaac_addr c) f [] es ≡ es
  none_slaac [] h = refl
  none_slaac (e ∷ es) h = go (is_addr c e) (is_from_slaac e) h (none_slaac es)
    where
      go : (x y : Bool) → length (cond x (e ∷ entries_of c es) (entries_of c es)) ≤ 0
          → (length (entries_of c es) ≤ 0 → at_first_is (is_slaac_addr c) f [] es ≡ es)
          → cond (x && y) (f e ++ es) (e ∷ at_first_is (is_slaac_addr c) f [] es) ≡ e ∷ es
      go true y g k = absurd (omega (arith, g))
      go false y g k = ap (λ (l : List IfaceAddr). e ∷ l) (k g)

  abbrev if_slaac : IfaceAddr → List IfaceAddr
  if_slaac e = cond (is_from_slaac e) (f e) (e ∷ [])

  first_slaac : (new es : List IfaceAddr) → length (entries_of c es) ≤ 1
      → at_first_is (is_addr c) if_slaac new es ≡ at_first_is (is_slaac_addr c) f (cond (any_of (is_addr c) es) [] new) es
  first_slaac new [] h = refl
  first_slaac new (e ∷ es) h = go (is_addr c e) (is_from_slaac e) h (first_slaac new es)
    where
      go : (x y : Bool) → length (cond x (e ∷ entries_of c es) (entries_of c es)) ≤ 1
          → (length (entries_of c es) ≤ 1
          → at_first_is (is_addr c) if_slaac new es ≡ at_first_is (is_slaac_addr c) f (cond (any_of (is_addr c) es) [] new) es)
          → cond x (cond y (f e) (e ∷ []) ++ es) (e ∷ at_first_is (is_addr c) if_slaac new es)
          ≡ cond (x && y) (f e ++ es) (e ∷ at_first_is (is_slaac_addr c) f (cond (cond x true (any_of (is_addr c) es)) [] new) es)
      go true true g k = refl
      go true false g k = ap (λ (l : List IfaceAddr). e ∷ l) (sym (none_slaac es (omega (arith, g))))
      go false y g k = ap (λ (l : List IfaceAddr). e ∷ l) (k g)

-- On the table

pub addrs_of_lem : (t : IfaceAddrs) (es : List IfaceAddr) → addrs_of (with_addrs t es) ≡ es
addrs_of_lem t es = take-append_seam es (drop (length es) t.slots)

once_with : (t : IfaceAddrs) (es : List IfaceAddr) → Distinct es → AddrsOnce (with_addrs t es)
once_with t es d = subst Distinct (sym (addrs_of_lem t es)) d

pub once_new : AddrsOnce empty_addrs
once_new = record { once = λ c. omega arith }

pub once_added : (t : IfaceAddrs) (iface : ℕ) (c : Ipv6Cidr) (r : Added) → AddedTo t iface c r → AddrsOnce t → AddrsOnce r.addrs
once_added t iface c r p d =
    subst (λ (x : Added). AddrsOnce x.addrs) (sym p.is)
    (go (ltb 3 iface) (ltb 128 c.prefix_len) (any_of (is_addr c) (addrs_of t)) (leb 8 (length (addrs_of t))) refl)
  where
    go : (no-iface long there full : Bool) → any_of (is_addr c) (addrs_of t) ≡ there
        → AddrsOnce (add_addr_by (cond no-iface (Err NoSuchIface) (cond long (Err PrefixTooLong) (cond there (Err Duplicate) (cond full (Err Full) (Ok tt))))) t c).addrs
    go true long there full h = d
    go false true there full h = d
    go false false true full h = d
    go false false false true h = d
    go false false false false h = once_with t _ (distinct_end (addrs_of t) (manual_addr c) h d)

pub once_put : (t : IfaceAddrs) (c : Ipv6Cidr) (p : Preferred) → AddrsOnce t → AddrsOnce (with_addrs t (put_addr c p (addrs_of t)))
once_put t c p d = once_with t _ (distinct_put c p (addrs_of t) d)

pub once_drop : (t : IfaceAddrs) (c : Ipv6Cidr) → AddrsOnce t → AddrsOnce (with_addrs t (drop_addr c (addrs_of t)))
once_drop t c d = once_with t _ (distinct_drop c (addrs_of t) d)

pub once_clear : (t : IfaceAddrs) → AddrsOnce t → AddrsOnce (clear_addrs t).addrs
unfolding clear_addrs
once_clear t d = once_with t _ (distinct_kept is_from_slaac (addrs_of t) d)

pub put_slaac_lem : (t : IfaceAddrs) (c : Ipv6Cidr) (p : Preferred) → AddrsOnce t → put_addr c p (addrs_of t) ≡ put_slaac c p (addrs_of t)
unfolding put_addr
put_slaac_lem t c p d = first_slaac c (renewed p) (if_room 8 (addrs_of t) (slaac_addr c p)) (addrs_of t) (d.once c)

pub drop_slaac_lem : (t : IfaceAddrs) (c : Ipv6Cidr) → AddrsOnce t → drop_addr c (addrs_of t) ≡ drop_slaac c (addrs_of t)
unfolding drop_addr
drop_slaac_lem t c d = first_slaac c leaving [] (addrs_of t) (d.once c) ∙ go (any_of (is_addr c) (addrs_of t))
  where
    go : (b : Bool) → at_first_is (is_slaac_addr c) leaving (cond b [] []) (addrs_of t) ≡ drop_slaac c (addrs_of t)
    go true = refl
    go false = refl

pub addrs_once : AddrsOnceLaw
addrs_once =
    record {
      new = once_new;
      added = once_added;
      put = once_put;
      drop = once_drop;
      clear = once_clear;
      put_slaac_lem = put_slaac_lem;
      drop_slaac_lem = drop_slaac_lem;
    }
