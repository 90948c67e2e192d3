-- Laws of the table of addresses: what each arm of a call leaves is what its rule says. Assumes nothing.
use Prim.Native.Nat.{ℕ, ◌+◌, ◌-◌, ◌<◌, min}
use lib.Dec.{ltb}
use lib.ListN.{length, length-append, get_or, set, take}
use mathlib.Core.Bool.{Bool, true, false, cond, true≢false}
use mathlib.Core.List.{List, [], ◌∷◌, ◌++◌}
use mathlib.Core.Path.{◌≡◌, refl, ap, ap₂, sym, ◌∙◌}
use native.Mathlib.Omega.{arith}
use Rattle.std.specs.Prelude.{Result, Ok, Err}
use Rattle.wire.specs.declared.ipv6.Ipv6Addr.{Ipv6Addr}
use Rattle.iface.proofs.Checks.{is_duplicate, is_fine, is_full}
use Rattle.iface.specs.AddressRules.{addrs_of, with_addrs, no_addr, is_addr, is_from_slaac, manual_addr, addr_check, add_addr_by, AddedTo, gone, drop_addr, clear_addrs, is_local, source_of, first_local, address_alone, LocalOf}
use Rattle.iface.specs.Answers.{prefix_rows, source_number, source_shown}
use Rattle.iface.specs.declared.addr.Cleared.{Cleared}
use Rattle.iface.specs.declared.addr.IfaceAddr.{IfaceAddr}
use Rattle.iface.specs.declared.addr.IfaceAddrs.{IfaceAddrs}
use Rattle.table.proofs.Laws.{Made, at_end, fewer, counted, take_count, Finding, scan_found, scan_none, found_stays, found_goes, found_any, absent_stays, absent_any}
use Rattle.std.proofs.Common.{Option, Some, None, is_some}
use Rattle.table.proofs.Placed.{placed_below, placed_passes, placed_finding, placed_first, absent_finding, absent_first}
use Rattle.table.proofs.Calls.{removed}
use Rattle.table.specs.Calls.{place_of}
use Rattle.table.specs.Table.{filled, kept, without, first_of}
use Rattle.wire.specs.Refusals.{check_number, Tested}
use Rattle.wire.specs.declared.error.Refusal.TheVariants.{Duplicate, Full}
use Rattle.wire.specs.declared.error.Refusal.{Refusal}
use Rattle.wire.specs.declared.ipv6.Ipv6Cidr.{Ipv6Cidr}

pub addrs_made : (t : IfaceAddrs) (es s : List IfaceAddr) (n : ℕ) → Made t.slots es s n
    → ◌≡◌ {A = IfaceAddrs} (record { slots = s; len = n }) (with_addrs t es)
addrs_made t es s n m = ap₂ (λ (a : List IfaceAddr) (b : ℕ). record { slots = a; len = b }) m.slots m.count

-- The application's call

module _ (t : IfaceAddrs) (iface : ℕ) (c : Ipv6Cidr) (x : Result (Unit {0}) Refusal) (test : Tested (prefix_rows iface c) x) where
  refuses : (why : Refusal) → addr_check iface c (addrs_of t) ≡ Err why → AddedTo t iface c (record { addrs = t; outcome = Err why })
  refuses why z = record { is = sym (ap (λ (y : Result (Unit {0}) Refusal). add_addr_by y t c) z); number = sym (ap check_number z) }

  module _ (f : x ≡ Ok tt) (k : ℕ) (full : length t.slots ≡ 8) (e : k ≡ min t.len 8) (r : Option ℕ) (place : r ≡ place_of (is_addr c) (addrs_of t)) where
    pub add_duplicate : is_some r ≡ true → AddedTo t iface c (record { addrs = t; outcome = Err Duplicate })
    add_duplicate h = go r place h
      where
        go : (r : Option ℕ) → r ≡ place_of (is_addr c) (addrs_of t) → is_some r ≡ true → AddedTo t iface c (record { addrs = t; outcome = Err Duplicate })
        go None p h = absurd (true≢false (sym h))
        go (Some i) p h =
            let inv = placed_finding no_addr (is_addr c) t.slots t.len full e (sym p) gone [] in
            refuses Duplicate (is_duplicate (prefix_rows iface c) test _ (addrs_of t) f
            (found_any no_addr inv (placed_below no_addr (is_addr c) t.slots t.len full e (sym p)) (placed_passes no_addr (is_addr c) t.slots t.len full e (sym p))))

    missing : is_some r ≡ false → Finding 8 (is_addr c) gone [] t.slots t.len k k
    missing h = go r place h
      where
        go : (r : Option ℕ) → r ≡ place_of (is_addr c) (addrs_of t) → is_some r ≡ false → Finding 8 (is_addr c) gone [] t.slots t.len k k
        go None p h = absent_finding no_addr (is_addr c) t.slots t.len full e (sym p) gone []
        go (Some i) p h = absurd (true≢false h)

    pub add_full : is_some r ≡ false → k ≡ 8 → AddedTo t iface c (record { addrs = t; outcome = Err Full })
    add_full h l =
        let inv = missing h in
        refuses Full (is_full (prefix_rows iface c) test _ (addrs_of t) f (absent_any no_addr inv (omega arith)) k inv.count l)

    pub add_end : (y : IfaceAddr) → y ≡ manual_addr c → is_some r ≡ false → k < 8
        → AddedTo t iface c (record { addrs = record { slots = set t.slots k y; len = k + 1 }; outcome = Ok tt })
    add_end y q h l =
        let inv = missing h in
        let z : addr_check iface c (addrs_of t) ≡ Ok tt =
        is_fine (prefix_rows iface c) test _ (addrs_of t) f (absent_any no_addr inv (omega arith)) k inv.count l in
        let n : k + 1 ≡ length (addrs_of t ++ (manual_addr c ∷ [])) = simp length-append (omega (arith, inv.count)) in
        let s : set t.slots k y ≡ _ = ap (λ (w : IfaceAddr). set t.slots k w) q ∙ at_end t.slots t.len k inv.count (manual_addr c) (omega (arith, inv.full)) in
        let m : Made t.slots (addrs_of t ++ (manual_addr c ∷ [])) (set t.slots k y) (k + 1) = record { slots = s; count = n } in
        record {
          is =
              ap (λ (a : IfaceAddrs). record { addrs = a; outcome = Ok tt }) (addrs_made t _ _ (k + 1) m)
              ∙ sym (ap (λ (y : Result (Unit {0}) Refusal). add_addr_by y t c) z);
          number = sym (ap check_number z);
        }

-- SLAAC's calls

module _ (t : IfaceAddrs) (c : Ipv6Cidr) (k : ℕ) (full : length t.slots ≡ 8) (e : k ≡ min t.len 8) where
  module _ (i : ℕ) (p : place_of (is_addr c) (addrs_of t) ≡ Some i) where
    pub drop_at : i < k
    drop_at = placed_below no_addr (is_addr c) t.slots t.len full e p

    abbrev here : Finding 8 (is_addr c) gone [] t.slots t.len k i
    here = placed_finding no_addr (is_addr c) t.slots t.len full e p gone []

    passes : is_addr c (get_or t.slots i no_addr) ≡ true
    passes = placed_passes no_addr (is_addr c) t.slots t.len full e p

    pub drop_out : (s : List IfaceAddr) → is_from_slaac (get_or t.slots i no_addr) ≡ true → s ≡ filled t.slots (without (take k t.slots) i)
        → ◌≡◌ {A = IfaceAddrs} (record { slots = s; len = k - 1 }) (with_addrs t (drop_addr c (addrs_of t)))
    unfolding drop_addr
    drop_out s o q =
        let m : Made t.slots (without (addrs_of t) i) s (k - 1) = removed t.slots t.len k i here.count drop_at s q in
        addrs_made t _ s (k - 1) m ∙ ap (λ (es : List IfaceAddr). with_addrs t es) (found_goes no_addr here drop_at passes (simp o))

    pub drop_stays : is_from_slaac (get_or t.slots i no_addr) ≡ false
        → ◌≡◌ {A = IfaceAddrs} (record { slots = t.slots; len = k }) (with_addrs t (drop_addr c (addrs_of t)))
    unfolding drop_addr
    drop_stays o = addrs_made t _ _ k (found_stays no_addr here drop_at passes (simp o))

  pub drop_none : place_of (is_addr c) (addrs_of t) ≡ None → ◌≡◌ {A = IfaceAddrs} (record { slots = t.slots; len = k }) (with_addrs t (drop_addr c (addrs_of t)))
  unfolding drop_addr
  drop_none p = addrs_made t _ _ k (absent_stays no_addr (absent_finding no_addr (is_addr c) t.slots t.len full e p gone []) (omega arith) refl)

pub addrs_cleared : (t : IfaceAddrs) (k : ℕ) → length t.slots ≡ 8 → k ≡ min t.len 8 → (s : List IfaceAddr) (w : ℕ)
    → (s ≡ filled t.slots (kept is_from_slaac (take k t.slots))) × (w ≡ length (kept is_from_slaac (take k t.slots)))
    → ◌≡◌ {A = Cleared} (record { addrs = record { slots = s; len = w }; any = ltb w k }) (clear_addrs t)
unfolding clear_addrs
addrs_cleared t k full e s w m =
    let c = counted t.slots t.len 8 k full e in
    let es : take k t.slots ≡ addrs_of t = take_count t.slots t.len k c in
    let n : w ≡ length (kept is_from_slaac (addrs_of t)) = m.1 ∙ ap (λ (l : List IfaceAddr). length (kept is_from_slaac l)) es in
    ap₂ (λ (a : IfaceAddrs) (b : Bool). record { addrs = a; any = b })
    (addrs_made t _ s w (record { slots = m.0 ∙ ap (λ (l : List IfaceAddr). filled t.slots (kept is_from_slaac l)) es; count = n }))
    (ap₂ (λ (a b : ℕ). ltb a b) n c ∙ fewer is_from_slaac (addrs_of t))

-- The source

no_number : (r : Option Ipv6Addr) → source_number r ≡ 0
no_number None = refl
no_number (Some a) = refl

shown_first : (es : List IfaceAddr) → source_shown (first_of is_local source_of None es) ≡ first_of is_local address_alone [] es
shown_first [] = refl
shown_first (e ∷ es) = go (is_local e) (shown_first es)
  where
    go : (x : Bool) → source_shown (first_of is_local source_of None es) ≡ first_of is_local address_alone [] es
        → source_shown (cond x (source_of e) (first_of is_local source_of None es)) ≡ cond x (address_alone e) (first_of is_local address_alone [] es)
    go true h = refl
    go false h = h

local : (t : IfaceAddrs) (r : Option Ipv6Addr) → r ≡ first_of is_local source_of None (addrs_of t) → LocalOf t r
unfolding first_local
local t r e = record { is = e; number = no_number r; shows = ap source_shown e ∙ shown_first (addrs_of t) }

module _ (t : IfaceAddrs) (k : ℕ) (full : length t.slots ≡ 8) (e : k ≡ min t.len 8) where
  pub local_below : (i : ℕ) → place_of is_local (addrs_of t) ≡ Some i → i < 8
  local_below i p = let l : i < k = placed_below no_addr is_local t.slots t.len full e p in omega arith

  pub local_found : (i : ℕ) → place_of is_local (addrs_of t) ≡ Some i → LocalOf t (Some (get_or t.slots i no_addr).cidr.address)
  local_found i p =
      local t _ (scan_found no_addr (placed_first no_addr is_local t.slots t.len full e p source_of None)
      (placed_below no_addr is_local t.slots t.len full e p) (placed_passes no_addr is_local t.slots t.len full e p))

  pub local_none : place_of is_local (addrs_of t) ≡ None → LocalOf t None
  local_none p = local t _ (scan_none no_addr (absent_first no_addr is_local t.slots t.len full e p source_of None) (omega arith))
