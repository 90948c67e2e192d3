-- Whose an address is that a prefix forms. Assumes nothing.
use Prim.Native.Nat.{ℕ, ◌+◌, ◌-◌, ◌/◌, ◌%◌, ◌<◌}
use borrow.Author.Tests.{eq-eqb, ne_eqb, eqb-true, eqb-false}
use lib.Dec.{eqb}
use lib.ListN.{get_or, drop}
use mathlib.Core.Bool.{Bool, true, false, cond}
use mathlib.Core.List.{List}
use mathlib.Core.Path.{◌≡◌, refl, sym, ap, ◌∙◌}
use native.Mathlib.Omega.{arith}
use Rattle.wire.proofs.Bytes.{same_means, same_self}
use Rattle.wire.proofs.RoundTrip.{eight_back}
use Rattle.wire.specs.Rfc2464.{hardware_bytes, flipped, eui_bytes, is_formed_from, formed_addr, formed_of}
use Rattle.wire.specs.Rfc4291.{address_bytes, same_bytes_is}
use Rattle.wire.specs.RoundTrips.{Bytes, FormedBack}
use Rattle.wire.specs.declared.ethernet.HardwareAddress.{HardwareAddress}
use Rattle.wire.specs.declared.ipv6.Formed.TheVariants.{Nothing, Addr}
use Rattle.wire.specs.declared.ipv6.Ipv6Cidr.{Ipv6Cidr}

-- the bit of value 0x02, turned over twice, is as it was
flipped_by : (b : ℕ) (t : Bool) → eqb (b / 2 % 2) 1 ≡ t → flipped (cond t (b - 2) (b + 2)) ≡ b
flipped_by b true e =
    let h = eqb-true (b / 2 % 2) 1 e in
    simp (ne_eqb ((b - 2) / 2 % 2) 1 (λ z. omega arith)) (omega arith)
flipped_by b false e =
    let h = eqb-false (b / 2 % 2) 1 e in
    simp (eq-eqb ((b + 2) / 2 % 2) 1 (omega arith)) (omega arith)

twice : (b : ℕ) → flipped (flipped b) ≡ b
twice b = flipped_by b (eqb (b / 2 % 2) 1) refl

flipped_small : (b : ℕ) (t : Bool) → eqb (b / 2 % 2) 1 ≡ t → b < 256 → cond t (b - 2) (b + 2) < 256
flipped_small b true e h = omega arith
flipped_small b false e h = let k = eqb-false (b / 2 % 2) 1 e in omega arith

one_address : (hw other : HardwareAddress) → eui_bytes hw ≡ eui_bytes other → hw ≡ other
one_address hw other e =
    let at : (i : ℕ) → get_or (eui_bytes hw) i 0 ≡ get_or (eui_bytes other) i 0 = λ i. ap (λ (s : List ℕ). get_or s i 0) e in
    let first : hw.hi / 256 ≡ other.hi / 256 = sym (twice (hw.hi / 256)) ∙ (ap flipped (at 0) ∙ twice (other.hi / 256)) in
    let second : hw.hi % 256 ≡ other.hi % 256 = at 1 in
    let h : hw.hi ≡ other.hi = omega arith in
    let third : hw.lo / 65536 / 256 ≡ other.lo / 65536 / 256 = at 2 in
    let fourth : hw.lo / 65536 % 256 ≡ other.lo / 65536 % 256 = at 5 in
    let fifth : hw.lo % 65536 / 256 ≡ other.lo % 65536 / 256 = at 6 in
    let sixth : hw.lo % 65536 % 256 ≡ other.lo % 65536 % 256 = at 7 in
    let l : hw.lo ≡ other.lo = omega arith in
    λ i. record { hi = h i; lo = l i }

formed_own : (hw : HardwareAddress) (c : Ipv6Cidr) → Bytes (hardware_bytes hw) → is_formed_from hw (formed_addr hw c).address ≡ true
formed_own hw c (b0, (b1, (b2, (b3, (b4, (b5, _)))))) =
    ap (λ (s : List ℕ). same_bytes_is s (eui_bytes hw))
    (eight_back (flipped (hw.hi / 256)) (hw.hi % 256) (hw.lo / 65536 / 256) 0xff 0xfe (hw.lo / 65536 % 256) (hw.lo % 65536 / 256) (hw.lo % 65536 % 256)
    (flipped_small (hw.hi / 256) (eqb (hw.hi / 256 / 2 % 2) 1) refl b0) b1 b2 (omega arith) (omega arith) b3 b4 b5)
    ∙ same_self (eui_bytes hw)

the_address : (t : Bool) (a b : Ipv6Cidr) → cond t (Addr a) Nothing ≡ Addr b → a ≡ b
the_address true a b e = (cc)
the_address false a b e = let z : ◌≡◌ {A = ℕ} 0 1 = cc in absurd (omega arith)

own : (hw : HardwareAddress) (c a : Ipv6Cidr) → Bytes (hardware_bytes hw) → formed_of hw c ≡ Addr a → is_formed_from hw a.address ≡ true
unfolding formed_of
own hw c a bs e =
    ap (λ (x : Ipv6Cidr). is_formed_from hw x.address) (sym (the_address (eqb c.prefix_len 64) (formed_addr hw c) a e)) ∙ formed_own hw c bs

pub formed_back : FormedBack
formed_back =
    record {
      own = own;
      only = λ hw other a p q.
          one_address hw other (sym (same_means (drop 8 (address_bytes a)) (eui_bytes hw) p) ∙ same_means (drop 8 (address_bytes a)) (eui_bytes other) q);
      eui = one_address;
    }
