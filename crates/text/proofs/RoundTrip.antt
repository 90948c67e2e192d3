-- What is printed reads back, and has no space in it, so that a printed line parts into the fields that were printed. Assumes nothing.
use Prim.Native.Nat.{ℕ, zero, suc, ◌+◌, ◌*◌, ◌/◌, ◌%◌, ◌≤◌, ◌<◌, ◌^◌}
use borrow.Author.Tests.{eq-eqb, ne_eqb, eqb-true, eqb-false, le-ltb}
use lib.Dec.{eqb, ltb, leb}
use lib.ListN.{length}
use mathlib.Core.Bool.{Bool, true, false, cond, ◌&&◌}
use mathlib.Core.List.{List, [], ◌∷◌, ◌++◌}
use mathlib.Core.Path.{◌≡◌, refl, ap}
use native.Mathlib.Omega.{arith}
use Rattle.std.specs.Option.{option_map}
use Rattle.std.specs.Prelude.{Option, Some, None}
use Rattle.text.proofs.DecimalLaws.{decimal_back}
use Rattle.text.proofs.HexLaws.{read_back, hexed_length}
use Rattle.text.specs.Addresses.{octets_of, address_of, hardware_of, message_of}
use Rattle.text.specs.Decimal.{digit_of, all_digits, number_of, decimal_by, decimal}
use Rattle.text.specs.Fields.{fields, index_of}
use Rattle.text.specs.Hex.{nibble_of, unhexed, glyph_of, hexed}
use Rattle.wire.proofs.RoundTrip.{address_back, hardware_back}
use Rattle.wire.specs.Rfc2464.{hardware_at, hardware_bytes}
use Rattle.wire.specs.Rfc4291.{address_at, address_bytes}
use Rattle.wire.specs.RoundTrips.{Bytes as AllBytes}
use Rattle.wire.specs.declared.ethernet.HardwareAddress.{HardwareAddress}
use Rattle.wire.specs.declared.ipv6.Ipv6Addr.{Ipv6Addr}

-- ---- numbers

pub number_reads_back : (n : ℕ) → n < 2 ^ 64 → number_of (decimal n) ≡ Some n
number_reads_back n h = decimal_back n h

-- ---- addresses

address_bytes_lem : (a : Ipv6Addr) → a.hi < 2 ^ 64 → a.lo < 2 ^ 64 → AllBytes (address_bytes a)
address_bytes_lem a h l =
    (omega arith, (omega arith, (omega arith, (omega arith, (omega arith, (omega arith, (omega arith, (omega arith, (omega arith, (omega arith, (omega arith, (omega arith, (omega arith, (omega arith, (omega arith, (omega arith, tt))))))))))))))))

hardware_bytes_lem : (a : HardwareAddress) → a.hi < 2 ^ 16 → a.lo < 2 ^ 32 → AllBytes (hardware_bytes a)
hardware_bytes_lem a h l = (omega arith, (omega arith, (omega arith, (omega arith, (omega arith, (omega arith, tt))))))

pub address_reads_back : (a : Ipv6Addr) → a.hi < 2 ^ 64 → a.lo < 2 ^ 64 → address_of (hexed (address_bytes a)) ≡ Some a
unfolding address_of
address_reads_back a h l =
    let e = read_back (address_bytes a) (address_bytes_lem a h l) in
    rw e (ap (λ (x : Ipv6Addr). Some x) (address_back a []))

pub hardware_reads_back : (a : HardwareAddress) → a.hi < 2 ^ 16 → a.lo < 2 ^ 32 → hardware_of (hexed (hardware_bytes a)) ≡ Some a
unfolding hardware_of
hardware_reads_back a h l =
    let e = read_back (hardware_bytes a) (hardware_bytes_lem a h l) in
    rw e (ap (λ (x : HardwareAddress). Some x) (hardware_back a []))

-- ---- messages

pub message_reads_back : (room : ℕ) (bs : List ℕ) → AllBytes bs → 0 < length bs → length bs ≤ room → message_of room (hexed bs) ≡ Some (length bs)
unfolding message_of
message_reads_back room bs w h k =
    let e = read_back bs w in
    let n = hexed_length bs in
    let d : ltb room (length (hexed bs) / 2) ≡ false = le-ltb room (length (hexed bs) / 2) (omega arith) in
    rw (d, e) (rw (ne_eqb (length bs) 0 (omega arith), eq-eqb (2 * length bs) (length (hexed bs)) (omega arith)) refl)

-- ---- fields

-- there is no space among these bytes
abbrev pub Clear : List ℕ → Type 0
Clear s = index_of 32 s ≡ length s

clear_cons : (b : ℕ) (s : List ℕ) → (b ≡ 32 → ⊥) → Clear s → Clear (b ∷ s)
clear_cons b s n c = rw (ne_eqb b 32 n) (ap suc c)

tail_by : (b : ℕ) (s : List ℕ) (t : Bool) → eqb b 32 ≡ t → cond t zero (suc (index_of 32 s)) ≡ suc (length s) → (b ≡ 32 → ⊥) × Clear s
tail_by b s true e c = absurd (omega arith)
tail_by b s false e c = (eqb-false b 32 e, omega arith)

clear_tail : (b : ℕ) (s : List ℕ) → Clear (b ∷ s) → (b ≡ 32 → ⊥) × Clear s
clear_tail b s c = tail_by b s (eqb b 32) refl c

pub clear_append : (a b : List ℕ) → Clear a → Clear b → Clear (a ++ b)
clear_append [] b c d = d
clear_append (x ∷ a) b c d =
    let w = clear_tail x a c in
    clear_cons x (a ++ b) w.0 (clear_append a b w.1 d)

-- a line parts at the space after a field
pub join : (a b : List ℕ) → Clear a → fields (a ++ (32 ∷ b)) ≡ a ∷ fields b
join [] b c = refl
join (x ∷ a) b c =
    let w = clear_tail x a c in
    rw (ne_eqb x 32 w.0, join a b w.1) refl

glyph_by : (d : ℕ) (t : Bool) → cond t (48 + d) (87 + d) ≡ 32 → ⊥
glyph_by d true e = omega arith
glyph_by d false e = omega arith

pub clear_hexed : (bs : List ℕ) → Clear (hexed bs)
clear_hexed [] = refl
clear_hexed (b ∷ bs) =
    clear_cons (glyph_of (b / 16)) (glyph_of (b % 16) ∷ hexed bs) (glyph_by (b / 16) (ltb (b / 16) 10))
    (clear_cons (glyph_of (b % 16)) (hexed bs) (glyph_by (b % 16) (ltb (b % 16) 10)) (clear_hexed bs))

decimal_by_lem : (f n : ℕ) (t : Bool) → Clear (decimal_by f (n / 10)) → Clear (cond t ((48 + n) ∷ []) (decimal_by f (n / 10) ++ ((48 + n % 10) ∷ [])))
decimal_by_lem f n true c = clear_cons (48 + n) [] (λ q. omega arith) refl
decimal_by_lem f n false c =
    clear_append (decimal_by f (n / 10)) ((48 + n % 10) ∷ []) c (clear_cons (48 + n % 10) [] (λ q. omega arith) refl)

clear_digits : (f n : ℕ) → Clear (decimal_by f n)
clear_digits zero n = refl
clear_digits (suc f) n = decimal_by_lem f n (ltb n 10) (clear_digits f (n / 10))

pub clear_decimal : (n : ℕ) → Clear (decimal n)
unfolding decimal
clear_decimal n = clear_digits 20 n

-- ---- a field that has a space in it is none: no number, no address, no message

and_none : (b : Bool) → (b && false) ≡ false
and_none true = refl
and_none false = refl

digits_by : (b : ℕ) (s : List ℕ) (t : Bool) → eqb b 32 ≡ t → ((Clear s → ⊥) → all_digits s ≡ false) → (cond t zero (suc (index_of 32 s)) ≡ suc (length s) → ⊥)
    → (ltb (digit_of b) 10 && all_digits s) ≡ false
digits_by b s true e i n =
    let q = eqb-true b 32 e in
    rw q refl
digits_by b s false e i n = rw (i (λ c. n (ap suc c))) (and_none (ltb (digit_of b) 10))

spaced_digits : (s : List ℕ) → (Clear s → ⊥) → all_digits s ≡ false
spaced_digits [] n = absurd (n refl)
spaced_digits (b ∷ s) n = digits_by b s (eqb b 32) refl (spaced_digits s) n

empty_by : (t : Bool) → cond {A = Option ℕ} t None None ≡ None
empty_by true = refl
empty_by false = refl

pub spaced_number : (s : List ℕ) → (Clear s → ⊥) → number_of s ≡ None
spaced_number s n = rw (spaced_digits s n) (empty_by (eqb (length s) 0))

pair_by : (x : ℕ) (s : List ℕ) (t : Bool) → 2 * length (unhexed s) < length s → 2 * length (cond t (x ∷ unhexed s) []) < suc (suc (length s))
pair_by x s true h = omega arith
pair_by x s false h = omega arith

second_by : (a b : ℕ) (s : List ℕ) (t : Bool) → eqb b 32 ≡ t → (eqb a 32 ≡ false) → ((Clear s → ⊥) → 2 * length (unhexed s) < length s)
    → (Clear (a ∷ b ∷ s) → ⊥) → 2 * length (unhexed (a ∷ b ∷ s)) < suc (suc (length s))
second_by a b s true e d i n =
    let q = eqb-true b 32 e in
    rw (q, and_none (leb (nibble_of a) 15)) (omega arith)
second_by a b s false e d i n =
    pair_by (nibble_of a * 16 + nibble_of b) s (leb (nibble_of a) 15 && leb (nibble_of b) 15)
    (i (λ c. n (clear_cons a (b ∷ s) (eqb-false a 32 d) (clear_cons b s (eqb-false b 32 e) c))))

first_by : (a b : ℕ) (s : List ℕ) (t : Bool) → eqb a 32 ≡ t → ((Clear s → ⊥) → 2 * length (unhexed s) < length s)
    → (Clear (a ∷ b ∷ s) → ⊥) → 2 * length (unhexed (a ∷ b ∷ s)) < suc (suc (length s))
first_by a b s true e i n =
    let q = eqb-true a 32 e in
    rw q (omega arith)
first_by a b s false e i n = second_by a b s (eqb b 32) refl e i n

spaced_hex : (s : List ℕ) → (Clear s → ⊥) → 2 * length (unhexed s) < length s
spaced_hex [] n = absurd (n refl)
spaced_hex (a ∷ []) n = omega arith
spaced_hex (a ∷ b ∷ s) n = first_by a b s (eqb a 32) refl (spaced_hex s) n

octets_by : (n k m : ℕ) (l : List ℕ) (t : Bool) → eqb n (2 * m) ≡ t → 2 * k < n → cond t (cond (eqb k m) (Some l) None) None ≡ None
octets_by n k m l true e h =
    let q = eqb-true n (2 * m) e in
    rw (ne_eqb k m (λ r. omega arith)) refl
octets_by n k m l false e h = refl

spaced_octets : (m : ℕ) (s : List ℕ) → (Clear s → ⊥) → octets_of m s ≡ None
spaced_octets m s n = octets_by (length s) (length (unhexed s)) m (unhexed s) (eqb (length s) (2 * m)) refl (spaced_hex s n)

pub spaced_address : (s : List ℕ) → (Clear s → ⊥) → address_of s ≡ None
unfolding address_of
spaced_address s n = ap (λ (o : Option (List ℕ)). option_map (λ v. address_at v 0) o) (spaced_octets 16 s n)

pub spaced_hardware : (s : List ℕ) → (Clear s → ⊥) → hardware_of s ≡ None
unfolding hardware_of
spaced_hardware s n = ap (λ (o : Option (List ℕ)). option_map (λ v. hardware_at v 0) o) (spaced_octets 6 s n)

message_zero : (k n : ℕ) (t u : Bool) → (2 * k ≡ n → ⊥) → cond {A = Option ℕ} u None (cond t None (cond (eqb (2 * k) n) (Some k) None)) ≡ None
message_zero k n t true h = refl
message_zero k n true false h = refl
message_zero k n false false h = rw (ne_eqb (2 * k) n h) refl

pub spaced_message : (room : ℕ) (s : List ℕ) → (Clear s → ⊥) → message_of room s ≡ None
unfolding message_of
spaced_message room s n =
    message_zero (length (unhexed s)) (length s) (eqb (length (unhexed s)) 0) (ltb room (length s / 2))
    (λ q. let h = spaced_hex s n in omega arith)
