-- Numbers and addresses to bytes and back. Assumes nothing.
use Prim.Native.Nat.{ℕ, zero, suc, ◌+◌, ◌/◌, ◌%◌, ◌<◌, ◌≤◌}
use lib.ListN.{length, get_or, drop, drop_of_length-le}
use lib.Seq.{drop-cons}
use mathlib.Core.List.{List, [], ◌∷◌, ◌++◌}
use mathlib.Core.Path.{◌≡◌, sym, ap, ◌∙◌}
use native.Mathlib.Omega.{arith}
use Rattle.wire.specs.Numbers.{be16, be32, be64, u64_at, bytes16, bytes32, bytes64}
use Rattle.wire.specs.Rfc2464.{hardware_at, hardware_bytes}
use Rattle.wire.specs.Rfc4291.{address_at, address_bytes}
use Rattle.wire.specs.RoundTrips.{Bytes, RoundTrips}
use Rattle.wire.specs.declared.ethernet.HardwareAddress.{HardwareAddress}
use Rattle.wire.specs.declared.ipv6.Ipv6Addr.{Ipv6Addr}

-- a number's bytes are the number
pub number16 : (x : ℕ) → be16 (x / 256) (x % 256) ≡ x
number16 x = omega arith

pub number32 : (x : ℕ) → be32 (be16 (x / 65536 / 256) (x / 65536 % 256)) (be16 (x % 65536 / 256) (x % 65536 % 256)) ≡ x
number32 x = omega arith

pub number64 : (x : ℕ) → u64_at (bytes64 x) 0 ≡ x
number64 x = omega arith

pub address_back : (a : Ipv6Addr) (t : List ℕ) → address_at (address_bytes a ++ t) 0 ≡ a
address_back a t = λ i. record { hi = number64 a.hi i; lo = number64 a.lo i }

pub hardware_back : (a : HardwareAddress) (t : List ℕ) → hardware_at (hardware_bytes a ++ t) 0 ≡ a
hardware_back a t = λ i. record { hi = number16 a.hi i; lo = number32 a.lo i }

-- the number of some bytes has those bytes
bytes16_back : (a b : ℕ) → b < 256 → bytes16 (be16 a b) ≡ a ∷ b ∷ []
bytes16_back a b h =
    let p : be16 a b / 256 ≡ a = omega arith in
    let q : be16 a b % 256 ≡ b = omega arith in
    λ i. p i ∷ q i ∷ []

bytes32_back : (m n : ℕ) → n < 65536 → bytes32 (be32 m n) ≡ bytes16 m ++ bytes16 n
bytes32_back m n h =
    let p : be32 m n / 65536 ≡ m = omega arith in
    let q : be32 m n % 65536 ≡ n = omega arith in
    λ i. bytes16 (p i) ++ bytes16 (q i)

bytes64_back : (m n : ℕ) → n < 4294967296 → bytes64 (be64 m n) ≡ bytes32 m ++ bytes32 n
bytes64_back m n h =
    let p : be64 m n / 4294967296 ≡ m = omega arith in
    let q : be64 m n % 4294967296 ≡ n = omega arith in
    λ i. bytes32 (p i) ++ bytes32 (q i)

four_back : (a b c d : ℕ) → a < 256 → b < 256 → c < 256 → d < 256 → bytes32 (be32 (be16 a b) (be16 c d)) ≡ a ∷ b ∷ c ∷ d ∷ []
four_back a b c d p q r s =
    bytes32_back (be16 a b) (be16 c d) (omega arith) ∙ (λ i. bytes16_back a b q i ++ bytes16_back c d s i)

-- a list is its elements, one by one
abbrev from : List ℕ → ℕ → ℕ → List ℕ
from s i zero = []
from s i (suc n) = get_or s i 0 ∷ from s (suc i) n

spelled : (s : List ℕ) (n i : ℕ) → i + n ≡ length s → drop i s ≡ from s i n
spelled s zero i h = let k : length s ≤ i = omega arith in drop_of_length-le s k
spelled s (suc n) i h = drop-cons s i 0 (omega arith) ∙ ap (λ (l : List ℕ). get_or s i 0 ∷ l) (spelled s n (suc i) (omega arith))

pub at_most : (s : List ℕ) (i : ℕ) → Bytes s → get_or s i 0 < 256
at_most [] i p = omega arith
at_most (b ∷ s) zero p = p.0
at_most (b ∷ s) (suc i) p = at_most s i p.1

pub eight_back : (a b c d e f g h : ℕ) → a < 256 → b < 256 → c < 256 → d < 256 → e < 256 → f < 256 → g < 256 → h < 256
    → bytes64 (be64 (be32 (be16 a b) (be16 c d)) (be32 (be16 e f) (be16 g h))) ≡ a ∷ b ∷ c ∷ d ∷ e ∷ f ∷ g ∷ h ∷ []
eight_back a b c d e f g h p q r s t u v w =
    bytes64_back (be32 (be16 a b) (be16 c d)) (be32 (be16 e f) (be16 g h)) (omega arith)
    ∙ (λ i. four_back a b c d p q r s i ++ four_back e f g h t u v w i)

eight_at : (s : List ℕ) → Bytes s → (bytes64 (u64_at s 0) ≡ from s 0 8) × (bytes64 (u64_at s 8) ≡ from s 8 8)
eight_at s p = (
  eight_back (get_or s 0 0) (get_or s 1 0) (get_or s 2 0) (get_or s 3 0) (get_or s 4 0) (get_or s 5 0) (get_or s 6 0) (get_or s 7 0)
      (at_most s 0 p) (at_most s 1 p) (at_most s 2 p) (at_most s 3 p) (at_most s 4 p) (at_most s 5 p) (at_most s 6 p) (at_most s 7 p),
  eight_back (get_or s 8 0) (get_or s 9 0) (get_or s 10 0) (get_or s 11 0) (get_or s 12 0) (get_or s 13 0) (get_or s 14 0) (get_or s 15 0)
      (at_most s 8 p) (at_most s 9 p) (at_most s 10 p) (at_most s 11 p) (at_most s 12 p) (at_most s 13 p) (at_most s 14 p) (at_most s 15 p),
)

pub bytes_back : (s : List ℕ) → Bytes s → length s ≡ 16 → address_bytes (address_at s 0) ≡ s
bytes_back s p h = (λ i. (eight_at s p).0 i ++ (eight_at s p).1 i) ∙ sym (spelled s 16 0 (omega arith))

pub hardware_bytes_back : (s : List ℕ) → Bytes s → length s ≡ 6 → hardware_bytes (hardware_at s 0) ≡ s
hardware_bytes_back s p h =
    (λ i.
    bytes16_back (get_or s 0 0) (get_or s 1 0) (at_most s 1 p) i
    ++ four_back (get_or s 2 0) (get_or s 3 0) (get_or s 4 0) (get_or s 5 0) (at_most s 2 p) (at_most s 3 p) (at_most s 4 p) (at_most s 5 p) i)
    ∙ sym (spelled s 6 0 (omega arith))

pub round_trips : RoundTrips
round_trips =
    record {
      address = λ a. address_back a [];
      bytes = bytes_back;
      hardware = λ a. hardware_back a [];
      hardware_bytes_lem = hardware_bytes_back;
    }
