-- Laws of reading a decimal number. Assumes nothing.
use Prim.Native.Nat.{ℕ, zero, suc, ◌+◌, ◌-◌, ◌*◌, ◌≤◌, ◌<◌, ◌/◌, ◌%◌, ◌^◌}
use borrow.Author.Tests.{lt-ltb, le-ltb, ne_eqb, ltb-true, ltb-false, leb-true, leb-false}
use lib.Dec.{ltb, leb}
use lib.ListN.{length, drop, get_or, length-append}
use lib.Seq.{drop-cons}
use mathlib.Core.Bool.{Bool, true, false, cond, ◌&&◌}
use mathlib.Core.List.{List, [], ◌∷◌, ◌++◌}
use mathlib.Core.Path.{◌≡◌, refl, ap, ◌∙◌}
use native.Mathlib.Nat.{pow-suc, pow-zero, pow-le-pow_right}
use native.Mathlib.Numerals.{add-one}
use native.Mathlib.Omega.{arith}
use Rattle.io.specs.Digits.{last_digits, IsDigitCount}
use Rattle.text.specs.Decimal.{digit_of, all_digits, value_from, read_from, number_of, decimal_by, decimal}
use Rattle.std.specs.Char.{digit_value}
use Rattle.std.specs.Prelude.{Option, Some, None}

num_step : (s : List ℕ) (v i d : ℕ) → i < length s → d ≡ digit_of (get_or s i 0) → d < 10
    → read_from v (drop i s) ≡ read_from (v * 10 + d) (drop (i + 1) s)
num_step s v i d h e k =
    let t : ltb (digit_of (get_or s i 0)) 10 ≡ true = rw (← e) (lt-ltb d 10 k) in
    simp (drop-cons s i 0 h, t, add-one, e)

grows : (s : List ℕ) (v : ℕ) → v ≤ value_from v s
grows [] v = omega arith
grows (d ∷ ds) v = let g = grows ds (v * 10 + digit_of d) in omega arith

either : (b : Bool) → cond {A = Option ℕ} b None None ≡ None
either true = refl
either false = refl

num_big : (s : List ℕ) (v : ℕ) → 18446744073709551616 ≤ v → read_from v s ≡ None
num_big s v h =
    let g = grows s v in
    simp (le-ltb (value_from v s) 18446744073709551616 (omega arith)) (either (all_digits s))

pub num_begin : (s : List ℕ) → (length s ≡ 0 → ⊥) → number_of s ≡ read_from 0 s
num_begin s h = simp (ne_eqb (length s) 0 h)

-- ---- std's digits

high_by : (c : ℕ) (t u v w : Bool) → ltb c 65 ≡ t → ltb c 97 ≡ v → 58 ≤ c → 10 ≤ cond t 36 (cond u (c - 55) (cond v 36 (cond w (c - 87) 36)))
high_by c true u v w e f h = omega arith
high_by c false true v w e f h = let k = ltb-false c 65 e in omega arith
high_by c false false true w e f h = omega arith
high_by c false false false true e f h = let k = ltb-false c 97 f in omega arith
high_by c false false false false e f h = omega arith

-- what the tests of both definitions make of c
std_low : (c : ℕ) → c < 48 → (digit_value c ≡ 36) × (digit_of c ≡ 10)
std_low c h = (simp (lt-ltb c 48 h), simp (lt-ltb c 48 h))

std_mid : (c : ℕ) → 48 ≤ c → c ≤ 57 → (digit_value c ≡ c - 48) × (digit_of c ≡ c - 48)
std_mid c h k = (simp (le-ltb c 48 h, lt-ltb c 58 (omega arith)), simp (le-ltb c 48 h, le-ltb 57 c k))

std_high : (c : ℕ) → 58 ≤ c → (10 ≤ digit_value c) × (digit_of c ≡ 10)
std_high c h = (
  simp (le-ltb c 48 (omega arith), le-ltb c 58 h) (high_by c (ltb c 65) (ltb c 91) (ltb c 97) (ltb c 123) refl refl h),
  simp (le-ltb c 48 (omega arith), lt-ltb 57 c (omega arith)),
)

std_by : (c : ℕ) (t u : Bool) → ltb c 48 ≡ t → ltb c 58 ≡ u → digit_value c < 10 → digit_value c ≡ digit_of c
std_by c true u e f h = let w = std_low c (ltb-true c 48 e) in omega arith
std_by c false true e f h =
    let k = ltb-true c 58 f in
    let w = std_mid c (ltb-false c 48 e) (omega arith) in
    omega arith
std_by c false false e f h = let w = std_high c (ltb-false c 58 f) in omega arith

std_digit : (c : ℕ) → digit_value c < 10 → digit_value c ≡ digit_of c
std_digit c h = std_by c (ltb c 48) (ltb c 58) refl refl h

-- a digit more
num_next : (s : List ℕ) (v i : ℕ) → i < length s → digit_value (get_or s i 0) < 10
    → read_from v (drop i s) ≡ read_from (v * 10 + digit_value (get_or s i 0)) (drop (i + 1) s)
num_next s v i h k = num_step s v i (digit_value (get_or s i 0)) h (std_digit (get_or s i 0) k) k

-- one that makes it too large
pub num_over : (s : List ℕ) (v i : ℕ) → i < length s → digit_value (get_or s i 0) < 10 → 18446744073709551616 ≤ v * 10 + digit_value (get_or s i 0)
    → read_from v (drop i s) ≡ None
num_over s v i h k o = num_next s v i h k ∙ num_big (drop (i + 1) s) (v * 10 + digit_value (get_or s i 0)) o

-- ---- writing

ten_pos : (k : ℕ) → 0 < 10 ^ k
ten_pos zero = omega (arith, pow-zero 10)
ten_pos (suc k) = omega (arith, pow-suc 10 k, ten_pos k)

-- io's digits, where they are the fewest, are the decimal ones
pub spelled : (f k n : ℕ) → IsDigitCount 10 1 n k → k ≤ f → last_digits 10 k n ≡ decimal_by f n
spelled f zero n w h = absurd (omega (arith, w.0))
spelled zero (suc k) n w h = absurd (omega arith)
spelled (suc f) (suc zero) n w h =
    let a : n < 10 = w.1 in
    let e : n % 10 ≡ n = omega arith in
    simp (lt-ltb n 10 a, e)
spelled (suc f) (suc (suc k)) n w h =
    let pred : suc (suc k) - 1 ≡ suc k = omega arith in
    let back : suc k - 1 ≡ k = omega arith in
    let p = pow-suc 10 k in
    let q = pow-suc 10 (suc k) in
    let one : 0 < 10 ^ k = ten_pos k in
    let high : 10 ^ suc k ≤ n = rw pred at (w.2 (omega arith)) in
    let low : n < 10 ^ suc (suc k) = w.1 in
    let ten : 10 ≤ n = omega arith in
    let i = spelled f (suc k) (n / 10) (omega arith, omega arith, λ z. rw back (omega arith)) (omega arith) in
    simp (le-ltb n 10 ten, i, lt-ltb (n % 10) 10 (omega arith))

few_by : (n k : ℕ) (b : Bool) → leb k 20 ≡ b → IsDigitCount 10 1 n k → n < 18446744073709551616 → k ≤ 20
few_by n k true e w h = leb-true k 20 e
few_by n k false e w h =
    let g = leb-false k 20 e in
    let p = w.2 (omega arith) in
    let l : 20 ≤ k - 1 = omega arith in
    let q : 10 ^ 20 ≤ 10 ^ (k - 1) = pow-le-pow_right (omega arith) l in
    absurd (omega arith)

-- a number below 2^64 has at most 20 digits
pub few : (n k : ℕ) → IsDigitCount 10 1 n k → n < 18446744073709551616 → k ≤ 20
few n k w h = few_by n k (leb k 20) refl w h

-- ---- what is written reads back

no_false : false ≡ true → ⊥
no_false p = let z : ◌≡◌ {A = ℕ} 0 1 = cc in omega arith

and_by : (t a b : Bool) → (a ≡ true → b ≡ true) → (t && a) ≡ true → (t && b) ≡ true
and_by true a b f p = f p
and_by false a b f p = absurd (no_false p)

all_append : (a b : List ℕ) → all_digits a ≡ true → all_digits b ≡ true → all_digits (a ++ b) ≡ true
all_append [] b p q = q
all_append (d ∷ a) b p q = and_by (ltb (digit_of d) 10) (all_digits a) (all_digits (a ++ b)) (λ r. all_append a b r q) p

value_append : (a b : List ℕ) (v : ℕ) → value_from v (a ++ b) ≡ value_from (value_from v a) b
value_append [] b v = refl
value_append (d ∷ a) b v = value_append a b (v * 10 + digit_of d)

digit_back : (d : ℕ) → d < 10 → digit_of (48 + d) ≡ d
digit_back d h = simp (le-ltb (48 + d) 48 (omega arith), le-ltb 57 (48 + d) (omega arith)) (omega arith)

one_digit : (d v : ℕ) → d < 10 → (all_digits ((48 + d) ∷ []) ≡ true) × (value_from v ((48 + d) ∷ []) ≡ v * 10 + d)
one_digit d v h = (simp (digit_back d h, lt-ltb d 10 h), ap (λ (x : ℕ). v * 10 + x) (digit_back d h))

zeros : (n : ℕ) → 0 * 10 + n ≡ n
zeros n = omega arith

whole : (n : ℕ) → n / 10 * 10 + n % 10 ≡ n
whole n = omega arith

abbrev Back : ℕ → List ℕ → Type 0
Back n s = (all_digits s ≡ true) × (value_from 0 s ≡ n)

back_by : (f n : ℕ) (b : Bool) → ltb n 10 ≡ b → (10 ≤ n → Back (n / 10) (decimal_by f (n / 10)))
    → Back n (cond b ((48 + n) ∷ []) (decimal_by f (n / 10) ++ ((48 + n % 10) ∷ [])))
back_by f n true e i =
    let w = one_digit n 0 (ltb-true n 10 e) in
    (w.0, w.1 ∙ zeros n)
back_by f n false e i =
    let w = i (ltb-false n 10 e) in
    let d = one_digit (n % 10) (n / 10) (omega arith) in (
      all_append (decimal_by f (n / 10)) ((48 + n % 10) ∷ []) w.0 d.0,
      value_append (decimal_by f (n / 10)) ((48 + n % 10) ∷ []) 0 ∙ rw w.1 (d.1 ∙ whole n),
    )

back : (f n : ℕ) → n < 10 ^ f → Back n (decimal_by f n)
back zero n h = (refl, omega (arith, pow-zero 10))
back (suc f) n h = back_by f n (ltb n 10) refl (λ k. back f (n / 10) (omega (arith, pow-suc 10 f)))

filled_by_lem : (f n : ℕ) (b : Bool) → length (cond b ((48 + n) ∷ []) (decimal_by f (n / 10) ++ ((48 + n % 10) ∷ []))) ≡ 0 → ⊥
filled_by_lem f n true e = omega arith
filled_by_lem f n false e = omega (arith, simp length-append at e)

filled : (f n : ℕ) → length (decimal_by (suc f) n) ≡ 0 → ⊥
filled f n e = filled_by_lem f n (ltb n 10) e

pub decimal_back : (n : ℕ) → n < 18446744073709551616 → number_of (decimal n) ≡ Some n
unfolding decimal
decimal_back n h =
    let w = back 20 n (omega arith) in
    num_begin (decimal_by 20 n) (filled 19 n) ∙ simp (w.0, w.1, lt-ltb n 18446744073709551616 h)
