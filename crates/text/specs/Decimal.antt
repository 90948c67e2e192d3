-- Decimal numbers below 2^64, read and written. Assumes nothing.
use Rattle.std.specs.Prelude.{ℕ, zero, suc, ◌+◌, ◌-◌, ◌*◌, ◌/◌, ◌%◌, Bool, true, cond, ◌&&◌, List, [], ◌∷◌, ◌++◌, length, eqb, ltb, Option, Some, None}

-- the value of a digit, 10 for any other byte
abbrev pub digit_of : ℕ → ℕ
digit_of b = cond (ltb b 48) 10 (cond (ltb 57 b) 10 (b - 48))

abbrev pub all_digits : List ℕ → Bool
all_digits [] = true
all_digits (d ∷ ds) = ltb (digit_of d) 10 && all_digits ds

-- the value of v's digits followed by these
abbrev pub value_from : ℕ → List ℕ → ℕ
value_from v [] = v
value_from v (d ∷ ds) = value_from (v * 10 + digit_of d) ds

abbrev pub read_from : ℕ → List ℕ → Option ℕ
read_from v s = cond (all_digits s) (cond (ltb (value_from v s) 18446744073709551616) (Some (value_from v s)) None) None

-- at least one digit, digits alone, a value below 2^64
abbrev pub number_of : List ℕ → Option ℕ
number_of s = cond (eqb (length s) 0) None (read_from 0 s)

-- the digits of n, no more than f of them, none in front that is a 0 unless n is 0
abbrev pub decimal_by : ℕ → ℕ → List ℕ
decimal_by zero n = []
decimal_by (suc f) n = cond (ltb n 10) ((48 + n) ∷ []) (decimal_by f (n / 10) ++ ((48 + n % 10) ∷ []))

unfoldable pub decimal : ℕ → List ℕ
decimal n = decimal_by 20 n
