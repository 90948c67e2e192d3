-- Hexadecimal, two digits to a byte: read in either case, printed in lower case (docs/DECISIONS.md, 4). Assumes nothing.
use Rattle.std.specs.Prelude.{ℕ, ◌+◌, ◌-◌, ◌*◌, ◌/◌, ◌%◌, ◌≡◌, cond, ◌&&◌, List, [], ◌∷◌, length, slice_index, eqb, ltb, leb, Option, Some, None}
use Rattle.table.specs.Table.{filled}

-- the value of a digit, `0` to `9`, `A` to `F` or `a` to `f`; 16 for any other byte
abbrev pub nibble_of : ℕ → ℕ
nibble_of b =
    cond (ltb b 48) 16
    (cond (leb b 57) (b - 48)
    (cond (ltb b 65) 16
    (cond (leb b 70) (b - 55)
    (cond (ltb b 97) 16
    (cond (leb b 102) (b - 87) 16)))))

-- the bytes of the pairs of digits, up to the first pair that is none
abbrev pub unhexed : List ℕ → List ℕ
unhexed [] = []
unhexed (a ∷ []) = []
unhexed (a ∷ b ∷ s) = cond (leb (nibble_of a) 15 && leb (nibble_of b) 15) ((nibble_of a * 16 + nibble_of b) ∷ unhexed s) []

-- what is read of a digit, and of a pair of them
abbrev pub nibble_read : ℕ → Option ℕ
nibble_read b = cond (leb (nibble_of b) 15) (Some (nibble_of b)) None

abbrev pub byte_read : ℕ → ℕ → Option ℕ
byte_read a b = cond (leb (nibble_of a) 15 && leb (nibble_of b) 15) (Some (nibble_of a * 16 + nibble_of b)) None

abbrev pub pair_read : List ℕ → Option ℕ
pair_read p = byte_read (slice_index p 0) (slice_index p 1)

-- how many bytes are read of pairs of digits alone, where there is room for so many
abbrev pub count_read : ℕ → List ℕ → Option ℕ
count_read room s = cond (ltb room (length s / 2)) None (cond (eqb (2 * length (unhexed s)) (length s)) (Some (length (unhexed s))) None)

-- the bytes that are read, where so many are
abbrev pub bytes_of : Option ℕ → List ℕ → List ℕ
bytes_of (Some n) s = unhexed s
bytes_of None s = []

pub record Unhexed (s out : List ℕ) (r : Option ℕ) (out' : List ℕ) : Type 0 where
  pub is : r ≡ count_read (length out) s
  pub bytes : out' ≡ filled out (bytes_of r s)

-- a value's digit, `0` to `9` or `a` to `f`
abbrev pub glyph_of : ℕ → ℕ
glyph_of d = cond (ltb d 10) (48 + d) (87 + d)

abbrev pub hexed : List ℕ → List ℕ
hexed [] = []
hexed (b ∷ bs) = glyph_of (b / 16) ∷ glyph_of (b % 16) ∷ hexed bs
