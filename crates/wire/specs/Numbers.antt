-- Numbers in network order, the highest byte first: at a place of a list of bytes, and as bytes. Assumes nothing.
use Rattle.std.specs.Prelude.{ℕ, ◌+◌, ◌*◌, ◌/◌, ◌%◌, List, [], ◌∷◌, ◌++◌, get_or}

abbrev pub be16 : ℕ → ℕ → ℕ
be16 a b = a * 256 + b

abbrev pub be32 : ℕ → ℕ → ℕ
be32 a b = a * 65536 + b

abbrev pub be64 : ℕ → ℕ → ℕ
be64 a b = a * 4294967296 + b

-- the number of 2, 4 or 8 bytes at place i of s
abbrev pub u16_at : List ℕ → ℕ → ℕ
u16_at s i = be16 (get_or s i 0) (get_or s (i + 1) 0)

abbrev pub u32_at : List ℕ → ℕ → ℕ
u32_at s i = be32 (u16_at s i) (u16_at s (i + 2))

abbrev pub u64_at : List ℕ → ℕ → ℕ
u64_at s i = be64 (u32_at s i) (u32_at s (i + 4))

-- the bytes of a number of 16, 32 or 64 bits
abbrev pub bytes16 : ℕ → List ℕ
bytes16 x = x / 256 ∷ x % 256 ∷ []

abbrev pub bytes32 : ℕ → List ℕ
bytes32 x = bytes16 (x / 65536) ++ bytes16 (x % 65536)

abbrev pub bytes64 : ℕ → List ℕ
bytes64 x = bytes32 (x / 4294967296) ++ bytes32 (x % 4294967296)
