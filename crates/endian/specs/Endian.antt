-- "Numbers are little-endian." Definitions only.
use Rattle.std.specs.Prelude.{ℕ, zero, suc, ◌+◌, ◌*◌, List, get_or}

-- the byte at a place of a byte string; past its end 0
abbrev pub byte_at : List ℕ → ℕ → ℕ
byte_at s i = get_or s i 0

-- the number of w bytes that begins there, the lowest byte first
unfoldable pub number_at : ℕ → List ℕ → ℕ → ℕ
number_at zero s i = 0
number_at (suc w) s i = byte_at s i + 256 * number_at w s (i + 1)

abbrev pub u16_at : List ℕ → ℕ → ℕ
u16_at s i = number_at 2 s i

abbrev pub u32_at : List ℕ → ℕ → ℕ
u32_at s i = number_at 4 s i

abbrev pub u64_at : List ℕ → ℕ → ℕ
u64_at s i = number_at 8 s i
