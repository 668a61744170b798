-- Texts as bytes, and numbers as texts. Definitions only.
use Rattle.std.specs.Prelude.{ℕ, zero, suc, ◌+◌, ◌/◌, ◌%◌, cond, List, [], ◌∷◌, ◌++◌, ltb}
use Prim.Native.Char.{code}
use Prim.Native.String.{String, [] as empty, ◌∷◌ as ◌then◌}

-- a quoted text; its characters are ASCII
abbrev pub text : String → List ℕ
text empty = []
text (c then s) = code c ∷ text s

-- a decimal digit
abbrev pub digit : ℕ → ℕ
digit d = 48 + d

-- the digits of n, the highest first, with no zero in front, 0 as "0"; fuel is n or more
unfoldable pub decimal_by : ℕ → ℕ → List ℕ
decimal_by zero n = digit (n % 10) ∷ []
decimal_by (suc fuel) n = let more = decimal_by fuel (n / 10) ++ (digit (n % 10) ∷ []) in cond (ltb n 10) (digit n ∷ []) more

unfoldable pub decimal : ℕ → List ℕ
decimal n = decimal_by n n

-- a hexadecimal digit, in capitals
unfoldable pub hex_digit : ℕ → ℕ
hex_digit d = cond (ltb d 10) (48 + d) (55 + d)

-- the last k hexadecimal digits of n, the highest first
unfoldable pub hex : ℕ → ℕ → List ℕ
hex zero n = []
hex (suc k) n = hex k (n / 16) ++ (hex_digit (n % 16) ∷ [])
