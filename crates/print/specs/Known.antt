-- Decimals set out: patterns of numbers, and the text of each. Definitions only.
use Rattle.std.specs.Prelude.{ℕ, List, [], ◌∷◌}
use Rattle.print.specs.Texts.{text}

-- those of docs/SERVICES.md, and the ends of the ranges
abbrev pub patterns : List ℕ
patterns =
    0x4040_0000
    ∷ 0x3DCC_CCCD
    ∷ 0x0080_0000
    ∷ 0x7F80_0000
    ∷ 0xFF80_0000
    ∷ 0x7FC0_0000
    ∷ 0x8000_0000
    ∷ 0x0000_0001
    ∷ 0x7F7F_FFFF
    ∷ 0x4E6E_6B28
    ∷ 0x38D1_B717
    ∷ 0x4B80_0001
    ∷ []

abbrev pub decimals : List (List ℕ)
decimals =
    text "3"
    ∷ text "0.100000001"
    ∷ text "1.17549435e-38"
    ∷ text "inf"
    ∷ text "-inf"
    ∷ text "nan"
    ∷ text "-0"
    ∷ text "1.40129846e-45"
    ∷ text "3.40282347e+38"
    ∷ text "1e+09"
    ∷ text "9.99999975e-05"
    ∷ text "16777218"
    ∷ []
