-- The cells in a file and on the page. docs/SERVICES.md: nine bytes each, the kind, then the value, 64 bits, the least byte
-- first. Definitions only.
use Rattle.std.specs.Prelude.{ℕ, ◌+◌, ◌*◌, ◌/◌, cond, List, ◌∷◌, ◌++◌, eqb, length, map}
use Rattle.std.specs.Int.{to_le_bytes}
use Rattle.std.specs.List.{range_with_len}
use mir.Syntax.{w64}
use Rattle.endian.specs.Endian.{byte_at, u64_at}
use Rattle.eval.specs.Machine.{Cells, cells_of, low}
use Rattle.print.specs.Texts.{text, decimal, hex}
use Rattle.print.specs.Decimal.{float}
use Rattle.report.specs.Pieces.{pieces}

-- ---- read

-- the kinds and the values of k cells from cell i on
abbrev pub kinds_from : ℕ → List ℕ → ℕ → List ℕ
kinds_from k s i = map (λ n. byte_at s (n * 9)) (range_with_len i k)

abbrev pub values_from : ℕ → List ℕ → ℕ → List ℕ
values_from k s i = map (λ n. u64_at s (n * 9 + 1)) (range_with_len i k)

abbrev pub cells_read : List ℕ → Cells
cells_read s = cells_of (kinds_from (length s / 9) s 0) (values_from (length s / 9) s 0)

-- ---- written back

-- the bytes of one cell, whichever number it has
abbrev pub cell_bytes : ℕ → ℕ → ℕ → List ℕ
cell_bytes i kind value = kind ∷ to_le_bytes w64 value

abbrev pub cells_bytes : List ℕ → List ℕ → List ℕ
cells_bytes kinds values = pieces cell_bytes 0 kinds values

-- ---- on the page

-- a number as its bits and in decimal
unfoldable pub value_text : ℕ → List ℕ
value_text bits = hex 8 bits ++ (text " " ++ float bits)

unfoldable pub cell_text : ℕ → ℕ → List ℕ
cell_text kind value =
    cond (eqb kind 0) (text " missing")
    (cond (eqb kind 1) (text " float " ++ value_text (low value))
    (cond (eqb kind 2) (text " hash " ++ hex 16 value) (text " other " ++ hex 16 value)))

unfoldable pub cell_line : ℕ → ℕ → ℕ → List ℕ
cell_line i kind value = text "cell " ++ (decimal i ++ (cell_text kind value ++ text "\n"))

-- a line for each cell
abbrev pub cells_text : List ℕ → List ℕ → List ℕ
cells_text kinds values = pieces cell_line 0 kinds values
