-- The float of a whole number, and the counts where counting down by 1.0 turns. Definitions only; the laws are `laws::less_one` and
-- `laws::beyond` (src/laws.rt).
use Rattle.std.specs.Prelude.{ℕ, ◌*◌, ◌≡◌, true, false, pos, Float}
use Rattle.std.specs.Float.Ieee.{nan, inf, fin, up, down}
use Rattle.numeric.specs.Numbers.{float, bits, zero, one, sub, le}

-- The float of a whole number, by its exact value: the pattern of k * 2 ^ 0. Every k up to 16,777,216 has one; of a k that no
-- float has as its value the lowest digits are cut, and no law is about it.
unfoldable pub whole : ℕ → ℕ
whole k = bits (fin false k (pos 0))

-- that the exact value of a float is k: `fin s m e` is m * 2 ^ e, negative where s is true, and `up e` / `down e` is 2 ^ e
abbrev pub IsWhole : Float → ℕ → Type 0
IsWhole nan k = ⊥
IsWhole (inf s) k = ⊥
IsWhole (fin true m e) k = ⊥
IsWhole (fin false m e) k = m * up e ≡ k * down e

-- the largest count: from here on down, subtracting 1.0 is exact
abbrev pub most : ℕ
most = 16_777_216

-- the float after it, which less 1 is 16,777,216 too
abbrev pub next : ℕ
next = 16_777_218

-- this count less 1 rounds back to itself
abbrev pub stuck : ℕ
stuck = 33_554_432

-- this count less 1 rounds back to itself too, and no count from it on ever falls below it
abbrev pub endless : ℕ
endless = 16_777_220

-- ---- counts that no pass spends

-- of numbers that are of a kind: there is a pass left of each, and less 1 it is of that kind again
pub record Lasting (kind : ℕ → Type 0) : Type 0 where
  pub left : (v : ℕ) → kind v → le v zero ≡ false
  pub again : (v : ℕ) → kind v → kind (sub v one)

-- 33,554,432, ..
abbrev pub IsStuck : ℕ → Type 0
IsStuck v = v ≡ whole stuck

-- .. any float from 16,777,220 on, whole or not, ..
abbrev pub IsEndless : ℕ → Type 0
IsEndless v = le (whole endless) v ≡ true

-- .. and a NaN
abbrev pub IsNan : ℕ → Type 0
IsNan v = float v ≡ nan
