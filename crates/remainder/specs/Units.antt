-- A finite binary32 value in units of the format's smallest, 2 ^ -149, and back to its pattern. A magnitude is a pattern without its sign's bit.
-- Definitions only.
use Rattle.std.specs.Prelude.{ℕ, ◌+◌, ◌-◌, ◌*◌, ◌/◌, ◌^◌, ◌<◌, ◌≤◌, ◌≡◌}
use Rattle.std.specs.Float.Ieee.{size}

-- the magnitude of an infinity; a NaN's is above it
abbrev pub infinity : ℕ
infinity = 0x7F80_0000

-- how far the digits are moved up: the exponent's field less one, where a field of 0 counts as 1
abbrev pub exponent : ℕ → ℕ
exponent x = x / 2 ^ 23 - 1

-- the digits, the leading one among them
abbrev pub significand : ℕ → ℕ
significand x = x - exponent x * 2 ^ 23

-- the value, in units
unfoldable pub units : ℕ → ℕ
units x = significand x * 2 ^ exponent x

-- The magnitude that stands for n units: the 24 leading digits of n, and how many were dropped, as `to_bits` writes a finite value.
unfoldable pub packed : ℕ → ℕ
packed n = (size n - 24) * 2 ^ 23 + n / 2 ^ (size n - 24)

-- the digits of a dividend and of a divisor
pub record Digits (m n : ℕ) : Type 0 where
  pub dividend : m < 2 ^ 24
  pub some : 0 < n
  pub divisor : n < 2 ^ 24

-- digits and how far they are moved up, of a finite value
pub record Finite (r k : ℕ) : Type 0 where
  pub digits : r < 2 ^ 24
  pub exponent : k ≤ 253

-- two finite magnitudes, the second no larger than the first
pub record Ordered (x y : ℕ) : Type 0 where
  pub some : 0 < y
  pub least : y ≤ x
  pub finite : x < infinity

-- the magnitude p that stands for n units
pub record Packed (n p : ℕ) : Type 0 where
  pub same : p ≡ packed n
  pub small : p < 2 ^ 31
