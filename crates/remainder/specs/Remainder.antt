-- The remainder of two binary32 floats, each given by its pattern of 32 bits, as IEEE 754's arithmetic of `Rattle.std.specs.Float.Ieee` has it. Definitions only.
use Rattle.std.specs.Prelude.{ℕ}
use Rattle.std.specs.Float.{binary32}
use Rattle.std.specs.Float.Ieee.{of_bits, to_bits}
use Rattle.std.specs.Float.Ieee as ieee

-- "Rust's %: exact, quotient cut towards zero, the dividend's sign"; a NaN that it makes is 7FC00000
abbrev pub rem : ℕ → ℕ → ℕ
rem a b = to_bits binary32 (ieee.rem binary32 (of_bits binary32 a) (of_bits binary32 b))
