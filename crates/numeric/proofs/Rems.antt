-- The pattern of a remainder stands for the remainder. Assumes nothing.
use Prim.Native.Nat.{ℕ}
use mathlib.Core.Path.{◌≡◌}
use lib.Ieee.{binary32}
use lib.Ieee as ieee
use lib.Ieee.Bits.{of_bits-to_bits, of_bits-fits}
use lib.Ieee.Fits.{rem-fits}
use Rattle.numeric.specs.Numbers.{float, rem}

pub float_rem : (a b : ℕ) → float (rem a b) ≡ ieee.rem binary32 (float a) (float b)
unfolding rem
float_rem a b = of_bits-to_bits binary32 (ieee.rem binary32 (float a) (float b)) (rem-fits binary32 (float a) (float b) (of_bits-fits binary32 a))

pub ruleset rems = (float_rem)
