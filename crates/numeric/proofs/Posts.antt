-- The plain form of a post, and a NaN that is posted. Assumes nothing.
use mathlib.Core.Path.{◌≡◌, refl}
use mathlib.Core.Bool.{true, false}
use Prim.Native.Nat.{ℕ}
use lib.Ieee.{binary32, eq, of_bits, to_bits, nan_bits}
use Rattle.numeric.specs.Numbers.{entered, negative}
use Rattle.numeric.specs.Arithmetic.{plain, is_identity, applied, negated}
use Rattle.numeric.specs.declared.post_op.PostOp.{PostOp}
use Rattle.numeric.proofs.Nans.{nan_pattern, add_strict, mul_strict}

-- post 0 gives its input unchanged
pub plain-applied : (x : ℕ) → applied plain.op x ≡ x
unfolding applied is_identity eq of_bits
plain-applied x = refl

-- Negate under post 0 turns the sign over
pub plain-negated : (x : ℕ) → negated x plain ≡ entered (negative x)
unfolding negated is_identity eq of_bits
plain-negated x = refl

-- a post that computes makes a NaN of a NaN
pub raw_nan : (p : PostOp) (raw : ℕ) → is_identity p ≡ false → nan_bits binary32 raw ≡ true → applied p raw ≡ 0x7FC0_0000
unfolding applied to_bits
raw_nan p raw h e = rw (h, nan_pattern raw e, mul_strict.left p.scale, add_strict.left p.offset)
