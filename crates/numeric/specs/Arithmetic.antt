-- Document 01, section 'Arithmetic': posts, truth, negation, the division guard and the remainder. Definitions only.
use Rattle.std.specs.Prelude.{ℕ, Bool, not, ◌&&◌, cond, Float, Option, Some, None}
use Rattle.std.specs.Float.{binary32}
use Rattle.std.specs.Float.Ieee as ieee
use Rattle.numeric.specs.Numbers.{float, bits, zero, one, epsilon, entered, negative, magnitude, add, mul, div, lt, eq, truthy}
use Rattle.numeric.specs.declared.post_op.PostOp.{PostOp}
use Rattle.numeric.specs.declared.post_op.Post.{Post}

-- ---- posts

-- the post that a scale and an offset make, each given by its bits: what arithmetic reads, and the offset that enters as false
abbrev pub post_of : ℕ → ℕ → Post
post_of scale offset = record { op = record { scale = float scale; offset = float offset }; offset = offset }

-- "The named constant IDENTITY is post 0."
abbrev pub identity : PostOp
identity = record { scale = float one; offset = float zero }

abbrev pub plain : Post
plain = record { op = identity; offset = zero }

-- a · b + c and c - a · b: two roundings
abbrev pub mul_add : Float → Float → Float → Float
mul_add a b c = ieee.add binary32 (ieee.mul binary32 a b) c

abbrev pub mul_sub : Float → Float → Float → Float
mul_sub a b c = ieee.sub binary32 c (ieee.mul binary32 a b)

-- "scale 1 and offset 0 (either sign)"
unfoldable pub is_identity : PostOp → Bool
is_identity p = ieee.eq p.scale (float one) && ieee.eq p.offset (float zero)

-- "gives its input unchanged; otherwise product, then sum, two roundings"
unfoldable pub applied : PostOp → ℕ → ℕ
applied p raw = cond (is_identity p) raw (bits (mul_add (float raw) p.scale p.offset))

-- "True is scale + offset, false is offset."
unfoldable pub truthy_value : PostOp → ℕ
truthy_value p = bits (ieee.add binary32 p.scale p.offset)

abbrev pub falsy_value : Post → ℕ
falsy_value p = entered p.offset

unfoldable pub selected : Post → Bool → ℕ
selected p b = cond b (truthy_value p.op) (falsy_value p)

-- ---- what the records do with numbers

-- "Not is true on zero."
abbrev pub notted : ℕ → Post → ℕ
notted x p = selected p (not (truthy x))

-- "Negate with an identity post flips the sign; otherwise offset - (accumulator times scale)."
unfoldable pub negated : ℕ → Post → ℕ
negated x p = cond (is_identity p.op) (entered (negative x)) (bits (mul_sub (float x) p.op.scale p.op.offset))

-- the popped number and the accumulator, posted; Div the accumulator and the popped number
abbrev pub added : ℕ → ℕ → PostOp → ℕ
added acc top p = applied p (add top acc)

abbrev pub multiplied : ℕ → ℕ → PostOp → ℕ
multiplied acc top p = applied p (mul top acc)

abbrev pub divided : ℕ → ℕ → PostOp → ℕ
divided acc top p = applied p (div acc top)

-- "DivGuard: magnitude below 2^-23 gives +0.0 and jumps; otherwise the divisor, or its magnitude, is pushed."
-- The number that is pushed, or none where the accumulator takes +0.0 and the machine jumps
abbrev pub divisor : Bool → ℕ → ℕ
divisor signed d = cond signed d (magnitude d)

unfoldable pub guarded : Bool → ℕ → Option ℕ
guarded signed d = cond (lt (magnitude d) epsilon) None (Some (entered (divisor signed d)))

-- "Mod and ModConst always multiply and add."
unfoldable pub mod_const : ℕ → ℕ → PostOp → ℕ
mod_const a b p = bits (mul_add (ieee.rem binary32 (float a) (float b)) p.scale p.offset)

-- "Mod: divisor 0 gives offset."
unfoldable pub mod_runtime : ℕ → ℕ → Post → ℕ
mod_runtime a b p = cond (eq b zero) (falsy_value p) (mod_const a b p.op)
