-- Numbers of the float machine: an f32 is kept as its 32 bits.
-- Definitions only; the arithmetic is IEEE 754's binary32, as `Rattle.std.specs.Float.Ieee` has it.
use Rattle.std.specs.Prelude.{ℕ, ◌+◌, ◌-◌, ◌%◌, ◌^◌, ◌≡◌, ◌||◌, Bool, true, cond, ltb, Float}
use Rattle.std.specs.Float.{binary32}
use Rattle.std.specs.Float.Ieee.{of_bits, to_bits, nan_bits}
use Rattle.std.specs.Float.Ieee as ieee

-- the value that a pattern of 32 bits stands for; every NaN pattern is `nan`
abbrev pub float : ℕ → Float
float n = of_bits binary32 n

-- the pattern of a value that an operation made: "A NaN made by + - * / % is 7FC00000"
abbrev pub bits : Float → ℕ
bits x = to_bits binary32 x

-- +0.0, 1.0 and 2^-23
abbrev pub zero : ℕ
zero = 0

abbrev pub one : ℕ
one = 0x3F80_0000

abbrev pub epsilon : ℕ
epsilon = 0x3400_0000

-- whether a pattern is a NaN's, quiet or signalling, of either sign
abbrev pub is_nan : ℕ → Bool
is_nan n = nan_bits binary32 n

abbrev pub either_nan : ℕ → ℕ → Bool
either_nan a b = is_nan a || is_nan b

-- the NaN that an operation makes
abbrev pub one_nan : ℕ
one_nan = 0x7FC0_0000

-- A number enters the machine. "From now on every NaN that enters by a constant, a post's offset, `this`, a float cell, a context
-- cell or the low half of a hash, and every NaN from Negate or DivGuard, is 7FC00000." All else keeps its bits.
unfoldable pub entered : ℕ → ℕ
entered n = cond (is_nan n) one_nan n

-- a number that is no NaN, or that one
abbrev pub OneNan : ℕ → Type 0
OneNan n = is_nan n ≡ true → n ≡ one_nan

-- ---- the sign, on the pattern, a NaN's too

unfoldable pub negative : ℕ → ℕ
negative n = cond (ltb n (2 ^ 31)) (n + 2 ^ 31) (n - 2 ^ 31)

abbrev pub magnitude : ℕ → ℕ
magnitude n = n % 2 ^ 31

-- ---- + - * / %, rounded once each. The remainder is Rust's %: exact, quotient cut towards zero, the dividend's sign

unfoldable pub add : ℕ → ℕ → ℕ
add a b = bits (ieee.add binary32 (float a) (float b))

unfoldable pub sub : ℕ → ℕ → ℕ
sub a b = bits (ieee.sub binary32 (float a) (float b))

unfoldable pub mul : ℕ → ℕ → ℕ
mul a b = bits (ieee.mul binary32 (float a) (float b))

unfoldable pub div : ℕ → ℕ → ℕ
div a b = bits (ieee.div binary32 (float a) (float b))

unfoldable pub rem : ℕ → ℕ → ℕ
rem a b = bits (ieee.rem binary32 (float a) (float b))

-- ---- comparisons: -0.0 equals +0.0, and with a NaN all are false but `ne`

unfoldable pub lt : ℕ → ℕ → Bool
lt a b = ieee.lt (float a) (float b)

unfoldable pub le : ℕ → ℕ → Bool
le a b = ieee.le (float a) (float b)

unfoldable pub gt : ℕ → ℕ → Bool
gt a b = lt b a

unfoldable pub ge : ℕ → ℕ → Bool
ge a b = le b a

unfoldable pub eq : ℕ → ℕ → Bool
eq a b = ieee.eq (float a) (float b)

unfoldable pub ne : ℕ → ℕ → Bool
ne a b = ieee.ne (float a) (float b)

-- "Only 0 is false; NaN is true."
unfoldable pub truthy : ℕ → Bool
truthy x = ne x zero
