-- Document 02, Twelve: whole numbers from floats. Definitions only.
use Rattle.std.specs.Prelude.{ℕ, ◌+◌, ◌-◌, ◌*◌, ◌/◌, ◌%◌, ◌^◌, ◌<◌, ◌≤◌, ◌≡◌, Bool, true, false, cond, eqb, leb, Float}
use Rattle.std.specs.Float.{binary32}
use Rattle.std.specs.Float.Ieee.{nan, inf, fin, up, down}
use Rattle.std.specs.Float.Ieee as ieee
use Rattle.remainder.specs.Units.{units}
use Rattle.numeric.specs.Numbers.{float, bits, one, one_nan, is_nan, magnitude}

-- ---- the magnitude a / c made whole

-- the greatest whole number not above a / c
abbrev pub whole_below : ℕ → ℕ → ℕ
whole_below a c = a / c

-- the least whole number not below a / c: one more where something is left
abbrev pub whole_above : ℕ → ℕ → ℕ
whole_above a c = cond (eqb (a % c) 0) (a / c) (a / c + 1)

-- the part on a side: above it, or below
abbrev pub part_if : Bool → ℕ → ℕ → ℕ
part_if true a c = whole_above a c
part_if false a c = whole_below a c

-- ---- a value made whole

-- A finite value `fin s m e` is m * 2 ^ e, negative where s is true; `up e` / `down e` is 2 ^ e as a fraction. `round binary32 s a c`
-- is the float nearest to a / c, with the sign s.
-- `part` makes the magnitude whole, and may ask for the sign. An infinity passes, and a zero result has the input's sign. Of a float
-- it is exact: `round` has nothing to round (`part_value`, src/laws.rt)
abbrev pub made_whole : (Bool → ℕ → ℕ → ℕ) → Float → Float
made_whole part nan = nan
made_whole part (inf s) = inf s
made_whole part (fin s m e) = ieee.round binary32 s (part s (m * up e) (down e)) 1

-- "Floor gives the greatest whole number not above the accumulator": of a negative number the magnitude is rounded up
unfoldable pub floor : Float → Float
floor x = made_whole (λ negative a c. cond negative (whole_above a c) (whole_below a c)) x

-- "Ceil the least not below"
unfoldable pub ceil : Float → Float
ceil x = made_whole (λ negative a c. cond negative (whole_below a c) (whole_above a c)) x

-- "Trunc the one towards zero"
unfoldable pub trunc : Float → Float
trunc x = made_whole (λ negative a c. whole_below a c) x

-- "Abs clears the sign, of zeros and infinities too."
unfoldable pub abs : Float → Float
abs nan = nan
abs (inf s) = inf false
abs (fin s m e) = fin false m e

-- ---- the same of patterns. "NaN gives 7FC00000 in all four."

unfoldable pub floored : ℕ → ℕ
floored n = bits (floor (float n))

unfoldable pub ceiled : ℕ → ℕ
ceiled n = bits (ceil (float n))

unfoldable pub truncated : ℕ → ℕ
truncated n = bits (trunc (float n))

unfoldable pub absolute : ℕ → ℕ
absolute n = bits (abs (float n))

-- the same with the side named: towards zero, or away from it
unfoldable pub whole : Bool → ℕ → ℕ
whole away n = bits (made_whole (λ negative a c. cond away (whole_above a c) (whole_below a c)) (float n))

-- ---- what is claimed of them (src/laws.rt), at the patterns n below 2 ^ 32

-- neither an infinity's pattern nor a NaN's
abbrev pub Finite : ℕ → Type 0
Finite n = magnitude n < 0x7F80_0000

-- a pattern's sign
abbrev pub has_sign : ℕ → Bool
has_sign n = leb (2 ^ 31) n

-- a finite value's magnitude, as a fraction
abbrev pub numerator : Float → ℕ
numerator nan = 0
numerator (inf s) = 0
numerator (fin s m e) = m * up e

abbrev pub denominator : Float → ℕ
denominator nan = 1
denominator (inf s) = 1
denominator (fin s m e) = down e

-- a whole number of any size, also one that no pattern stands for
unfoldable pub is_whole : Float → Bool
is_whole nan = false
is_whole (inf s) = false
is_whole (fin s m e) = eqb (m * up e % down e) 0

-- the pattern of 2 ^ 23, from where on no digit is below the point
abbrev pub all_whole : ℕ
all_whole = 0x4B00_0000

-- from there on each finite number is whole
abbrev pub LargeIsWhole : ℕ → Type 0
LargeIsWhole n = all_whole ≤ magnitude n → Finite n → is_whole (float n) ≡ true

-- "the greatest whole number not above": of the whole numbers that are not above x, none is above r
pub record GreatestNotAbove (x r : Float) : Type 0 where
  pub whole : is_whole r ≡ true
  pub not_above : ieee.le r x ≡ true
  pub greatest : (w : Float) → is_whole w ≡ true → ieee.le w x ≡ true → ieee.le w r ≡ true

-- "the least not below"
pub record LeastNotBelow (x r : Float) : Type 0 where
  pub whole : is_whole r ≡ true
  pub not_below : ieee.le x r ≡ true
  pub least : (w : Float) → is_whole w ≡ true → ieee.le x w ≡ true → ieee.le r w ≡ true

-- the magnitudes of x and r are less than one apart: |x| < |r| + 1 and |r| < |x| + 1
pub record Near (x r : Float) : Type 0 where
  pub least : numerator x * denominator r < (numerator r + denominator r) * denominator x
  pub most : numerator r * denominator x < (numerator x + denominator x) * denominator r

-- what holds of r, where Floor, Ceil or Trunc gives it of n
pub record MadeWhole (n r : ℕ) : Type 0 where
  -- it has the input's sign, also where it is zero
  pub sign : is_nan n ≡ false → has_sign r ≡ has_sign n
  pub near : Finite n → Near (float n) (float r)
  -- a whole number is its own
  pub kept : is_whole (float n) ≡ true → r ≡ n
  -- "Infinities pass through them."
  pub infinity : magnitude n ≡ 0x7F80_0000 → r ≡ n
  -- "NaN gives 7FC00000 in all four."
  pub nan : is_nan n ≡ true → r ≡ one_nan

pub record FloorLaws (n : ℕ) : Type 0 where
  pub made : MadeWhole n (floored n)
  pub is : Finite n → GreatestNotAbove (float n) (float (floored n))
  pub twice : floored (floored n) ≡ floored n

pub record CeilLaws (n : ℕ) : Type 0 where
  pub made : MadeWhole n (ceiled n)
  pub is : Finite n → LeastNotBelow (float n) (float (ceiled n))
  pub twice : ceiled (ceiled n) ≡ ceiled n

-- "Trunc the one towards zero": of a negative number the least not below, and else the greatest not above
pub record TruncLaws (n : ℕ) : Type 0 where
  pub made : MadeWhole n (truncated n)
  pub is : truncated n ≡ cond (has_sign n) (ceiled n) (floored n)
  pub whole : Finite n → is_whole (float (truncated n)) ≡ true
  pub no_larger : Finite n
      → numerator (float (truncated n)) * denominator (float n) ≤ numerator (float n) * denominator (float (truncated n))
  pub twice : truncated (truncated n) ≡ truncated n

-- "Abs clears the sign, of zeros and infinities too."
pub record AbsLaws (n : ℕ) : Type 0 where
  pub is : is_nan n ≡ false → absolute n ≡ magnitude n
  pub nan : is_nan n ≡ true → absolute n ≡ one_nan

-- ---- nothing is rounded

-- x is finite, has the sign s, and is a / c in size
abbrev pub IsFraction : Float → Bool → ℕ → ℕ → Type 0
IsFraction nan s a c = ⊥
IsFraction (inf t) s a c = ⊥
IsFraction (fin t m e) s a c = (t ≡ s) × (m * up e * c ≡ a * down e)

-- of a finite number the whole part on either side is a value of the format, with either sign
abbrev pub PartIsValue : ℕ → Type 0
PartIsValue n =
    Finite n → (above s : Bool) →
    let part = part_if above (numerator (float n)) (denominator (float n)) in
    IsFraction (ieee.round binary32 s part 1) s part 1

-- ---- what the code does with a magnitude of 1 at least, and below 2 ^ 23

-- how many of the 23 digits stand below the point
abbrev pub below_point : ℕ → ℕ
below_point x = 150 - x / 2 ^ 23

-- what is added before they are cut off: the most that b digits hold, or nothing
abbrev pub most : Bool → ℕ → ℕ
most away b = cond away (2 ^ b - 1) 0

-- the magnitude with them cut off
abbrev pub cut : Bool → ℕ → ℕ
cut away x = (x + most away (below_point x)) / 2 ^ below_point x * 2 ^ below_point x

-- that is the whole part on the side away from zero, or towards it: 2 ^ 149 units (crates/remainder) are 1
abbrev pub CutIsPart : Type 0
CutIsPart =
    (away : Bool) (x : ℕ) → one ≤ x → x < all_whole
    → (units (cut away x) ≡ part_if away (units x) (2 ^ 149) * 2 ^ 149) × (cut away x ≤ all_whole)
