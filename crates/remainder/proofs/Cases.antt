-- `rem` of two patterns, case by case: what each result of the code needs. Assumes nothing.
use mathlib.Core.Path.{◌≡◌, refl, ap, ◌∙◌}
use mathlib.Core.Bool.{Bool, true, false, cond}
use mathlib.Core.Logic.{◌⊎◌, inl, inr}
use Prim.Native.Nat.{ℕ, ◌+◌, ◌-◌, ◌*◌, ◌/◌, ◌%◌, ◌^◌, ◌≤◌, ◌<◌}
use native.Mathlib.Nat.{eq-or-lt_of_le, mod-eq_of_lt, lt_of_le_of_lt, lt_of_lt_of_le, le_of_lt}
use native.Mathlib.Omega.{arith}
use borrow.Author.Tests.{le-leb, lt-leb, ne_eqb, eq-eqb}
use lib.Dec.{leb, eqb}
use lib.IntN.{pos}
use lib.Ieee.{Float, nan, inf, fin, binary32, odd, of_fields, of_bits, to_bits}
use lib.Ieee as ieee
use Rattle.remainder.specs.Remainder.{rem}
use Rattle.remainder.specs.Units.{infinity, exponent, significand, units, packed}
use Rattle.remainder.proofs.Modulo.{mod_below}
use Rattle.remainder.proofs.Parts.{exponent-le, significand-lt, significand-pos, leads, both_parts, units_is, units-pos, units_lt, units-mod}
use Rattle.remainder.proofs.Packing.{packed_normal, packed_low}
use Rattle.remainder.proofs.Values.{Units, rem-units, round-units, bits-units, value_units}

abbrev magnitude : ℕ → ℕ
magnitude n = n % 2 ^ 31

abbrev negative : ℕ → Bool
negative n = leb (2 ^ 31) n

-- ---- what the patterns of the highest field and the zeros stand for

pub top_is : (n : ℕ) → infinity ≤ magnitude n → of_bits binary32 n ≡ cond (eqb (n % 2 ^ 23) 0) (inf (negative n)) nan
unfolding of_bits of_fields
top_is n h = let f : magnitude n / 2 ^ 23 ≡ 255 = omega arith in rw f

pub nan_is : (n : ℕ) → infinity < magnitude n → of_bits binary32 n ≡ nan
nan_is n h =
    let d : n % 2 ^ 23 ≡ 0 → ⊥ = λ e. omega arith in
    top_is n (le_of_lt h) ∙ ap (λ (b : Bool). cond b (inf (negative n)) nan) (ne_eqb (n % 2 ^ 23) 0 d)

pub inf_is : (n : ℕ) → magnitude n ≡ infinity → of_bits binary32 n ≡ inf (negative n)
inf_is n e =
    let d : n % 2 ^ 23 ≡ 0 = omega arith in
    top_is n (omega arith) ∙ ap (λ (b : Bool). cond b (inf (negative n)) nan) (eq-eqb (n % 2 ^ 23) 0 d)

pub zero_is : (n : ℕ) → magnitude n ≡ 0 → of_bits binary32 n ≡ fin (negative n) 0 (pos 0)
unfolding of_bits of_fields odd
zero_is n e = let d : n % 2 ^ 23 ≡ 0 = omega arith in rw (e, d)

-- ---- the results that are the NaN

-- the first operand is infinite, or a NaN
top-rem : (b s : Bool) (y : Float) → to_bits binary32 (ieee.rem binary32 (cond b (inf s) nan) y) ≡ 0x7FC0_0000
unfolding ieee.rem to_bits
top-rem true s y = refl
top-rem false s y = refl

rem-nan : (x : Float) → to_bits binary32 (ieee.rem binary32 x nan) ≡ 0x7FC0_0000
unfolding ieee.rem to_bits
rem-nan nan = refl
rem-nan (inf s) = refl
rem-nan (fin s m e) = refl

rem-zero : (x : Float) (t : Bool) → to_bits binary32 (ieee.rem binary32 x (fin t 0 (pos 0))) ≡ 0x7FC0_0000
unfolding ieee.rem to_bits
rem-zero nan t = refl
rem-zero (inf s) t = refl
rem-zero (fin s m e) t = refl

pub of_top : (a b : ℕ) → infinity ≤ magnitude a → rem a b ≡ 0x7FC0_0000
of_top a b h = rw (top_is a h) (top-rem (eqb (a % 2 ^ 23) 0) (negative a) (of_bits binary32 b))

pub by_nan : (a b : ℕ) → infinity < magnitude b → rem a b ≡ 0x7FC0_0000
by_nan a b h = rw (nan_is b h) (rem-nan (of_bits binary32 a))

pub by_zero : (a b : ℕ) → magnitude b ≡ 0 → rem a b ≡ 0x7FC0_0000
by_zero a b h = rw (zero_is b h) (rem-zero (of_bits binary32 a) (negative b))

-- ---- the first operand is finite

sign_is : (a : ℕ) → a < 2 ^ 32 → cond (negative a) (2 ^ 31) 0 ≡ a - magnitude a
sign_is a h = go (eq-or-lt_of_le {n = a / 2 ^ 31} {m = 1} (omega arith))
  where
    go : (a / 2 ^ 31 ≡ 1) ⊎ (a / 2 ^ 31 < 1) → cond (negative a) (2 ^ 31) 0 ≡ a - magnitude a
    go (inl e) = rw (le-leb (2 ^ 31) a (omega arith)) (omega arith)
    go (inr l) = rw (lt-leb (2 ^ 31) a (omega arith)) (omega arith)

-- a magnitude's units are packed to the magnitude
packed-units : (x : ℕ) → packed (units x) ≡ x
packed-units x = ap packed (units_is x) ∙ go (eq-or-lt_of_le {n = 0} {m = exponent x} (omega arith))
  where
    go : (0 ≡ exponent x) ⊎ (0 < exponent x) → packed (significand x * 2 ^ exponent x) ≡ x
    go (inl e) =
        let same : significand x * 2 ^ exponent x ≡ x = rw (← e) (omega arith) in
        let small : x < 2 ^ 24 = omega arith in
        ap packed same ∙ packed_low x small
    go (inr l) = packed_normal (significand x) (exponent x) (leads x l) (significand-lt x) ∙ both_parts x

-- the pattern of a value with a's sign
signed_bits : (a n : ℕ) (v : Float) → a < 2 ^ 32 → Units v (negative a) n → to_bits binary32 v ≡ a - magnitude a + packed n
signed_bits a n v A u = bits-units v (negative a) n u ∙ ap (λ (s : ℕ). s + packed n) (sign_is a A)

-- with a's units too, it is a
same_bits : (a : ℕ) (v : Float) → a < 2 ^ 32 → Units v (negative a) (units (magnitude a)) → to_bits binary32 v ≡ a
same_bits a v A u =
    let join : a - magnitude a + magnitude a ≡ a = omega arith in
    signed_bits a (units (magnitude a)) v A u ∙ ap (λ (n : ℕ). a - magnitude a + n) (packed-units (magnitude a)) ∙ join

-- an infinity leaves all of it
rem-inf : (x : Float) (s t : Bool) (n : ℕ) → Units x s n → ieee.rem binary32 x (inf t) ≡ x
unfolding ieee.rem
rem-inf nan s t n u = absurd u
rem-inf (inf r) s t n u = absurd u
rem-inf (fin r m e) s t n u = refl

-- both are finite, and 24 digits hold what is left
units-left : (a b q j : ℕ) → magnitude a < infinity → 0 < magnitude b → magnitude b < infinity → q < 2 ^ 24 → j ≤ 253
    → units (magnitude a) % units (magnitude b) ≡ q * 2 ^ j
    → Units (ieee.rem binary32 (of_bits binary32 a) (of_bits binary32 b)) (negative a) (units (magnitude a) % units (magnitude b))
units-left a b q j X P Y Q J e =
    let is = rem-units binary32 (of_bits binary32 a) (of_bits binary32 b) (negative a) (negative b) (units (magnitude a)) (units (magnitude b)) (value_units a X) (value_units b Y)
    (units-pos (magnitude b) P) in
    rw (is, e) (round-units (negative a) q j Q J)

-- a smaller magnitude is its own remainder
pub smaller : (a b : ℕ) → a < 2 ^ 32 → magnitude a < magnitude b → magnitude b ≤ infinity → rem a b ≡ a
smaller a b A l h = go (eq-or-lt_of_le h)
  where
    X : magnitude a < infinity
    X = lt_of_lt_of_le l h

    go : (magnitude b ≡ infinity) ⊎ (magnitude b < infinity) → rem a b ≡ a
    go (inl e) =
        let u = value_units a X in
        rw (inf_is b e, rem-inf (of_bits binary32 a) (negative a) (negative b) (units (magnitude a)) u) (same_bits a (of_bits binary32 a) A u)
    go (inr Y) =
        let x = magnitude a in
        let all : units x % units (magnitude b) ≡ units x = mod-eq_of_lt (units_lt x (magnitude b) l) in
        let u = units-left a b (significand x) (exponent x) X (omega arith) Y (significand-lt x) (exponent-le x X) (all ∙ units_is x) in
        same_bits a (ieee.rem binary32 (of_bits binary32 a) (of_bits binary32 b)) A (rw all at u)

-- of one that is no smaller the units that are left are packed, under the same sign
pub larger : (a b : ℕ) → a < 2 ^ 32 → magnitude a < infinity → 0 < magnitude b → magnitude b ≤ magnitude a
    → rem a b ≡ a - magnitude a + packed (units (magnitude a) % units (magnitude b))
larger a b A X P l =
    let x = magnitude a in
    let y = magnitude b in
    let Y : y < infinity = lt_of_le_of_lt l X in
    let m = significand x * 2 ^ (exponent x - exponent y) in
    signed_bits a (units x % units y) (ieee.rem binary32 (of_bits binary32 a) (of_bits binary32 b)) A
    (units-left a b (m % significand y) (exponent y) X P Y (mod_below m (significand-pos y P) (significand-lt y)) (exponent-le y Y) (units-mod x y P l))
