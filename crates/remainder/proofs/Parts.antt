-- The parts of a magnitude, and its units: their order and their remainder. Assumes nothing.
use mathlib.Core.Path.{◌≡◌, refl, sym, ap, ◌∙◌, subst}
use mathlib.Core.Logic.{◌⊎◌, inl, inr}
use Prim.Native.Nat.{ℕ, ◌+◌, ◌-◌, ◌*◌, ◌%◌, ◌^◌, ◌≤◌, ◌<◌}
use native.Mathlib.Nat.{eq-or-lt_of_le, le_trans, le_of_eq, le_of_lt, lt_of_lt_of_le, mul_right_comm, mul-le-mul_right, mul-lt-mul_of_pos_right, mul-pos}
use native.Mathlib.Omega.{arith}
use lib.Pow.{pow-add, pow_pos, pow_mono, shl_lt}
use Rattle.remainder.specs.Units.{infinity, exponent, significand, units}
use Rattle.remainder.proofs.Modulo.{mod_scale, shift_parts, mod_below}

pub exponent-le : (x : ℕ) → x < infinity → exponent x ≤ 253
exponent-le x h = omega arith

pub exponent_mono : (x y : ℕ) → y ≤ x → exponent y ≤ exponent x
exponent_mono x y h = omega arith

pub significand-lt : (x : ℕ) → significand x < 2 ^ 24
significand-lt x = omega arith

pub significand-pos : (x : ℕ) → 0 < x → 0 < significand x
significand-pos x h = omega arith

-- where the digits are moved up, the leading one is there
pub leads : (x : ℕ) → 0 < exponent x → 2 ^ 23 ≤ significand x
leads x h = omega arith

pub both_parts : (x : ℕ) → exponent x * 2 ^ 23 + significand x ≡ x
both_parts x = omega arith

pub units_is : (x : ℕ) → units x ≡ significand x * 2 ^ exponent x
unfolding units
units_is x = refl

pub units-pos : (x : ℕ) → 0 < x → 0 < units x
unfolding units
units-pos x h = mul-pos (significand-pos x h) (pow_pos (exponent x))

-- a smaller magnitude is fewer units
pub units_lt : (x y : ℕ) → x < y → units x < units y
unfolding units
units_lt x y h = go (eq-or-lt_of_le (exponent_mono y x (le_of_lt h)))
  where
    less : exponent x ≡ exponent y → significand x < significand y
    less e = omega arith

    some : exponent x < exponent y → 0 < exponent y
    some l = omega arith

    room : exponent x < exponent y → 24 + exponent x ≤ 23 + exponent y
    room l = omega arith

    go : (exponent x ≡ exponent y) ⊎ (exponent x < exponent y) → significand x * 2 ^ exponent x < significand y * 2 ^ exponent y
    go (inl e) = subst (λ (k : ℕ). significand x * 2 ^ exponent x < significand y * 2 ^ k) e (mul-lt-mul_of_pos_right (less e) (pow_pos (exponent x)))
    go (inr l) =
        lt_of_lt_of_le (shl_lt 24 (exponent x) (significand-lt x))
        (le_trans (pow_mono (room l)) (le_trans (le_of_eq (pow-add 2 23 (exponent y))) (mul-le-mul_right (2 ^ exponent y) (leads y (some l)))))

-- with the smaller exponent taken out, it is a remainder of significands
pub units-mod : (x y : ℕ) → 0 < y → y ≤ x → units x % units y ≡ significand x * 2 ^ (exponent x - exponent y) % significand y * 2 ^ exponent y
unfolding units
units-mod x y h l =
    ap (λ (n : ℕ). n % (significand y * 2 ^ exponent y))
    (sym (shift_parts (significand x) (exponent_mono x y l)) ∙ mul_right_comm (significand x) (2 ^ exponent y) (2 ^ (exponent x - exponent y)))
    ∙ mod_scale (significand x * 2 ^ (exponent x - exponent y)) (significand-pos y h) (pow_pos (exponent y))

-- what a remainder of two magnitudes needs
pub ruleset parts = (units-mod, mod_below)
