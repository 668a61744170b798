-- A value made whole, and the patterns that the code makes of it: one proof for both sides, and so for `trunc`, `floor` and
-- `ceil`. A finite value is its units (crates/remainder) over 2 ^ 149. Assumes nothing.
use mathlib.Core.Path.{◌≡◌, refl, sym, ap, ◌∙◌, subst}
use mathlib.Core.Bool.{Bool, true, false, not, cond}
use mathlib.Core.Logic.{◌⊎◌, inl, inr}
use Prim.Native.Nat.{ℕ, zero, suc, ◌+◌, ◌-◌, ◌*◌, ◌/◌, ◌%◌, ◌^◌, ◌≤◌, ◌<◌}
use native.Mathlib.Nat.{zero-div, zero-mod, zero-mul, one-mul, suc-mul, mod-lt, le_of_suc-le-suc, lt_of_lt_of_le, eq-or-lt_of_le, le_trans, le_of_eq, lt_of_le_of_lt, zero-lt-suc, add-zero, mul-one, mul_assoc, mul_right_comm, add-mul, mul-le-mul_right, mul-div_cancel, mul-mod_left, div-eq_of_lt, div-lt_iff_lt-mul, le-div_iff_mul-le, div-add-mod', mod-eq_of_lt, mul-add-div_right}
use native.Mathlib.Omega.{arith}
use borrow.Author.Tests.{leb-true, leb-false, le-leb, lt-leb}
use lib.Dec.{T, leb, lit≤, lit<}
use lib.Pow.{pow-add, pow_pos, pow_mono, shl_lt}
use lib.Ieee.{Float, nan, inf, fin, binary32, is_nan, round, to_bits, nan_bits}
use lib.Ieee.Exact.{HasValue, round_exact}
use lib.Ieee.Fits.{round-fits}
use lib.Ieee.Back.{round_whole, whole_unique}
use lib.Ieee.Bits.{of_bits-to_bits, of_bits-fits, to_bits-of_bits, nan_bits_is, is_false}
use Rattle.remainder.specs.Units.{infinity, exponent, significand, units}
use Rattle.remainder.proofs.Modulo.{shift_parts}
use Rattle.remainder.proofs.Parts.{significand-lt, leads, both_parts, units_is, units_lt, units-pos}
use Rattle.remainder.proofs.Values.{value_units}
use Rattle.remainder.proofs.Cases.{nan_is, inf_is}
use Rattle.numeric.specs.Numbers.{float, bits, one_nan, entered, magnitude}
use Rattle.numeric.proofs.Fractions.{other_fraction, is_number, part_same, part_whole, part_more, part_le, made, made_is}
use Rattle.numeric.proofs.Nans.{nan_pattern}
use Rattle.numeric.proofs.Signs.{magnitude_is_abs}
use Rattle.numeric.proofs.OneNan.{on_both, entered-nan, entered_number}
use Rattle.numeric.specs.Whole.{Finite, has_sign, whole_below, whole_above, part_if, all_whole, below_point, most, cut, CutIsPart, made_whole, floor, ceil, trunc, whole, floored, ceiled, truncated, absolute}

-- ---- a finite pattern's magnitude: its units over 2 ^ 149

abbrev pub in_units : ℕ → ℕ
in_units n = units (magnitude n)

abbrev pub whole_part : ℕ → ℕ
whole_part n = in_units n / 2 ^ 149

-- the value
pub value : (n : ℕ) → Finite n → HasValue (float n) (has_sign n) (in_units n) (2 ^ 149)
value n F = value_units n F

-- of a magnitude below 2 ^ 23 the whole part has 23 digits at most
small_part : (x : ℕ) → x < all_whole → units x / 2 ^ 149 < 2 ^ 23
small_part x h = (div-lt_iff_lt-mul (pow_pos 149)).1 (subst (λ (z : ℕ). units x < z) (units_is all_whole) (units_lt x all_whole h))

-- from there on the units are a multiple of 2 ^ 149
large_units : (x : ℕ) → all_whole ≤ x → significand x * 2 ^ (exponent x - 149) * 2 ^ 149 ≡ units x
large_units x h =
    let far : 149 ≤ exponent x = omega arith in
    mul_right_comm (significand x) (2 ^ (exponent x - 149)) (2 ^ 149) ∙ shift_parts (significand x) far ∙ sym (units_is x)

pub large_part : (x : ℕ) → all_whole ≤ x → units x / 2 ^ 149 * 2 ^ 149 ≡ units x
large_part x h =
    let q = significand x * 2 ^ (exponent x - 149) in
    ap (λ (z : ℕ). z / 2 ^ 149 * 2 ^ 149) (sym (large_units x h))
    ∙ ap (λ (z : ℕ). z * 2 ^ 149) (mul-div_cancel q (pow_pos 149))
    ∙ large_units x h

-- so nothing is left of them
large_left : (x : ℕ) → all_whole ≤ x → units x % 2 ^ 149 ≡ 0
large_left x h = ap (λ (z : ℕ). z % 2 ^ 149) (sym (large_units x h)) ∙ mul-mod_left (significand x * 2 ^ (exponent x - 149)) (2 ^ 149)

-- either part is a value of the format: nothing is rounded
pub part_value : (g s : Bool) (x : ℕ) → x < infinity → HasValue (round binary32 s (part_if g (units x) (2 ^ 149)) 1) s (part_if g (units x) (2 ^ 149)) 1
part_value g s x X = cases (leb all_whole x) refl
  where
    exact : all_whole ≤ x → HasValue (round binary32 s (units x / 2 ^ 149) 1) s (units x / 2 ^ 149) 1
    exact l =
        let some : exponent x ≤ 253 = omega arith in
        let low : 24 + exponent x ≤ 277 = omega arith in
        round_exact binary32 s (units x / 2 ^ 149) 1 (significand x) (exponent x) (zero-lt-suc 0) (significand-lt x)
        (lt_of_lt_of_le (shl_lt 24 (exponent x) (significand-lt x)) (pow_mono low))
        (large_part x l ∙ units_is x ∙ sym (mul-one (significand x * 2 ^ exponent x)))

    cases : (b : Bool) → leb all_whole x ≡ b → HasValue (round binary32 s (part_if g (units x) (2 ^ 149)) 1) s (part_if g (units x) (2 ^ 149)) 1
    cases true e =
        let l = leb-true all_whole x e in
        subst (λ (z : ℕ). HasValue (round binary32 s z 1) s z 1) (sym (part_whole g (units x) (2 ^ 149) (large_left x l))) (exact l)
    cases false e =
        let small = small_part x (leb-false all_whole x e) in
        round_whole binary32 s (part_if g (units x) (2 ^ 149)) (le_trans (part_le g (units x) (2 ^ 149)) (le_trans small (lit≤ tt)))

-- ---- a finite pattern's result, as `made` makes it

abbrev pub result : (Bool → Bool) → ℕ → ℕ
result g n = bits (made g (float n))

abbrev pub part_of : (Bool → Bool) → ℕ → ℕ
part_of g n = part_if (g (has_sign n)) (in_units n) (2 ^ 149)

-- the pattern of a finite value is the value's
pub finite_bits : (k : ℕ) → k < 2 ^ 32 → Finite k → bits (float k) ≡ k
finite_bits k K F = to_bits-of_bits binary32 k K (is_number (float k) (has_sign k) (in_units k) (2 ^ 149) (value k F))

pub made_finite : (g : Bool → Bool) (n : ℕ) → Finite n → made g (float n) ≡ round binary32 (has_sign n) (part_of g n) 1
made_finite g n F = made_is g (float n) (has_sign n) (in_units n) (2 ^ 149) (pow_pos 149) (value n F)

pub float_result : (g : Bool → Bool) (n : ℕ) → Finite n → float (result g n) ≡ round binary32 (has_sign n) (part_of g n) 1
float_result g n F =
    ap (λ (x : Float). float (bits x)) (made_finite g n F)
    ∙ of_bits-to_bits binary32 (round binary32 (has_sign n) (part_of g n) 1) (round-fits binary32 (has_sign n) (part_of g n) 1)

pub result_value : (g : Bool → Bool) (n : ℕ) → Finite n → HasValue (float (result g n)) (has_sign n) (part_of g n) 1
result_value g n F = subst (λ (x : Float). HasValue x (has_sign n) (part_of g n) 1) (sym (float_result g n F)) (part_value (g (has_sign n)) (has_sign n) (magnitude n) F)

-- a pattern that stands for the part, with the sign, is the result
pub is_result : (g : Bool → Bool) (n k : ℕ) → Finite n → Finite k → k < 2 ^ 32 → HasValue (float k) (has_sign n) (part_of g n) 1 → k ≡ result g n
is_result g n k F G K v =
    let made_one = round binary32 (has_sign n) (part_of g n) 1 in
    let same : float k ≡ made_one =
    whole_unique binary32 (float k) made_one (has_sign n) (part_of g n) (of_bits-fits binary32 k) (round-fits binary32 (has_sign n) (part_of g n) 1) v
    (part_value (g (has_sign n)) (has_sign n) (magnitude n) F) in
    sym (finite_bits k K G) ∙ ap bits (same ∙ sym (made_finite g n F))

-- a whole number is its own
pub kept : (g : Bool → Bool) (n : ℕ) → n < 2 ^ 32 → Finite n → in_units n % 2 ^ 149 ≡ 0 → n ≡ result g n
kept g n N F h =
    let all : whole_part n * 2 ^ 149 ≡ in_units n =
    sym (add-zero (whole_part n * 2 ^ 149)) ∙ ap (λ (z : ℕ). whole_part n * 2 ^ 149 + z) (sym h) ∙ div-add-mod' (in_units n) (2 ^ 149) in
    let v : HasValue (float n) (has_sign n) (whole_part n) 1 =
    other_fraction (float n) (has_sign n) (in_units n) (2 ^ 149) (whole_part n) 1 (pow_pos 149) (mul-one (in_units n) ∙ sym all) (value n F) in
    is_result g n n F F N (subst (λ (z : ℕ). HasValue (float n) (has_sign n) z 1) (sym (part_whole (g (has_sign n)) (in_units n) (2 ^ 149) h)) v)

-- ---- the three by `made`

pub truncated_is : (n : ℕ) → result (λ s. false) n ≡ truncated n
unfolding truncated trunc
truncated_is n = ap bits (go (float n))
  where
    go : (x : Float) → made (λ s. false) x ≡ trunc x
    go nan = refl
    go (inf s) = refl
    go (fin s m e) = refl

pub floored_is : (n : ℕ) → result (λ s. s) n ≡ floored n
unfolding floored floor
floored_is n = ap bits (go (float n))
  where
    go : (x : Float) → made (λ s. s) x ≡ floor x
    go nan = refl
    go (inf s) = refl
    go (fin true m e) = refl
    go (fin false m e) = refl

pub ceiled_is : (n : ℕ) → result not n ≡ ceiled n
unfolding ceiled ceil
ceiled_is n = ap bits (go (float n))
  where
    go : (x : Float) → made not x ≡ ceil x
    go nan = refl
    go (inf s) = refl
    go (fin true m e) = refl
    go (fin false m e) = refl

-- and with the side named
pub whole_is : (away : Bool) (n : ℕ) → result (λ s. away) n ≡ whole away n
unfolding whole
whole_is away n = ap bits (go away (float n))
  where
    go : (away : Bool) (x : Float) → made (λ s. away) x ≡ made_whole (λ negative a c. cond away (whole_above a c) (whole_below a c)) x
    go away nan = refl
    go away (inf s) = refl
    go true (fin s m e) = refl
    go false (fin s m e) = refl

-- ---- the digits below the point, cut off

-- a multiple of u is not cut
cut_above : (h w u x : ℕ) → 0 < u → (h * (w * u) + x) / u * u ≡ h * (w * u) + x / u * u
cut_above h w u x U =
    ap (λ (z : ℕ). (z + x) / u * u) (sym (mul_assoc h w u))
    ∙ ap (λ (z : ℕ). z * u) (mul-add-div_right U (h * w) x)
    ∙ add-mul (h * w) (x / u) u
    ∙ ap (λ (z : ℕ). z + x / u * u) (mul_assoc h w u)

-- b digits of the 23 are below the point
split_23 : (b : ℕ) → b ≤ 23 → 2 ^ (23 - b) * 2 ^ b ≡ 2 ^ 23
split_23 b h =
    let e : 23 - b + b ≡ 23 = omega arith in
    sym (pow-add 2 (23 - b) b) ∙ ap (λ (z : ℕ). 2 ^ z) e

split_31 : (b : ℕ) → b ≤ 23 → 2 ^ (31 - b) * 2 ^ b ≡ 2 ^ 31
split_31 b h =
    let e : 31 - b + b ≡ 31 = omega arith in
    sym (pow-add 2 (31 - b) b) ∙ ap (λ (z : ℕ). 2 ^ z) e

cut_23 : (h b x : ℕ) → b ≤ 23 → (h * 2 ^ 23 + x) / 2 ^ b * 2 ^ b ≡ h * 2 ^ 23 + x / 2 ^ b * 2 ^ b
cut_23 h b x B = subst (λ (z : ℕ). (h * z + x) / 2 ^ b * 2 ^ b ≡ h * z + x / 2 ^ b * 2 ^ b) (split_23 b B) (cut_above h (2 ^ (23 - b)) (2 ^ b) x (pow_pos b))

cut_31 : (h b x : ℕ) → b ≤ 23 → (h * 2 ^ 31 + x) / 2 ^ b * 2 ^ b ≡ h * 2 ^ 31 + x / 2 ^ b * 2 ^ b
cut_31 h b x B = subst (λ (z : ℕ). (h * z + x) / 2 ^ b * 2 ^ b ≡ h * z + x / 2 ^ b * 2 ^ b) (split_31 b B) (cut_above h (2 ^ (31 - b)) (2 ^ b) x (pow_pos b))

-- the leading digit stays
leading : (b m : ℕ) → b ≤ 23 → 2 ^ 23 ≤ m → 2 ^ 23 ≤ m / 2 ^ b * 2 ^ b
leading b m B h =
    let some : 2 ^ (23 - b) ≤ m / 2 ^ b = (le-div_iff_mul-le (pow_pos b)).1 (le_trans (le_of_eq (split_23 b B)) h) in
    le_trans (le_of_eq (sym (split_23 b B))) (mul-le-mul_right (2 ^ b) some)

-- ---- a finite magnitude of 1 at least, and below 2 ^ 23: so many digits are below the point

few : (x : ℕ) → 0x3F80_0000 ≤ x → below_point x ≤ 23
few x h = omega arith

-- digits of another field: the exponent stays; one more, where the digits are all that fit
parts_of : (y e r : ℕ) → y ≡ e * 2 ^ 23 + r → 2 ^ 23 ≤ r → r < 2 ^ 24 → (exponent y ≡ e) × (significand y ≡ r)
parts_of y e r h lo hi =
    let E : exponent y ≡ e = omega arith in
    (E, rw E (omega arith))

carried : (y e : ℕ) → y ≡ e * 2 ^ 23 + 2 ^ 24 → (exponent y ≡ suc e) × (significand y ≡ 2 ^ 23)
carried y e h =
    let E : exponent y ≡ suc e = omega arith in
    (E, rw E (omega arith))

-- either way so many units
pub digits_units : (y e r : ℕ) → y ≡ e * 2 ^ 23 + r → 2 ^ 23 ≤ r → r ≤ 2 ^ 24 → units y ≡ r * 2 ^ e
digits_units y e r h lo hi = elim (eq-or-lt_of_le hi) [
  | inl f ↦
      let p = carried y e (h ∙ ap (λ (z : ℕ). e * 2 ^ 23 + z) f) in
      units_is y
      ∙ ap (λ (z : ℕ). significand y * 2 ^ z) p.0
      ∙ ap (λ (z : ℕ). z * 2 ^ suc e) p.1
      ∙ sym (pow-add 2 23 (suc e))
      ∙ ap (λ (z : ℕ). 2 ^ z) (next e)
      ∙ pow-add 2 24 e
      ∙ ap (λ (z : ℕ). z * 2 ^ e) (sym f)
  | inr l ↦
      let p = parts_of y e r h lo l in
      units_is y ∙ ap (λ (z : ℕ). significand y * 2 ^ z) p.0 ∙ ap (λ (z : ℕ). z * 2 ^ e) p.1
]
  where
    next : (e : ℕ) → 23 + suc e ≡ 24 + e
    next e = omega arith

-- what is added before the digits are cut off
pub most_lt : (away : Bool) (b : ℕ) → most away b < 2 ^ b
most_lt true b = omega (arith, pow_pos b)
most_lt false b = pow_pos b

-- a shifted 1 loses nothing at 32 bits
pub one_shifted : (b : ℕ) → b ≤ 23 → (1 * 2 ^ b % 2 ^ 32 ≡ 2 ^ b) × (0 < 2 ^ b)
one_shifted b B = (mod-eq_of_lt (lt_of_le_of_lt (le_trans (le_of_eq (one-mul (2 ^ b))) (pow_mono B)) (lit< tt)) ∙ one-mul (2 ^ b), pow_pos b)

-- with it the quotient is the part
pub part_biased : (away : Bool) (m b : ℕ) → (m + most away b) / 2 ^ b ≡ part_if away m (2 ^ b)
part_biased false m b = ap (λ (z : ℕ). z / 2 ^ b) (add-zero m)
part_biased true m b = cases (m % 2 ^ b) refl
  where
    u : ℕ
    u = 2 ^ b

    U : 0 < u
    U = pow_pos b

    split : m / u * u + m % u ≡ m
    split = div-add-mod' m u

    at : (r : ℕ) → (m / u * u + r) / u ≡ m / u + r / u
    at r = mul-add-div_right U (m / u) r

    cases : (r : ℕ) → m % u ≡ r → (m + (u - 1)) / u ≡ part_if true m u
    cases zero e =
        let same : m + (u - 1) ≡ m / u * u + (u - 1) = omega (arith, split, e) in
        let none : (u - 1) / u ≡ 0 = div-eq_of_lt (omega (arith, U)) in
        ap (λ (z : ℕ). z / u) same ∙ at (u - 1) ∙ ap (λ (z : ℕ). m / u + z) none ∙ add-zero (m / u) ∙ sym (part_whole true m u e)
    cases (suc r) e =
        let less : m % u < u = mod-lt m U in
        let same : m + (u - 1) ≡ (m / u + 1) * u + r = omega (arith, split, e, U, add-mul (m / u) 1 u, one-mul u) in
        let none : r / u ≡ 0 = div-eq_of_lt (omega (arith, less, e)) in
        ap (λ (z : ℕ). z / u) same
        ∙ mul-add-div_right U (m / u + 1) r
        ∙ ap (λ (z : ℕ). m / u + 1 + z) none
        ∙ add-zero (m / u + 1)
        ∙ sym (part_more m u (λ z. let q : suc r ≡ 0 = sym e ∙ z in omega arith))

-- the digits that are left: at least the leading one, and at most one more than there is place for
kept_digits : (away : Bool) (b m : ℕ) → b ≤ 23 → 2 ^ 23 ≤ m → m < 2 ^ 24
    → (2 ^ 23 ≤ (m + most away b) / 2 ^ b * 2 ^ b) × ((m + most away b) / 2 ^ b * 2 ^ b ≤ 2 ^ 24)
kept_digits away b m B lo hi =
    let c = most away b in
    let C : c < 2 ^ b = most_lt away b in
    let e : 24 - b + b ≡ 24 = omega arith in
    let w : 2 ^ (24 - b) * 2 ^ b ≡ 2 ^ 24 = sym (pow-add 2 (24 - b) b) ∙ ap (λ (z : ℕ). 2 ^ z) e in
    let top : m + c < suc (2 ^ (24 - b)) * 2 ^ b = omega (arith, C, w, suc-mul (2 ^ (24 - b)) (2 ^ b)) in
    let q : (m + c) / 2 ^ b ≤ 2 ^ (24 - b) = le_of_suc-le-suc ((div-lt_iff_lt-mul (pow_pos b)).1 top) in
    (leading b (m + c) B (omega arith), le_trans (mul-le-mul_right (2 ^ b) q) (le_of_eq w))

-- the part of a magnitude, by its digits
part_at : (away : Bool) (x b : ℕ) → b + exponent x ≡ 149 → part_if away (significand x) (2 ^ b) ≡ part_if away (units x) (2 ^ 149)
part_at away x b h =
    part_same away (significand x) (2 ^ b) (units x) (2 ^ 149) (pow_pos b) (pow_pos 149)
    (ap (λ (z : ℕ). significand x * 2 ^ z) (sym h)
    ∙ ap (λ (z : ℕ). significand x * z) (pow-add 2 b (exponent x))
    ∙ sym (mul_assoc (significand x) (2 ^ b) (2 ^ exponent x))
    ∙ mul_right_comm (significand x) (2 ^ b) (2 ^ exponent x)
    ∙ ap (λ (z : ℕ). z * 2 ^ b) (sym (units_is x)))

-- the magnitude with the digits below the point cut off
pub cut_is : CutIsPart
cut_is away x lo hi =
    let b = below_point x in
    let m = significand x in
    let e = exponent x in
    let c = most away b in
    let B : b ≤ 23 = few x lo in
    let r = (m + c) / 2 ^ b * 2 ^ b in
    let all : b + e ≡ 149 = omega arith in
    let both : e * 2 ^ 23 + (m + c) ≡ x + c = omega (arith, both_parts x) in
    let is : cut away x ≡ e * 2 ^ 23 + r = ap (λ (z : ℕ). z / 2 ^ b * 2 ^ b) (sym both) ∙ cut_23 e b (m + c) B in
    let k = kept_digits away b m B (leads x (omega arith)) (significand-lt x) in
    let few_up : e ≤ 148 = omega arith in (
      digits_units (cut away x) e r is k.0 k.1
          ∙ mul_assoc ((m + c) / 2 ^ b) (2 ^ b) (2 ^ e)
          ∙ ap (λ (z : ℕ). (m + c) / 2 ^ b * z) (sym (pow-add 2 b e) ∙ ap (λ (z : ℕ). 2 ^ z) all)
          ∙ ap (λ (z : ℕ). z * 2 ^ 149) (part_biased away m b ∙ part_at away x b all),
      omega (arith, is, k.1, few_up),
    )

-- ---- what the code gives

same_sign : (n k : ℕ) → n < 2 ^ 32 → k / 2 ^ 31 ≡ n / 2 ^ 31 → has_sign k ≡ has_sign n
same_sign n k N e = cases (leb (2 ^ 31) n) refl
  where
    cases : (b : Bool) → leb (2 ^ 31) n ≡ b → has_sign k ≡ b
    cases true t = let h = leb-true (2 ^ 31) n t in le-leb (2 ^ 31) k (omega arith)
    cases false t = let h = leb-false (2 ^ 31) n t in lt-leb (2 ^ 31) k (omega arith)

-- a pattern with the sign, and with the part's units, is the result
pub stands_for : (away : Bool) (n k q : ℕ) → n < 2 ^ 32 → Finite n → k < 2 ^ 32 → Finite k → k / 2 ^ 31 ≡ n / 2 ^ 31
    → units (magnitude k) ≡ q * 2 ^ 149 → q ≡ part_if away (in_units n) (2 ^ 149) → k ≡ whole away n
stands_for away n k q N F K G s u p =
    let w : HasValue (float k) (has_sign n) (units (magnitude k)) (2 ^ 149) =
    subst (λ (z : Bool). HasValue (float k) z (units (magnitude k)) (2 ^ 149)) (same_sign n k N s) (value_units k G) in
    let v = other_fraction (float k) (has_sign n) (units (magnitude k)) (2 ^ 149) q 1 (pow_pos 149) (mul-one (units (magnitude k)) ∙ u) w in
    is_result (λ s. away) n k F G K (subst (λ (z : ℕ). HasValue (float k) (has_sign n) z 1) p v) ∙ whole_is away n

-- from 1 to below 2 ^ 23 the digits below the point are cut off
pub cut_middle : (away : Bool) (n x c : ℕ) → n < 2 ^ 32 → x ≡ magnitude n → 0x3F80_0000 ≤ x → x < all_whole → c ≡ most away (150 - x / 2 ^ 23)
    → (n + c) / 2 ^ (150 - x / 2 ^ 23) * 2 ^ (150 - x / 2 ^ 23) % 2 ^ 32 ≡ whole away n
cut_middle away n x c N e lo hi f =
    let b = below_point x in
    let h = n / 2 ^ 31 in
    let t = cut_is away x lo hi in
    let both : h * 2 ^ 31 + (x + most away b) ≡ n + c = omega (arith, f, e) in
    let is : (n + c) / 2 ^ b * 2 ^ b ≡ h * 2 ^ 31 + cut away x = ap (λ (z : ℕ). z / 2 ^ b * 2 ^ b) (sym both) ∙ cut_31 h b (x + most away b) (few x lo) in
    let k = (n + c) / 2 ^ b * 2 ^ b in
    let y_le = t.1 in
    let m : magnitude k ≡ cut away x = omega (arith, is, y_le) in
    let K : k < 2 ^ 32 = omega (arith, is, y_le) in
    mod-eq_of_lt K
    ∙ stands_for away n k (part_if away (units x) (2 ^ 149)) N (omega arith) K (omega (arith, m, y_le)) (omega (arith, is, y_le))
    (ap units m ∙ t.0) (ap (λ (z : ℕ). part_if away (units z) (2 ^ 149)) e)

-- what is added has room
pub room : (n x c : ℕ) → n < 2 ^ 32 → x ≡ magnitude n → 0x3F80_0000 ≤ x → x < all_whole → c ≡ 2 ^ (150 - x / 2 ^ 23) - 1 → n + c < 2 ^ 32
room n x c N e lo hi f =
    let most_23 : 2 ^ below_point x ≤ 2 ^ 23 = pow_mono (few x lo) in
    omega (arith, f, e, most_23)

-- below 1 nothing is left but the sign, or the sign and 1
less_than_one : (x : ℕ) → x < 0x3F80_0000 → units x < 2 ^ 149
less_than_one x h = subst (λ (z : ℕ). units x < z) (units_is 0x3F80_0000) (units_lt x 0x3F80_0000 h)

pub nothing_left : (away : Bool) (n x : ℕ) → n < 2 ^ 32 → x ≡ magnitude n → x < 0x3F80_0000 → part_if away (units x) (2 ^ 149) ≡ 0 → n - x ≡ whole away n
nothing_left away n x N e h p =
    let m : magnitude (n - x) ≡ 0 = omega arith in
    stands_for away n (n - x) 0 N (omega arith) (omega arith) (omega arith) (omega arith) (ap units m ∙ zero_units)
    (sym p ∙ ap (λ (z : ℕ). part_if away (units z) (2 ^ 149)) e)
  where
    zero_units : units 0 ≡ 0 * 2 ^ 149
    zero_units = units_is 0 ∙ zero-mul (2 ^ exponent 0) ∙ sym (zero-mul (2 ^ 149))

pub towards_zero : (n x : ℕ) → n < 2 ^ 32 → x ≡ magnitude n → x < 0x3F80_0000 → n - x ≡ whole false n
towards_zero n x N e h = nothing_left false n x N e h (div-eq_of_lt (less_than_one x h))

pub zero_left : (away : Bool) (n x : ℕ) → n < 2 ^ 32 → x ≡ magnitude n → x ≡ 0 → n - x ≡ whole away n
zero_left away n x N e z =
    let none : units x ≡ 0 = ap units z ∙ units_is 0 ∙ zero-mul (2 ^ exponent 0) in
    let p : part_if away 0 (2 ^ 149) ≡ 0 = part_whole away 0 (2 ^ 149) (zero-mod (2 ^ 149)) ∙ zero-div (2 ^ 149) in
    nothing_left away n x N e (omega arith) (ap (λ (q : ℕ). part_if away q (2 ^ 149)) none ∙ p)

pub zero_kept : (n x : ℕ) → n < 2 ^ 32 → x ≡ magnitude n → x ≡ 0 → n ≡ whole true n
zero_kept n x N e z = let same : n - x ≡ n = omega arith in sym same ∙ zero_left true n x N e z

pub one_left : (n x : ℕ) → n < 2 ^ 32 → x ≡ magnitude n → x < 0x3F80_0000 → (x ≡ 0 → ⊥) → n - x + 0x3F80_0000 ≡ whole true n
one_left n x N e h d =
    let k = n - x + 0x3F80_0000 in
    let m : magnitude k ≡ 0x3F80_0000 = omega arith in
    let few_units = less_than_one x h in
    let some : units x % 2 ^ 149 ≡ 0 → ⊥ =
    λ z. let none : units x ≡ 0 = sym (mod-eq_of_lt few_units) ∙ z in
    let above : 0 < units x = units-pos x (omega (arith, d)) in
    omega (arith, none, above) in
    let part : part_if true (units x) (2 ^ 149) ≡ 1 = part_more (units x) (2 ^ 149) some ∙ ap (λ (z : ℕ). z + 1) (div-eq_of_lt few_units) in
    stands_for true n k 1 N (omega arith) (omega arith) (omega arith) (omega arith) (ap units m ∙ units_is 0x3F80_0000 ∙ sym (one-mul (2 ^ 149)))
    (sym part ∙ ap (λ (z : ℕ). part_if true (units z) (2 ^ 149)) e)

-- ---- a pattern is a NaN's, an infinity's or a finite value's

pub kinds : (n : ℕ) → (float n ≡ nan) ⊎ ((float n ≡ inf (has_sign n)) ⊎ Finite n)
kinds n = cases (leb infinity (magnitude n)) (leb infinity (magnitude n)) refl refl
  where
    top : infinity ≤ magnitude n → (float n ≡ nan) ⊎ ((float n ≡ inf (has_sign n)) ⊎ Finite n)
    top h = elim (eq-or-lt_of_le h) [ inl e ↦ inr (inl (inf_is n (sym e))) | inr l ↦ inl (nan_is n l) ]

    cases : (b c : Bool) → leb infinity (magnitude n) ≡ b → b ≡ c → (float n ≡ nan) ⊎ ((float n ≡ inf (has_sign n)) ⊎ Finite n)
    cases true c e d = top (leb-true infinity (magnitude n) e)
    cases false c e d = inr (inr (leb-false infinity (magnitude n) e))

bits-nan : bits nan ≡ one_nan
unfolding to_bits
bits-nan = refl

inf_number : (s : Bool) → T (not (is_nan (inf s)))
unfolding is_nan
inf_number s = tt

-- of a NaN
pub result_nan : (g : Bool → Bool) (n : ℕ) → float n ≡ nan → result g n ≡ one_nan
result_nan g n e = ap (λ (x : Float). bits (made g x)) e ∙ bits-nan

-- of an infinity
pub result_inf : (g : Bool → Bool) (n : ℕ) → n < 2 ^ 32 → float n ≡ inf (has_sign n) → result g n ≡ n
result_inf g n N e =
    ap (λ (x : Float). bits (made g x)) e
    ∙ ap bits (sym e)
    ∙ to_bits-of_bits binary32 n N (subst (λ (x : Float). T (not (is_nan x))) (sym e) (inf_number (has_sign n)))

-- from 2 ^ 23 on, a NaN's and an infinity's too, the pattern enters
pub enters : (away : Bool) (n x : ℕ) → n < 2 ^ 32 → x ≡ magnitude n → all_whole ≤ x → entered n ≡ whole away n
unfolding is_nan
enters away n x N e h = elim (kinds n) [
  | inl v ↦ entered-nan n (nan_bits_is binary32 n ∙ ap is_nan v) ∙ sym (result_nan (λ s. away) n v) ∙ whole_is away n
  | inr (inl v) ↦ entered_number n (nan_bits_is binary32 n ∙ ap is_nan v) ∙ sym (result_inf (λ s. away) n N v) ∙ whole_is away n
  | inr (inr F) ↦
      entered_number n (nan_bits_is binary32 n ∙ is_false (is_nan (float n)) (is_number (float n) (has_sign n) (in_units n) (2 ^ 149) (value n F)))
      ∙ kept (λ s. away) n N F (large_left (magnitude n) (omega arith))
      ∙ whole_is away n
]

-- ---- which side the three take: only the input's own sign counts

pub same_side : (g h : Bool → Bool) (n : ℕ) → g (has_sign n) ≡ h (has_sign n) → result g n ≡ result h n
same_side g h n e = elim (kinds n) [
  | inl v ↦ result_nan g n v ∙ sym (result_nan h n v)
  | inr (inl v) ↦ ap (λ (x : Float). bits (made g x)) v ∙ sym (ap (λ (x : Float). bits (made h x)) v)
  | inr (inr F) ↦
      ap bits (made_finite g n F ∙ ap (λ (b : Bool). round binary32 (has_sign n) (part_if b (in_units n) (2 ^ 149)) 1) e ∙ sym (made_finite h n F))
]

pub trunc_side : (n : ℕ) → whole false n ≡ truncated n
trunc_side n = sym (whole_is false n) ∙ truncated_is n

side : (away : Bool) (g : Bool → Bool) (n : ℕ) → g (has_sign n) ≡ away → whole away n ≡ result g n
side away g n e = sym (whole_is away n) ∙ same_side (λ s. away) g n (sym e)

pub floor_inwards : (n k : ℕ) → k ≡ truncated n → n < 2 ^ 31 → k ≡ floored n
floor_inwards n k e h = e ∙ sym (trunc_side n) ∙ side false (λ s. s) n (lt-leb (2 ^ 31) n h) ∙ floored_is n

pub floor_outwards : (n k : ℕ) → k ≡ whole true n → 2 ^ 31 ≤ n → k ≡ floored n
floor_outwards n k e h = e ∙ side true (λ s. s) n (le-leb (2 ^ 31) n h) ∙ floored_is n

pub ceil_inwards : (n k : ℕ) → k ≡ truncated n → 2 ^ 31 ≤ n → k ≡ ceiled n
ceil_inwards n k e h = e ∙ sym (trunc_side n) ∙ side false not n (ap not (le-leb (2 ^ 31) n h)) ∙ ceiled_is n

pub ceil_outwards : (n k : ℕ) → k ≡ whole true n → n < 2 ^ 31 → k ≡ ceiled n
ceil_outwards n k e h = e ∙ side true not n (ap not (lt-leb (2 ^ 31) n h)) ∙ ceiled_is n

-- ---- what `trunc` gives: the same with nothing added

pub cut_inwards : (n x : ℕ) → n < 2 ^ 32 → x ≡ magnitude n → 0x3F80_0000 ≤ x → x < all_whole
    → n / 2 ^ (150 - x / 2 ^ 23) * 2 ^ (150 - x / 2 ^ 23) % 2 ^ 32 ≡ truncated n
cut_inwards n x N e lo hi =
    ap (λ (z : ℕ). z / 2 ^ (150 - x / 2 ^ 23) * 2 ^ (150 - x / 2 ^ 23) % 2 ^ 32) (sym (add-zero n))
    ∙ cut_middle false n x 0 N e lo hi refl
    ∙ trunc_side n

pub zero_truncated : (n x : ℕ) → n < 2 ^ 32 → x ≡ magnitude n → x < 0x3F80_0000 → n - x ≡ truncated n
zero_truncated n x N e h = towards_zero n x N e h ∙ trunc_side n

pub enters_truncated : (n x : ℕ) → n < 2 ^ 32 → x ≡ magnitude n → all_whole ≤ x → entered n ≡ truncated n
enters_truncated n x N e h = enters false n x N e h ∙ trunc_side n

-- ---- what `abs` gives

pub absolute_is : (n : ℕ) → entered (magnitude n) ≡ absolute n
unfolding absolute is_nan
absolute_is n = on_both (nan_bits binary32 (magnitude n)) nan_pattern_bits number ∙ ap bits (magnitude_is_abs n)
  where
    nan_pattern_bits : nan_bits binary32 (magnitude n) ≡ true → entered (magnitude n) ≡ bits (float (magnitude n))
    nan_pattern_bits e = entered-nan (magnitude n) e ∙ sym bits-nan ∙ ap bits (sym (nan_pattern (magnitude n) e))

    number : nan_bits binary32 (magnitude n) ≡ false → entered (magnitude n) ≡ bits (float (magnitude n))
    number e =
        let less : magnitude n < 2 ^ 32 = omega arith in
        entered_number (magnitude n) e
        ∙ sym (to_bits-of_bits binary32 (magnitude n) less (subst (λ (b : Bool). T (not b)) (sym (sym (nan_bits_is binary32 (magnitude n)) ∙ e)) tt))
