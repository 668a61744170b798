-- The magnitude that stands for a number of units whose digits are in their place. Assumes nothing.
use mathlib.Core.Path.{◌≡◌, sym, ap, ◌∙◌, subst}
use Prim.Native.Nat.{ℕ, suc, ◌+◌, ◌-◌, ◌*◌, ◌/◌, ◌^◌, ◌≤◌, ◌<◌}
use native.Mathlib.Nat.{le_antisymm, le_trans, le_of_eq, lt_of_not-le, not-le_of_lt, lt_of_lt_of_le, lt_of_le_of_lt, lt_trans, zero-mul, mul-div_cancel, mul-le-mul_left, mul-le-mul_right, div-one}
use native.Mathlib.Omega.{arith}
use lib.Pow.{pow-add, pow_pos, pow_mono, shl_lt}
use lib.Dec.{lit<}
use lib.Count.{count_leading_zeros, leading_top}
use lib.Ieee.{size}
use lib.Ieee.Digits.{size-lt, size-le}
use Rattle.remainder.specs.Units.{packed}
use Rattle.remainder.proofs.Modulo.{shift_parts}

-- n has j + 1 digits
size_is : (n j : ℕ) → 2 ^ j ≤ n → n < 2 ^ suc j → size n ≡ suc j
size_is n j lo hi = le_antisymm (size-le n (suc j) hi) (lt_of_not-le (λ (g : size n ≤ j). not-le_of_lt (lt_of_lt_of_le (size-lt n) (pow_mono g)) lo))

packed-at : (n k : ℕ) → size n - 24 ≡ k → packed n ≡ k * 2 ^ 23 + n / 2 ^ k
unfolding packed
packed-at n k e = ap (λ (x : ℕ). x * 2 ^ 23 + n / 2 ^ x) e

-- with the leading digit, j digits are dropped
pub packed_normal : (q j : ℕ) → 2 ^ 23 ≤ q → q < 2 ^ 24 → packed (q * 2 ^ j) ≡ j * 2 ^ 23 + q
packed_normal q j lo hi =
    let least : 2 ^ (23 + j) ≤ q * 2 ^ j = le_trans (le_of_eq (pow-add 2 23 j)) (mul-le-mul_right (2 ^ j) lo) in
    let most : q * 2 ^ j < 2 ^ suc (23 + j) = subst (λ (x : ℕ). q * 2 ^ j < 2 ^ x) (one_more j) (shl_lt 24 j hi) in
    packed-at (q * 2 ^ j) j (ap (λ (x : ℕ). x - 24) (size_is (q * 2 ^ j) (23 + j) least most) ∙ dropped j) ∙ ap (λ (x : ℕ). j * 2 ^ 23 + x) (mul-div_cancel q (pow_pos j))
  where
    one_more : (j : ℕ) → 24 + j ≡ suc (23 + j)
    one_more j = omega arith

    dropped : (j : ℕ) → suc (23 + j) - 24 ≡ j
    dropped j = omega arith

-- a number of 24 digits is its own magnitude
pub packed_low : (q : ℕ) → q < 2 ^ 24 → packed q ≡ q
packed_low q h = packed-at q 0 (none (size q) (size-le q 24 h)) ∙ ap (λ (x : ℕ). 0 * 2 ^ 23 + x) (div-one q) ∙ plus q
  where
    none : (z : ℕ) → z ≤ 24 → z - 24 ≡ 0
    none z l = omega arith

    plus : (q : ℕ) → 0 * 2 ^ 23 + q ≡ q
    plus q = omega arith

-- ---- a number of 24 digits at most, moved up by the zeros above it

abbrev pub gap : ℕ → ℕ
gap r = count_leading_zeros 32 r - 8

pub gap_fits : (r : ℕ) → 0 < r → r < 2 ^ 24 → (8 ≤ count_leading_zeros 32 r) × (2 ^ 23 ≤ r * 2 ^ gap r) × (r * 2 ^ gap r < 2 ^ 24)
gap_fits r p h =
    let t = leading_top 32 r p (lt_trans h (lit< tt)) in
    let j = t.0 in
    let low : j < 24 = lt_of_not-le (λ (g : 24 ≤ j). not-le_of_lt h (le_trans (pow_mono g) t.2)) in
    let z : count_leading_zeros 32 r + suc j ≡ 32 = t.1 in
    let e : j + gap r ≡ 23 = omega arith in
    let e' : suc j + gap r ≡ 24 = omega arith in (
      omega arith,
      le_trans (le_of_eq (ap (λ (x : ℕ). 2 ^ x) (sym e) ∙ pow-add 2 j (gap r))) (mul-le-mul_right (2 ^ gap r) t.2),
      subst (λ (x : ℕ). r * 2 ^ gap r < 2 ^ x) e' (shl_lt (suc j) (gap r) t.3),
    )

-- as far as the leading digit's place
pub packed_up : (r k : ℕ) → 0 < r → r < 2 ^ 24 → gap r ≤ k → packed (r * 2 ^ k) ≡ (k - gap r) * 2 ^ 23 + r * 2 ^ gap r
packed_up r k p h l =
    let g = gap_fits r p h in
    ap packed (sym (shift_parts r l)) ∙ packed_normal (r * 2 ^ gap r) (k - gap r) g.1 g.2

-- or not so far
pub short_lt : (r k : ℕ) → 0 < r → r < 2 ^ 24 → k ≤ gap r → r * 2 ^ k < 2 ^ 24
short_lt r k p h l = lt_of_le_of_lt (mul-le-mul_left r (pow_mono l)) (gap_fits r p h).2

pub packed_zero : (k : ℕ) → packed (0 * 2 ^ k) ≡ 0
packed_zero k = ap packed (zero-mul (2 ^ k)) ∙ packed_low 0 (lit< tt)
