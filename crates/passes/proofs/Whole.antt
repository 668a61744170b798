-- A whole number from 0 to 16,777,216 has one float, and counting down from it by 1.0 is exact. Assumes nothing.
use Prim.Native.Nat.{ℕ, suc, ◌-◌, ◌*◌, ◌^◌, ◌<◌, ◌≤◌}
use native.Mathlib.Omega.{arith}
use native.Mathlib.Numerals.{sub-one}
use native.Mathlib.Nat.{mul-one, mul_assoc, mul_comm, mul_right_comm, mul-pos}
use mathlib.Core.Path.{◌≡◌, refl, sym, ◌∙◌}
use mathlib.Core.Bool.{true, false, not, cond, true≢false}
use borrow.Author.Tests.{le-ltb, ne_eqb}
use lib.Dec.{T, ltb, ltb→lt, lit<}
use lib.IntN.{pos}
use lib.Ieee.{Float, nan, inf, fin, binary32, low, up, down, round, of_bits, to_bits, is_nan}
use lib.Ieee.{add as ieeeAdd, sub as ieeeSub, neg as ieeeNeg, lt as ieeeLt, le as ieeeLe, eq as ieeeEq}
use lib.Ieee.Fits.{up_pos, down_pos, round-fits}
use lib.Ieee.Bits.{of_bits-to_bits, to_bits-lt, to_bits-of_bits}
use lib.Ieee.Exact.{HasValue}
use lib.Ieee.Nearest.{div_same}
use lib.Ieee.Back.{round_whole}
use lib.Ieee.Scale.{round_same}
use lib.Ieee.Positive.{above, positive_of_value}
use Rattle.numeric.specs.Numbers.{float, bits, OneNan, sub, le, one, zero}
use Rattle.numeric.proofs.OneNan.{made_one}
use Rattle.passes.specs.Whole.{whole, IsWhole, most}

-- ---- the float of a whole number

-- an exact value in the library's words, and in those of specs/
as_whole : (x : Float) (k : ℕ) → HasValue x false k 1 → IsWhole x k
as_whole nan k v = v
as_whole (inf _) k v = v
as_whole (fin true m e) k v = absurd (true≢false v.0)
as_whole (fin false m e) k v = omega (arith, v.1)

pub as_value : (x : Float) (k : ℕ) → IsWhole x k → HasValue x false k 1
as_value nan k w = w
as_value (inf _) k w = w
as_value (fin true m e) k w = absurd w
as_value (fin false m e) k w = (refl, omega (arith, w))

-- a / d is k, so a * p / d is k * p
scaled : (a p k d : ℕ) → a * 1 ≡ k * d → a * p * 1 ≡ k * 1 * p * d
scaled a p k d h = let e : a ≡ k * d = omega arith in simp (mul-one, e, mul_right_comm)

-- a pattern depends on the exact value alone
pub value_bits : (x : Float) (k : ℕ) → HasValue x false k 1 → bits x ≡ whole k
unfolding whole to_bits
value_bits nan k v = elim v [ ]
value_bits (inf _) k v = elim v [ ]
value_bits (fin true m e) k v = absurd (true≢false v.0)
value_bits (fin false m e) k v =
    let p = 2 ^ low binary32 in
    rw (div_same (m * up e * p) (down e) (k * 1 * p) 1 (down_pos e) (lit< tt) (scaled (m * up e) p k (down e) v.1))

-- the float of k is k rounded, since nothing is lost
whole_rounded : (k : ℕ) → k ≤ most → float (whole k) ≡ round binary32 false k 1
whole_rounded k h =
    let x = round binary32 false k 1 in
    rw (← value_bits x k (round_whole binary32 false k h)) (of_bits-to_bits binary32 x (round-fits binary32 false k 1))

-- it is a pattern of 32 bits
pub whole_small : (k : ℕ) → k ≤ most → whole k < 2 ^ 32
whole_small k h =
    let x = round binary32 false k 1 in
    rw (← value_bits x k (round_whole binary32 false k h)) (to_bits-lt binary32 x (round-fits binary32 false k 1))

-- .. and no NaN but one
pub whole-one : (k : ℕ) → k ≤ most → OneNan (whole k)
whole-one k h =
    let x = round binary32 false k 1 in
    rw (← value_bits x k (round_whole binary32 false k h)) (made_one x (round-fits binary32 false k 1))

-- its exact value is k
whole_has : (k : ℕ) → k ≤ most → HasValue (float (whole k)) false k 1
whole_has k h = rw (whole_rounded k h) (round_whole binary32 false k h)

pub whole_value : (k : ℕ) → k ≤ most → IsWhole (float (whole k)) k
whole_value k h = as_whole (float (whole k)) k (whole_has k h)

-- a float with an exact value is no NaN
value_no_nan : (x : Float) (k : ℕ) → HasValue x false k 1 → T (not (is_nan x))
unfolding is_nan
value_no_nan nan k v = elim v [ ]
value_no_nan (inf _) k v = elim v [ ]
value_no_nan (fin s m e) k v = tt

-- no other pattern has that value
pub whole_only : (n k : ℕ) → n < 2 ^ 32 → IsWhole (float n) k → n ≡ whole k
whole_only n k h w =
    let v = as_value (float n) k w in
    sym (to_bits-of_bits binary32 n h (value_no_nan (float n) k v)) ∙ value_bits (float n) k v

-- ---- less one

-- a / c is j + 1 and b / c is 1, so a / c less b / c is j
less : (a b c j : ℕ) → 0 < c → a ≡ suc j * c → b ≡ c
    → cond (ltb a b) (round binary32 true (b - a) c) (round binary32 false (a - b) c) ≡ round binary32 false j 1
less a b c j h p q = rw (le-ltb a b (omega arith)) (round_same binary32 false (a - b) c j 1 h (lit< tt) (omega arith))

-- j + 1 less 1 is j, rounded once
value_less_one : (x y : Float) (j : ℕ) → HasValue x false (suc j) 1 → HasValue y false 1 1
    → ieeeSub binary32 x y ≡ round binary32 false j 1
unfolding ieeeSub ieeeAdd ieeeNeg
value_less_one nan y j v w = elim v [ ]
value_less_one (inf _) y j v w = elim v [ ]
value_less_one (fin false m e) nan j v w = elim w [ ]
value_less_one (fin false m e) (inf _) j v w = elim w [ ]
value_less_one (fin true m e) y j v w = absurd (true≢false v.0)
value_less_one (fin false m e) (fin true n d) j v w = absurd (true≢false w.0)
value_less_one (fin false m e) (fin false n d) j v w =
    let p : m * up e ≡ suc j * down e = omega (arith, v.1) in
    let q : n * up d ≡ down d = omega (arith, w.1) in
    less (m * up e * down d) (n * up d * down e) (down e * down d) j (mul-pos (down_pos e) (down_pos d))
    (rw p (mul_assoc (suc j) (down e) (down d))) (rw q (mul_comm (down d) (down e)))

one_value : HasValue (float one) false 1 1
unfolding of_bits
one_value = (refl, refl)

-- counting down is exact
pub less_one : (k : ℕ) → 1 ≤ k → k ≤ most → sub (whole k) one ≡ whole (k - 1)
unfolding sub
less_one Prim.Native.Nat.zero l h = elim l [ ]
less_one (suc j) l h = rw (value_less_one (float (whole (suc j))) (float one) j (whole_has (suc j) h) one_value, sub-one (suc j))
    (value_bits (round binary32 false j 1) j (round_whole binary32 false j (omega arith)))

-- ---- spent, and left

pub whole-zero : whole 0 ≡ zero
unfolding whole to_bits
whole-zero = refl

pub whole-spent : le (whole 0) zero ≡ true
unfolding whole to_bits of_bits le ieeeLe
whole-spent = refl

-- what is above 0 is not at most 0
pub above_left : (x : Float) → T (above x) → ieeeLe x (fin false 0 (pos 0)) ≡ false
unfolding ieeeLe ieeeLt ieeeEq
above_left nan a = elim a [ ]
above_left (inf true) a = elim a [ ]
above_left (fin true m e) a = elim a [ ]
above_left (inf false) a = refl
above_left (fin false m e) a =
    let h : 0 < m * up e = mul-pos (ltb→lt 0 m a) (up_pos e) in
    rw (le-ltb (m * up e * 1) (0 * down e) (omega arith), ne_eqb (m * up e * 1) (0 * down e) (λ z. omega arith))

value_above : (x : Float) (k : ℕ) → 1 ≤ k → HasValue x false k 1 → T (above x)
value_above nan k l v = elim v [ ]
value_above (inf _) k l v = elim v [ ]
value_above (fin true m e) k l v = absurd (true≢false v.0)
value_above (fin false m e) k l v = positive_of_value (fin false m e) k 1 v l

pub whole-left : (k : ℕ) → 1 ≤ k → k ≤ most → le (whole k) zero ≡ false
unfolding le of_bits
whole-left k l h = above_left (float (whole k)) (value_above (float (whole k)) k l (whole_has k h))
