-- What is claimed of Floor, Ceil, Trunc and Abs (specs/Whole.antt). Assumes nothing.
use mathlib.Core.Path.{◌≡◌, refl, sym, ap, ◌∙◌, subst}
use mathlib.Core.Bool.{Bool, true, false, not, cond, ◌||◌, false≢true}
use mathlib.Core.Logic.{◌⊎◌, inl, inr}
use Prim.Native.Nat.{ℕ, ◌+◌, ◌*◌, ◌/◌, ◌%◌, ◌^◌, ◌≤◌, ◌<◌}
use native.Mathlib.Nat.{lt_of_le_of_lt, lt_of_lt_of_le, le_trans, le_of_eq, mul-one, zero-mul, mul_comm, mul_assoc, mul_left_comm, mul_right_comm, add-mul, mul-pos, mul-mod_left, mul-le-mul_right, le_of_mul-le-mul_right, mul-lt-mul_of_pos_right, lt_of_mul-lt-mul_right, div-mul-le_self, div-add-mod', lt-div-mul-add, le-div_iff_mul-le}
use native.Mathlib.Omega.{arith}
use Rattle.std.proofs.lemmas.Bool.Decides.{nat_tests}
use borrow.Author.Tests.{eqb-true, eqb-false, eq-eqb}
use lib.Dec.{leb, eqb}
use lib.Pow.{pow_pos}
use lib.Ieee.{Float, nan, inf, fin, binary32, up, down, nan_bits}
use lib.Ieee as ieee
use lib.Ieee.Bits.{nan_bits_is, to_bits-lt}
use lib.Ieee.Exact.{HasValue}
use lib.Ieee.Fits.{down_pos}
use Rattle.numeric.specs.Numbers.{one_nan, float, is_nan, magnitude}
use Rattle.numeric.specs.Whole.{whole_above, part_if, Finite, has_sign, numerator, denominator, is_whole, GreatestNotAbove, LeastNotBelow, LargeIsWhole, IsFraction, PartIsValue, Near, MadeWhole, FloorLaws, CeilLaws, TruncLaws, AbsLaws, floored, ceiled, truncated}
use Rattle.remainder.proofs.Cases.{inf_is}
use Rattle.numeric.proofs.Nans.{nan_pattern, nan_by_name}
use Rattle.numeric.proofs.OneNan.{entered-nan, entered_number, made_whole-fits}
use Rattle.numeric.proofs.Fractions.{same_value, one_sign, other_fraction, part_same, made}
use Rattle.numeric.proofs.Whole.{in_units, whole_part, value, part_value, result, part_of, result_value, result_nan, result_inf, kept, kinds, truncated_is, floored_is, ceiled_is, same_side, absolute_is, large_part}

-- ---- whole numbers

is_whole-value : (x : Float) (s : Bool) (q : ℕ) → HasValue x s q 1 → is_whole x ≡ true
unfolding is_whole
is_whole-value nan s q v = absurd v
is_whole-value (inf t) s q v = absurd v
is_whole-value (fin t m e) s q v = eq-eqb (m * up e % down e) 0 (ap (λ (z : ℕ). z % down e) (sym (mul-one (m * up e)) ∙ v.1) ∙ mul-mod_left q (down e))

-- one that is whole has a whole magnitude
pub record Whole (x : Float) : Type 0 where
  pub sign : Bool
  pub number : ℕ
  pub value : HasValue x sign number 1

whole_value : (x : Float) → is_whole x ≡ true → Whole x
unfolding is_whole
whole_value nan h = absurd (false≢true h)
whole_value (inf s) h = absurd (false≢true h)
whole_value (fin s m e) h =
    let q = m * up e / down e in
    record {
      sign = s;
      number = q;
      value = (refl, mul-one (m * up e) ∙ sym (div-add-mod' (m * up e) (down e)) ∙ omega (arith, eqb-true (m * up e % down e) 0 h));
    }

-- ---- the order of two values

abbrev pub Le : Bool → ℕ → Bool → ℕ → Type 0
Le false a false b = a ≤ b
Le true a true b = b ≤ a
Le true a false b = 0 ≤ b
Le false a true b = a + b ≤ 0

le_test : (s t : Bool) (a b : ℕ) → Le s a t b → (ieee.below s a t b || ieee.level s a t b) ≡ true
le_test false false a b h = grind (arith, nat_tests)
le_test false true a b h = grind (arith, nat_tests)
le_test true false a b h = grind (arith, nat_tests)
le_test true true a b h = grind (arith, nat_tests)

test_le : (s t : Bool) (a b : ℕ) → (ieee.below s a t b || ieee.level s a t b) ≡ true → Le s a t b
test_le false false a b h = grind (arith, nat_tests)
test_le false true a b h = grind (arith, nat_tests)
test_le true false a b h = grind (arith, nat_tests)
test_le true true a b h = grind (arith, nat_tests)

-- an order of numbers, seen at another scale
scale_le : (a b c d k l : ℕ) → 0 < l → a * k ≡ c * l → b * k ≡ d * l → a ≤ b → c ≤ d
scale_le a b c d k l L p q h = le_of_mul-le-mul_right (le_trans (le_of_eq (sym p)) (le_trans (mul-le-mul_right k h) (le_of_eq q))) L

scale_Le : (s t : Bool) (a b c d k l : ℕ) → 0 < l → a * k ≡ c * l → b * k ≡ d * l → Le s a t b → Le s c t d
scale_Le false false a b c d k l L p q h = scale_le a b c d k l L p q h
scale_Le true true a b c d k l L p q h = scale_le b a d c k l L q p h
scale_Le true false a b c d k l L p q h = omega arith
scale_Le false true a b c d k l L p q h =
    scale_le (a + b) 0 (c + d) 0 k l L (add-mul a b k ∙ omega (arith, p, q) ∙ sym (add-mul c d l)) (zero-mul k ∙ sym (zero-mul l)) h

crossed : (x u y v a c b d : ℕ) → x * c ≡ a * u → y * d ≡ b * v → (x * v * (c * d) ≡ a * d * (u * v)) × (y * u * (c * d) ≡ b * c * (u * v))
crossed x u y v a c b d p q = (
  simp (mul_assoc, mul_comm, mul_left_comm) (simp (mul_assoc, mul_comm, mul_left_comm) at (ap (λ (z : ℕ). z * (v * d)) p)),
  simp (mul_assoc, mul_comm, mul_left_comm) (simp (mul_assoc, mul_comm, mul_left_comm) at (ap (λ (z : ℕ). z * (u * c)) q)),
)

pub le_of_values : (x y : Float) (s t : Bool) (a c b d : ℕ) → 0 < c → 0 < d → HasValue x s a c → HasValue y t b d → Le s (a * d) t (b * c) → ieee.le x y ≡ true
unfolding ieee.le ieee.lt ieee.eq
le_of_values nan y s t a c b d C D p q h = absurd p
le_of_values (inf u) y s t a c b d C D p q h = absurd p
le_of_values (fin u m e) nan s t a c b d C D p q h = absurd q
le_of_values (fin u m e) (inf v) s t a c b d C D p q h = absurd q
le_of_values (fin u m e) (fin v n i) s t a c b d C D p q h =
    let r = crossed (m * up e) (down e) (n * up i) (down i) a c b d p.1 q.1 in
    le_test u v (m * up e * down i) (n * up i * down e)
    (scale_Le u v (a * d) (b * c) (m * up e * down i) (n * up i * down e) (down e * down i) (c * d) (mul-pos C D) (sym r.0) (sym r.1)
    (subst (λ (z : Bool). Le u (a * d) z (b * c)) (sym q.0) (subst (λ (z : Bool). Le z (a * d) t (b * c)) (sym p.0) h)))

pub values_of_le : (x y : Float) (s t : Bool) (a c b d : ℕ) → HasValue x s a c → HasValue y t b d → ieee.le x y ≡ true → Le s (a * d) t (b * c)
unfolding ieee.le ieee.lt ieee.eq
values_of_le nan y s t a c b d p q h = absurd p
values_of_le (inf u) y s t a c b d p q h = absurd p
values_of_le (fin u m e) nan s t a c b d p q h = absurd q
values_of_le (fin u m e) (inf v) s t a c b d p q h = absurd q
values_of_le (fin u m e) (fin v n i) s t a c b d p q h =
    let r = crossed (m * up e) (down e) (n * up i) (down i) a c b d p.1 q.1 in
    subst (λ (z : Bool). Le s (a * d) z (b * c)) q.0
    (subst (λ (z : Bool). Le z (a * d) v (b * c)) p.0
    (scale_Le u v (m * up e * down i) (n * up i * down e) (a * d) (b * c) (c * d) (down e * down i) (mul-pos (down_pos e) (down_pos i)) r.0 r.1
    (test_le u v (m * up e * down i) (n * up i * down e) h)))

-- ---- the parts of a fraction a / c beside it, and beside a whole number k

le-above : (a c : ℕ) → 0 < c → a ≤ whole_above a c * c
le-above a c C = cases (eqb (a % c) 0) refl
  where
    cases : (b : Bool) → eqb (a % c) 0 ≡ b → a ≤ cond b (a / c) (a / c + 1) * c
    cases true e =
        let none = eqb-true (a % c) 0 e in
        let all = div-add-mod' a c in
        omega arith
    cases false e =
        let one : (a / c + 1) * c ≡ a / c * c + 1 * c = add-mul (a / c) 1 c in
        let more = lt-div-mul-add {a = a} C in
        omega arith

above-le : (a c k : ℕ) → 0 < c → a ≤ k * c → whole_above a c ≤ k
above-le a c k C h = cases (eqb (a % c) 0) refl
  where
    below : a / c ≤ k
    below = le_of_mul-le-mul_right (le_trans (div-mul-le_self a c) h) C

    cases : (b : Bool) → eqb (a % c) 0 ≡ b → cond b (a / c) (a / c + 1) ≤ k
    cases true e = below
    cases false e =
        let some = eqb-false (a % c) 0 e in
        let all = div-add-mod' a c in
        let less : a / c * c < k * c = omega arith in
        let is : a / c < k = lt_of_mul-lt-mul_right c less in
        omega arith

floor_le : (s : Bool) (a c : ℕ) → 0 < c → Le s (part_if s a c * c) s (a * 1)
floor_le true a c C = le_trans (le_of_eq (mul-one a)) (le-above a c C)
floor_le false a c C = le_trans (div-mul-le_self a c) (le_of_eq (sym (mul-one a)))

floor_greatest : (s t : Bool) (a c k : ℕ) → 0 < c → Le t (k * c) s (a * 1) → Le t (k * 1) s (part_if s a c * 1)
floor_greatest false false a c k C h = mul-le-mul_right 1 ((le-div_iff_mul-le C).1 (le_trans h (le_of_eq (mul-one a))))
floor_greatest true true a c k C h = mul-le-mul_right 1 (above-le a c k C (le_trans (le_of_eq (sym (mul-one a))) h))
floor_greatest false true a c k C h = omega arith
floor_greatest true false a c k C h =
    let none : a ≤ 0 * c = omega (arith, zero-mul c) in
    let number : k * c ≤ 0 * c = omega (arith, zero-mul c) in
    let part = above-le a c 0 C none in
    let zero_number : k ≤ 0 = le_of_mul-le-mul_right number C in
    omega arith

ceil_le : (s : Bool) (a c : ℕ) → 0 < c → Le s (a * 1) s (part_if (not s) a c * c)
ceil_le true a c C = floor_le false a c C
ceil_le false a c C = floor_le true a c C

ceil_least : (s t : Bool) (a c k : ℕ) → 0 < c → Le s (a * 1) t (k * c) → Le s (part_if (not s) a c * 1) t (k * 1)
ceil_least false false a c k C h = floor_greatest true true a c k C h
ceil_least true true a c k C h = floor_greatest false false a c k C h
ceil_least true false a c k C h = omega arith
ceil_least false true a c k C h =
    let none : a ≤ 0 * c = omega (arith, zero-mul c) in
    let number : k * c ≤ 0 * c = omega (arith, zero-mul c) in
    let part = above-le a c 0 C none in
    let zero_number : k ≤ 0 = le_of_mul-le-mul_right number C in
    omega arith

-- ---- "the greatest whole number not above", "the least not below"

pub floor_is : (n : ℕ) → Finite n → GreatestNotAbove (float n) (float (floored n))
floor_is n F =
    let s = has_sign n in
    let a = in_units n in
    let c = 2 ^ 149 in
    let q = part_of (λ s. s) n in
    let v : HasValue (float (floored n)) s q 1 = subst (λ (r : ℕ). HasValue (float r) s q 1) (floored_is n) (result_value (λ s. s) n F) in
    record {
      whole = is_whole-value (float (floored n)) s q v;
      not_above = le_of_values (float (floored n)) (float n) s s q 1 a c (omega arith) (pow_pos 149) v (value n F) (floor_le s a c (pow_pos 149));
      greatest = λ w h l.
          let k = whole_value w h in
          le_of_values w (float (floored n)) k.sign s k.number 1 q 1 (omega arith) (omega arith) k.value v
          (floor_greatest s k.sign a c k.number (pow_pos 149) (values_of_le w (float n) k.sign s k.number 1 a c k.value (value n F) l));
    }

pub ceil_is : (n : ℕ) → Finite n → LeastNotBelow (float n) (float (ceiled n))
ceil_is n F =
    let s = has_sign n in
    let a = in_units n in
    let c = 2 ^ 149 in
    let q = part_of not n in
    let v : HasValue (float (ceiled n)) s q 1 = subst (λ (r : ℕ). HasValue (float r) s q 1) (ceiled_is n) (result_value not n F) in
    record {
      whole = is_whole-value (float (ceiled n)) s q v;
      not_below = le_of_values (float n) (float (ceiled n)) s s a c q 1 (pow_pos 149) (omega arith) (value n F) v (ceil_le s a c (pow_pos 149));
      least = λ w h l.
          let k = whole_value w h in
          le_of_values (float (ceiled n)) w s k.sign q 1 k.number 1 (omega arith) (omega arith) v k.value
          (ceil_least s k.sign a c k.number (pow_pos 149) (values_of_le (float n) w s k.sign a c k.number 1 (value n F) k.value l));
    }

-- ---- less than one apart

scale_lt : (a b c d k l : ℕ) → 0 < k → a * k ≡ c * l → b * k ≡ d * l → a < b → c < d
scale_lt a b c d k l K p q h = lt_of_mul-lt-mul_right l (lt_of_le_of_lt (le_of_eq (sym p)) (lt_of_lt_of_le (mul-lt-mul_of_pos_right h K) (le_of_eq q)))

part-least : (g : Bool) (a c : ℕ) → 0 < c → a < (part_if g a c + 1) * c
part-least g a c C =
    let one : (a / c + 1) * c ≡ a / c * c + 1 * c = add-mul (a / c) 1 c in
    let more = lt-div-mul-add {a = a} C in
    lt_of_lt_of_le (omega arith) (mul-le-mul_right c (up_to g))
  where
    up_to : (g : Bool) → a / c + 1 ≤ part_if g a c + 1
    up_to false = omega arith
    up_to true = cases (eqb (a % c) 0)
      where
        cases : (b : Bool) → a / c + 1 ≤ cond b (a / c) (a / c + 1) + 1
        cases true = omega arith
        cases false = omega arith

part-most : (g : Bool) (a c : ℕ) → 0 < c → part_if g a c * c < a + c
part-most false a c C = let le = div-mul-le_self a c in omega arith
part-most true a c C = cases (eqb (a % c) 0) refl
  where
    cases : (b : Bool) → eqb (a % c) 0 ≡ b → cond b (a / c) (a / c + 1) * c < a + c
    cases true e = let le = div-mul-le_self a c in omega arith
    cases false e =
        let some = eqb-false (a % c) 0 e in
        let all = div-add-mod' a c in
        let one : (a / c + 1) * c ≡ a / c * c + 1 * c = add-mul (a / c) 1 c in
        omega arith

least_sides : (q c y u v : ℕ) → y ≡ q * v → (q + 1) * c * (u * v) ≡ (y + v) * u * c
least_sides q c y u v h =
    let sum : y + v ≡ (q + 1) * v = omega (arith, h, add-mul q 1 v) in
    let same : (q + 1) * c * (u * v) ≡ (q + 1) * v * u * c = generalized (q + 1) in
    same ∙ ap (λ (k : ℕ). k * u * c) (sym sum)
  where
    generalized : (w : ℕ) → w * c * (u * v) ≡ w * v * u * c
    generalized w = simp (mul_assoc, mul_comm, mul_left_comm) refl

most_sides : (a c x u v : ℕ) → x * c ≡ a * u → (a + c) * (u * v) ≡ (x + u) * v * c
most_sides a c x u v h =
    let sum : (x + u) * c ≡ (a + c) * u = omega (arith, h, add-mul x u c, add-mul a c u, mul_comm u c) in
    sym (mul_assoc (a + c) u v) ∙ ap (λ (k : ℕ). k * v) (sym sum) ∙ mul_right_comm (x + u) c v

number_sides : (q c y u v : ℕ) → y ≡ q * v → q * c * (u * v) ≡ y * u * c
number_sides q c y u v h =
    let same : q * c * (u * v) ≡ q * v * u * c = simp (mul_assoc, mul_comm, mul_left_comm) refl in
    same ∙ ap (λ (k : ℕ). k * u * c) (sym h)

value_sides : (a c x u v : ℕ) → x * c ≡ a * u → a * (u * v) ≡ x * v * c
value_sides a c x u v h = sym (mul_assoc a u v) ∙ ap (λ (k : ℕ). k * v) (sym h) ∙ mul_right_comm x c v

near_values : (x r : Float) (s t : Bool) (a c q : ℕ) → HasValue x s a c → HasValue r t q 1 → a < (q + 1) * c → q * c < a + c → Near x r
near_values nan r s t a c q v w lo hi = absurd v
near_values (inf u) r s t a c q v w lo hi = absurd v
near_values (fin u m e) nan s t a c q v w lo hi = absurd w
near_values (fin u m e) (inf z) s t a c q v w lo hi = absurd w
near_values (fin u m e) (fin z n i) s t a c q v w lo hi =
    let both = mul-pos (down_pos e) (down_pos i) in
    let y : n * up i ≡ q * down i = sym (mul-one (n * up i)) ∙ w.1 in
    record {
      least =
          scale_lt a ((q + 1) * c) (m * up e * down i) ((n * up i + down i) * down e) (down e * down i) c both
          (value_sides a c (m * up e) (down e) (down i) v.1) (least_sides q c (n * up i) (down e) (down i) y) lo;
      most =
          scale_lt (q * c) (a + c) (n * up i * down e) ((m * up e + down e) * down i) (down e * down i) c both
          (number_sides q c (n * up i) (down e) (down i) y) (most_sides a c (m * up e) (down e) (down i) v.1) hi;
    }

-- no larger
no_larger : (x r : Float) (s t : Bool) (a c q : ℕ) → 0 < c → HasValue x s a c → HasValue r t q 1 → q * c ≤ a → numerator r * denominator x ≤ numerator x * denominator r
no_larger nan r s t a c q C v w h = absurd v
no_larger (inf u) r s t a c q C v w h = absurd v
no_larger (fin u m e) nan s t a c q C v w h = absurd w
no_larger (fin u m e) (inf z) s t a c q C v w h = absurd w
no_larger (fin u m e) (fin z n i) s t a c q C v w h =
    let y : n * up i ≡ q * down i = sym (mul-one (n * up i)) ∙ w.1 in
    scale_le (q * c) a (n * up i * down e) (m * up e * down i) (down e * down i) c C
    (number_sides q c (n * up i) (down e) (down i) y) (value_sides a c (m * up e) (down e) (down i) v.1) h

-- ---- what the three have in common

-- a pattern of a finite value is no NaN's and no infinity's, and has the value's sign
sign_of : (k : ℕ) (s : Bool) (q : ℕ) → HasValue (float k) s q 1 → has_sign k ≡ s
sign_of k s q v = elim (kinds k) [
  | inl e ↦ absurd (subst (λ (x : Float). HasValue x s q 1) e v)
  | inr (inl e) ↦ absurd (subst (λ (x : Float). HasValue x s q 1) e v)
  | inr (inr F) ↦ one_sign (float k) (has_sign k) s (in_units k) (2 ^ 149) q 1 (value k F) v
]

nan_is_nan : (n : ℕ) → float n ≡ nan → is_nan n ≡ true
unfolding ieee.is_nan
nan_is_nan n e = nan_bits_is binary32 n ∙ ap ieee.is_nan e

whole_left : (n : ℕ) → Finite n → is_whole (float n) ≡ true → in_units n % 2 ^ 149 ≡ 0
whole_left n F h =
    let k = whole_value (float n) h in
    let all : in_units n * 1 ≡ k.number * 2 ^ 149 = same_value (float n) (has_sign n) k.sign (in_units n) (2 ^ 149) k.number 1 (value n F) k.value in
    ap (λ (z : ℕ). z % 2 ^ 149) (sym (mul-one (in_units n)) ∙ all) ∙ mul-mod_left k.number (2 ^ 149)

no_whole : (x : Float) → is_whole x ≡ true → (x ≡ nan) ⊎ ((s : Bool) × (x ≡ inf s)) → ⊥
unfolding is_whole
no_whole x h (inl e) = false≢true (ap is_whole (sym e) ∙ h)
no_whole x h (inr e) = false≢true (ap is_whole (sym e.1) ∙ h)

pub made_laws : (g : Bool → Bool) (n : ℕ) → n < 2 ^ 32 → MadeWhole n (result g n)
made_laws g n N = record {
  sign = λ h. elim (kinds n) [
    | inl e ↦ absurd (false≢true (sym h ∙ nan_is_nan n e))
    | inr (inl e) ↦ ap has_sign (result_inf g n N e)
    | inr (inr F) ↦ sign_of (result g n) (has_sign n) (part_of g n) (result_value g n F)
  ];
  near = λ F.
      near_values (float n) (float (result g n)) (has_sign n) (has_sign n) (in_units n) (2 ^ 149) (part_of g n) (value n F) (result_value g n F)
      (part-least (g (has_sign n)) (in_units n) (2 ^ 149) (pow_pos 149)) (part-most (g (has_sign n)) (in_units n) (2 ^ 149) (pow_pos 149));
  kept = λ h. elim (kinds n) [
    | inl e ↦ absurd (no_whole (float n) h (inl e))
    | inr (inl e) ↦ absurd (no_whole (float n) h (inr (has_sign n, e)))
    | inr (inr F) ↦ sym (kept g n N F (whole_left n F h))
  ];
  infinity = λ h. result_inf g n N (inf_is n h);
  nan = λ h. result_nan g n (nan_pattern n h);
}

-- a result is whole, and so is its own
result_whole : (g : Bool → Bool) (n : ℕ) → Finite n → is_whole (float (result g n)) ≡ true
result_whole g n F = is_whole-value (float (result g n)) (has_sign n) (part_of g n) (result_value g n F)

result_twice : (g : Bool → Bool) (n : ℕ) → n < 2 ^ 32 → result g (result g n) ≡ result g n
result_twice g n N = elim (kinds n) [
  | inl e ↦ ap (result g) (result_nan g n e) ∙ result_nan g one_nan nan_by_name ∙ sym (result_nan g n e)
  | inr (inl e) ↦ ap (result g) (result_inf g n N e)
  | inr (inr F) ↦ (made_laws g (result g n) (to_bits-lt binary32 (made g (float n)) (made_whole-fits (λ s. part_if (g s)) (float n)))).kept (result_whole g n F)
]

-- ---- the laws

pub floor_laws : (n : ℕ) → n < 2 ^ 32 → FloorLaws n
floor_laws n N = record {
  made = subst (MadeWhole n) (floored_is n) (made_laws (λ s. s) n N);
  is = floor_is n;
  twice = subst (λ (k : ℕ). floored k ≡ k) (floored_is n) (sym (floored_is (result (λ s. s) n)) ∙ result_twice (λ s. s) n N);
}

pub ceil_laws : (n : ℕ) → n < 2 ^ 32 → CeilLaws n
ceil_laws n N = record {
  made = subst (MadeWhole n) (ceiled_is n) (made_laws not n N);
  is = ceil_is n;
  twice = subst (λ (k : ℕ). ceiled k ≡ k) (ceiled_is n) (sym (ceiled_is (result not n)) ∙ result_twice not n N);
}

-- of a negative number as Ceil, of another as Floor
towards_zero : (n : ℕ) → n < 2 ^ 32 → truncated n ≡ cond (has_sign n) (ceiled n) (floored n)
towards_zero n N = cases (leb (2 ^ 31) n) refl
  where
    cases : (b : Bool) → leb (2 ^ 31) n ≡ b → truncated n ≡ cond b (ceiled n) (floored n)
    cases true e = sym (truncated_is n) ∙ same_side (λ s. false) not n (sym (ap not e)) ∙ ceiled_is n
    cases false e = sym (truncated_is n) ∙ same_side (λ s. false) (λ s. s) n (sym e) ∙ floored_is n

pub trunc_laws : (n : ℕ) → n < 2 ^ 32 → TruncLaws n
trunc_laws n N = record {
  made = subst (MadeWhole n) (truncated_is n) (made_laws (λ s. false) n N);
  is = towards_zero n N;
  whole = λ F. subst (λ (k : ℕ). is_whole (float k) ≡ true) (truncated_is n) (result_whole (λ s. false) n F);
  no_larger = λ F.
      let r = result_value (λ s. false) n F in
      subst (λ (k : ℕ). numerator (float k) * denominator (float n) ≤ numerator (float n) * denominator (float k)) (truncated_is n)
      (no_larger (float n) (float (result (λ s. false) n)) (has_sign n) (has_sign n) (in_units n) (2 ^ 149) (whole_part n) (pow_pos 149) (value n F) r (div-mul-le_self (in_units n) (2 ^ 149)));
  twice = subst (λ (k : ℕ). truncated k ≡ k) (truncated_is n) (sym (truncated_is (result (λ s. false) n)) ∙ result_twice (λ s. false) n N);
}

-- the sign makes no NaN
magnitude_nan : (n : ℕ) → is_nan (magnitude n) ≡ is_nan n
unfolding nan_bits
magnitude_nan n =
    let digits : magnitude n % 2 ^ 23 ≡ n % 2 ^ 23 = omega arith in
    let rest : magnitude n % 2 ^ 31 ≡ magnitude n = omega arith in
    rw (digits, rest) refl

pub abs_laws : (n : ℕ) → AbsLaws n
abs_laws n = record {
  is = λ h. sym (absolute_is n) ∙ entered_number (magnitude n) (magnitude_nan n ∙ h);
  nan = λ h. sym (absolute_is n) ∙ entered-nan (magnitude n) (magnitude_nan n ∙ h);
}

pub large_is_whole : (n : ℕ) → LargeIsWhole n
large_is_whole n l F =
    is_whole-value (float n) (has_sign n) (whole_part n)
    (other_fraction (float n) (has_sign n) (in_units n) (2 ^ 149) (whole_part n) 1 (pow_pos 149) (mul-one (in_units n) ∙ sym (large_part (magnitude n) l)) (value n F))

-- ---- nothing is rounded

is_fraction : (x : Float) (s : Bool) (a c : ℕ) → HasValue x s a c → IsFraction x s a c
is_fraction nan s a c v = v
is_fraction (inf t) s a c v = v
is_fraction (fin t m e) s a c v = v

-- a finite value is its numerator over its denominator
own_fraction : (x : Float) (s : Bool) (a c : ℕ) → HasValue x s a c → (0 < denominator x) × HasValue x s (numerator x) (denominator x)
own_fraction nan s a c v = absurd v
own_fraction (inf t) s a c v = absurd v
own_fraction (fin t m e) s a c v = (down_pos e, (v.0, refl))

pub part_is_value : (n : ℕ) → PartIsValue n
part_is_value n F above s =
    let x = float n in
    let own = own_fraction x (has_sign n) (in_units n) (2 ^ 149) (value n F) in
    let crossed : in_units n * denominator x ≡ numerator x * 2 ^ 149 =
    same_value x (has_sign n) (has_sign n) (in_units n) (2 ^ 149) (numerator x) (denominator x) (value n F) own.1 in
    let same = part_same above (in_units n) (2 ^ 149) (numerator x) (denominator x) (pow_pos 149) own.0 crossed in
    subst (λ (q : ℕ). IsFraction (ieee.round binary32 s q 1) s q 1) same
    (is_fraction (ieee.round binary32 s (part_if above (in_units n) (2 ^ 149)) 1) s (part_if above (in_units n) (2 ^ 149)) 1 (part_value above s (magnitude n) F))
