-- Finite values as fractions, and the parts of a fraction that are whole numbers: below it, or above. Assumes nothing.
use mathlib.Core.Path.{◌≡◌, refl, sym, ap, ◌∙◌}
use mathlib.Core.Bool.{Bool, true, false, not, cond}
use Prim.Native.Nat.{ℕ, zero, suc, ◌+◌, ◌*◌, ◌/◌, ◌%◌, ◌≤◌, ◌<◌}
use native.Mathlib.Nat.{zero-lt-suc, zero-mul, mul_comm, mul_right_comm, mul-pos, eq_of_mul-eq-mul_right}
use native.Mathlib.Omega.{arith}
use borrow.Author.Tests.{ne_eqb, eq-eqb}
use lib.Dec.{T, eqb}
use lib.Ieee.{Float, nan, inf, fin, binary32, is_nan, up, down, round}
use lib.Ieee.Exact.{HasValue}
use lib.Ieee.Fits.{down_pos}
use lib.Ieee.Nearest.{div_same}
use Rattle.remainder.proofs.Modulo.{mod_scale}
use Rattle.numeric.specs.Whole.{whole_above, part_if, made_whole}

-- ---- values

-- one value, two fractions
pub same_value : (x : Float) (s t : Bool) (a c b d : ℕ) → HasValue x s a c → HasValue x t b d → a * d ≡ b * c
same_value nan s t a c b d p q = absurd p
same_value (inf u) s t a c b d p q = absurd p
same_value (fin u m e) s t a c b d p q =
    eq_of_mul-eq-mul_right (down e) (down_pos e) (a * d) (b * c)
    (mul_right_comm a d (down e)
    ∙ ap (λ (z : ℕ). z * d) (sym p.1)
    ∙ mul_right_comm (m * up e) c d
    ∙ ap (λ (z : ℕ). z * c) q.1
    ∙ mul_right_comm b (down e) c)

-- and one sign
pub one_sign : (x : Float) (s t : Bool) (a c b d : ℕ) → HasValue x s a c → HasValue x t b d → s ≡ t
one_sign nan s t a c b d p q = absurd p
one_sign (inf u) s t a c b d p q = absurd p
one_sign (fin u m e) s t a c b d p q = sym p.0 ∙ q.0

-- from one fraction to an equal one
pub other_fraction : (x : Float) (s : Bool) (a c b d : ℕ) → 0 < c → a * d ≡ b * c → HasValue x s a c → HasValue x s b d
other_fraction nan s a c b d C h v = v
other_fraction (inf t) s a c b d C h v = v
other_fraction (fin t m e) s a c b d C h v = (
  v.0,
  eq_of_mul-eq-mul_right c C (m * up e * d) (b * down e)
      (mul_right_comm (m * up e) d c
      ∙ ap (λ (z : ℕ). z * d) v.1
      ∙ mul_right_comm a (down e) d
      ∙ ap (λ (z : ℕ). z * down e) h
      ∙ mul_right_comm b c (down e)),
)

-- a value is no NaN
pub is_number : (x : Float) (s : Bool) (a c : ℕ) → HasValue x s a c → T (not (is_nan x))
unfolding is_nan
is_number nan s a c v = v
is_number (inf t) s a c v = tt
is_number (fin t m e) s a c v = tt

-- ---- the part of a / c: above it or below

-- equal fractions leave nothing alike
none_left : (r t c d : ℕ) → 0 < c → 0 < d → r * d ≡ t * c → eqb r 0 ≡ eqb t 0
none_left zero zero c d C D h = refl
none_left zero (suc t) c d C D h = absurd (omega (arith, mul-pos (zero-lt-suc t) C, zero-mul d))
none_left (suc r) zero c d C D h = absurd (omega (arith, mul-pos (zero-lt-suc r) D, zero-mul c))
none_left (suc r) (suc t) c d C D h = ne_eqb (suc r) 0 (λ e. omega arith) ∙ sym (ne_eqb (suc t) 0 (λ e. omega arith))

pub left_same : (a c b d : ℕ) → 0 < c → 0 < d → a * d ≡ b * c → eqb (a % c) 0 ≡ eqb (b % d) 0
left_same a c b d C D h =
    none_left (a % c) (b % d) c d C D
    (sym (mod_scale a C D) ∙ ap (λ (z : ℕ). z % (c * d)) h ∙ ap (λ (z : ℕ). b * c % z) (mul_comm c d) ∙ mod_scale b D C)

pub part_same : (g : Bool) (a c b d : ℕ) → 0 < c → 0 < d → a * d ≡ b * c → part_if g a c ≡ part_if g b d
part_same true a c b d C D h = rw (left_same a c b d C D h, div_same a c b d C D h) refl
part_same false a c b d C D h = div_same a c b d C D h

-- of a whole number both are the number
pub part_whole : (g : Bool) (a c : ℕ) → a % c ≡ 0 → part_if g a c ≡ a / c
part_whole true a c e = ap (λ (b : Bool). cond b (a / c) (a / c + 1)) (eq-eqb (a % c) 0 e)
part_whole false a c e = refl

-- of another the part above is one more
pub part_more : (a c : ℕ) → (a % c ≡ 0 → ⊥) → whole_above a c ≡ a / c + 1
part_more a c d = ap (λ (b : Bool). cond b (a / c) (a / c + 1)) (ne_eqb (a % c) 0 d)

pub part_le : (g : Bool) (a c : ℕ) → part_if g a c ≤ suc (a / c)
part_le true a c = cases (eqb (a % c) 0)
  where
    cases : (b : Bool) → cond b (a / c) (a / c + 1) ≤ suc (a / c)
    cases true = omega arith
    cases false = omega arith
part_le false a c = omega arith

-- ---- a value made whole: `g` says at which signs the magnitude is made no smaller

abbrev pub made : (Bool → Bool) → Float → Float
made g x = made_whole (λ s a c. part_if (g s) a c) x

pub made_is : (g : Bool → Bool) (x : Float) (s : Bool) (a c : ℕ) → 0 < c → HasValue x s a c → made g x ≡ round binary32 s (part_if (g s) a c) 1
made_is g nan s a c C v = absurd v
made_is g (inf t) s a c C v = absurd v
made_is g (fin t m e) s a c C v =
    ap (λ (b : Bool). round binary32 b (part_if (g b) (m * up e) (down e)) 1) v.0
    ∙ ap (λ (z : ℕ). round binary32 s z 1) (part_same (g s) (m * up e) (down e) a c (down_pos e) C v.1)
