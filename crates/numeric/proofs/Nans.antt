-- What reading and writing a pattern rests on: which patterns and floats are NaN. Assumes nothing.
use mathlib.Core.Path.{◌≡◌, refl, sym, ◌∙◌, ap, subst}
use mathlib.Core.Bool.{Bool, true, false, not, ◌||◌}
use Prim.Native.Nat.{ℕ}
use lib.Dec.{T}
use lib.IntN.{ℤ}
use lib.Ieee.{Float, nan, inf, fin, binary32, is_nan, ne, add, sub, mul, div, neg, lt, le, eq, of_bits, to_bits, nan_bits}
use lib.Ieee.Bits.{nan_bits_is, nan_bits_above}

is_nan-float : (x : Float) → is_nan x ≡ true → x ≡ nan
unfolding is_nan
is_nan-float nan e = refl
is_nan-float (inf s) e = absurd (subst T (sym e) tt)
is_nan-float (fin s m d) e = absurd (subst T (sym e) tt)

pub nan_pattern : (n : ℕ) → nan_bits binary32 n ≡ true → of_bits binary32 n ≡ nan
nan_pattern n e = is_nan-float (of_bits binary32 n) (sym (nan_bits_is binary32 n) ∙ e)

-- a NaN's pattern lies above an infinity's
pub ruleset above = (nan_bits_above)

pub written_nan : (x : Float) → is_nan x ≡ true → to_bits binary32 x ≡ 0x7FC0_0000
unfolding to_bits
written_nan x e = ap (to_bits binary32) (is_nan-float x e)

-- the constant `f32::NAN`
pub nan_by_name : of_bits binary32 0x7FC0_0000 ≡ nan
unfolding of_bits
nan_by_name = refl

-- ---- two operands, of which one may be a NaN

-- an operation that gives v of a NaN on either side
pub record Strict {A : Type 0} (op : Float → Float → A) (v : A) : Type 0 where
  pub left : (y : Float) → op nan y ≡ v
  pub right : (x : Float) → op x nan ≡ v

strict : {A : Type 0} {op : Float → Float → A} {v : A} → Strict op v
    → (a b : ℕ) → (nan_bits binary32 a || nan_bits binary32 b) ≡ true → v ≡ op (of_bits binary32 a) (of_bits binary32 b)
strict {A} {op} {v} l a b e = sym (cases (nan_bits binary32 a) refl)
  where
    cases : (k : Bool) → nan_bits binary32 a ≡ k → op (of_bits binary32 a) (of_bits binary32 b) ≡ v
    cases true p = ap (λ (x : Float). op x (of_bits binary32 b)) (nan_pattern a p) ∙ l.left (of_bits binary32 b)
    cases false p = ap (op (of_bits binary32 a)) (nan_pattern b (sym (ap (λ (k : Bool). k || nan_bits binary32 b) p) ∙ e)) ∙ l.right (of_bits binary32 a)

-- the law of + - * / on two patterns: v where a NaN's is among them, and `op` of two numbers, is `op` of both
pub from_numbers : {A : Type 0} {op : Float → Float → A} {v : A} → Strict op v → (a b : ℕ) {r : A}
    → ((nan_bits binary32 a || nan_bits binary32 b) ≡ true → r ≡ v)
    → ((nan_bits binary32 a || nan_bits binary32 b) ≡ false → r ≡ op (of_bits binary32 a) (of_bits binary32 b))
    → r ≡ op (of_bits binary32 a) (of_bits binary32 b)
from_numbers {A} {op} {v} l a b {r} n f = cases (nan_bits binary32 a || nan_bits binary32 b) refl
  where
    cases : (k : Bool) → (nan_bits binary32 a || nan_bits binary32 b) ≡ k → r ≡ op (of_bits binary32 a) (of_bits binary32 b)
    cases true e = n e ∙ strict l a b e
    cases false e = f e

-- ---- the operations and the comparisons

-- strict where a NaN stands first, and where it stands second, beside an infinity or a finite float
strictly : {A : Type 0} (op : Float → Float → A) (v : A) → ((y : Float) → op nan y ≡ v)
    → ((s : Bool) → op (inf s) nan ≡ v) → ((s : Bool) (m : ℕ) (e : ℤ) → op (fin s m e) nan ≡ v) → Strict op v
strictly op v n i f = record { left = n; right = beside }
  where
    beside : (x : Float) → op x nan ≡ v
    beside nan = n nan
    beside (inf s) = i s
    beside (fin s m e) = f s m e

pub add_strict : Strict (add binary32) nan
unfolding add
add_strict = strictly (add binary32) nan (λ y. refl) (λ s. refl) (λ s m e. refl)

pub sub_strict : Strict (sub binary32) nan
unfolding sub neg
sub_strict = record { left = λ y. add_strict.left (neg y); right = add_strict.right }

pub mul_strict : Strict (mul binary32) nan
unfolding mul
mul_strict = strictly (mul binary32) nan (λ y. refl) (λ s. refl) (λ s m e. refl)

pub div_strict : Strict (div binary32) nan
unfolding div
div_strict = strictly (div binary32) nan (λ y. refl) (λ s. refl) (λ s m e. refl)

pub lt_strict : Strict lt false
unfolding lt
lt_strict = strictly lt false (λ y. refl) (λ s. refl) (λ s m e. refl)

pub eq_strict : Strict eq false
unfolding eq
eq_strict = strictly eq false (λ y. refl) (λ s. refl) (λ s m e. refl)

pub le_strict : Strict le false
unfolding le
le_strict = record {
  left = λ y. rw (lt_strict.left y, eq_strict.left y);
  right = λ x. rw (lt_strict.right x, eq_strict.right x);
}

-- a comparison with a NaN is false
pub lt_nan : (a b : ℕ) → (nan_bits binary32 a || nan_bits binary32 b) ≡ true → lt (of_bits binary32 a) (of_bits binary32 b) ≡ false
lt_nan a b e = sym (strict lt_strict a b e)

pub le_nan : (a b : ℕ) → (nan_bits binary32 a || nan_bits binary32 b) ≡ true → le (of_bits binary32 a) (of_bits binary32 b) ≡ false
le_nan a b e = sym (strict le_strict a b e)

pub eq_nan : (a b : ℕ) → (nan_bits binary32 a || nan_bits binary32 b) ≡ true → eq (of_bits binary32 a) (of_bits binary32 b) ≡ false
eq_nan a b e = sym (strict eq_strict a b e)

pub not_equal : (x y : Float) → ne x y ≡ not (eq x y)
unfolding ne
not_equal x y = refl

-- + - * / write the NaN that they make as 7FC00000
pub written : {op : Float → Float → Float} → Strict op nan → Strict (λ (x y : Float). to_bits binary32 (op x y)) 0x7FC0_0000
unfolding to_bits
written l = record { left = λ y. ap (to_bits binary32) (l.left y); right = λ x. ap (to_bits binary32) (l.right x) }
