-- Every number that enters or is made is no NaN but 7FC00000. Assumes nothing.
use Prim.Native.Nat.{ℕ}
use mathlib.Core.Path.{◌≡◌, refl, sym, ◌∙◌, ap, subst}
use mathlib.Core.Bool.{Bool, true, false}
use lib.Dec.{T}
use lib.Ieee.{Float, nan, inf, fin, binary32, fits, to_bits, nan_bits}
use lib.Ieee.Bits.{of_bits-to_bits, of_bits-fits}
use lib.Ieee.Fits.{nan-fits, inf-fits, round-fits, add-fits, sub-fits, mul-fits, div-fits, rem-fits}
use Rattle.numeric.specs.Numbers.{float, bits, zero, epsilon, is_nan, OneNan, entered, magnitude, add, sub, mul, div, rem, lt, eq}
use Rattle.numeric.specs.Arithmetic.{is_identity, applied, truthy_value, falsy_value, selected, negated, divisor, guarded, mod_const, mod_runtime}
use Rattle.numeric.specs.Whole.{made_whole, floor, ceil, trunc, floored, ceiled, truncated, absolute}
use Rattle.numeric.specs.OneNan.{Enters, MakesOneNan}
use Rattle.numeric.specs.declared.post_op.PostOp.{PostOp}
use Rattle.numeric.specs.declared.post_op.Post.{Post}
use Rattle.std.proofs.Common.{Some}
use Rattle.numeric.proofs.Nans.{nan_pattern}
use Rattle.numeric.proofs.Signs.{resigned-fits, abs_is}

-- both ways of a test
pub on_both : {P : Type 0} (b : Bool) → (b ≡ true → P) → (b ≡ false → P) → P
on_both true f g = f refl
on_both false f g = g refl

-- ---- what enters

pub zero_one : OneNan zero
unfolding nan_bits
zero_one e = absurd (subst T (sym e) tt)

pub entered-nan : (n : ℕ) → is_nan n ≡ true → entered n ≡ 0x7FC0_0000
unfolding entered
entered-nan n e = rw e

pub entered_number : (n : ℕ) → is_nan n ≡ false → entered n ≡ n
unfolding entered
entered_number n e = rw e

pub entered-one : (n : ℕ) → OneNan (entered n)
entered-one n = on_both (is_nan n) (λ h. rw (entered-nan n h) (λ e. refl)) (λ h. rw (entered_number n h) (λ e. absurd (subst T (sym (sym h ∙ e)) tt)))

-- a number that is one already stays
pub one_enters : (n : ℕ) → OneNan n → entered n ≡ n
one_enters n o = on_both (is_nan n) (λ h. entered-nan n h ∙ sym (o h)) (entered_number n)

pub enters : (n : ℕ) → Enters n
enters n = record { nan = entered-nan n; number = entered_number n; one = entered-one n; stays = one_enters n }

-- ---- what is made

pub made_one : (x : Float) → T (fits binary32 x) → OneNan (bits x)
unfolding to_bits
made_one x h e = ap (to_bits binary32) (sym (of_bits-to_bits binary32 x h) ∙ nan_pattern (to_bits binary32 x) e)

pub add-one : (a b : ℕ) → OneNan (add a b)
unfolding add
add-one a b = made_one _ (add-fits binary32 (float a) (float b))

pub sub-one : (a b : ℕ) → OneNan (sub a b)
unfolding sub
sub-one a b = made_one _ (sub-fits binary32 (float a) (float b))

pub mul-one : (a b : ℕ) → OneNan (mul a b)
unfolding mul
mul-one a b = made_one _ (mul-fits binary32 (float a) (float b))

pub div-one : (a b : ℕ) → OneNan (div a b)
unfolding div
div-one a b = made_one _ (div-fits binary32 (float a) (float b))

pub rem-one : (a b : ℕ) → OneNan (rem a b)
unfolding rem
rem-one a b = made_one _ (rem-fits binary32 (float a) (float b) (of_bits-fits binary32 a))

pub made_whole-fits : (part : Bool → ℕ → ℕ → ℕ) (x : Float) → T (fits binary32 (made_whole part x))
made_whole-fits part nan = nan-fits binary32
made_whole-fits part (inf s) = inf-fits binary32 _
made_whole-fits part (fin s m e) = round-fits binary32 _ _ 1

pub floored-one : (n : ℕ) → OneNan (floored n)
unfolding floored floor
floored-one n = search (made_one, made_whole-fits)

pub ceiled-one : (n : ℕ) → OneNan (ceiled n)
unfolding ceiled ceil
ceiled-one n = search (made_one, made_whole-fits)

pub truncated-one : (n : ℕ) → OneNan (truncated n)
unfolding truncated trunc
truncated-one n = search (made_one, made_whole-fits)

pub absolute-one : (n : ℕ) → OneNan (absolute n)
unfolding absolute
absolute-one n = made_one _ (subst (λ (x : Float). T (fits binary32 x)) (sym (abs_is (float n))) (resigned-fits (λ b. false) (float n) (of_bits-fits binary32 n)))

-- ---- what is posted or picked

pub applied-one : (p : PostOp) (x : ℕ) → OneNan x → OneNan (applied p x)
unfolding applied
applied-one p x o = on_both (is_identity p) (λ h. rw h o) (λ h. rw h (made_one _ (add-fits binary32 _ p.offset)))

pub truthy-one : (p : PostOp) → OneNan (truthy_value p)
unfolding truthy_value
truthy-one p = made_one _ (add-fits binary32 p.scale p.offset)

pub falsy_one : (p : Post) → OneNan (falsy_value p)
falsy_one p = entered-one p.offset

pub selected-one : (p : Post) (b : Bool) → OneNan (selected p b)
unfolding selected
selected-one p true = truthy-one p.op
selected-one p false = falsy_one p

pub negated-one : (x : ℕ) (p : Post) → OneNan (negated x p)
unfolding negated
negated-one x p = on_both (is_identity p.op) (λ h. rw h (entered-one _)) (λ h. rw h (made_one _ (sub-fits binary32 p.op.offset _)))

pub guarded-one : (signed : Bool) (d n : ℕ) → guarded signed d ≡ Some n → OneNan n
unfolding guarded
guarded-one signed d n = on_both (lt (magnitude d) epsilon) (λ h. rw h (λ g. cc g)) (λ h. rw h (λ g. let e : entered (divisor signed d) ≡ n = cc g in subst OneNan e (entered-one (divisor signed d))))

pub mod_const-one : (a b : ℕ) (p : PostOp) → OneNan (mod_const a b p)
unfolding mod_const
mod_const-one a b p = made_one _ (add-fits binary32 _ p.offset)

pub mod-one : (a b : ℕ) (p : Post) → OneNan (mod_runtime a b p)
unfolding mod_runtime
mod-one a b p = on_both (eq b zero) (λ h. rw h (falsy_one p)) (λ h. rw h (mod_const-one a b p.op))

pub makes_one_nan : MakesOneNan
makes_one_nan = record {
  of_zero = zero_one;
  of_add = add-one;
  of_sub = sub-one;
  of_mul = mul-one;
  of_div = div-one;
  of_rem = rem-one;
  of_floor = floored-one;
  of_ceil = ceiled-one;
  of_trunc = truncated-one;
  of_abs = absolute-one;
  of_post = applied-one;
  of_true = truthy-one;
  of_false = falsy_one;
  of_test = selected-one;
  of_negate = negated-one;
  of_guard = guarded-one;
  of_mod_const = mod_const-one;
  of_mod = mod-one;
}
