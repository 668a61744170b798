-- One NaN, 7FC00000: of what enters the machine, and of what its arithmetic makes. Definitions only.
use Rattle.std.specs.Prelude.{ℕ, ◌≡◌, Bool, true, false, Some}
use Rattle.numeric.specs.Numbers.{zero, is_nan, one_nan, OneNan, entered, add, sub, mul, div, rem}
use Rattle.numeric.specs.Arithmetic.{applied, truthy_value, falsy_value, selected, negated, guarded, mod_const, mod_runtime}
use Rattle.numeric.specs.Whole.{floored, ceiled, truncated, absolute}
use Rattle.numeric.specs.declared.post_op.PostOp.{PostOp}
use Rattle.numeric.specs.declared.post_op.Post.{Post}

-- a number that enters
pub record Enters (n : ℕ) : Type 0 where
  -- a NaN as that one, and any other number as it is
  pub nan : is_nan n ≡ true → entered n ≡ one_nan
  pub number : is_nan n ≡ false → entered n ≡ n
  -- so it is no other NaN, and what is none stays as it is
  pub one : OneNan (entered n)
  pub stays : OneNan n → entered n ≡ n

-- no result is another NaN, whatever the operands are, and +0.0 is none; a posted one is none where what is posted is none
pub record MakesOneNan : Type 0 where
  pub of_zero : OneNan zero
  pub of_add : (a b : ℕ) → OneNan (add a b)
  pub of_sub : (a b : ℕ) → OneNan (sub a b)
  pub of_mul : (a b : ℕ) → OneNan (mul a b)
  pub of_div : (a b : ℕ) → OneNan (div a b)
  pub of_rem : (a b : ℕ) → OneNan (rem a b)
  pub of_floor : (n : ℕ) → OneNan (floored n)
  pub of_ceil : (n : ℕ) → OneNan (ceiled n)
  pub of_trunc : (n : ℕ) → OneNan (truncated n)
  pub of_abs : (n : ℕ) → OneNan (absolute n)
  pub of_post : (p : PostOp) (x : ℕ) → OneNan x → OneNan (applied p x)
  pub of_true : (p : PostOp) → OneNan (truthy_value p)
  pub of_false : (p : Post) → OneNan (falsy_value p)
  pub of_test : (p : Post) (b : Bool) → OneNan (selected p b)
  pub of_negate : (x : ℕ) (p : Post) → OneNan (negated x p)
  pub of_guard : (signed : Bool) (d n : ℕ) → guarded signed d ≡ Some n → OneNan n
  pub of_mod_const : (a b : ℕ) (p : PostOp) → OneNan (mod_const a b p)
  pub of_mod : (a b : ℕ) (p : Post) → OneNan (mod_runtime a b p)
