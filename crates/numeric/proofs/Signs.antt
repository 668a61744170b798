-- The sign turned over on the pattern is the value's negation, and the sign cleared its magnitude. Assumes nothing.
use Prim.Native.Nat.{ℕ, zero, suc, ◌+◌, ◌-◌, ◌/◌, ◌%◌, ◌^◌, ◌<◌}
use native.Mathlib.Omega.{arith}
use mathlib.Core.Path.{◌≡◌, refl, sym, ◌∙◌, ap}
use mathlib.Core.Bool.{Bool, true, false, not, cond}
use lib.Dec.{T, leb, ltb, eqb}
use lib.Ieee.{Float, nan, inf, fin, Format, binary32, prec, low, hid, ones, neg, odd, fits, of_fields, of_bits}
use Rattle.std.specs.Int.Bits.{bit_xor, xor_zero_r}
use Rattle.std.proofs.lemmas.Nat.{xor_shr, xor_mod}
use borrow.Author.Tests.{le-leb, lt-leb, ltb-true, ltb-false}
use Rattle.numeric.specs.Numbers.{float, negative, magnitude}
use Rattle.numeric.specs.Whole.{abs}

-- a value with another sign, a function of the old one
unfoldable pub resigned : (Bool → Bool) → Float → Float
resigned g nan = nan
resigned g (inf s) = inf (g s)
resigned g (fin s m e) = fin (g s) m e

-- it fits the format as before
pub resigned-fits : (g : Bool → Bool) (x : Float) → T (fits binary32 x) → T (fits binary32 (resigned g x))
unfolding resigned fits
resigned-fits g nan h = h
resigned-fits g (inf s) h = h
resigned-fits g (fin s zero e) h = h
resigned-fits g (fin s (suc m) e) h = h

-- "Abs clears the sign"
pub abs_is : (x : Float) → abs x ≡ resigned (λ s. false) x
unfolding abs resigned
abs_is nan = refl
abs_is (inf s) = refl
abs_is (fin s m e) = refl

resigned_odd : (g : Bool → Bool) (d : ℕ) (s : Bool) (q k l : ℕ) → resigned g (odd d s q k l) ≡ odd d (g s) q k l
unfolding resigned odd
resigned_odd g d s zero k l = refl
resigned_odd g d s (suc q) k l = refl

resigned_cond : (g : Bool → Bool) (a b s : Bool) (x y : Float) → resigned g x ≡ y
    → resigned g (cond a (cond b (inf s) nan) x) ≡ cond a (cond b (inf (g s)) nan) y
unfolding resigned
resigned_cond g true true s x y e = refl
resigned_cond g true false s x y e = refl
resigned_cond g false b s x y e = e

resigned_fields : (g : Bool → Bool) (f : Format) (s : Bool) (x t : ℕ) → resigned g (of_fields f s x t) ≡ of_fields f (g s) x t
unfolding of_fields
resigned_fields g f s zero t = resigned_odd g (prec f) s t 0 (low f)
resigned_fields g f s (suc x) t =
    resigned_cond g (eqb (suc x) (ones f)) (eqb t 0) s _ _ (resigned_odd g (prec f) s (hid f + t) x (low f))

-- a pattern with the same fields below its sign
resigned_bits : (g : Bool → Bool) (n k : ℕ) → leb 2147483648 k ≡ g (leb 2147483648 n) → k % 2147483648 ≡ n % 2147483648
    → float k ≡ resigned g (float n)
unfolding of_bits
resigned_bits g n k s e =
    let t : k % 8388608 ≡ n % 8388608 = omega arith in
    rw (s, e, t) (sym (resigned_fields g binary32 (leb 2147483648 n) (n % 2147483648 / 8388608) (n % 8388608)))

resigned_not : (x : Float) → resigned not x ≡ neg x
unfolding resigned neg
resigned_not nan = refl
resigned_not (inf s) = refl
resigned_not (fin s m e) = refl

-- the sign turned over
pub negative_is_neg : (n : ℕ) → n < 4294967296 → float (negative n) ≡ neg (float n)
unfolding negative
negative_is_neg n h = cases (ltb n 2147483648) refl
  where
    cases : (b : Bool) → ltb n 2147483648 ≡ b → float (negative n) ≡ neg (float n)
    cases true p =
        let l = ltb-true n 2147483648 p in
        rw p (resigned_bits not n (n + 2147483648) (le-leb 2147483648 (n + 2147483648) (omega arith) ∙ sym (ap not (lt-leb 2147483648 n l))) (omega arith) ∙ resigned_not (float n))
    cases false p =
        let l = ltb-false n 2147483648 p in
        rw p (resigned_bits not n (n - 2147483648) (lt-leb 2147483648 (n - 2147483648) (omega arith) ∙ sym (ap not (le-leb 2147483648 n l))) (omega arith) ∙ resigned_not (float n))

-- a magnitude has no sign, and is otherwise the same value
pub magnitude_is_positive : (n : ℕ) → float (magnitude n) ≡ resigned (λ s. false) (float n)
magnitude_is_positive n = resigned_bits (λ s. false) n (n % 2147483648) (lt-leb 2147483648 (n % 2147483648) (omega arith)) (omega arith)

pub magnitude_is_abs : (n : ℕ) → float (magnitude n) ≡ abs (float n)
magnitude_is_abs n = magnitude_is_positive n ∙ sym (abs_is (float n))

-- the sign's bit turned over in a pattern
pub turned_over : (n : ℕ) → n < 2 ^ 32 → bit_xor n (2 ^ 31) ≡ negative n
unfolding negative
turned_over n h = cases (ltb n (2 ^ 31)) refl
  where
    x : ℕ
    x = bit_xor n (2 ^ 31)

    top : x / 2 ^ 31 ≡ bit_xor (n / 2 ^ 31) 1
    top = xor_shr n (2 ^ 31) 31

    rest : x % 2 ^ 31 ≡ n % 2 ^ 31
    rest = xor_mod n (2 ^ 31) 31 ∙ xor_zero_r (n % 2 ^ 31)

    cases : (b : Bool) → ltb n (2 ^ 31) ≡ b → bit_xor n (2 ^ 31) ≡ negative n
    cases true p =
        let l = ltb-true n (2 ^ 31) p in
        let q : n / 2 ^ 31 ≡ 0 = omega arith in
        let t : x / 2 ^ 31 ≡ 1 = rw q at top in
        rw p (omega (arith, rest))
    cases false p =
        let l = ltb-false n (2 ^ 31) p in
        let q : n / 2 ^ 31 ≡ 1 = omega arith in
        let t : x / 2 ^ 31 ≡ 0 = rw q at top in
        rw p (omega (arith, rest))
