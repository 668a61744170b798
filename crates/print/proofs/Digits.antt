-- Laws of numbers as texts. Assumes nothing.
use Prim.Native.Nat.{ℕ, zero, suc, ◌/◌, ◌%◌, ◌^◌, ◌≤◌, ◌<◌}
use native.Mathlib.Omega.{arith}
use mathlib.Core.Path.{◌≡◌, refl, ◌∙◌}
use mathlib.Core.List.{[], ◌∷◌, ◌++◌}
use lib.ListN.{length}
use borrow.Author.Tests.{lt-ltb, le-ltb}
use Rattle.std.specs.Fmt.{decimal as std·decimal}
use Rattle.std.proofs.lemmas.Fmt.{AppendsLastDigit, decimal_from_appends, length-decimal-le, length-decimal-le_succ, decimal_nonempty}
use Rattle.print.specs.Texts.{decimal, decimal_by, digit, hex_digit}

-- more fuel says no more
fuelled : (f g n : ℕ) → n ≤ f → n ≤ g → decimal_by f n ≡ decimal_by g n
unfolding decimal_by
fuelled zero zero n h k = refl
fuelled zero (suc g) n h k =
    let b : n < 10 = omega arith in
    let e : n % 10 ≡ n = omega arith in
    rw (lt-ltb n 10 b, e)
fuelled (suc f) zero n h k =
    let b : n < 10 = omega arith in
    let e : n % 10 ≡ n = omega arith in
    rw (lt-ltb n 10 b, e)
fuelled (suc f) (suc g) n h k = rw (fuelled f g (n / 10) (omega arith) (omega arith))

appends : AppendsLastDigit decimal_by
unfolding decimal_by
appends = record {
  one = λ k n h. rw (lt-ltb n 10 h);
  more = λ k n h. rw (le-ltb n 10 h);
}

fuelled_more : (n : ℕ) → decimal n ≡ decimal_by (suc n) n
unfolding decimal
fuelled_more n = fuelled n (suc n) n (omega arith) (omega arith)

pub decimal_less : (n : ℕ) → n < 10 → decimal n ≡ digit n ∷ []
decimal_less n h = fuelled_more n ∙ appends.one n n h

pub decimal_more : (n : ℕ) → 10 ≤ n → decimal n ≡ decimal (n / 10) ++ (digit (n % 10) ∷ [])
unfolding decimal
decimal_more n h = fuelled_more n ∙ appends.more n n h ∙ rw (fuelled n (n / 10) (n / 10) (omega arith) (omega arith))

pub digit_is : (d : ℕ) → d < 10 → hex_digit d ≡ digit d
unfolding hex_digit
digit_is d h = rw (lt-ltb d 10 h)

pub ruleset numerals = (decimal_less, decimal_more, digit_is)

-- it is what std prints
as_std : (n : ℕ) → n < 2 ^ 64 → decimal n ≡ std·decimal n
as_std n h = fuelled_more n ∙ decimal_from_appends decimal_by appends (suc n) n h (omega (arith, length-decimal-le_succ n h))

-- 64 bits have twenty digits at most
pub few_digits : (n : ℕ) → n < 2 ^ 64 → length (decimal n) ≤ 20
few_digits n h = rw (as_std n h) (length-decimal-le 20 n (omega arith) (omega arith) h)

pub some_digits : (n : ℕ) → n < 2 ^ 64 → 0 < length (decimal n)
some_digits n h = rw (as_std n h) (decimal_nonempty n h)
