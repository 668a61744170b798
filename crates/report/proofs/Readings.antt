-- Laws of the words that arguments are. Assumes nothing.
use Prim.Native.Nat.{ℕ, ◌+◌, ◌*◌, ◌^◌, ◌≤◌, ◌<◌}
use native.Mathlib.Omega.{arith}
use mathlib.Core.Path.{◌≡◌, refl}
use mathlib.Core.Bool.{true, cond, ◌&&◌}
use mathlib.Core.List.{List, [], ◌∷◌}
use lib.Dec.{ltb}
use lib.ListN.{length, drop, get_or, drop_of_length-le}
use Rattle.std.proofs.Math.Nat.{le-mul_of_pos_right}
use Rattle.std.proofs.Math.Bool.{and-false}
use Rattle.std.proofs.lemmas.List.{drop_more}
use Rattle.std.proofs.lemmas.Int.Digits.{digits_value-lt}
use borrow.Author.Tests.{lt-ltb, le-ltb}
use Rattle.std.specs.Char.{digit_value}
use Rattle.std.specs.Prelude.{Option, Some, None}
use Rattle.std.specs.Str.Parse.{AllDigits, digits_value_after}
use Rattle.report.specs.Words.{all_digits, number_read}

-- what is read where digits follow the number n
unfoldable pub read_on : ℕ → ℕ → List ℕ → Option ℕ
read_on base n s = let v = digits_value_after base n s in cond (all_digits base s && ltb v (2 ^ 64)) (Some v) None

pub read_first : (base : ℕ) (s : List ℕ) → number_read base s ≡ read_on base 0 s
unfolding number_read read_on
read_first base s = refl

pub read_more : (base n : ℕ) (s : List ℕ) (i : ℕ) → i < length s → digit_value (get_or s i 0) < base
    → read_on base n (drop i s) ≡ read_on base (n * base + digit_value (get_or s i 0)) (drop (i + 1) s)
unfolding read_on
read_more base n s i h d = rw (drop_more s i 0 h, lt-ltb (digit_value (get_or s i 0)) base d)

pub read_none : (base n : ℕ) (s : List ℕ) (i : ℕ) → i < length s → base ≤ digit_value (get_or s i 0) → read_on base n (drop i s) ≡ None
unfolding read_on
read_none base n s i h d = rw (drop_more s i 0 h, le-ltb (digit_value (get_or s i 0)) base d)

grows : (base n : ℕ) (s : List ℕ) → 0 < base → n ≤ digits_value_after base n s
grows base n [] h = omega arith
grows base n (c ∷ s) h = omega (arith, grows base (n * base + digit_value c) s h, le-mul_of_pos_right n h)

pub read_large : (base n : ℕ) (s : List ℕ) → 0 < base → 2 ^ 64 ≤ n → read_on base n s ≡ None
unfolding read_on
read_large base n s h l =
    let g : 2 ^ 64 ≤ digits_value_after base n s = omega (arith, grows base n s h) in
    rw (le-ltb (digits_value_after base n s) (2 ^ 64) g, and-false (all_digits base s))

pub read_end : (base n : ℕ) (s : List ℕ) (i : ℕ) → length s ≤ i → n < 2 ^ 64 → read_on base n (drop i s) ≡ Some n
unfolding read_on
read_end base n s i h l = rw (drop_of_length-le s h, lt-ltb n (2 ^ 64) l)

pub ruleset reading = (read_first, read_more, read_none, read_large, read_end)

-- ---- eight digits

all_are : (base : ℕ) (s : List ℕ) → all_digits base s ≡ true → AllDigits base s
all_are base [] h = tt
all_are base (c ∷ s) h = grind (arith, all_are base s)

pub bits_small : (s : List ℕ) (n : ℕ) → number_read 16 s ≡ Some n → length s ≡ 8 → n < 2 ^ 32
unfolding number_read
bits_small s n e h =
    grind (arith, all_are 16 s, digits_value-lt 16 s)
