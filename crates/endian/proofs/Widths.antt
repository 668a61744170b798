-- Numbers in bytes, of every width. Assumes nothing.
use Prim.Native.Nat.{ℕ, zero, suc, ◌+◌, ◌*◌, ◌^◌}
use native.Mathlib.Omega.{arith}
use native.Mathlib.Nat.{mul_assoc, mul_comm, pow-suc, one-mul, zero-add, suc-add}
use mathlib.Core.Path.{◌≡◌, ◌∙◌, ap}
use mathlib.Core.List.{List}
use Rattle.std.specs.Int.{sum_through}
use Rattle.endian.specs.Endian.{byte_at, number_at}

-- a number of w + b bytes is one of w bytes and, above it, one of b
pub joined : (w b : ℕ) (s : List ℕ) (i : ℕ) → number_at w s i + 256 ^ w * number_at b s (i + w) ≡ number_at (w + b) s i
unfolding number_at
joined zero b s i =
    let e : i + zero ≡ i = omega arith in
    rw (e, zero-add b) (omega (arith, one-mul (number_at b s i)))
joined (suc w) b s i =
    let n = number_at b s (i + 1 + w) in
    let e : i + suc w ≡ i + 1 + w = omega arith in
    let q : 256 ^ suc w * n ≡ 256 * (256 ^ w * n) = rw (pow-suc 256 w) (ap (λ (x : ℕ). x * n) (mul_comm (256 ^ w) 256) ∙ mul_assoc 256 (256 ^ w) n) in
    let h = joined w b s (i + 1) in
    rw (suc-add w b, e) (omega arith)

-- what byte k of a number is worth that begins there
abbrev pub worth_at : List ℕ → ℕ → ℕ → ℕ
worth_at s i zero = byte_at s i
worth_at s i (suc k) = byte_at s (i + suc k) * 256 ^ suc k

-- the worths of w + 1 bytes make the number of w + 1 bytes
pub summed : (w : ℕ) (s : List ℕ) (i : ℕ) → sum_through (worth_at s i) w ≡ number_at (suc w) s i
unfolding number_at
summed zero s i = omega arith
summed (suc w) s i =
    let b = byte_at s (i + suc w) in
    let last : b ≡ number_at 1 s (i + suc w) = omega arith in
    let above : b * 256 ^ suc w ≡ 256 ^ suc w * number_at 1 s (i + suc w) = mul_comm b (256 ^ suc w) ∙ ap (λ (x : ℕ). 256 ^ suc w * x) last in
    let both = ap (λ (x : ℕ). x + b * 256 ^ suc w) (summed w s i) ∙ ap (λ (x : ℕ). number_at (suc w) s i + x) above ∙ joined (suc w) 1 s i in
    let e : suc w + 1 ≡ suc (suc w) = omega arith in
    both ∙ ap (λ (n : ℕ). number_at n s i) e
