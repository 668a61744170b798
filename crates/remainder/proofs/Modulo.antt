-- Remainders of products, on natural numbers. Assumes nothing.
use mathlib.Core.Path.{◌≡◌, sym, ap, ◌∙◌}
use Prim.Native.Nat.{ℕ, ◌+◌, ◌-◌, ◌*◌, ◌/◌, ◌%◌, ◌^◌, ◌≤◌, ◌<◌}
use native.Mathlib.Nat.{add-zero, add-mul, lt_trans, mod-lt, add-sub_of_le, mul_assoc, mul_right_comm, mul-div_cancel, mul-mod_left, mul-add-mod_self_right, div-add-mod'}
use native.Mathlib.Omega.{arith}
use lib.Arith.{mod-mul}
use lib.Pow.{pow-add, shl_exact}

-- a factor may be reduced first
pub mod_times : (a k n : ℕ) → a % n * k % n ≡ a * k % n
mod_times a k n =
    sym (mul-add-mod_self_right (a / n * k) n (a % n * k))
    ∙ ap (λ (x : ℕ). (x + a % n * k) % n) (mul_right_comm (a / n) k n)
    ∙ ap (λ (x : ℕ). x % n) (sym (add-mul (a / n * n) (a % n) k))
    ∙ ap (λ (x : ℕ). x * k % n) (div-add-mod' a n)

-- a common factor goes through
pub mod_scale : (a : ℕ) {b c : ℕ} → 0 < b → 0 < c → a * c % (b * c) ≡ a % b * c
mod_scale a {b} {c} B C =
    mod-mul (a * c) B C
    ∙ ap (λ (x : ℕ). x % b * c + a * c % c) (mul-div_cancel a C)
    ∙ ap (λ (x : ℕ). a % b * c + x) (mul-mod_left a c)
    ∙ add-zero (a % b * c)

-- a shift in two steps
pub shift_parts : (r : ℕ) {k s : ℕ} → k ≤ s → r * 2 ^ k * 2 ^ (s - k) ≡ r * 2 ^ s
shift_parts r {k} {s} h = mul_assoc r (2 ^ k) (2 ^ (s - k)) ∙ ap (λ (x : ℕ). r * x) (sym (pow-add 2 k (s - k)) ∙ ap (λ (x : ℕ). 2 ^ x) (add-sub_of_le h))

-- what a turn of the loop keeps: k of the s digits are shifted in, and the number is reduced
pub turn : (r n : ℕ) {k s : ℕ} → k ≤ s → r * 2 ^ k % n * 2 ^ (s - k) % n ≡ r * 2 ^ s % n
turn r n {k} {s} h = mod_times (r * 2 ^ k) (2 ^ (s - k)) n ∙ ap (λ (x : ℕ). x % n) (shift_parts r h)

-- a shift by 40 digits at most loses nothing of 24 at 64 bits
pub shift_whole : (r : ℕ) {k : ℕ} → r < 2 ^ 24 → k ≤ 40 → r * 2 ^ k % 2 ^ 64 ≡ r * 2 ^ k
shift_whole r {k} h l = shl_exact 24 k 64 h (omega arith)

pub mod_below : (a : ℕ) {n b : ℕ} → 0 < n → n < b → a % n < b
mod_below a p h = lt_trans (mod-lt a p) h
