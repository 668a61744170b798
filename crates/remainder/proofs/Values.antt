-- What `of_bits`, `rem` and `to_bits` of binary32 do, in units of the smallest value. Assumes nothing.
use mathlib.Core.Path.{◌≡◌, refl, sym, ap, ap₂, ◌∙◌, subst}
use mathlib.Core.Bool.{Bool, cond}
use Prim.Native.Nat.{ℕ, zero, suc, ◌+◌, ◌-◌, ◌*◌, ◌/◌, ◌%◌, ◌^◌, ◌≤◌, ◌<◌}
use native.Mathlib.Nat.{mul_comm, mul-pos, mul_right_comm, mul_assoc, mul-div_cancel, lt_of_lt_of_le, add_assoc}
use native.Mathlib.Omega.{arith}
use borrow.Author.Tests.{ne_eqb}
use lib.Dec.{leb}
use lib.Pow.{pow_pos, pow_mono, shl_lt}
use lib.Ieee.{Float, nan, inf, fin, Format, binary32, low, up, down, round, rem, odd, size, of_fields, of_bits, to_bits}
use lib.Ieee.Exact.{HasValue, odd_sign, round_exact}
use lib.Ieee.Fits.{down_pos}
use lib.Ieee.Positive.{first_pos}
use lib.Ieee.Scale.{round_same}
use Rattle.remainder.specs.Units.{infinity, significand, units, packed}
use Rattle.remainder.proofs.Modulo.{mod_scale}

-- n units, with a sign
abbrev pub Units : Float → Bool → ℕ → Type 0
Units x s n = HasValue x s n (2 ^ 149)

-- ---- the remainder of two finite values is that of their units
pub rem-units : (f : Format) (x y : Float) (s t : Bool) (X Y : ℕ) → HasValue x s X (2 ^ low f) → HasValue y t Y (2 ^ low f) → 0 < Y → rem f x y ≡ round f s (X % Y) (2 ^ low f)
unfolding rem
rem-units f nan y s t X Y p q h = absurd p
rem-units f (inf u) y s t X Y p q h = absurd p
rem-units f (fin u m e) nan s t X Y p q h = absurd q
rem-units f (fin u m e) (inf v) s t X Y p q h = absurd q
rem-units f (fin u m e) (fin v n d) s t X Y p q h =
    let L = 2 ^ low f in
    let C = down e * down d in
    let A = m * up e * down d in
    let B = n * up d * down e in
    let C-pos : 0 < C = mul-pos (down_pos e) (down_pos d) in
    let L-pos : 0 < L = pow_pos (low f) in
    let eA : A * L ≡ X * C = mul_right_comm (m * up e) (down d) L ∙ ap (λ (z : ℕ). z * down d) p.1 ∙ mul_assoc X (down e) (down d) in
    let eB : B * L ≡ Y * C =
    mul_right_comm (n * up d) (down e) L ∙ ap (λ (z : ℕ). z * down e) q.1 ∙ mul_assoc Y (down d) (down e) ∙ ap (λ (z : ℕ). Y * z) (mul_comm (down d) (down e)) in
    let B-pos : 0 < B = first_pos B L (subst (λ (z : ℕ). 0 < z) (sym eB) (mul-pos h C-pos)) in
    let n_pos : 0 < n = first_pos n (up d) (first_pos (n * up d) (down e) B-pos) in
    ap (λ (b : Bool). cond b nan (round f u (A % B) C)) (ne_eqb n 0 (λ z. omega arith))
    ∙ ap (λ (b : Bool). round f b (A % B) C) p.0
    ∙ round_same f s (A % B) C (X % Y) L C-pos L-pos (sym (mod_scale A B-pos L-pos) ∙ ap₂ (λ (a b : ℕ). a % b) eA eB ∙ mod_scale X h C-pos)

-- ---- a value of 24 digits is kept as it is
pub round-units : (s : Bool) (q j : ℕ) → q < 2 ^ 24 → j ≤ 253 → Units (round binary32 s (q * 2 ^ j) (2 ^ 149)) s (q * 2 ^ j)
round-units s q j h l = round_exact binary32 s (q * 2 ^ j) (2 ^ 149) q j (pow_pos 149) h (lt_of_lt_of_le (shl_lt 24 j h) (pow_mono (fit j l))) refl
  where
    fit : (j : ℕ) → j ≤ 253 → 24 + j ≤ 277
    fit j l = omega arith

-- ---- the pattern of a value
pub bits-units : (x : Float) (s : Bool) (n : ℕ) → Units x s n → to_bits binary32 x ≡ cond s (2 ^ 31) 0 + packed n
unfolding to_bits packed
bits-units nan s n p = absurd p
bits-units (inf t) s n p = absurd p
bits-units (fin t m e) s n p =
    let at : ℕ → ℕ = λ x. cond t (2 ^ 31) 0 + (size x - 24) * 2 ^ 23 + x / 2 ^ (size x - 24) in
    ap at (ap (λ (x : ℕ). x / down e) p.1 ∙ mul-div_cancel n (down_pos e))
    ∙ add_assoc (cond t (2 ^ 31) 0) ((size n - 24) * 2 ^ 23) (n / 2 ^ (size n - 24))
    ∙ ap (λ (b : Bool). cond b (2 ^ 31) 0 + ((size n - 24) * 2 ^ 23 + n / 2 ^ (size n - 24))) p.0

-- ---- the value of a pattern
fields_units : (s : Bool) (x t q : ℕ) → x < 255 → (x ≡ 0 → q ≡ t) → (0 < x → q ≡ 2 ^ 23 + t) → Units (of_fields binary32 s x t) s (q * 2 ^ (x - 1))
unfolding of_fields
fields_units s zero t q h a b = subst (λ (n : ℕ). Units (odd 24 s t 0 149) s (n * 1)) (sym (a refl)) (odd_sign 24 s t 0 149)
fields_units s (suc x) t q h a b =
    let no : suc x ≡ 255 → ⊥ = λ e. omega arith in
    let k : suc x - 1 ≡ x = omega arith in
    let n : q ≡ 2 ^ 23 + t = b (omega arith) in
    rw (ne_eqb (suc x) 255 no, k, n) (odd_sign 24 s (2 ^ 23 + t) x 149)

pub value_units : (n : ℕ) → n % 2 ^ 31 < infinity → Units (of_bits binary32 n) (leb (2 ^ 31) n) (units (n % 2 ^ 31))
unfolding of_bits units
value_units n h =
    let x = n % 2 ^ 31 in
    fields_units (leb (2 ^ 31) n) (x / 2 ^ 23) (n % 2 ^ 23) (significand x) (omega arith) (λ e. omega arith) (λ l. omega arith)
