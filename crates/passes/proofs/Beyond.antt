-- Past 16,777,216 a whole count no longer counts down by 1.0 exactly, and from 16,777,220 on it never ends. Assumes nothing.
use Prim.Native.Nat.{ℕ, ◌+◌, ◌-◌, ◌*◌, ◌<◌, ◌≤◌}
use native.Mathlib.Omega.{arith}
use mathlib.Core.Path.{◌≡◌, refl, sym, ◌∙◌, ap}
use mathlib.Core.Bool.{true, false}
use lib.Dec.{T}
use borrow.Author.Tests.{le-ltb}
use lib.Ieee.{Float, nan, inf, fin, binary32, up, down, round, of_bits, to_bits}
use lib.Ieee.{add as ieeeAdd, sub as ieeeSub, neg as ieeeNeg, le as ieeeLe}
use lib.Ieee.Fits.{down_pos, sub-fits}
use lib.Ieee.Bits.{is_true, of_bits-fits, of_bits-to_bits}
use lib.Ieee.Exact.{HasValue}
use lib.Ieee.Order.{round_mono}
use lib.Ieee.Positive.{above, above_of_le, le→cross}
use Rattle.numeric.specs.Numbers.{float, sub, le, one, zero}
use Rattle.passes.specs.Whole.{whole, IsWhole, most, next, stuck, endless, Lasting, IsStuck, IsEndless, IsNan}
use Rattle.passes.proofs.Whole.{as_value, value_bits, above_left}

-- ---- the range is not one wider

-- 16,777,217 is no float
pub no_float : (n : ℕ) → IsWhole (float n) (most + 1) → ⊥
unfolding whole to_bits of_bits
no_float n w = omega (arith, (rw same at v).1)
  where
    v : HasValue (float n) false (most + 1) 1
    v = as_value (float n) (most + 1) w

    same : float n ≡ float (whole (most + 1))
    same = sym (of_bits-to_bits binary32 (float n) (of_bits-fits binary32 n)) ∙ ap float (value_bits (float n) (most + 1) v)

pub not_beyond : sub (whole (most + 1)) one ≡ whole most → ⊥
unfolding whole to_bits of_bits sub ieeeSub
not_beyond h = omega (arith, h)

-- the three counts that follow are floats
pub values-beyond : IsWhole (float (whole next)) next × IsWhole (float (whole endless)) endless × IsWhole (float (whole stuck)) stuck
unfolding whole to_bits of_bits
values-beyond = (refl, refl, refl)

-- 16,777,218 falls by two
pub next-less_one : sub (whole next) one ≡ whole most
unfolding whole to_bits of_bits sub ieeeSub
next-less_one = refl

pub next-left : le (whole next) zero ≡ false
unfolding whole to_bits of_bits le ieeeLe
next-left = refl

-- ---- counts that do not fall

pub stuck-less_one : sub (whole stuck) one ≡ whole stuck
unfolding whole to_bits of_bits sub ieeeSub
stuck-less_one = refl

stuck-left : le (whole stuck) zero ≡ false
unfolding whole to_bits of_bits le ieeeLe
stuck-left = refl

pub stuck_lasts : Lasting IsStuck
stuck_lasts = record { left = λ v e. rw e stuck-left; again = λ v e. rw e stuck-less_one }

pub endless-less_one : sub (whole endless) one ≡ whole endless
unfolding whole to_bits of_bits sub ieeeSub
endless-less_one = refl

-- ---- no count from 16,777,220 on ends

abbrev first : Float
first = float (whole endless)

-- it is what 16,777,219 rounds to
tie : first ≡ round binary32 false 16_777_219 1
unfolding whole to_bits of_bits round
tie = refl

-- less 1 it is 16,777,219 at least, which rounds to 16,777,220 at least
falls_no_lower : (x : Float) → T (above x) → T (ieeeLe first x) → T (ieeeLe first (ieeeSub binary32 x (float one)))
unfolding whole to_bits of_bits ieeeLe ieeeSub ieeeAdd ieeeNeg
falls_no_lower nan a h = elim a [ ]
falls_no_lower (inf true) a h = elim a [ ]
falls_no_lower (fin true m e) a h = elim a [ ]
falls_no_lower (inf false) a h = tt
falls_no_lower (fin false m e) a h =
    let k : endless * down e ≤ m * up e = omega (arith, le→cross first (fin false m e) tt a h) in
    let z : 0 < down e = down_pos e in
    rw (le-ltb (m * up e * 1) (1 * down e) (omega arith), tie)
    (round_mono binary32 16_777_219 1 (m * up e * 1 - 1 * down e) (down e * 1) (omega arith) (omega arith) (omega arith))

-- such a count is above 0, and may be an infinity
is_above : (n : ℕ) → le (whole endless) n ≡ true → T (above (float n))
unfolding whole to_bits of_bits le
is_above n h = above_of_le first (float n) tt (rw h tt)

-- a pass takes nothing below it
endless_no_lower : (n : ℕ) → IsEndless n → IsEndless (sub n one)
unfolding sub le
endless_no_lower n h = rw (of_bits-to_bits binary32 (ieeeSub binary32 (float n) (float one)) (sub-fits binary32 (float n) (float one)))
    (is_true _ (falls_no_lower (float n) (is_above n h) (rw h tt)))

-- and there is always a pass left
endless-left : (n : ℕ) → IsEndless n → le n zero ≡ false
unfolding le of_bits
endless-left n h = above_left (float n) (is_above n h)

pub endless_lasts : Lasting IsEndless
endless_lasts = record { left = endless-left; again = endless_no_lower }

-- ---- nor does a NaN

nan_left : (n : ℕ) → IsNan n → le n zero ≡ false
unfolding le ieeeLe
nan_left n e = rw e

nan-less_one : (n : ℕ) → IsNan n → IsNan (sub n one)
unfolding sub ieeeSub ieeeAdd to_bits of_bits
nan-less_one n e = rw e

pub nan_lasts : Lasting IsNan
nan_lasts = record { left = nan_left; again = nan-less_one }
