-- A float that is read of a cell, written as a pattern again, is the number that enters by the cell's bits. Assumes nothing.
use Prim.Native.Nat.{ℕ, ◌^◌, ◌<◌}
use native.Mathlib.Omega.{arith}
use mathlib.Core.Path.{◌≡◌, refl, sym, ◌∙◌, ap, subst}
use mathlib.Core.Bool.{Bool, true, false, not, cond}
use lib.Dec.{T, eqb}
use lib.Ieee.{Float, binary32}
use lib.Ieee.Bits.{nan_bits_is, to_bits-of_bits}
use Rattle.numeric.specs.Numbers.{float, bits, is_nan, entered}
use Rattle.numeric.proofs.Nans.{written_nan}
use Rattle.numeric.proofs.OneNan.{on_both, entered-nan, entered_number}
use Rattle.eval.specs.Machine.{low, cell_of}
use Rattle.eval.specs.declared.slot.Cell.{Cell}
use Rattle.eval.specs.declared.slot.Cell.TheVariants.{Missing, Float as FloatCell, Hash, Other}

-- a pattern that is read and written
written_again : (n : ℕ) → n < 2 ^ 32 → bits (float n) ≡ entered n
written_again n b =
    on_both (is_nan n)
    (λ h. written_nan (float n) (sym (nan_bits_is binary32 n) ∙ h) ∙ sym (entered-nan n h))
    (λ h. to_bits-of_bits binary32 n b (subst (λ (k : Bool). T (not k)) (sym (sym (nan_bits_is binary32 n) ∙ h)) tt) ∙ sym (entered_number n h))

-- the float in a cell, or another where the cell is none
abbrev payload : Float → Cell → Float
payload x Missing = x
payload x (FloatCell y) = y
payload x (Hash h) = x
payload x Other = x

by_kind : (a b c : Bool) (x : Float) (h : ℕ) → payload x (cond a Missing (cond b (FloatCell x) (cond c (Hash h) Other))) ≡ x
by_kind true b c x h = refl
by_kind false true c x h = refl
by_kind false false true x h = refl
by_kind false false false x h = refl

pub float_enters : (kind value : ℕ) {x : Float} → cell_of kind value ≡ FloatCell x → bits x ≡ entered (low value)
unfolding cell_of
float_enters kind value e =
    ap bits (sym (ap (payload (float (low value))) e) ∙ by_kind (eqb kind 0) (eqb kind 1) (eqb kind 2) (float (low value)) value)
    ∙ written_again (low value) (omega arith)
