-- A test that passes and fails, and one of two. Assumes nothing.
use mathlib.Core.Path.{◌≡◌, refl, sym, ◌∙◌, subst}
use mathlib.Core.Bool.{Bool, true, false, ◌||◌}
use lib.Dec.{T}

pub neither : {P : Type 0} {b : Bool} → b ≡ true → b ≡ false → P
neither p q = absurd (subst T (sym p ∙ q) tt)

pub or_left : (a b : Bool) → (a || b) ≡ true → b ≡ false → a ≡ true
or_left true b e f = refl
or_left false b e f = neither e f
