-- Laws of the form of a decimal. Assumes nothing.
use Prim.Native.Nat.{ℕ, suc, ◌+◌, ◌-◌, ◌≤◌, ◌<◌}
use native.Mathlib.Omega.{arith}
use mathlib.Core.Path.{◌≡◌, refl, sym, ◌∙◌, ap}
use mathlib.Core.List.{List, [], ◌∷◌, ◌++◌}
use Rattle.std.proofs.Common.{inl, inr, ◌⊎◌}
use lib.ListN.{length, take, drop, get_or, length-drop}
use lib.Seq.{take-suc, take_all}
use borrow.Author.Tests.{ne_eqb}
use Rattle.print.specs.declared.decimal.First.{First}
use Rattle.print.specs.Texts.{decimal}
use Rattle.print.specs.Decimal.{rounded, before, trimmed, laid, finite}

trim_zero : (xs : List ℕ) → trimmed (xs ++ (48 ∷ [])) ≡ trimmed xs
unfolding trimmed before
trim_zero [] = refl
trim_zero (x ∷ xs) = ap (before x) (trim_zero xs)

before_more : (x d : ℕ) (xs : List ℕ) → before x (xs ++ (d ∷ [])) ≡ x ∷ (xs ++ (d ∷ []))
unfolding before
before_more x d [] = refl
before_more x d (y ∷ xs) = refl

trim_kept : (xs : List ℕ) (d : ℕ) → (d ≡ 48 → ⊥) → trimmed (xs ++ (d ∷ [])) ≡ xs ++ (d ∷ [])
unfolding trimmed before
trim_kept [] d h = rw (ne_eqb d 48 h)
trim_kept (x ∷ xs) d h = ap (before x) (trim_kept xs d h) ∙ before_more x d xs

-- a last digit
module _ (ds : List ℕ) (h : 0 < length ds) where
  last : take (length ds - 1) ds ++ (get_or ds (length ds - 1) 0 ∷ []) ≡ ds
  last =
      let j = length ds - 1 in
      let m : suc j ≡ length ds = omega arith in
      sym (take-suc ds j 0 (omega arith)) ∙ take_all (suc j) ds (omega arith)

  pub trim_less : get_or ds (length ds - 1) 0 ≡ 48 → trimmed (take (length ds - 1) ds) ≡ trimmed ds
  trim_less e = sym (trim_zero (take (length ds - 1) ds)) ∙ ap trimmed (rw e at last)

-- the last digit is none that is taken off, or there is none
pub trim_done : (ds : List ℕ) → (length ds < 1) ⊎ ((get_or ds (length ds - 1) 0 ≡ 48) → ⊥) → trimmed ds ≡ ds
unfolding trimmed
trim_done [] e = refl
trim_done (d ∷ ds) (inl e) = absurd (omega arith)
trim_done (d ∷ ds) (inr e) =
    let l = last (d ∷ ds) (omega arith) in
    sym (ap trimmed l) ∙ trim_kept (take (length (d ∷ ds) - 1) (d ∷ ds)) (get_or (d ∷ ds) (length (d ∷ ds) - 1) 0) e ∙ l

-- what is worked out of a finite number
pub finite_laid : (n : ℕ) (f : First) (ds : List ℕ) → f ≡ rounded n → ds ≡ decimal f.digits
    → laid (trimmed ds) (f.after + length ds - 1) ≡ finite n
unfolding finite
finite_laid n f ds e d = rw (d, e)

-- the digits after the point, as a slice from there to the end
pub rest_all : (n : ℕ) (l : List ℕ) → take (length l - n) (drop n l) ≡ drop n l
rest_all n l = let h : length (drop n l) ≤ length l - n = omega (arith, length-drop n l) in take_all (length l - n) (drop n l) h
