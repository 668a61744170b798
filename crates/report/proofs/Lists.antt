-- Laws of pieces that a loop over two slices at once puts. Assumes nothing.
use Prim.Native.Nat.{ℕ}
use mathlib.Core.Path.{◌≡◌, refl}
use mathlib.Core.List.{List, [], ◌∷◌}
use mathlib.Core.Logic.{◌⊎◌, inl, inr}
use Rattle.std.proofs.iter.Yields.{fronts}
use Rattle.std.proofs.lemmas.Iterator.{zips}
use Rattle.std.proofs.lemmas.Slice.Zip.{either_empty_from_Zip}
use Rattle.std.specs.Prelude.{None}
use Rattle.std.specs.Iterator.Adapters.{zip_first, zip_second}
use Rattle.std.specs.Slice.Iter.{iter_rest}
use Rattle.std.specs.declared.iter.Zip.{Zip}
use Rattle.std.specs.declared.slice.Iter.{Iter}
use Rattle.report.specs.Pieces.{pieces}

neither : {A B : Type 0} (f : ℕ → A → B → List ℕ) (i : ℕ) (xs : List A) (ys : List B) → (xs ≡ []) ⊎ (ys ≡ []) → pieces f i xs ys ≡ []
unfolding pieces
neither f i xs ys (inl e) = rw e
neither f i [] ys (inr e) = refl
neither f i (x ∷ xs) ys (inr e) = rw e

-- once the loop has ended no piece is left
pub pieces_end : {A B : Type 0} (f : ℕ → A → B → List ℕ) (i : ℕ) (s t : Zip (Iter A) (Iter B)) → zips fronts fronts s None t
    → pieces f i (iter_rest (zip_first s)) (iter_rest (zip_second s)) ≡ []
pieces_end f i s t z = neither f i _ _ (either_empty_from_Zip s t None refl z)
