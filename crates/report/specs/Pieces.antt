-- Texts that are put together of pieces. Definitions only.
use Rattle.std.specs.Prelude.{ℕ, ◌+◌, List, [], ◌∷◌, ◌++◌}

-- a piece for each two elements that stand beside each other, in order; the first two have number i
unfoldable pub pieces : {A B : Type 0} → (ℕ → A → B → List ℕ) → ℕ → List A → List B → List ℕ
pieces f i [] ys = []
pieces f i (x ∷ xs) [] = []
pieces f i (x ∷ xs) (y ∷ ys) = f i x y ++ pieces f (i + 1) xs ys
