-- The cells of a call, one after another: by their places, and as pairs. Assumes nothing.
use Prim.Native.Nat.{ℕ, zero, suc, ◌+◌}
use mathlib.Core.Path.{◌≡◌, refl}
use mathlib.Core.List.{List, [], ◌∷◌}
use lib.ListN.{length}
use Rattle.std.specs.List.{list_all, zip}
use Rattle.std.proofs.Common.{add-one}
use Rattle.std.proofs.Math.Nat.{suc_inj}
use Rattle.vm.specs.Call.{cell_fits, cells_fit}

-- a cell before them moves their places on
later : (kind value : ℕ) (kinds values : List ℕ) (i n : ℕ) → cells_fit (kind ∷ kinds) (value ∷ values) (i + 1) n ≡ cells_fit kinds values i n
unfolding cells_fit
later kind value kinds values i zero = refl
later kind value kinds values i (suc n) = rw (later kind value kinds values (i + 1) n) (rw add-one refl)

pub cells_fit_zip : (kinds values : List ℕ) → length values ≡ length kinds
    → list_all (λ (c : ℕ × ℕ). cell_fits c.0 c.1) (zip kinds values) ≡ cells_fit kinds values 0 (length kinds)
unfolding cells_fit
cells_fit_zip [] values h = refl
cells_fit_zip (kind ∷ kinds) [] h = cc
cells_fit_zip (kind ∷ kinds) (value ∷ values) h = rw (later kind value kinds values 0 (length kinds), cells_fit_zip kinds values (suc_inj h))
