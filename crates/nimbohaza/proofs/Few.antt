-- A file has fewer records than 2^32. Assumes nothing.
use Prim.Native.Nat.{ℕ, zero, suc, ◌+◌, ◌/◌, ◌<◌, ◌≤◌}
use native.Mathlib.Omega.{arith}
use mathlib.Core.Path.{◌≡◌, sym, ap}
use mathlib.Core.Bool.{Bool, true, false, cond}
use mathlib.Core.List.{List}
use lib.ListN.{length, take, drop}
use Rattle.std.specs.Prelude.{eqb}
use Rattle.file.specs.Fields.{code}
use Rattle.file.specs.Refusals.{converter_refusal}
use Rattle.convert.proofs.Parts.{code_is_last}
use Rattle.convert.specs.Convert.{Conversion, is_withdrawn, withdrawn_records, withdrawn_in, conversion}

-- no more records are converted than there are
few : (k : ℕ) (code : List ℕ) → withdrawn_records k code ≤ k
unfolding withdrawn_records
few zero code = omega arith
few (suc k) code = by_kind (is_withdrawn (take 8 code)) (few k (drop 8 code))
  where
    by_kind : (b : Bool) → withdrawn_records k (drop 8 code) ≤ k → cond b 1 0 + withdrawn_records k (drop 8 code) ≤ suc k
    by_kind true h = omega arith
    by_kind false h = omega arith

-- how many are converted of a file that passes
pub fits : (file new : List ℕ) (n : ℕ) → record { refusal = 0; records = n; file = new } ≡ conversion file → n < 4294967296
unfolding conversion
fits file new n e =
    let h : 0 ≡ converter_refusal file = ap (λ (c : Conversion). c.refusal) e in
    let r : n ≡ cond (eqb (converter_refusal file) 0) (withdrawn_in (code file)) 0 = ap (λ (c : Conversion). c.records) e in
    let q : n ≡ withdrawn_in (code file) = rw (← h) at r in
    let s = (code_is_last true file (sym h)).short in
    let f = few (length (code file) / 8) (code file) in
    omega arith
