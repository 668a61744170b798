-- What an accepted call has. Assumes nothing.
use Prim.Native.Nat.{ℕ, ◌≤◌}
use mathlib.Core.Path.{◌≡◌}
use mathlib.Core.Bool.{true, not}
use lib.Dec.{leb}
use borrow.Author.Tests.{leb-true, not-false}
use Rattle.std.proofs.lemmas.Bool.{and_parts}
use Rattle.file.specs.Fields.{counts, names_of}
use Rattle.file.specs.Refusals.{refusal}
use Rattle.file.proofs.Firsts.{neither, unmet}
use Rattle.vm.specs.Call.{Tested, one_each, stores_fit, call_fits, fitting, refusal_by}

-- the stores are within their maxima
stores : (stack loops handlers : ℕ) → stores_fit stack loops handlers ≡ true → (stack ≤ 65600) × (loops ≤ 64) × (handlers ≤ 64)
unfolding stores_fit
stores stack loops handlers h =
    let a = and_parts (leb stack 65600) _ h in
    let b = and_parts (leb loops 64) _ a.1 in
    (leb-true stack 65600 a.0, leb-true loops 64 b.0, leb-true handlers 64 b.1)

module _ (t : Tested) (ok : refusal_by t ≡ 0) where
  fits : fitting t ≡ true
  unfolding refusal_by
  fits = not-false _ (unmet (not (fitting t)) 9 (neither (refusal t.file) _ ok).1)

  pub stores_fit_lem : (t.stack ≤ 65600) × (t.loops ≤ 64) × (t.handlers ≤ 64)
  unfolding call_fits
  stores_fit_lem =
      let names = names_of (counts t.file) in
      let a = and_parts (one_each names t.cells.kinds t.cells.values) _ fits in
      let b = and_parts (one_each names t.context.kinds t.context.values) _ a.1 in
      stores t.stack t.loops t.handlers b.1
