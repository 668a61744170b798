-- What an accepted file has. Assumes nothing.
use Prim.Native.Nat.{ℕ, ◌≤◌}
use native.Mathlib.Omega.{arith}
use mathlib.Core.Path.{◌≡◌, refl, sym}
use mathlib.Core.Bool.{Bool}
use mathlib.Core.List.{List}
use lib.ListN.{length}
use Rattle.file.specs.Fields.{counts}
use Rattle.file.specs.Refusals.{field_refusal, Passed, tag_refusal, fields_refusal, refusal_for}
use Rattle.file.proofs.Cuts.{four, body_there}
use Rattle.file.proofs.Firsts.{neither, passes}
use Rattle.file.proofs.Ascending.{each}

-- the four bytes of its counts
counts_passed : (file : List ℕ) → field_refusal 1 file ≡ 0 → 4 ≤ length (counts file)
counts_passed file h = let q = passes 1 file h in rw (← (body_there file _ refl q.there)) (four file _ refl q.there 1 q.fits refl)

pub first_has : {s b r : List ℕ} → Passed 1 s b r → 4 ≤ length b
first_has {s} p = rw p.is_body (counts_passed s (sym p.number))

pub counts_there : (w : Bool) (file : List ℕ) → refusal_for w file ≡ 0 → 4 ≤ length (counts file)
unfolding refusal_for
counts_there w file h = counts_passed file (each (tag_refusal file) 5 1 0 (neither (fields_refusal file) _ h).0 (omega arith))
