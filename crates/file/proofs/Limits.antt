-- A part passes just where it lies below its kind's limit. Assumes nothing.
use Prim.Native.Nat.{ℕ, zero, suc, ◌^◌, ◌<◌, ◌≤◌}
use native.Mathlib.Omega.{arith}
use mathlib.Core.Path.{◌≡◌, refl}
use mathlib.Core.Bool.{true, false}
use lib.ListN.{get_or}
use Rattle.std.proofs.lemmas.Bool.{lt-leb}
use Rattle.std.proofs.lemmas.Bool.Decides.{nat_tests}
use Rattle.std.specs.List.{flat_map}
use Rattle.program.specs.Ranges.{parts_of, nothing}
use Rattle.program.specs.declared.opcodes.Part.{Part}
use Rattle.program.specs.declared.opcodes.Part.TheVariants.{Unused, Const, Hash, Name, Temp, Post, Target, Free}
use Rattle.program.specs.declared.opcodes.Parts.{Parts}
use Rattle.program.proofs.Computed.{same}
use Rattle.file.specs.Records.{stray, outside}
use Rattle.file.specs.Limits.{parts_table, limit_of}
use Rattle.file.specs.declared.records.Counts.{Counts}

-- where the parts of an opcode stand
abbrev flat : ℕ → Parts
flat op = get_or (flat_map (λ x. x) parts_table) op nothing

pub placed : (op : ℕ) → op < 52 → flat op ≡ parts_of op
placed = same flat parts_of 52 refl

-- a part below its limit
pub below : (t : Counts) (a : Part) (v : ℕ) → v < limit_of t a → (stray a v ≡ false) × (outside t a v ≡ false)
below t Unused zero h = (refl, refl)
below t Unused (suc v) h = absurd (omega arith)
below t Const v h = (refl, lt-leb _ _ h)
below t Hash v h = (refl, lt-leb _ _ h)
below t Name v h = (refl, lt-leb _ _ h)
below t Temp v h = (refl, lt-leb _ _ h)
below t Post v h = (refl, lt-leb _ _ h)
below t Target v h = (refl, refl)
below t Free v h = (refl, refl)

-- one that is not, and is not stray either
pub above : (t : Counts) (a : Part) (v : ℕ) → v < 2 ^ 32 → limit_of t a ≤ v → stray a v ≡ false → outside t a v ≡ true
above t Unused zero b h s = absurd (omega arith)
above t Unused (suc v) b h s = grind (arith, nat_tests)
above t Const v b h s = grind (arith, nat_tests)
above t Hash v b h s = grind (arith, nat_tests)
above t Name v b h s = grind (arith, nat_tests)
above t Temp v b h s = grind (arith, nat_tests)
above t Post v b h s = grind (arith, nat_tests)
above t Target v b h s = absurd (omega arith)
above t Free v b h s = absurd (omega arith)
