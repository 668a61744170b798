-- A record passes just where its choice and its two parts are within one number each, the choice of opcode 22 within another, and that
-- for the converter alone. Assumes nothing.
use Prim.Native.Nat.{ℕ, zero, suc, ◌^◌, ◌<◌}
use native.Mathlib.Omega.{arith}
use mathlib.Core.Path.{◌≡◌, refl, sym, ◌∙◌}
use mathlib.Core.Bool.{Bool, true, false, not, ◌&&◌, ◌||◌}
use lib.Dec.{ltb, leb, eqb}
use borrow.Author.Tests.{ne_eqb, lt-ltb, le-ltb, leb-true, leb-false}
use Rattle.program.specs.Opcodes.{last_opcode}
use Rattle.program.specs.Ranges.{parts_of}
use Rattle.program.specs.declared.opcodes.Part.{Part}
use Rattle.program.specs.declared.opcodes.Part.TheVariants.{Unused, Const, Hash, Name, Temp, Post, Target, Free}
use Rattle.file.specs.Records.{when, first, withdrawn, stray, outside, record_refusal}
use Rattle.file.specs.Limits.{limit_of}
use Rattle.file.specs.declared.records.Counts.{Counts}
use Rattle.file_laws.specs.Laws.{Passing}

-- an index inside its table
not_reached : (a b : ℕ) (x : Bool) → leb a b ≡ x → not x ≡ ltb b a
not_reached a b true e = sym (le-ltb b a (leb-true a b e))
not_reached a b false e = sym (lt-ltb b a (leb-false a b e))

-- a part of 32 bits passes just where it lies below its kind's limit
part_passes : (t : Counts) (a : Part) (v : ℕ) → v < 2 ^ 32 → not (stray a v || outside t a v) ≡ ltb v (limit_of t a)
part_passes t Unused zero h = refl
part_passes t Unused (suc v) h = rw (ne_eqb (suc v) 0 (λ e. omega arith), le-ltb (suc v) 1 (omega arith))
part_passes t Const v h = not_reached t.consts v _ refl
part_passes t Hash v h = not_reached t.hashes v _ refl
part_passes t Name v h = not_reached t.names v _ refl
part_passes t Temp v h = not_reached t.temps v _ refl
part_passes t Post v h = not_reached t.posts v _ refl
part_passes t Target v h = rw (lt-ltb v (2 ^ 32) h)
part_passes t Free v h = rw (lt-ltb v (2 ^ 32) h)

-- numbers 8 and 9, by part, and what comes after them
by_part : (c s u o p : Bool) (r : ℕ) → eqb (first (when (c || (s || u)) 8) (first (when (o || p) 9) r)) 0 ≡ ((not c && (not (s || o) && not (u || p))) && eqb r 0)
by_part true s u o p r = refl
by_part false true u o p r = refl
by_part false false true true p r = refl
by_part false false true false p r = refl
by_part false false false true true r = refl
by_part false false false true false r = refl
by_part false false false false true r = refl
by_part false false false false false r = refl

-- number 15, which comes last, first
swapped : (x m : Bool) → (x && eqb (when m 15) 0) ≡ (not m && x)
swapped true true = refl
swapped true false = refl
swapped false true = refl
swapped false false = refl

-- with number 14: opcode 22 passes for the converter alone, and with a count that is not above 1
by_opcode :
    (w d m c s u o p : Bool) → eqb (first (when (d && not w) 14) (first (when (c || (s || u)) 8) (first (when (o || p) 9) (when (d && (w && m)) 15)))) 0
    ≡ (not (d && (not w || m)) && (not c && (not (s || o) && not (u || p))))
by_opcode w false m c s u o p = by_part c s u o p 0 ∙ swapped _ false
by_opcode false true m c s u o p = refl
by_opcode true true m c s u o p = by_part c s u o p (when m 15) ∙ swapped _ m

pub passing : Passing
unfolding record_refusal
passing w t op choice post arg z l p a =
    rw (
      ne_eqb op 0 z,
      le-ltb last_opcode op l,
      ← part_passes t (parts_of op).post post p,
      ← part_passes t (parts_of op).argument arg a,
    )
    (by_opcode w
    (withdrawn op)
    (ltb 1 choice)
    (ltb (parts_of op).choice choice)
    (stray (parts_of op).post post)
    (stray (parts_of op).argument arg)
    (outside t (parts_of op).post post)
    (outside t (parts_of op).argument arg))
