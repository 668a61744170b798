-- On an accepted file every record decodes, and every index that it holds lies inside its table. Assumes nothing.
use Prim.Native.Nat.{ℕ, ◌+◌, ◌/◌, ◌≤◌}
use native.Mathlib.Omega.{arith}
use mathlib.Core.Path.{◌≡◌, sym, ◌∙◌, ap}
use mathlib.Core.Bool.{Bool, not, ◌&&◌, ◌||◌}
use lib.Dec.{ltb, eqb}
use lib.ListN.{length}
use Rattle.std.proofs.lemmas.Bool.{or_parts}
use borrow.Author.Tests.{ltb-false, eqb-false}
use Rattle.program.specs.Opcodes.{last_opcode}
use Rattle.program.specs.Ranges.{parts_of}
use Rattle.program.proofs.AsBefore.{classified}
use Rattle.program.proofs.Decoding.{listed_some}
use Rattle.file.specs.Fields.{counts_of, code}
use Rattle.file.specs.Records.{when, withdrawn, outside, stray, record_refusal, refusal_at, records_refusal}
use Rattle.file.specs.Refusals.{fields_refusal, longer, refusal_for}
use Rattle.file.specs.declared.records.Counts.{Counts}
use Rattle.file.proofs.Ascending.{each}
use Rattle.file.proofs.Firsts.{neither, unmet}
use Rattle.file_laws.specs.Laws.{Inside, Decodes}

-- what a record that passes has
record_inside : (w : Bool) (t : Counts) (op choice post arg : ℕ) → record_refusal w t op choice post arg ≡ 0 → Inside t op choice post arg
unfolding record_refusal
record_inside w t op choice post arg h =
    let a = neither (when (eqb op 0 || ltb last_opcode op) 7) _ h in
    let g = neither (when (withdrawn op && not w) 14) _ a.1 in
    let s = neither (when (ltb (parts_of op).choice choice || (stray (parts_of op).post post || stray (parts_of op).argument arg)) 8) _ g.1 in
    let b = neither (when (outside t (parts_of op).post post || outside t (parts_of op).argument arg) 9) _ s.1 in
    let o = or_parts (eqb op 0) (ltb last_opcode op) (unmet _ 6 a.0) in
    let u = or_parts (outside t (parts_of op).post post) (outside t (parts_of op).argument arg) (unmet _ 8 b.0) in
    let l : op ≤ last_opcode = ltb-false last_opcode op o.1 in
    let row = classified op (omega arith) in
    record {
      some = listed_some choice post arg op (eqb-false op 0 o.0) l;
      post_inside = sym (ap (λ e. outside t e.post post) row) ∙ u.0;
      argument_inside = sym (ap (λ e. outside t e.argument arg) row) ∙ u.1;
    }

pub decodes : Decodes
unfolding refusal_for records_refusal
decodes w file i h l =
    let a = neither (fields_refusal file) _ h in
    let b = neither (when (longer file) 4) _ a.1 in
    let q : 0 + i ≡ i = omega arith in
    record_inside w (counts_of file) _ _ _ _ (rw q at (each (refusal_at w (counts_of file) (code file)) (length (code file) / 8) 0 i b.1 l))
