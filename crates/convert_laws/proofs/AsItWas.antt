-- The reader of the machine as it was, held to the converter's check and to the reader as it is. Assumes nothing.
use Prim.Native.Nat.{ℕ, zero, suc, ◌+◌, ◌*◌, ◌/◌}
use native.Mathlib.Omega.{arith}
use mathlib.Core.Path.{◌≡◌, refl, sym, ◌∙◌}
use mathlib.Core.Bool.{Bool, true, false, cond, not, ◌&&◌, ◌||◌}
use mathlib.Core.List.{List}
use lib.Dec.{ltb, eqb}
use lib.ListN.{length}
use borrow.Author.Tests.{ne_eqb}
use Rattle.numeric.proofs.OneNan.{on_both}
use Rattle.endian.specs.Endian.{byte_at, u16_at, u32_at}
use Rattle.program.specs.Opcodes.{last_opcode}
use Rattle.program.specs.Ranges.{parts_of}
use Rattle.file.specs.Fields.{code, counts_of}
use Rattle.file.specs.Records.{when, first, ascending, withdrawn, outside, stray, record_refusal, refusal_at, records_refusal}
use Rattle.file.specs.Refusals.{fields_refusal, longer, refusal_for, refusal, converter_refusal}
use Rattle.file.specs.declared.records.Counts.{Counts}
use Rattle.vm.specs.Call.{refusal_by}
use Rattle.vm.specs.Called.{called}
use Rattle.convert.proofs.Parts.{fields_pass, nothing_after}
use Rattle.convert_laws.specs.AsItWas.{record_as_it_was, at_as_it_was, file_as_it_was, as_it_was, AsItIs, ButFifteen}
use Rattle.convert_laws.proofs.Accepted.{none_met, record_passes}
use Rattle.convert_laws.proofs.Numbers.{reader_withdrawn}

-- ---- a record

three :
    (a d b c m : Bool)
    → let n = first (when a 7) (first (when (d && not true) 14) (first (when b 8) (first (when c 9) (when (d && (true && m)) 15)))) in
    cond (eqb n 15) 0 n ≡ first (when a 7) (first (when b 8) (when c 9))
three true d b c m = refl
three false true true c m = refl
three false true false true m = refl
three false true false false true = refl
three false true false false false = refl
three false false true c m = refl
three false false false true m = refl
three false false false false m = refl

-- it is the converter's check without 15
pub but_fifteen : ButFifteen
unfolding record_refusal record_as_it_was
but_fifteen t op choice post arg =
    let p = parts_of op in
    three
    (eqb op 0 || ltb last_opcode op)
    (withdrawn op)
    (ltb p.choice choice || (stray p.post post || stray p.argument arg))
    (outside t p.post post || outside t p.argument arg)
    (ltb 1 choice)

at_but_fifteen : (t : Counts) (code : List ℕ) (i : ℕ) → let n = refusal_at true t code i in cond (eqb n 15) 0 n ≡ at_as_it_was t code i
at_but_fifteen t code i = but_fifteen t (byte_at code (i * 8)) (byte_at code (i * 8 + 1)) (u16_at code (i * 8 + 2)) (u32_at code (i * 8 + 4))

-- two tests, and what comes after them: the same unless the second gives 14
after_test : (a b r s : ℕ) → ((b ≡ 14 → ⊥) → a ≡ b) → ((s ≡ 14 → ⊥) → r ≡ s) → (first b s ≡ 14 → ⊥) → first a r ≡ first b s
after_test a zero r s e h z = rw (e (λ q. omega arith)) (h z)
after_test a (suc b) r s e h z =
    let k = ne_eqb (suc b) 0 (λ q. omega arith) in
    let y : suc b ≡ 14 → ⊥ = λ q. z (rw (k, q)) in
    rw (e y, k)

-- k of them
after_tests : (f g : ℕ → ℕ) → ((j : ℕ) → (g j ≡ 14 → ⊥) → f j ≡ g j) → (k i : ℕ) → (ascending g i k ≡ 14 → ⊥) → ascending f i k ≡ ascending g i k
after_tests f g e zero i z = refl
after_tests f g e (suc k) i z = after_test (f i) (g i) _ _ (e i) (after_tests f g e k (i + 1)) z

-- ---- a file that the converter takes

pub passed : (file : List ℕ) → converter_refusal file ≡ 0 → file_as_it_was file ≡ 0
unfolding file_as_it_was
passed file h =
    let t = counts_of file in
    rw (fields_pass true file h, nothing_after true file h)
    (none_met (at_as_it_was t (code file)) (length (code file) / 8) 0
    (λ j l. let q : 0 + j ≡ j = omega arith in rw q (sym (at_but_fifteen t (code file) j) ∙ rw (record_passes true file h j l) refl)))

-- ---- a file that the reader does not send back with 14

last_nine : (c : Bool) → first (when c 9) 0 ≡ when c 9
last_nine true = refl
last_nine false = refl

another : (t : Counts) (op choice post arg : ℕ) → withdrawn op ≡ false → record_as_it_was t op choice post arg ≡ record_refusal false t op choice post arg
unfolding record_refusal record_as_it_was
another t op choice post arg w = let p = parts_of op in rw (w, last_nine (outside t p.post post || outside t p.argument arg))

record_same : (t : Counts) (code : List ℕ) (i : ℕ) → (refusal_at false t code i ≡ 14 → ⊥) → at_as_it_was t code i ≡ refusal_at false t code i
record_same t code i z =
    on_both (withdrawn (byte_at code (i * 8))) (λ w. absurd (z (reader_withdrawn t _ _ _ _ w)))
    (λ w. another t (byte_at code (i * 8)) _ _ _ w)

file_same : (file : List ℕ) → (refusal file ≡ 14 → ⊥) → file_as_it_was file ≡ refusal file
unfolding file_as_it_was refusal_for records_refusal
file_same file z =
    let t = counts_of file in
    let s = after_tests (at_as_it_was t (code file)) (refusal_at false t (code file)) (record_same t (code file)) (length (code file) / 8) 0 in
    after_test (fields_refusal file) (fields_refusal file) _ _ (λ x. refl) (after_test (when (longer file) 4) (when (longer file) 4) _ _ (λ x. refl) s) z

pub as_it_is : AsItIs
unfolding called as_it_was refusal_by
as_it_is b z = rw (file_same b.file z)
