-- A converted file's accounts are the old ones, by the machine as it was. Assumes nothing.
use Prim.Native.Nat.{ℕ, ◌+◌, ◌*◌, ◌/◌, ◌<◌, ◌≤◌}
use native.Mathlib.Omega.{arith}
use mathlib.Core.Path.{◌≡◌, refl, ◌∙◌, ap}
use mathlib.Core.Bool.{true, not, ◌&&◌, ◌||◌}
use mathlib.Core.List.{List}
use lib.Dec.{ltb, eqb}
use lib.ListN.{length}
use borrow.Author.Tests.{ltb-false}
use Rattle.numeric.proofs.OneNan.{on_both}
use Rattle.endian.specs.Endian.{byte_at}
use Rattle.program.specs.Opcodes.{last_opcode}
use Rattle.program.specs.Ranges.{parts_of}
use Rattle.tables.proofs.Entries.{byte-in}
use Rattle.file.specs.Fields.{code, counts_of}
use Rattle.file.specs.Records.{when, withdrawn, outside, stray, record_refusal}
use Rattle.file.specs.Refusals.{converter_refusal}
use Rattle.file.specs.declared.records.Counts.{Counts}
use Rattle.file.proofs.Firsts.{neither, unmet}
use Rattle.vm.specs.Call.{Brought, call_of, refusal_by}
use Rattle.vm.specs.Purses.{purses, smaller}
use Rattle.vm.specs.Account.{After, left_by}
use Rattle.vm.specs.Called.{begun, ran, called}
use Rattle.convert.specs.Convert.{is_withdrawn, converted_code, Conversion, converted, conversion}
use Rattle.convert_laws.specs.Laws.{record_at}
use Rattle.convert_laws.specs.Codes.{Stands, itself, entered, Alike, over}
use Rattle.convert_laws.specs.AsItWas.{with_converted, as_it_was, KeepsAccounts, KeepsCharges, KeepsHistories}
use Rattle.convert_laws.proofs.Records.{length_of_converted_code, record_converted, withdrawn_at}
use Rattle.convert_laws.proofs.Fields.{counts_of_converted, consts_of_converted, posts_of_converted, hashes_of_converted, code_of_converted}
use Rattle.convert_laws.proofs.Accepted.{record_passes, accepted}
use Rattle.convert_laws.proofs.AsItWas.{passed}
use Rattle.convert_laws.proofs.Moves.{moves_alike, spends_alike}

-- the converter sends a count above 1 back
at_most_one : (t : Counts) (op choice post arg : ℕ) → record_refusal true t op choice post arg ≡ 0 → withdrawn op ≡ true → choice ≤ 1
unfolding record_refusal
at_most_one t op choice post arg h w =
    let a = neither (when (eqb op 0 || ltb last_opcode op) 7) _ h in
    let g = neither (when (withdrawn op && not true) 14) _ a.1 in
    let s = neither (when (ltb (parts_of op).choice choice || (stray (parts_of op).post post || stray (parts_of op).argument arg)) 8) _ g.1 in
    let b = neither (when (outside t (parts_of op).post post || outside t (parts_of op).argument arg) 9) _ s.1 in
    ltb-false 1 choice (rw w at (unmet (withdrawn op && (true && ltb 1 choice)) 14 b.1))

module _ (file : List ℕ) (h : converter_refusal file ≡ 0) where
  few : (i : ℕ) → i < length (code file) / 8 → is_withdrawn (record_at i (code file)) ≡ true → byte_at (record_at i (code file)) 1 ≤ 1
  few i l w =
      rw (byte-in 8 i 1 (i * 8 + 1) (code file) refl (omega arith) refl)
      (at_most_one (counts_of file) _ _ _ _ (record_passes true file h i l) (rw (withdrawn_at (code file) i) at w))

  stands : (i : ℕ) → i < length (code file) / 8 → Stands i (record_at i (code file)) (record_at i (converted_code (code file)))
  stands i l =
      let e = record_converted (code file) i l in
      on_both (is_withdrawn (record_at i (code file))) (λ w. entered w (few i l w) (rw w at e)) (λ w. itself (rw w at e))

  alike : Alike (code file) (converted_code (code file))
  alike = record { long = length_of_converted_code (code file); each = stands }

-- the same call with the converted file
module _ (b : Brought) (h : converter_refusal b.file ≡ 0) where
  same_call : call_of (with_converted b) ≡ over (converted_code (code b.file)) (call_of b)
  same_call = rw (code_of_converted b.file h, consts_of_converted b.file h, posts_of_converted b.file h, hashes_of_converted b.file h)

  same_run : ran (with_converted b) ≡ ran b
  unfolding left_by
  same_run =
      let p = purses b.terms in
      let c = call_of b in
      rw (same_call, spends_alike c (converted_code (code b.file)) (alike b.file h) p.guest p.house (begun b))

pub keeps_histories : KeepsHistories
keeps_histories b h n r = rw (same_call b h) (moves_alike (call_of b) (converted_code (code b.file)) (alike b.file h) n r)

pub keeps_accounts : KeepsAccounts called
unfolding called as_it_was refusal_by
keeps_accounts b h = rw (accepted b.file h, counts_of_converted b.file h, passed b.file h, same_run b h)

pub keeps_charges : KeepsCharges
keeps_charges b h = rw (keeps_accounts b h, keeps_histories b h (smaller (purses b.terms)) (begun b)) refl

-- what the converter leaves, by what it gives
pub leaves : {n k : ℕ} {file : List ℕ} (old : List ℕ) → record { refusal = n; records = k; file = file } ≡ conversion old → file ≡ converted old
unfolding conversion
leaves old e = ap (λ (x : Conversion). x.file) e

-- and what a call with that file answers
pub stored_call :
    {n k : ℕ} {file : List ℕ} {a : After} (b : Brought)
    → record { refusal = n; records = k; file = file } ≡ conversion b.file
    → a ≡ called (record { file = file; lent = b.lent; context = b.context; terms = b.terms })
    → converter_refusal b.file ≡ 0
    → a ≡ as_it_was b
stored_call b e q h =
    let answer : List ℕ → After = λ f. called (record { file = f; lent = b.lent; context = b.context; terms = b.terms }) in
    q ∙ (ap answer (leaves b.file e) ∙ keeps_accounts b h)
