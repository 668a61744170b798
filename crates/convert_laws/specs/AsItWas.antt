-- The machine as it was, when a file might carry opcode 22, and that a converted file's accounts are the old ones by it. Definitions only;
-- the laws are in src/laws.rt.
use Rattle.std.specs.Prelude.{ℕ, ◌+◌, ◌*◌, ◌≡◌, ◌/◌, true, not, ◌||◌, cond, List, ltb, eqb, length, take}
use Rattle.endian.specs.Endian.{byte_at, u16_at, u32_at}
use Rattle.program.specs.Opcodes.{last_opcode}
use Rattle.program.specs.Ranges.{parts_of}
use Rattle.file.specs.Fields.{code, counts_of}
use Rattle.file.specs.Records.{when, first, stray, outside, ascending, record_refusal}
use Rattle.file.specs.Refusals.{fields_refusal, longer, refusal, converter_refusal}
use Rattle.file.specs.declared.records.Counts.{Counts}
use Rattle.eval.specs.Run.{Run, history}
use Rattle.vm.specs.Call.{Brought, call_of, fitting, tested}
use Rattle.vm.specs.Purses.{purses, smaller}
use Rattle.vm.specs.Account.{After}
use Rattle.vm.specs.Called.{begun, ran, refused, called, paid_in}
use Rattle.convert.specs.Convert.{converted}

-- ---- the machine as it was

-- the number that sent a record back: 7, 8 and 9, with opcode 22 as legal as any other
unfoldable pub record_as_it_was : Counts → ℕ → ℕ → ℕ → ℕ → ℕ
record_as_it_was t op choice post arg =
    let parts = parts_of op in
    first (when (eqb op 0 || ltb last_opcode op) 7)
    (first (when (ltb parts.choice choice || (stray parts.post post || stray parts.argument arg)) 8)
    (when (outside t parts.post post || outside t parts.argument arg) 9))

-- and record i of a code
abbrev pub at_as_it_was : Counts → List ℕ → ℕ → ℕ
at_as_it_was t code i = record_as_it_was t (byte_at code (i * 8)) (byte_at code (i * 8 + 1)) (u16_at code (i * 8 + 2)) (u32_at code (i * 8 + 4))

-- the number that sent a file back: 1 to 9, or 0
unfoldable pub file_as_it_was : List ℕ → ℕ
file_as_it_was file =
    first (fields_refusal file)
    (first (when (longer file) 4)
    (ascending (at_as_it_was (counts_of file) (code file)) 0 (length (code file) / 8)))

-- and a call: that of its file, then 10
abbrev pub refusal_as_it_was : Brought → ℕ
refusal_as_it_was b = first (file_as_it_was b.file) (when (not (fitting (tested b))) 10)

-- its answer to every call: a refusal, or the run of the file as it is, HostMath by its own clause of `acted`
unfoldable pub as_it_was : Brought → After
as_it_was b =
    let n = refusal_as_it_was b in
    cond (eqb n 0) (ran b) (refused n b)

-- ---- what is claimed

-- the same call, with the file as the converter leaves it
abbrev pub with_converted : Brought → Brought
with_converted b = record { file = converted b.file; lent = b.lent; context = b.context; terms = b.terms }

-- a service answers every call with a converted file as the machine as it was answers the same call with the old file: the account, with
-- its hand-over position, what remains of both limits, the count of empty pops and every lent store, or 10
abbrev pub KeepsAccounts : (Brought → After) → Type 0
KeepsAccounts f = (b : Brought) → converter_refusal b.file ≡ 0 → f (with_converted b) ≡ as_it_was b

-- what fell due in a call and was charged, by the machine as it was: `paid_in` says it of the machine as it is
abbrev pub paid_as_it_was : Brought → List Run
paid_as_it_was b = take (as_it_was b).reply.account.end.charges (history (call_of b) (smaller (purses b.terms)) (begun b)).dues

-- the call with the converted file makes the same charges, and the same stands at each
abbrev pub KeepsCharges : Type 0
KeepsCharges = (b : Brought) → converter_refusal b.file ≡ 0 → paid_in (with_converted b) ≡ paid_as_it_was b

-- and the two calls have the same history, from any state: what stands each time a charge falls due, and where the run ends
abbrev pub KeepsHistories : Type 0
KeepsHistories = (b : Brought) → converter_refusal b.file ≡ 0 → (n : ℕ) (r : Run) → history (call_of (with_converted b)) n r ≡ history (call_of b) n r

-- the machine as it was is the machine as it is, but for calls whose file opcode 22 now sends back by 14
abbrev pub AsItIs : Type 0
AsItIs = (b : Brought) → (refusal b.file ≡ 14 → ⊥) → as_it_was b ≡ called b

-- and its test of a record is the converter's, but for 15
abbrev pub ButFifteen : Type 0
ButFifteen = (t : Counts) (op choice post arg : ℕ) → let n = record_refusal true t op choice post arg in cond (eqb n 15) 0 n ≡ record_as_it_was t op choice post arg
