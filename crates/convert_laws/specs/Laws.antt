-- What the converter does to a stored file, said of its records and of its bytes, and the numbers that the reader and the converter give.
-- Definitions only; the laws are in src/laws.rt.
use Rattle.std.specs.Prelude.{ℕ, ◌≡◌, ◌+◌, ◌-◌, ◌*◌, ◌/◌, ◌%◌, ◌≤◌, Bool, true, false, not, ◌&&◌, ◌||◌, cond, List, ltb, leb, eqb, length, take, drop, ◌⊎◌}
use Rattle.endian.specs.Endian.{byte_at, u16_at, u32_at}
use Rattle.program.specs.Numbers.{number_of}
use Rattle.program.specs.declared.opcodes.Opcode.TheVariants.{PointerEnter}
use Rattle.file.specs.Fields.{code}
use Rattle.file.specs.Records.{when, first, withdrawn, record_refusal}
use Rattle.file.specs.declared.records.Counts.{Counts}
use Rattle.file.specs.Refusals.{converter_refusal}
use Rattle.convert.specs.Convert.{pointer_enter, is_withdrawn}

-- ---- the bytes of a file

-- the eight bytes of the record at position i of a code
abbrev pub record_at : ℕ → List ℕ → List ℕ
record_at i code = take 8 (drop (i * 8) code)

-- where the code of a file begins, the last that it has; and the position of the record that byte j of the file lies in
abbrev pub code_start : List ℕ → ℕ
code_start file = length file - length (code file)

abbrev pub position_of : List ℕ → ℕ → ℕ
position_of file j = (j - code_start file) / 8

-- whether byte j lies in a record that is converted: one of opcode 22 in the code of a file that passes
unfoldable pub converts : List ℕ → ℕ → Bool
converts file j =
    eqb (converter_refusal file) 0 && (leb (code_start file) j && is_withdrawn (record_at (position_of file j) (code file)))

-- of every byte string the length stays, and byte j stays unless it lies in such a record. There it is that of the PointerEnter
abbrev pub byte_after : List ℕ → ℕ → ℕ
byte_after file j = cond (converts file j) (byte_at (pointer_enter (position_of file j + 1)) ((j - code_start file) % 8)) (byte_at file j)

abbrev pub ChangesOnlyWithdrawn : (List ℕ → List ℕ) → Type 0
ChangesOnlyWithdrawn f = (file : List ℕ) → (length (f file) ≡ length file) × ((j : ℕ) → byte_at (f file) j ≡ byte_after file j)

-- the parts of a PointerEnter to a target, as a reader finds them in its eight bytes
pub record IsPointerEnter (bytes : List ℕ) (target : ℕ) : Type 0 where
  pub long : length bytes ≡ 8
  pub opcode : byte_at bytes 0 ≡ number_of PointerEnter
  pub choice : byte_at bytes 1 ≡ 0
  pub post : u16_at bytes 2 ≡ 0
  pub argument : u32_at bytes 4 ≡ target

-- ---- numbers

-- those that the reader gives, and those that the converter gives: 0, which is none, 1 to 9, and one of its own. 14 is opcode 22 in a file
-- for anything but the converter, and 15 a count above 1 at the converter
abbrev pub IsReaders : ℕ → Type 0
IsReaders n = (n ≤ 9) ⊎ (n ≡ 14)

abbrev pub IsConverters : ℕ → Type 0
IsConverters n = (n ≤ 9) ⊎ (n ≡ 15)

-- a record of opcode 22 for the converter: 15 behind 8 and 9
abbrev pub withdrawn_refusal : Counts → ℕ → ℕ → ℕ → ℕ
withdrawn_refusal t choice post arg =
    first (when (ltb 255 choice || not (eqb arg 0)) 8)
    (first (when (leb t.posts post) 9)
    (when (ltb 1 choice) 15))

-- such a record by the reader, and by the converter
abbrev pub ReaderWithdrawn : Type 0
ReaderWithdrawn = (t : Counts) (op choice post arg : ℕ) → withdrawn op ≡ true → record_refusal false t op choice post arg ≡ 14

abbrev pub ConverterWithdrawn : Type 0
ConverterWithdrawn = (t : Counts) (choice post arg : ℕ) → record_refusal true t 22 choice post arg ≡ withdrawn_refusal t choice post arg
