-- Document 02, Nine: "Add a converter for the files we store:". Definitions only.
use Rattle.std.specs.Prelude.{ℕ, zero, suc, ◌+◌, ◌-◌, ◌/◌, ◌%◌, Bool, cond, List, [], ◌∷◌, ◌++◌, eqb, length, take, drop, Result, Ok, Err}
use Rattle.endian.specs.Endian.{byte_at}
use Rattle.program.specs.Numbers.{number_of}
use Rattle.program.specs.declared.opcodes.Opcode.TheVariants.{PointerEnter}
use Rattle.file.specs.Fields.{code}
use Rattle.file.specs.Records.{withdrawn}
use Rattle.file.specs.Refusals.{converter_refusal}
use Rattle.file.specs.declared.refusal.Refusal.{Refusal}

-- "Numbers are little-endian."
abbrev pub u32 : ℕ → List ℕ
u32 n = n % 256 ∷ n / 256 % 256 ∷ n / 65536 % 256 ∷ n / 16777216 ∷ []

-- "PointerEnter with post 0 and the next position as target"; a record's unused choice is 0
abbrev pub pointer_enter : ℕ → List ℕ
pointer_enter target = number_of PointerEnter ∷ 0 ∷ 0 ∷ 0 ∷ u32 target

-- whether a record is one of opcode 22
abbrev pub is_withdrawn : List ℕ → Bool
is_withdrawn bytes = withdrawn (byte_at bytes 0)

-- the record at position i: "the record becomes PointerEnter .., the other records untouched". The count is 0 or 1: with any other the file
-- is sent back
abbrev pub converted_record : ℕ → List ℕ → List ℕ
converted_record i bytes = cond (is_withdrawn bytes) (pointer_enter (i + 1)) bytes

-- k records, the first of them at position i
unfoldable pub converted_records : ℕ → ℕ → List ℕ → List ℕ
converted_records i zero code = code
converted_records i (suc k) code = converted_record i (take 8 code) ++ converted_records (i + 1) k (drop 8 code)

-- a whole code
abbrev pub converted_code : List ℕ → List ℕ
converted_code code = converted_records 0 (length code / 8) code

-- how many of k records are of opcode 22, and how many of a whole code
unfoldable pub withdrawn_records : ℕ → List ℕ → ℕ
withdrawn_records zero code = 0
withdrawn_records (suc k) code = cond (is_withdrawn (take 8 code)) 1 0 + withdrawn_records k (drop 8 code)

abbrev pub withdrawn_in : List ℕ → ℕ
withdrawn_in code = withdrawn_records (length code / 8) code

-- a file that passes, its code converted: the code is the last that a file has
abbrev pub with_converted_code : List ℕ → List ℕ
with_converted_code file = take (length file - length (code file)) file ++ converted_code (code file)

-- "a file sent back keeps its bytes"
unfoldable pub converted : List ℕ → List ℕ
converted file = cond (eqb (converter_refusal file) 0) (with_converted_code file) file

-- what the converter gives for a byte string: the number that sends it back or 0, how many records it converted, and the bytes as it leaves
-- them
pub record Conversion : Type 0 where
  pub refusal : ℕ
  pub records : ℕ
  pub file : List ℕ

unfoldable pub conversion : List ℕ → Conversion
conversion file =
    record {
      refusal = converter_refusal file;
      records = cond (eqb (converter_refusal file) 0) (withdrawn_in (code file)) 0;
      file = converted file;
    }

-- how many records an answer names
abbrev pub records_of : Result ℕ Refusal → ℕ
records_of (Ok n) = n
records_of (Err e) = 0
