-- What holds of every file that is accepted, of a record, and of a number in bytes. Definitions only; the laws are in src/laws.rt.
use Rattle.std.specs.Prelude.{ℕ, ◌+◌, ◌*◌, ◌^◌, ◌/◌, ◌≡◌, ◌<◌, ◌≤◌, Bool, false, not, ◌&&◌, ◌||◌, List, nat_lt, ◌==◌, length}
use Rattle.endian.specs.Endian.{byte_at, number_at, u16_at, u32_at}
use Rattle.program.specs.Instructions.{decoded}
use Rattle.program.specs.Opcodes.{last_opcode, parts_of_row}
use Rattle.program.specs.Ranges.{parts_of}
use Rattle.program.specs.declared.instr.Instr.{Instr}
use Rattle.file.specs.Fields.{posts, code, counts_of}
use Rattle.file.specs.Records.{withdrawn, outside, record_refusal}
use Rattle.file.specs.Refusals.{refusal_for}
use Rattle.file.specs.Limits.{limit_of}
use Rattle.file.specs.declared.records.Counts.{Counts}

-- ---- an accepted file: by the reader, or by the converter

-- a record decodes to an instruction, and the two parts that its row makes the instruction of are inside their tables
pub record Inside (t : Counts) (op choice post arg : ℕ) : Type 0 where
  pub some : decoded op choice post arg ≡ Instr.Outside → ⊥
  pub post_inside : outside t (parts_of_row op).post post ≡ false
  pub argument_inside : outside t (parts_of_row op).argument arg ≡ false

-- the same of record i of a code
abbrev pub InsideAt : Counts → List ℕ → ℕ → Type 0
InsideAt t code i = Inside t (byte_at code (i * 8)) (byte_at code (i * 8 + 1)) (u16_at code (i * 8 + 2)) (u32_at code (i * 8 + 4))

-- and of every record
abbrev pub Decodes : Type 0
Decodes = (for_converter : Bool) (file : List ℕ) (i : ℕ) → refusal_for for_converter file ≡ 0 → i < length (code file) / 8 → InsideAt (counts_of file) (code file) i

-- post 0 is there, with the bits of scale 1 and offset +0.0: the identity
pub record HasIdentity (file : List ℕ) : Type 0 where
  pub there : 0 < (counts_of file).posts
  pub scale : u32_at (posts file) 0 ≡ 0x3F80_0000
  pub offset : u32_at (posts file) 4 ≡ 0

abbrev pub PostZero : Type 0
PostZero = (for_converter : Bool) (file : List ℕ) → refusal_for for_converter file ≡ 0 → HasIdentity file

-- ---- a record

-- within one number each: its choice, and its two parts
abbrev pub within : Counts → ℕ → ℕ → ℕ → ℕ → Bool
within t op choice post arg =
    let parts = parts_of op in
    not (nat_lt parts.choice choice) && (nat_lt post (limit_of t parts.post) && nat_lt arg (limit_of t parts.argument))

-- one of opcode 22, for any but the converter, or with a count above 1
abbrev pub sent_back : Bool → ℕ → ℕ → Bool
sent_back for_converter op choice = withdrawn op && (not for_converter || nat_lt 1 choice)

-- a record of a legal opcode passes just where it is within them, and is no such record of opcode 22
abbrev pub Passing : Type 0
Passing = (for_converter : Bool) (t : Counts) (op choice post arg : ℕ) → (op ≡ 0 → ⊥) → op ≤ last_opcode → post < 2 ^ 32 → arg < 2 ^ 32
    → (record_refusal for_converter t op choice post arg == 0) ≡ (not (sent_back for_converter op choice) && within t op choice post arg)

-- ---- a number in bytes

-- one of w + b bytes is one of w bytes and, above it, one of b
abbrev pub Joined : Type 0
Joined = (w b : ℕ) (s : List ℕ) (i : ℕ) → number_at w s i + 256 ^ w * number_at b s (i + w) ≡ number_at (w + b) s i
