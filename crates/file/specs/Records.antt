-- Document 01, 'The file' and 'Files and calls sent back', and document 02, Nine: what sends a record back. Definitions only.
use Rattle.std.specs.Prelude.{ℕ, zero, suc, ◌+◌, ◌*◌, Bool, false, not, ◌&&◌, ◌||◌, cond, List, ltb, leb, eqb}
use Rattle.endian.specs.Endian.{byte_at, u16_at, u32_at}
use Rattle.program.specs.Opcodes.{last_opcode}
use Rattle.program.specs.Numbers.{number_of}
use Rattle.program.specs.Ranges.{parts_of}
use Rattle.program.specs.declared.opcodes.Opcode.TheVariants.{HostMath}
use Rattle.program.specs.declared.opcodes.Part.{Part}
use Rattle.program.specs.declared.opcodes.Part.TheVariants.{Unused, Const, Hash, Name, Temp, Post, Target, Free}
use Rattle.file.specs.declared.records.Counts.{Counts}

-- the number where a test is met, else 0, which is none
abbrev pub when : Bool → ℕ → ℕ
when met n = cond met n 0

-- the earlier of two tests
abbrev pub first : ℕ → ℕ → ℕ
first a b = cond (eqb a 0) b a

-- "an unused part not 0"
abbrev pub stray : Part → ℕ → Bool
stray Unused v = not (eqb v 0)
stray Const v = false
stray Hash v = false
stray Name v = false
stray Temp v = false
stray Post v = false
stray Target v = false
stray Free v = false

-- "index outside its table"; "any target is legal"
abbrev pub outside : Counts → Part → ℕ → Bool
outside t Unused v = false
outside t Const v = leb t.consts v
outside t Hash v = leb t.hashes v
outside t Name v = leb t.names v
outside t Temp v = leb t.temps v
outside t Post v = leb t.posts v
outside t Target v = false
outside t Free v = false

-- "HostMath is withdrawn": "New files may not carry it."
abbrev pub withdrawn : ℕ → Bool
withdrawn op = eqb op (number_of HostMath)

-- "A record: byte 0 opcode, byte 1 choice, bytes 2-3 post, bytes 4-7 argument." The number that sends one back, or 0: "14, opcode 22 in a
-- file for anything but the converter, in the place of 7; 15, the converter meets a count above 1, within each record after 9."
unfoldable pub record_refusal : Bool → Counts → ℕ → ℕ → ℕ → ℕ → ℕ
record_refusal for_converter t op choice post arg =
    let parts = parts_of op in
    first (when (eqb op 0 || ltb last_opcode op) 7)
    (first (when (withdrawn op && not for_converter) 14)
    (first (when (ltb parts.choice choice || (stray parts.post post || stray parts.argument arg)) 8)
    (first (when (outside t parts.post post || outside t parts.argument arg) 9)
    (when (withdrawn op && (for_converter && ltb 1 choice)) 15))))

-- of k tests from number i on, "ascending", the first that is met
abbrev pub ascending : (ℕ → ℕ) → ℕ → ℕ → ℕ
ascending test i zero = 0
ascending test i (suc k) = first (test i) (ascending test (i + 1) k)

-- the refusal of record i of a code, and of k records from i on
abbrev pub refusal_at : Bool → Counts → List ℕ → ℕ → ℕ
refusal_at for_converter t code i = record_refusal for_converter t (byte_at code (i * 8)) (byte_at code (i * 8 + 1)) (u16_at code (i * 8 + 2)) (u32_at code (i * 8 + 4))

unfoldable pub records_refusal : Bool → Counts → List ℕ → ℕ → ℕ → ℕ
records_refusal for_converter t code i k = ascending (refusal_at for_converter t code) i k
