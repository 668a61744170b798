-- What the code of the record check compares with. No refusal is defined by it. Definitions only.
use Rattle.std.specs.Prelude.{ℕ, ◌+◌, ◌^◌, List, [], ◌∷◌}
use Rattle.program.specs.Ranges.{parts_of}
use Rattle.program.specs.declared.opcodes.Part.{Part}
use Rattle.program.specs.declared.opcodes.Part.TheVariants.{Unused, Const, Hash, Name, Temp, Post, Target, Free}
use Rattle.program.specs.declared.opcodes.Parts.{Parts}
use Rattle.file.specs.declared.records.Counts.{Counts}

-- the parts of four opcodes from one on, and of all from 0 on in rows of four
abbrev pub row : ℕ → List Parts
row op = parts_of op ∷ parts_of (op + 1) ∷ parts_of (op + 2) ∷ parts_of (op + 3) ∷ []

abbrev pub parts_table : List (List Parts)
parts_table =
    row 0
    ∷ row 4
    ∷ row 8
    ∷ row 12
    ∷ row 16
    ∷ row 20
    ∷ row 24
    ∷ row 28
    ∷ row 32
    ∷ row 36
    ∷ row 40
    ∷ row 44
    ∷ row 48
    ∷ row 52
    ∷ []

-- the first number that sends a part of a kind back; a target and a free part have 32 bits, and pass
abbrev pub limit_of : Counts → Part → ℕ
limit_of t Unused = 1
limit_of t Const = t.consts
limit_of t Hash = t.hashes
limit_of t Name = t.names
limit_of t Temp = t.temps
limit_of t Post = t.posts
limit_of t Target = 2 ^ 32
limit_of t Free = 2 ^ 32

-- of each kind, in the order of the variants
abbrev pub limits_of : Counts → List ℕ
limits_of t = 1 ∷ t.consts ∷ t.hashes ∷ t.names ∷ t.temps ∷ t.posts ∷ 2 ^ 32 ∷ 2 ^ 32 ∷ []
