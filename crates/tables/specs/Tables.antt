-- Document 01, 'The file': the entries of a file's tables, each table being the bytes of its field's body. Definitions only.
use Rattle.std.specs.Prelude.{ℕ, ◌+◌, ◌*◌, ◌/◌, cond, List, ltb, eqb, length}
use Rattle.endian.specs.Endian.{byte_at, u16_at, u32_at, u64_at}
use Rattle.numeric.specs.Numbers.{zero, entered}
use Rattle.numeric.specs.Arithmetic.{post_of, plain}
use Rattle.numeric.specs.declared.post_op.Post.{Post}
use Rattle.program.specs.Instructions.{decoded}
use Rattle.program.specs.declared.instr.Instr.{Instr}

-- "Constants, 4 bytes each": the bits of constant c; outside the table +0.0
abbrev pub const_bits : List ℕ → ℕ → ℕ
const_bits consts c = cond (ltb c (length consts / 4)) (u32_at consts (c * 4)) zero

-- constant c, as it enters
unfoldable pub const_at : List ℕ → ℕ → ℕ
const_at consts c = entered (const_bits consts c)

-- "Posts, 8 bytes each (scale, offset)"; "the named constant IDENTITY is post 0"; outside the table all is 0
unfoldable pub post_at : List ℕ → ℕ → Post
post_at posts p =
    cond (eqb p 0) plain (cond (ltb p (length posts / 8)) (post_of (u32_at posts (p * 8)) (u32_at posts (p * 8 + 4))) (post_of 0 0))

-- "Hashes, 8 bytes each"
unfoldable pub hash_at : List ℕ → ℕ → ℕ
hash_at hashes h = cond (ltb h (length hashes / 8)) (u64_at hashes (h * 8)) 0

-- "Records, 8 bytes each": the instruction at a position; outside the code there is none
unfoldable pub instr_at : List ℕ → ℕ → Instr
instr_at code pos =
    cond (ltb pos (length code / 8))
    (decoded (byte_at code (pos * 8)) (byte_at code (pos * 8 + 1)) (u16_at code (pos * 8 + 2)) (u32_at code (pos * 8 + 4)))
    Instr.Outside

-- the opcode at a position; 0 where the record is absent
unfoldable pub opcode_at : List ℕ → ℕ → ℕ
opcode_at code pos = cond (ltb pos (length code / 8)) (byte_at code (pos * 8)) 0

-- the argument of the record at a position
unfoldable pub argument_at : List ℕ → ℕ → ℕ
argument_at code pos = cond (ltb pos (length code / 8)) (u32_at code (pos * 8 + 4)) 0
