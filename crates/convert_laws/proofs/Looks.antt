-- What the machine finds at a position of two codes that it moves alike over: the same record, or a PointerEnter to the next position in
-- place of a HostMath of at most one argument. Assumes nothing.
use Prim.Native.Nat.{ℕ, ◌+◌, ◌*◌, ◌/◌, ◌%◌, ◌<◌, ◌≤◌}
use native.Mathlib.Omega.{arith}
use mathlib.Core.Path.{◌≡◌, refl, sym, ◌∙◌, ap}
use mathlib.Core.Bool.{false}
use mathlib.Core.List.{List}
use lib.Dec.{ltb}
use lib.ListN.{length}
use borrow.Author.Tests.{ltb-true, lt-ltb, eqb-true}
use Rattle.numeric.proofs.OneNan.{on_both}
use Rattle.endian.specs.Endian.{byte_at, number_at, u16_at, u32_at}
use Rattle.program.specs.Numbers.{number_of}
use Rattle.program.specs.Instructions.{decoded}
use Rattle.program.specs.declared.instr.PostIdx.{PostIdx}
use Rattle.program.specs.declared.instr.Instr.{Instr}
use Rattle.program.specs.declared.opcodes.Opcode.TheVariants.{HostMath, PointerEnter}
use Rattle.tables.specs.Tables.{instr_at, opcode_at, argument_at}
use Rattle.tables.proofs.Entries.{byte-in, number-in}
use Rattle.convert.specs.Convert.{pointer_enter}
use Rattle.convert_laws.specs.Laws.{record_at}
use Rattle.convert_laws.specs.Codes.{Stands, itself, entered, Alike}

-- ---- a record's bytes

-- the instruction that they stand for
abbrev instr_of : List ℕ → Instr
instr_of bytes = decoded (byte_at bytes 0) (byte_at bytes 1) (u16_at bytes 2) (u32_at bytes 4)

-- what the machine finds at a position of a code is in them
module _ (code : List ℕ) (i : ℕ) (l : i < length code / 8) where
  instr_in : instr_at code i ≡ instr_of (record_at i code)
  unfolding instr_at
  instr_in =
      rw (
        lt-ltb i (length code / 8) l,
        byte-in 8 i 0 (i * 8) code refl (omega arith) (omega arith),
        byte-in 8 i 1 (i * 8 + 1) code refl (omega arith) refl,
        number-in 2 8 i 2 (i * 8 + 2) code refl (omega arith) refl,
        number-in 4 8 i 4 (i * 8 + 4) code refl (omega arith) refl,
      )

  opcode_in : opcode_at code i ≡ byte_at (record_at i code) 0
  unfolding opcode_at
  opcode_in = rw (lt-ltb i (length code / 8) l, byte-in 8 i 0 (i * 8) code refl (omega arith) (omega arith))

  argument_in : argument_at code i ≡ u32_at (record_at i code) 4
  unfolding argument_at
  argument_in = rw (lt-ltb i (length code / 8) l, number-in 4 8 i 4 (i * 8 + 4) code refl (omega arith) refl)

-- a HostMath
is_host_math : (bytes : List ℕ) → byte_at bytes 0 ≡ number_of HostMath → instr_of bytes ≡ Instr.HostMath (byte_at bytes 1) (record { 0 = u16_at bytes 2 })
unfolding decoded
is_host_math bytes o = rw o

-- a number's four bytes are that number
four_bytes : (n : ℕ) → n % 256 + 256 * (n / 256 % 256 + 256 * (n / 65536 % 256 + 256 * (n / 16777216 + 256 * 0))) ≡ n
four_bytes n = omega arith

-- a PointerEnter with post 0
is_pointer_enter : (target : ℕ) → instr_of (pointer_enter target) ≡ Instr.PointerEnter target (record { 0 = 0 })
unfolding decoded number_at
is_pointer_enter target = rw (four_bytes target)

-- ---- a position of both codes

pub data Look (old new : List ℕ) (i : ℕ) : Type 0 where
  same : instr_at new i ≡ instr_at old i → opcode_at new i ≡ opcode_at old i → argument_at new i ≡ argument_at old i → Look old new i
  enters : (n : ℕ) (p : PostIdx) → n ≤ 1 → instr_at old i ≡ Instr.HostMath n p → instr_at new i ≡ Instr.PointerEnter (i + 1) (record { 0 = 0 })
      → opcode_at old i ≡ number_of HostMath → opcode_at new i ≡ number_of PointerEnter → Look old new i

module _ (old new : List ℕ) (h : Alike old new) (i : ℕ) where
  -- outside there is no record
  look_outside : ltb i (length old / 8) ≡ false → Look old new i
  unfolding instr_at opcode_at argument_at
  look_outside l = same (rw (h.long, l)) (rw (h.long, l)) (rw (h.long, l))

  look_inside : i < length old / 8 → i < length new / 8 → Stands i (record_at i old) (record_at i new) → Look old new i
  look_inside l k (itself e) =
      same (instr_in new i k ∙ ap instr_of e ∙ sym (instr_in old i l))
      (opcode_in new i k ∙ ap (λ (s : List ℕ). byte_at s 0) e ∙ sym (opcode_in old i l))
      (argument_in new i k ∙ ap (λ (s : List ℕ). u32_at s 4) e ∙ sym (argument_in old i l))
  look_inside l k (entered w n e) =
      let o = eqb-true (byte_at (record_at i old) 0) (number_of HostMath) w in
      enters (byte_at (record_at i old) 1) (record { 0 = u16_at (record_at i old) 2 }) n (instr_in old i l ∙ is_host_math (record_at i old) o)
      (instr_in new i k ∙ ap instr_of e ∙ is_pointer_enter (i + 1)) (opcode_in old i l ∙ o)
      (opcode_in new i k ∙ ap (λ (s : List ℕ). byte_at s 0) e)

  pub look : Look old new i
  look =
      on_both (ltb i (length old / 8))
      (λ t. let l = ltb-true i (length old / 8) t in look_inside l (rw h.long l) (h.each i l)) look_outside
