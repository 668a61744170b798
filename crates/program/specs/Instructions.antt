-- Document 01, 'The file': the instruction that a record stands for. Definitions only.
use Rattle.std.specs.Prelude.{ℕ, ◌≡◌, ◌≤◌, Bool, not}
use Rattle.numeric.specs.Numbers.{lt, le, ge, gt}
use Rattle.numeric.specs.Whole.{floored, ceiled, truncated, absolute}
use Rattle.program.specs.Opcodes.{row_of, made, last_opcode, const_op, store_var_op, store_temp_op, halt_op, end_op}
use Rattle.program.specs.declared.instr.CmpOp.{CmpOp}
use Rattle.program.specs.declared.instr.CmpOp.TheVariants.{Lt, Le, Ge, Gt}
use Rattle.program.specs.declared.instr.EqOp.{EqOp}
use Rattle.program.specs.declared.instr.Fn1.{Fn1}
use Rattle.program.specs.declared.instr.Fn1.TheVariants.{Floor, Ceil, Trunc, Abs}
use Rattle.program.specs.declared.instr.Instr.{Instr}

-- whether a comparison holds; with a NaN none does
abbrev pub cmp_holds : CmpOp → ℕ → ℕ → Bool
cmp_holds Lt a b = lt a b
cmp_holds Le a b = le a b
cmp_holds Ge a b = ge a b
cmp_holds Gt a b = gt a b

-- whether the test holds of operands that are equal, or not
abbrev pub eq_holds : EqOp → Bool → Bool
eq_holds EqOp.Eq equal = equal
eq_holds EqOp.Ne equal = not equal

-- what a one-argument math function gives
abbrev pub math1 : Fn1 → ℕ → ℕ
math1 Floor x = floored x
math1 Ceil x = ceiled x
math1 Trunc x = truncated x
math1 Abs x = absolute x

-- "A record: byte 0 opcode, byte 1 choice, bytes 2-3 post, bytes 4-7 argument."
unfoldable pub decoded : ℕ → ℕ → ℕ → ℕ → Instr
decoded op choice post arg = made (row_of op) choice post arg

-- ---- what is claimed of it (src/laws.rt)

-- an opcode has an instruction, and any other number none
pub record Listed (op choice post arg : ℕ) : Type 0 where
  pub some : 1 ≤ op → op ≤ last_opcode → decoded op choice post arg ≡ Instr.Outside → ⊥
  pub none : (1 ≤ op → op ≤ last_opcode → ⊥) → decoded op choice post arg ≡ Instr.Outside

-- the opcodes that a record looks for at another position are those of the instructions so named
pub record LookedFor (choice post arg : ℕ) : Type 0 where
  pub const_is : decoded const_op choice post arg ≡ Instr.Const (record { 0 = arg })
  pub store_var_is : decoded store_var_op choice post arg ≡ Instr.StoreVar (record { 0 = arg }) (record { 0 = post })
  pub store_temp_is : decoded store_temp_op choice post arg ≡ Instr.StoreTemp (record { 0 = arg }) (record { 0 = post })
  pub halt_is : decoded halt_op choice post arg ≡ Instr.Halt
  pub end_is : decoded end_op choice post arg ≡ Instr.End
