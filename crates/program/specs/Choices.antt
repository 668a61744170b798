-- Document 01, 'The file': what a choice stands for. Definitions only.
use Rattle.std.specs.Prelude.{ℕ, cond, eqb}
use Rattle.program.specs.declared.instr.Divisor.{Divisor}
use Rattle.program.specs.declared.instr.Divisor.TheVariants.{Signed, Absolute}
use Rattle.program.specs.declared.instr.CmpOp.{CmpOp}
use Rattle.program.specs.declared.instr.CmpOp.TheVariants.{Lt, Le, Ge, Gt}
use Rattle.program.specs.declared.instr.EqOp.{EqOp}

-- "Choice: 18 signed 0, absolute 1; 23-24 Lt, Le, Ge, Gt as 0 to 3; 25-27 Eq 0, Ne 1"
unfoldable pub divisor_of : ℕ → Divisor
divisor_of choice = cond (eqb choice 0) Signed Absolute

unfoldable pub cmp_of : ℕ → CmpOp
cmp_of choice = cond (eqb choice 0) Lt (cond (eqb choice 1) Le (cond (eqb choice 2) Ge Gt))

unfoldable pub eq_of : ℕ → EqOp
eq_of choice = cond (eqb choice 0) EqOp.Eq EqOp.Ne
