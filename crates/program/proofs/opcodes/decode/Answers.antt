use native.Mathlib.Omega.{arith}
use Rattle.program.proofs.Decoding.{not_listed}
use Rattle.program.proofs.opcodes.decode.Goals as goal

pub returns-in_default : goal.returns-in_default
returns-in_default c = not_listed _ _ _ _ (λ a b. omega arith)
