use borrow.Author.Rules.{rules}
use Rattle.numeric.specs.Numbers.{mul}
use Rattle.numeric.proofs.Nans.{from_numbers, written, mul_strict}
use Rattle.numeric.proofs.fpu.mul.Goals as goal

pub returns : goal.returns
unfolding mul
returns c = from_numbers (written mul_strict) _ _ c.on_numbers.ensures.nan (λ h. search rules)
