use borrow.Author.Rules.{rules}
use Rattle.numeric.specs.Numbers.{div}
use Rattle.numeric.proofs.Nans.{from_numbers, written, div_strict}
use Rattle.numeric.proofs.fpu.div.Goals as goal

pub returns : goal.returns
unfolding div
returns c = from_numbers (written div_strict) _ _ c.on_numbers.ensures.nan (λ h. search rules)
