use borrow.Author.Rules.{rules}
use Rattle.numeric.specs.Numbers.{add}
use Rattle.numeric.proofs.Nans.{from_numbers, written, add_strict}
use Rattle.numeric.proofs.fpu.add.Goals as goal

pub returns : goal.returns
unfolding add
returns c = from_numbers (written add_strict) _ _ c.on_numbers.ensures.nan (λ h. search rules)
