use borrow.Author.Rules.{rules}
use Rattle.numeric.specs.Numbers.{sub}
use Rattle.numeric.proofs.Nans.{from_numbers, written, sub_strict}
use Rattle.numeric.proofs.fpu.sub.Goals as goal

pub returns : goal.returns
unfolding sub
returns c = from_numbers (written sub_strict) _ _ c.on_numbers.ensures.nan (λ h. search rules)
