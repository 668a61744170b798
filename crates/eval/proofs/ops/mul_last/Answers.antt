use borrow.Author.Rules.{rules}
use Rattle.numeric.specs.Numbers.{mul}
use Rattle.eval.proofs.Steps.{operated}
use Rattle.eval.proofs.ops.mul_last.Goals as goal

pub returns : goal.returns
returns c = operated mul c.operate.ensures (λ a b n h. search rules)
