use borrow.Author.Rules.{rules}
use Rattle.numeric.specs.Numbers.{add}
use Rattle.eval.proofs.Steps.{operated}
use Rattle.eval.proofs.ops.add_last.Goals as goal

pub returns : goal.returns
returns c = operated add c.operate.ensures (λ a b n h. search rules)
