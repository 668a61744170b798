use borrow.Author.Rules.{rules}
use Rattle.numeric.specs.Numbers.{div}
use Rattle.eval.proofs.Steps.{operated}
use Rattle.eval.proofs.ops.div_last.Goals as goal

pub returns : goal.returns
returns c = operated (λ popped acc. div acc popped) c.operate.ensures (λ a b n h. search rules)
