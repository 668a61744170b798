use mathlib.Core.Path.{sym, ◌∙◌}
use Rattle.eval.proofs.Steps.{by}
use Rattle.numeric.proofs.Posts.{plain-negated}
use Rattle.tables.specs.Tables.{post_at}
use Rattle.eval.proofs.ops.negate_acc.Goals as goal

pub returns-then-eq : goal.returns-then-eq
unfolding post_at
returns-then-eq c = by (λ x. x) _ _ _ _ c.load.ensures (λ x w. rw (sym c.eq.ensures ∙ c.if-eq.true, plain-negated c.args.s.acc, ← c.neg.ensures, ← c.enter.ensures))
