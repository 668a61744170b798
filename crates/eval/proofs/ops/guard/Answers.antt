use Rattle.eval.proofs.Steps.{after, reads}
use Rattle.eval.proofs.ops.guard.Goals as goal

pub returns-in-None : goal.returns-in-None
returns-in-None c = reads _ _ _ _ (after _ _ _ _ _ _ c.goto.ensures (λ x w. w) (λ x w. rw (← c.is_signed.ensures, ← c.div_guard.ensures, c.in-None.is)))
