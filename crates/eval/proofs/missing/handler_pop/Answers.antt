use Rattle.eval.proofs.Stacks.{pop_handler}
use Rattle.eval.proofs.Steps.{after}
use native.Mathlib.Omega.{arith}
use Rattle.eval.proofs.missing.handler_pop.Goals as goal

pub returns : goal.returns
returns c = after (λ x. x) _ _ _ _ _ c.goto.ensures (λ x w. record { on_stack = w.on_stack; on_loops = w.on_loops; on_handlers = omega arith }) (λ x w. rw (c.saturating_sub.ensures, ← pop_handler c.args.s.handlers x.lent.handlers w.on_handlers))
