use Rattle.eval.proofs.Steps.{by, reads, wrote}
use Rattle.eval.specs.Acts.{pushed}
use Rattle.eval.proofs.Stacks.{push_at, push_above}
use borrow.Author.Tests.{lt-ltb, le-ltb}
use lib.ListN.{length-set}
use mathlib.Core.Path.{refl}
use lib.Seq.{length-take-le}
use native.Mathlib.Omega.{arith}
use Rattle.eval.proofs.machine.State.push.Goals as goal

pub returns-then-self-stack : goal.returns-then-self-stack
unfolding pushed
returns-then-self-stack c = let h = c.requires.fits in let k = c.if-self-stack.true in λ x w. wrote _ _ _ _ _ (record { within = record { on_stack = omega arith; on_loops = omega arith; on_handlers = omega arith }; same = simp (length-take-le, lt-ltb, push_at) }) (record { on_stack = simp length-set (omega arith); on_loops = omega arith; on_handlers = omega arith }) (record { stack = simp push_above; loops = refl; handlers = refl })

pub returns-else-self-stack : goal.returns-else-self-stack
unfolding pushed
returns-else-self-stack c = let h = c.requires.fits in let k = c.if-self-stack.false in reads _ _ _ _ (by _ _ _ _ _ c.stop.ensures (λ x w. simp (length-take-le, le-ltb)))
