use Rattle.eval.proofs.Steps.{onto}
use Rattle.eval.specs.Acts.{store_var}
use mathlib.Core.Path.{refl}
use native.Mathlib.Omega.{arith}
use Rattle.eval.proofs.ops.store_var.Goals as goal

pub returns : goal.returns
unfolding store_var
returns c = onto _ _ _ _ _ _ _ c.load.ensures (λ x m. refl) (λ x w. w) (λ x w. record { on_stack = omega arith; on_loops = omega arith; on_handlers = omega arith }) (λ x. record { stack = refl; loops = refl; handlers = refl }) (λ x w. rw (c.apply.ensures, c.put.ensures, c.put-2.ensures))
