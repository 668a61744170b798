use Prim.Native.Nat.{◌<◌}
use mathlib.Core.Path.{refl}
use lib.ListN.{length-set}
use Rattle.eval.specs.Acts.{add_acc}
use Rattle.eval.proofs.Steps.{reads, wrote}
use Rattle.eval.proofs.Stacks.{top-at, retop-at, retop_above, retop-none}
use native.Mathlib.Omega.{arith}
use Rattle.eval.proofs.machine.State.add_acc.Goals as goal

pub returns-then-self-eq0 : goal.returns-then-self-eq0
unfolding add_acc
returns-then-self-eq0 c = reads _ _ _ _ (λ x w. record { within = w; same = rw (← retop-none _ _ _ c.if-self-eq0.true) })

pub returns : goal.returns
unfolding add_acc
returns c = let h = c.requires.fits in let z : 0 < c.args.self.stack = omega arith in λ x w. wrote _ _ _ _ _ (record { within = w; same = rw (← top-at _ _ z h, ← c.add.ensures, ← retop-at _ _ _ z h) }) (record { on_stack = simp length-set (omega arith); on_loops = omega arith; on_handlers = omega arith }) (record { stack = simp retop_above; loops = refl; handlers = refl })
