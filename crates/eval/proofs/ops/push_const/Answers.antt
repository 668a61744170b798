use lib.ListN.{length-set}
use Rattle.eval.specs.State.{both}
use Rattle.eval.proofs.Stacks.{push_at, push_above}
use Rattle.eval.proofs.Steps.{loads}
use borrow.Author.Tests.{lt-ltb, le-ltb}
use mathlib.Core.Path.{refl}
use lib.Seq.{length-take-le}
use native.Mathlib.Omega.{arith}
use Rattle.eval.proofs.ops.push_const.Goals as goal

pub returns-then-n-limit : goal.returns-then-n-limit
unfolding both
returns-then-n-limit c =
    let d = c.args.s.stack in
    let st = c.args.stack.now in
    let h = c.requires.at.fits in
    let k = c.if-s-stack.true in
    let n = c.if-n-limit.true in
    λ x w.
    loads _ _ _ _ _ _ _ _ c.load.ensures (λ m. refl)
    (record { on_stack = omega arith; on_loops = omega arith; on_handlers = omega arith })
    (record { on_stack = simp length-set (omega arith); on_loops = omega arith; on_handlers = omega arith })
    (record { stack = simp push_above; loops = refl; handlers = refl })
    (rw (length-take-le d st h, lt-ltb _ _ k, lt-ltb _ _ n, push_at d st _ k, c.constant-v.ensures))

pub returns-else-n-limit : goal.returns-else-n-limit
unfolding both
returns-else-n-limit c =
    let d = c.args.s.stack in
    let st = c.args.stack.now in
    let h = c.requires.at.fits in
    let k = c.if-s-stack.true in
    let n = c.if-n-limit.false in
    λ x w.
    loads _ _ _ _ _ _ _ _ c.stop.ensures (λ m. refl)
    (record { on_stack = omega arith; on_loops = omega arith; on_handlers = omega arith })
    (record { on_stack = simp length-set (omega arith); on_loops = omega arith; on_handlers = omega arith })
    (record { stack = simp push_above; loops = refl; handlers = refl })
    (rw (length-take-le d st h, lt-ltb _ _ k, le-ltb _ _ n, push_at d st _ k))

pub returns-else-s-stack : goal.returns-else-s-stack
unfolding both
returns-else-s-stack c =
    let h = c.requires.at.fits in
    let k = c.if-s-stack.false in
    λ x w.
    loads _ _ _ _ _ _ _ _ c.stop-else-s-stack.ensures (λ m. refl) w w (record { stack = refl; loops = refl; handlers = refl })
    (simp (length-take-le, le-ltb))
