use Prim.Native.Nat.{◌-◌}
use lib.ListN.{length-set, get_or}
use Rattle.eval.specs.Acts.{again}
use Rattle.eval.proofs.Stacks.{top-at, retop-at, retop_above}
use Rattle.eval.proofs.Steps.{by, onto, reads}
use borrow.Author.Tests.{le-leb, lt-leb}
use mathlib.Core.Path.{refl}
use native.Mathlib.Omega.{arith}
use Rattle.eval.proofs.loops.next_pass.Goals.{in-Some+else-n-loops, in_default}
use Rattle.eval.proofs.loops.next_pass.Goals as goal

pub returns-then-n-loops : goal.returns-then-n-loops
unfolding again
returns-then-n-loops c =
    let h = c.requires.at.loops_fit in
    let z = c.requires.nested in
    reads _ _ _ _ (by _ _ _ _ _ c.budget_spent.ensures (λ x w. rw (c.in-Some.is, ← top-at c.args.s.loops c.args.loops.now z h, le-leb c.in-Some.n (get_or c.args.loops.now (c.args.s.loops - 1) 0) (omega arith))))

pub returns : goal.returns
unfolding again
returns c =
    let s = c.args.s in
    let stack = c.args.stack.now in
    let loops = c.args.loops.now in
    let h = c.requires.at.fits in
    let z = c.requires.counts in
    let i = c.requires.at.loops_fit in
    let y = c.requires.nested in
    elim c.match-loop_limit.branch [
      | in-Some+else-n-loops b ↦
          rw b.loops-is (onto _ _ _ _ _ _ _ c.goto.ensures (λ x m. refl) (λ x w. w)
          (λ x w. record { on_stack = simp length-set (omega arith); on_loops = simp length-set (omega arith); on_handlers = omega arith })
          (λ x. record { stack = simp retop_above; loops = simp retop_above; handlers = refl })
          (λ x w.
          rw (
            b.in-Some.is,
            ← top-at s.loops loops y i,
            lt-leb _ _ b.if-n-loops.false,
            ← top-at s.stack stack z h,
            ← c.less_one.ensures,
            ← retop-at s.stack stack _ z h,
            ← retop-at s.loops loops _ y i,
          )))
      | in_default b ↦
          rw b.loops-is (onto _ _ _ _ _ _ _ c.goto.ensures (λ x m. refl) (λ x w. w)
          (λ x w. record { on_stack = simp length-set (omega arith); on_loops = omega arith; on_handlers = omega arith })
          (λ x. record { stack = simp retop_above; loops = refl; handlers = refl })
          (λ x w. rw (b.in_default.is, ← top-at s.stack stack z h, ← c.less_one.ensures, ← retop-at s.stack stack _ z h)))
    ]
