use lib.ListN.{length-set}
use Rattle.eval.proofs.Steps.{by, onto, reads}
use Rattle.eval.specs.Acts.{loop_begin}
use Rattle.eval.proofs.Stacks.{push_at, push_above}
use borrow.Author.Tests.{lt-ltb, le-ltb}
use mathlib.Core.Path.{refl, sym, ◌∙◌}
use lib.Seq.{length-take-le}
use native.Mathlib.Omega.{arith}
use Rattle.eval.proofs.loops.loop_begin.Goals.{else-s-stack-via-then-s-stack+else-s-loops, else-s-stack-via-else-s-stack}
use Rattle.eval.proofs.loops.loop_begin.Goals as goal

pub returns-then-le : goal.returns-then-le
unfolding loop_begin
returns-then-le c = let t = sym c.le.ensures ∙ c.if-le.true in reads _ _ _ _ (by _ _ _ _ _ c.goto.ensures (λ x w. simp t))

pub returns-then-s-loops : goal.returns-then-s-loops
unfolding loop_begin
returns-then-s-loops c = let s = c.args.s in let stack = c.args.stack.now in let loops = c.args.loops.now in let t = sym c.le.ensures ∙ c.if-le.false in let h = c.requires.fits in let g = c.requires.loops_fit in let k = c.if-s-stack.true in let l = c.if-s-loops.true in onto _ _ _ _ _ _ _ c.go_on.ensures (λ x m. refl) (λ x w. record { on_stack = omega arith; on_loops = omega arith; on_handlers = omega arith }) (λ x w. record { on_stack = simp length-set (omega arith); on_loops = simp length-set (omega arith); on_handlers = omega arith }) (λ x. record { stack = simp push_above; loops = simp push_above; handlers = refl }) (λ x w. rw (t, length-take-le s.stack stack h, lt-ltb _ _ k, length-take-le s.loops loops g, lt-ltb _ _ l, ← c.less_one.ensures, ← push_at s.stack stack _ k, ← push_at s.loops loops _ l))

pub returns-else-s-stack : goal.returns-else-s-stack
unfolding loop_begin
returns-else-s-stack c =
    let t = sym c.le.ensures ∙ c.if-le.false in
    let h = c.requires.fits in
    let g = c.requires.loops_fit in
    reads _ _ _ _ (by _ _ _ _ _ c.stop.ensures (λ x w. elim c.else-s-stack.branch [
      | else-s-stack-via-then-s-stack+else-s-loops b ↦ let k = b.if-s-stack.true in let l = b.if-s-loops.false in simp (t, length-take-le, lt-ltb, le-ltb)
      | else-s-stack-via-else-s-stack b ↦ let k = b.if-s-stack.false in simp (t, length-take-le, le-ltb)
    ]))
