use Rattle.eval.specs.State.{with_stack}
use native.Mathlib.Omega.{arith}
use mathlib.Core.Path.{◌∙◌, ap}
use lib.Seq.{length-take-le}
use borrow.Author.Tests.{eq-eqb, ne_eqb}
use Rattle.eval.proofs.Stacks.{pop-at}
use Rattle.eval.proofs.Steps.{by}
use Prim.Native.Nat.{◌-◌}
use lib.ListN.{take}
use Rattle.eval.specs.Machine.{loops_are}
use Rattle.eval.specs.Acts.{next, loop_end}
use Rattle.eval.specs.Run.{lift}
use Rattle.eval.proofs.loops.loop_end.Goals as goal

pub returns-then-s-eq0 : goal.returns-then-s-eq0
unfolding loop_end
returns-then-s-eq0 c = let z = c.if-s-eq0.true in by _ _ _ _ _ c.go_on.ensures (λ x w. let h = w.on_loops in simp (length-take-le, eq-eqb))

pub returns : goal.returns
unfolding loop_end
returns c = let z = c.if-s-eq0.false in let k = c.take.ensures in λ x w. let h = w.on_loops in let t = k.takes x w in let d = t.within in let m = c.go_on-2.ensures (with_stack c.args.stack.now x) record { on_stack = omega arith; on_loops = omega arith; on_handlers = omega arith } in record { within = m.within; same = m.same ∙ ap (lift (λ n. next (loops_are (take (c.args.s.loops - 1) x.lent.loops) n))) t.left ∙ rw (length-take-le c.args.s.loops x.lent.loops h, ne_eqb _ _ z, pop-at c.args.s.loops x.lent.loops h) }
