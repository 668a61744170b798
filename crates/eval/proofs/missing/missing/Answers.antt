use Rattle.eval.proofs.Steps.{by, after}
use Rattle.eval.specs.Acts.{missed}
use Rattle.eval.proofs.Stacks.{length_handlers, top_handler, pop_handler, cut_at}
use borrow.Author.Tests.{eq-eqb, ne_eqb}
use mathlib.Core.Path.{◌≡◌}
use native.Mathlib.Omega.{arith}
use Prim.Native.Nat.{◌<◌}
use Rattle.eval.proofs.missing.missing.Goals as goal

pub returns-then-s : goal.returns-then-s
unfolding missed
returns-then-s c = let h = c.requires in let z : c.args.s.handlers ≡ 0 = omega arith in by _ _ _ _ _ c.stop.ensures (λ x w. simp (length_handlers, eq-eqb))

pub returns : goal.returns
unfolding missed
returns c = let s = c.args.s in let st = c.args.handlers.now in let h = c.requires in let n = c.if-s.false in let z : 0 < s.handlers = omega arith in let y : s.handlers ≡ 0 → ⊥ = λ q. omega arith in after _ _ _ _ _ _ c.goto.ensures (λ x w. record { on_stack = omega arith; on_loops = omega arith; on_handlers = omega arith }) (λ x w. rw (c.min.ensures, c.min-2.ensures, cut_at s.stack x.lent.stack, cut_at s.loops x.lent.loops, pop_handler s.handlers st h, length_handlers s.handlers st h, ne_eqb _ _ y, top_handler s.handlers st h z, ← c.from-h.ensures))
