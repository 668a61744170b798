use Rattle.eval.proofs.Steps.{by, onto, reads}
use Rattle.eval.specs.Acts.{handler_push}
use Rattle.eval.proofs.Stacks.{push_above, length_handlers, push_handler}
use borrow.Author.Tests.{lt-ltb, le-ltb}
use mathlib.Core.Path.{refl}
use lib.ListN.{length-set}
use lib.Seq.{length-take-le}
use native.Mathlib.Omega.{arith}
use Rattle.eval.proofs.missing.handler_push.Goals as goal

pub returns-then-s-handlers : goal.returns-then-s-handlers
unfolding handler_push
returns-then-s-handlers c =
    let s = c.args.s in
    let p = c.requires in
    let h = p.at.fits in
    let k = c.if-s-handlers.true in
    onto _ _ _ _ _ _ _ c.go_on.ensures (λ x m. refl)
    (λ x w. record { on_stack = omega arith; on_loops = omega arith; on_handlers = omega arith })
    (λ x w. record { on_stack = omega arith; on_loops = omega arith; on_handlers = simp length-set (omega arith) })
    (λ x. record { stack = refl; loops = refl; handlers = simp push_above })
    (λ x w.
    rw (
      c.from.ensures,
      push_handler s.handlers c.args.handlers.now (record { target = c.args.to; stack_mark = s.stack; loop_mark = s.loops }) k p.fits_stack_mark p.fits_loop_mark,
      length_handlers s.handlers c.args.handlers.now h,
      lt-ltb _ _ k,
      length-take-le s.stack x.lent.stack w.on_stack,
      length-take-le s.loops x.lent.loops w.on_loops,
    ))

pub returns-else-s-handlers : goal.returns-else-s-handlers
unfolding handler_push
returns-else-s-handlers c = let h = c.requires.at.fits in let k = c.if-s-handlers.false in reads _ _ _ _ (by _ _ _ _ _ c.stop.ensures (λ x w. simp (length_handlers, le-ltb)))
