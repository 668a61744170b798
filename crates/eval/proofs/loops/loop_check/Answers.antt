use Rattle.eval.proofs.Steps.{by, reads, likewise, zero-spent}
use Rattle.eval.specs.Acts.{loop_check}
use Rattle.eval.proofs.Stacks.{top-at, top-none}
use borrow.Author.Tests.{lt-ltb, le-ltb}
use mathlib.Core.Path.{◌∙◌, sym}
use mathlib.Core.Bool.{and-false}
use Prim.Native.Nat.{◌<◌}
use lib.Seq.{length-take-le}
use native.Mathlib.Omega.{arith}
use Rattle.eval.proofs.loops.loop_check.Goals.{then-s-eq0-via-then-s-eq0, then-s-eq0-via-else-s-eq0+then-s-eq0-2, then-s-eq0-via-else-s-eq0+else-s-eq0-2+then-le}
use Rattle.eval.proofs.loops.loop_check.Goals as goal

pub returns-then-s-gt-OPERAND_STACK_CAP : goal.returns-then-s-gt-OPERAND_STACK_CAP
unfolding loop_check
returns-then-s-gt-OPERAND_STACK_CAP c = let h = c.requires.fits in let k = lt-ltb 65536 c.args.s.stack (omega arith) in reads _ _ _ _ (by _ _ _ _ _ c.stop.ensures (λ x w. simp (length-take-le, k)))

pub returns-then-s-eq0 : goal.returns-then-s-eq0
unfolding loop_check
returns-then-s-eq0 c =
    let s = c.args.s in
    let stack = c.args.stack.now in
    let h = c.requires.fits in
    let g = c.requires.loops_fit in
    let k = le-ltb 65536 c.args.s.stack (omega arith) in
    reads _ _ _ _ (by _ _ _ _ _ c.go_on.ensures (λ x w. elim c.then-s-eq0.branch [
      | then-s-eq0-via-then-s-eq0 b ↦ let z = b.if-s-eq0.true in simp (length-take-le, k, top-none, zero-spent)
      | then-s-eq0-via-else-s-eq0+then-s-eq0-2 b ↦
          let z = le-ltb 0 s.loops (omega arith) in rw (length-take-le s.stack stack h, k, length-take-le s.loops c.args.loops.now g, z, and-false)
      | then-s-eq0-via-else-s-eq0+else-s-eq0-2+then-le b ↦
          let z : 0 < s.stack = omega arith in
          let t = sym b.le.ensures ∙ b.if-le.true in
          simp (length-take-le, k, ← top-at, t)
    ]))

pub returns : goal.returns
unfolding loop_check
returns c = let s = c.args.s in let stack = c.args.stack.now in let loops = c.args.loops.now in let h = c.requires.fits in let g = c.requires.loops_fit in let z : 0 < s.stack = omega arith in λ x w. likewise _ _ _ _ _ _ (c.next_pass.ensures x w) (rw (length-take-le s.stack stack h, le-ltb 65536 c.args.s.stack (omega arith), ← top-at s.stack stack z h, sym c.le.ensures ∙ c.if-le.false, length-take-le s.loops loops g, lt-ltb 0 s.loops (omega arith)))
