use native.Mathlib.Omega.{arith}
use mathlib.Core.Path.{refl}
use Rattle.eval.specs.Machine.{cells_of}
use Rattle.interp.specs.Moves.{lent_in}
use Rattle.vm.specs.Call.{Brought}
use Rattle.vm.proofs.Settled.{not_overdrawn, has_run}
use Rattle.vm.proofs.run.Goals as goal

pub overflow_sub-remainders : goal.overflow_sub-remainders
overflow_sub-remainders c =
    let k = not_overdrawn _ _ _ _ _ c.run-s.result _ c.run-s.ensures.leaves c.smaller.ensures refl in
    omega (arith, k.by_guest)

pub overflow_sub-remainders-2 : goal.overflow_sub-remainders-2
overflow_sub-remainders-2 c =
    let k = not_overdrawn _ _ _ _ _ c.run-s.result _ c.run-s.ensures.leaves c.smaller.ensures refl in
    omega (arith, k.by_house)

pub returns-clause-ran : goal.returns-clause-ran
returns-clause-ran c =
    let a = c.args in
    let brought : Brought =
    record { file = a.file.now; lent = lent_in a.lent.now; context = cells_of a.context.kinds.now a.context.values.now; terms = a.terms } in
    let p = c.limits-limits.ensures in
    let k = c.run-s.ensures.same_lent in
    let ran = rw (c.enter.ensures, c.code.ensures, c.consts.ensures, c.posts.ensures, c.hashes.ensures, c.smaller.ensures, p) at c.run-s.ensures.leaves in
    rw p (has_run brought c.run-s.result _ ran _ c.new.ensures k.stack_room k.loop_room k.handler_room)
