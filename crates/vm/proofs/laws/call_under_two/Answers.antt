use mathlib.Core.Path.{◌≡◌, ◌∙◌, ap}
use Rattle.eval.specs.Machine.{Lent, cells_of, lent_of}
use Rattle.vm.specs.Call.{Brought}
use Rattle.vm.specs.Called.{called}
use Rattle.vm.specs.Limits.{Pair}
use Rattle.vm.specs.declared.Terms.{Terms}
use Rattle.vm.proofs.TwoLimits.{two_calls}
use Rattle.vm.proofs.laws.call_under_two.Goals as goal

pub returns : goal.returns
returns c =
    let a = c.args in
    let q = c.requires in
    let context = cells_of a.context.kinds.now a.context.values.now in
    let brought : Brought =
    record { file = a.file.now; lent = lent_of a.kinds.now a.values.now a.stack.now a.loops.now a.handlers.now; context = context; terms = a.terms } in
    let larger : Terms =
    record { this = a.terms.this; step_limit = a.more; loop_limit = a.terms.loop_limit; house_limit = a.more_house } in
    let m : Pair = record { guest = a.terms.step_limit; house = a.terms.house_limit } in
    let n : Pair = record { guest = a.more; house = a.more_house } in
    let same : lent_of a.more_kinds.now a.more_values.now a.more_stack.now a.more_loops.now a.more_handlers.now ≡ brought.lent =
    rw (q.kinds, q.values, q.stack, q.loops, q.handlers) in
    let second = c.call-second.ensures ∙ ap (λ (l : Lent). called (record { file = a.file.now; lent = l; context = context; terms = larger })) same in
    λ ok l. two_calls brought ok m n l _ _ c.call-first.ensures second
