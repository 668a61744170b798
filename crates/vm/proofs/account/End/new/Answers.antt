use mathlib.Core.Path.{ap}
use lib.Seq.{length-take-le}
use Rattle.eval.proofs.Stacks.{length_handlers}
use Rattle.eval.specs.Machine.{Temps}
use Rattle.vm.specs.Account.{end_of}
use Rattle.vm.proofs.account.End.new.Goals as goal

pub returns : goal.returns
unfolding end_of
returns c =
    λ x w.
    let numbers = ap (λ (t : Temps). t.numbers) c.from-2.ensures in
    let given = ap (λ (t : Temps). t.given) c.from-2.ensures in
    rw (
      length-take-le _ x.lent.stack w.on_stack,
      length-take-le _ x.lent.loops w.on_loops,
      length_handlers _ x.lent.handlers w.on_handlers,
      c.from.ensures,
      c.value_of.ensures,
      c.position_of.ensures,
      ← numbers,
      ← given,
    )
