use mathlib.Core.Path.{sym, ◌∙◌}
use Rattle.interp.proofs.Turns.{turned, ended, stopped}
use Rattle.interp.proofs.go.Goals as goal

pub loop-s-preserved : goal.loop-s-preserved
loop-s-preserved c =
    let e = c.step-s.ensures in
    turned c.loop-s.invariant _ e.same_lent e.acts (sym c.is_running.ensures ∙ c.if-not-is_running.false)

pub returns-then-not-is_running-clause-ends : goal.returns-then-not-is_running-clause-ends
returns-then-not-is_running-clause-ends c =
    let e = c.step-s.ensures in
    ended c.loop-s.invariant _ e.same_lent e.acts (sym c.is_running.ensures ∙ c.if-not-is_running.true)

pub returns-clause-ends : goal.returns-clause-ends
returns-clause-ends c = stopped c.loop-s.invariant c.loop-s-test.false c.stop.ensures
