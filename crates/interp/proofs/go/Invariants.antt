use Prim.Native.Nat.{◌-◌}
use Rattle.interp.proofs.Turns.{Turning}
use Rattle.interp.proofs.go.Given as goal

abbrev pub invariant-loop-s : goal.invariant-loop-s
invariant-loop-s l = Turning l.task l.initial.s l.initial.lent l.initial.temps l.s l.lent l.temps

abbrev pub decreases-loop-s : goal.decreases-loop-s
decreases-loop-s l = l.task.limit - l.s.charges
