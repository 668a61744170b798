use Rattle.eval.proofs.Steps.{onto}
use Rattle.eval.specs.Acts.{store_temp}
use Rattle.eval.specs.State.{run, temps_of, with_temps}
use mathlib.Core.Path.{refl}
use native.Mathlib.Omega.{arith}
use Rattle.eval.proofs.Temps.{stored_at}
use Rattle.eval.proofs.ops.store_temp.Goals as goal

pub returns : goal.returns
unfolding store_temp
returns c =
    let t = c.args.t.0 in
    let temps = c.args.temps.now in
    onto _ _ _ _ _ _ _ c.load.ensures (λ x m. refl) (λ x w. w)
    (λ x w. record { on_stack = omega arith; on_loops = omega arith; on_handlers = omega arith })
    (λ x. record { stack = refl; loops = refl; handlers = refl })
    (λ x w. rw (c.put.ensures, c.apply.ensures, stored_at temps c.told-temps t c.args.s.acc (run c.args.s (with_temps (temps_of temps) x)).machine))
