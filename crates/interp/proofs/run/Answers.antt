use native.Mathlib.Omega.{arith}
use mathlib.Core.Path.{refl, ◌∙◌, ap}
use Rattle.std.proofs.lemmas.Grind.{common_steps}
use Rattle.eval.specs.Run.{goes_on}
use Rattle.interp.specs.Moves.{stores_in}
use Rattle.interp.proofs.Settle.{settled, begins}
use Rattle.interp.proofs.run.Goals as goal

pub go-s-requires : goal.go-s-requires
go-s-requires c =
    let a = c.args in
    let z = c.start.ensures (stores_in a.lent.now a.temps.now) in
    record { within = z.within; sized = c.requires; running = ap goes_on z.same }

pub returns-clause-leaves : goal.returns-clause-leaves
returns-clause-leaves c =
    let a = c.args in
    let w = c.go-s.ensures.ends.within in
    let k = c.go-s.ensures.same_lent in
    settled _ c.go-s.result _ _ _ _ _ _ _ _ record { on_stack = omega arith; on_loops = omega arith; on_handlers = omega arith }
    (grind (arith, common_steps))
    (grind (arith, common_steps))
    (grind (arith, common_steps))
    (c.go-s.ensures.ends.same ∙ begins _ _ _ _ (c.start.ensures (stores_in a.lent.now a.temps.now)).same refl refl)
