use Rattle.std.proofs.Common.{arith, refl}
use Rattle.print.proofs.Places.{times_more, multiplied, says, placed, byte_product}
use Rattle.print.proofs.decimal.Natural.times.Goals as goal

pub loop-digit-preserved : goal.loop-digit-preserved
loop-digit-preserved c =
    let l = c.loop-digit in
    (omega (arith, byte_product), times_more _ _ _ _ _ _ _ (omega arith) refl refl l.invariant.1)

pub invariant_of-self : goal.invariant_of-self
invariant_of-self c = placed _ _ (multiplied _ _ _ _ _ _ (rw c.self.view_is at c.self.invariant) (omega arith) (omega arith) c.loop-digit.invariant.1) c.requires

pub returns : goal.returns
returns c = says _ _ (multiplied _ _ _ _ _ _ (rw c.self.view_is at c.self.invariant) (omega arith) (omega arith) c.loop-digit.invariant.1) c.requires
