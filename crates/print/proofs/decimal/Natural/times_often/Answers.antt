use Rattle.std.proofs.Common.{arith}
use Rattle.print.proofs.Places.{power_room}
use Rattle.print.proofs.decimal.Natural.times_often.Goals as goal

pub times-requires : goal.times-requires
times-requires c = rw c.loop.invariant (power_room _ _ _ _ _ (omega arith) c.requires)
