use Rattle.std.proofs.Common.{◌≡◌, ◌<◌, ◌++◌, take, drop}
use Rattle.print.specs.Decimal.{product}
use Rattle.print.proofs.decimal.Natural.times.Given as goal

abbrev pub invariant-loop-digit : goal.invariant-loop-digit
invariant-loop-digit l =
    (l.carry < 10000) × (take l.digit-index l.digit-items ++ product l.k l.carry (drop l.digit-index l.digit-items) ≡ product l.k 0 l.initial.digit-items)
