use Rattle.std.proofs.Common.{◌≡◌, ◌-◌, ◌++◌, take}
use Rattle.print.specs.Decimal.{places}
use Rattle.print.proofs.decimal.NaturalFromU32.from.Given as goal

abbrev pub invariant-loop-digit : goal.invariant-loop-digit
invariant-loop-digit l = take l.digit-index l.digit-items ++ places (200 - l.digit-index) l.rest ≡ places 200 l.n
