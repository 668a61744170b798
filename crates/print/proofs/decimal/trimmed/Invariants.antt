use Rattle.std.proofs.Common.{◌≡◌, length}
use Rattle.print.specs.Decimal.{trimmed}
use Rattle.print.proofs.decimal.trimmed.Given as goal

abbrev pub invariant-loop-kept : goal.invariant-loop-kept
invariant-loop-kept l = trimmed l.kept ≡ trimmed l.digits

abbrev pub decreases-loop-kept : goal.decreases-loop-kept
decreases-loop-kept l = length l.kept
