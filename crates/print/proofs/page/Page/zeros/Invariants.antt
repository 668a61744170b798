use Rattle.std.proofs.Common.{◌≡◌, replicate}
use Rattle.print.specs.Page.{written}
use Rattle.print.proofs.page.Page.zeros.Given as goal

abbrev pub invariant-loop : goal.invariant-loop
invariant-loop g l = l.self ≡ written l.fn.self (replicate l.counter 48)
