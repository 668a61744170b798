use Rattle.std.proofs.Common.{◌≡◌, ◌++◌, drop}
use Rattle.print.specs.Page.{written}
use Rattle.report.specs.Account.{numbers_end}
use Rattle.report.proofs.account.append_numbers.Given as goal

abbrev pub invariant-loop-number : goal.invariant-loop-number
invariant-loop-number g l = written l.fn.page (l.fn.name ++ numbers_end l.fn.numbers) ≡ written l.page (numbers_end (drop l.number-index l.numbers))
