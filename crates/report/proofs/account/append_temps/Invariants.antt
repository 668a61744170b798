use Rattle.std.proofs.Common.{◌≡◌, length}
use Rattle.std.specs.Iterator.Adapters.{zip_first, zip_second}
use Rattle.std.specs.Slice.Iter.{iter_rest}
use Rattle.print.specs.Page.{written}
use Rattle.report.specs.Account.{temp_text, temps_text}
use Rattle.report.specs.Pieces.{pieces}
use Rattle.report.proofs.account.append_temps.Given as goal

abbrev pub invariant-loop-given : goal.invariant-loop-given
invariant-loop-given g l =
    written l.fn.page (temps_text l.fn.given l.fn.numbers)
    ≡ written l.page (pieces (λ i. temp_text) (length l.yielded) (iter_rest (zip_first l.given-iterator)) (iter_rest (zip_second l.given-iterator)))
