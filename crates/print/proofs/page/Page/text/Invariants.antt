use Rattle.std.proofs.Common.{◌≡◌, take}
use Rattle.print.specs.Page.{written}
use Rattle.print.proofs.page.Page.text.Given as goal

abbrev pub invariant-loop-byte : goal.invariant-loop-byte
invariant-loop-byte g l = l.self ≡ written l.fn.self (take l.byte-index l.text)
