use Rattle.std.proofs.Common.{◌∙◌, arith, ap, length}
use Rattle.print.proofs.Digits.{few_digits, some_digits}
use Rattle.print.proofs.Pages.{fresh}
use Rattle.print.proofs.Forms.{finite_laid}
use Rattle.print.proofs.page.Page.finite.Goals as goal

pub overflow_sub-first : goal.overflow_sub-first
overflow_sub-first g c =
    let q = c.nearest-first.result.digits in
    let d = fresh _ 20 _ _ (c.number.ensures ∙ rw c.new-page.ensures) c.used-digits.ensures (few_digits q (omega arith)) in
    omega (arith, ap length d, some_digits q (omega arith))

pub returns : goal.returns
returns g c =
    let q = c.nearest-first.result.digits in
    let d = fresh _ 20 _ _ (c.number.ensures ∙ rw c.new-page.ensures) c.used-digits.ensures (few_digits q (omega arith)) in
    c.laid.ensures ∙ rw (c.trimmed.ensures, finite_laid _ _ _ c.nearest-first.ensures.rounded d, c.units-number.ensures)
