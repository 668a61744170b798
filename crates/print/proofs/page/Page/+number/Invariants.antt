use Rattle.print.proofs.page.Page.+number.Given as goal

abbrev pub decreases-number : goal.decreases-number
decreases-number g l = l.n
