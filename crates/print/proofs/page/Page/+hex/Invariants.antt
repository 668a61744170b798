use Rattle.print.proofs.page.Page.+hex.Given as goal

abbrev pub decreases-hex : goal.decreases-hex
decreases-hex g l = l.k
