use Rattle.std.proofs.Common.{sym, ◌∙◌}
use Rattle.std.specs.Iterator.Adapters.{enumerate_source}
use Rattle.print.specs.Page.{written}
use Rattle.report.proofs.Lists.{pieces_end}
use Rattle.report.proofs.cells.append_cells.Goals as goal

pub returns : goal.returns
unfolding written
returns g c =
    sym (c.loop-i.invariant ∙ rw (pieces_end _ _ (enumerate_source c.loop-i.i-iterator) (enumerate_source c.next.new.self) c.in-None.ensures.steps.0))
