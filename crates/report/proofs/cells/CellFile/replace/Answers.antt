use Rattle.std.proofs.Common.{append-nil}
use Rattle.report.proofs.Lists.{pieces_end}
use Rattle.report.proofs.cells.CellFile.replace.Goals as goal

pub returns : goal.returns
returns c = rw (pieces_end _ _ c.loop-kind.kind-iterator c.next.new.self c.in-None.ensures.steps, append-nil) at c.loop-kind.invariant.put
