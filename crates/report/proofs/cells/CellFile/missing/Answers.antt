use Rattle.std.proofs.Common.{◌∙◌}
use Rattle.std.proofs.lemmas.List.{take-replicate}
use Rattle.report.proofs.cells.CellFile.missing.Goals as goal

pub returns : goal.returns
returns c = rw (c.truncate.ensures.items, c.from-bytes.ensures.0) (take-replicate c.len.result 2313 0 c.len.ensures.fits ∙ rw c.len.ensures.value)
