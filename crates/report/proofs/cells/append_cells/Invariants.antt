use Rattle.std.proofs.Common.{◌≡◌}
use Rattle.std.specs.Iterator.Adapters.{enumerate_count, enumerate_source, zip_first, zip_second}
use Rattle.std.specs.Slice.Iter.{iter_rest}
use Rattle.print.specs.Page.{written}
use Rattle.report.specs.Cells.{cell_line, cells_text}
use Rattle.report.specs.Pieces.{pieces}
use Rattle.report.proofs.cells.append_cells.Given as goal

abbrev pub invariant-loop-i : goal.invariant-loop-i
invariant-loop-i g l =
    written l.fn.page (cells_text l.fn.cells.kinds.items l.fn.cells.values.items)
    ≡ written l.page (pieces cell_line (enumerate_count l.i-iterator) (iter_rest (zip_first (enumerate_source l.i-iterator))) (iter_rest (zip_second (enumerate_source l.i-iterator))))
