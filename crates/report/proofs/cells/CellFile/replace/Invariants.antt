use Rattle.std.proofs.Common.{◌≡◌, ◌+◌, ◌*◌, ◌≤◌, ◌++◌, length}
use Rattle.std.specs.Iterator.Adapters.{zip_first, zip_second}
use Rattle.std.specs.Slice.Iter.{iter_rest}
use Rattle.report.specs.Cells.{cell_bytes, cells_bytes}
use Rattle.report.specs.Pieces.{pieces}
use Rattle.report.proofs.cells.CellFile.replace.Given as goal

abbrev pub invariant-loop-kind : goal.invariant-loop-kind
invariant-loop-kind l = record {
  put : l.self.bytes.items ++ pieces cell_bytes (length l.yielded) (iter_rest (zip_first l.kind-iterator)) (iter_rest (zip_second l.kind-iterator)) ≡ cells_bytes l.cells.kinds.items l.cells.values.items;
  room : length l.self.bytes.items + 9 * length (iter_rest (zip_first l.kind-iterator)) ≤ 2313;
}
