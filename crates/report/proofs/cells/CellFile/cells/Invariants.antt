use Rattle.std.proofs.Common.{◌≡◌, ◌+◌, ◌*◌, ◌≤◌, length, drop}
use Rattle.std.specs.Slice.Iter.{chunks_exact_rest, chunks_exact_size}
use Rattle.report.specs.Cells.{kinds_from, values_from}
use Rattle.report.proofs.cells.CellFile.cells.Given as goal

abbrev pub invariant-loop-cell : goal.invariant-loop-cell
invariant-loop-cell l = record {
  nine : chunks_exact_size l.cell-iterator ≡ 9;
  rest : drop (length l.yielded * 9) l.self.bytes.items ≡ chunks_exact_rest l.cell-iterator;
  room : length l.yielded * 9 + length (chunks_exact_rest l.cell-iterator) ≤ 2313;
  kinds : l.kinds.items ≡ kinds_from (length l.yielded) l.self.bytes.items 0;
  values : l.values.items ≡ values_from (length l.yielded) l.self.bytes.items 0;
}
