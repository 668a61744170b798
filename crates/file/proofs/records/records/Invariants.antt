use mathlib.Core.Path.{◌≡◌}
use Rattle.file.proofs.Ascending.{of_code}
use Rattle.file.proofs.records.records.Given as goal

abbrev pub invariant-loop-bytes : goal.invariant-loop-bytes
invariant-loop-bytes l =
    (l.bytes-iterator.size ≡ 8)
    × (of_code l.for_converter l.bounds.counts l.code ≡ of_code l.for_converter l.bounds.counts l.bytes-iterator.rest.now)
