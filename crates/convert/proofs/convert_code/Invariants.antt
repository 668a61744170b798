use Rattle.convert.proofs.Progress.{Reached}
use Rattle.convert.proofs.convert_code.Given as goal

abbrev pub invariant-loop-i : goal.invariant-loop-i
invariant-loop-i l = Reached l.fn.code l.code l.i l.records
