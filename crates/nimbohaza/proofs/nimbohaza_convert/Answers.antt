use Rattle.std.proofs.Math.Facts.{Fits-of_lt}
use Rattle.nimbohaza.proofs.Few.{fits}
use Rattle.nimbohaza.proofs.nimbohaza_convert.Goals as goal

pub overflow_cast-result : goal.overflow_cast-result
overflow_cast-result c = Fits-of_lt (fits _ _ _ c.in-Ok.ensures)
