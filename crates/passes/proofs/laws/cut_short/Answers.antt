use Rattle.passes.proofs.Exact.{cut_short}
use Rattle.passes.proofs.laws.cut_short.Goals as goal

pub returns : goal.returns
returns c = cut_short
