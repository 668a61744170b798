use Rattle.numeric.proofs.Whole.{cut_is}
use Rattle.numeric.proofs.laws.cut_is.Goals as goal

pub returns : goal.returns
returns c = cut_is
