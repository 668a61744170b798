use Rattle.numeric.proofs.OneNan.{enters}
use Rattle.numeric.proofs.laws.one_nan_enters.Goals as goal

pub returns : goal.returns
returns c = enters
