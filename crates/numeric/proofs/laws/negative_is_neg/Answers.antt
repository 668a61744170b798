use Rattle.numeric.proofs.Signs.{negative_is_neg}
use Rattle.numeric.proofs.laws.negative_is_neg.Goals as goal

pub returns : goal.returns
returns c = negative_is_neg
