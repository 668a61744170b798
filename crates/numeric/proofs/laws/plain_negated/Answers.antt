use Rattle.numeric.proofs.Posts.{plain-negated}
use Rattle.numeric.proofs.laws.plain_negated.Goals as goal

pub returns : goal.returns
returns c = plain-negated
