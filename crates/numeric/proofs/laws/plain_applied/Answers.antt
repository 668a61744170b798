use Rattle.numeric.proofs.Posts.{plain-applied}
use Rattle.numeric.proofs.laws.plain_applied.Goals as goal

pub returns : goal.returns
returns c = plain-applied
