use Rattle.eval.proofs.Takes.{often-taken}
use Rattle.eval.proofs.laws.taken_at_once.Goals as goal

pub returns : goal.returns
returns c = often-taken
