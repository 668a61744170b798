use Rattle.passes.proofs.InCalls.{exact_answers}
use Rattle.passes.proofs.laws.exact_answers.Goals as goal

pub returns : goal.returns
returns c = exact_answers
