use Rattle.passes.proofs.Exact.{exact_in_calls}
use Rattle.passes.proofs.laws.exact_in_calls.Goals as goal

pub returns : goal.returns
returns c = exact_in_calls
