use Rattle.passes.proofs.Exact.{exact_end}
use Rattle.passes.proofs.laws.exact_end.Goals as goal

pub returns : goal.returns
returns c = exact_end
