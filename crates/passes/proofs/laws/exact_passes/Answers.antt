use Rattle.passes.proofs.Exact.{exact_passes}
use Rattle.passes.proofs.laws.exact_passes.Goals as goal

pub returns : goal.returns
returns c = exact_passes
