use Rattle.passes.proofs.Exact.{one_fewer}
use Rattle.passes.proofs.laws.one_fewer.Goals as goal

pub returns : goal.returns
returns c = one_fewer
