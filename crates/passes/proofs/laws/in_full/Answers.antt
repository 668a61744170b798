use Rattle.passes.proofs.Exact.{in_full}
use Rattle.passes.proofs.laws.in_full.Goals as goal

pub returns : goal.returns
returns c = in_full
