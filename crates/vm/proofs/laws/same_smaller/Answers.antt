use Rattle.vm.proofs.TwoLimits.{same-smaller}
use Rattle.vm.proofs.laws.same_smaller.Goals as goal

pub returns : goal.returns
returns c = same-smaller
