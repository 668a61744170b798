use Rattle.vm.proofs.TwoLimits.{two_limits}
use Rattle.vm.proofs.laws.two_limits.Goals as goal

pub returns : goal.returns
returns c = two_limits
