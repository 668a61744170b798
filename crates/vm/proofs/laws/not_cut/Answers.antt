use Rattle.vm.proofs.TwoLimits.{not_cut}
use Rattle.vm.proofs.laws.not_cut.Goals as goal

pub returns : goal.returns
returns c = not_cut
