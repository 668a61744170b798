use Rattle.vm.proofs.TwoLimits.{read_off}
use Rattle.vm.proofs.laws.read_off.Goals as goal

pub returns : goal.returns
returns c = read_off
