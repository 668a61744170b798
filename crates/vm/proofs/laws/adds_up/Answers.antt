use Rattle.vm.proofs.Accounts.{adds_up}
use Rattle.vm.proofs.laws.adds_up.Goals as goal

pub returns : goal.returns
returns c = adds_up
