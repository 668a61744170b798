use Rattle.vm.proofs.Accounts.{nothing-taken}
use Rattle.vm.proofs.laws.nothing_taken.Goals as goal

pub returns : goal.returns
returns c = nothing-taken
