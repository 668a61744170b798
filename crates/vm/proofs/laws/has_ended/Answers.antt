use Rattle.vm.proofs.Accounts.{has_ended, none_goes_on}
use Rattle.vm.proofs.laws.has_ended.Goals as goal

pub returns-clause-ended : goal.returns-clause-ended
returns-clause-ended c = has_ended

pub returns-clause-accounts : goal.returns-clause-accounts
returns-clause-accounts c = none_goes_on
