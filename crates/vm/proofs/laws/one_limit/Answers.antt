use Rattle.vm.proofs.OneLimit.{one_limit, kept, covered}
use Rattle.vm.proofs.laws.one_limit.Goals as goal

pub returns-clause-one : goal.returns-clause-one
returns-clause-one c = one_limit

pub returns-clause-kept : goal.returns-clause-kept
returns-clause-kept c = kept

pub returns-clause-covered : goal.returns-clause-covered
returns-clause-covered c = covered
