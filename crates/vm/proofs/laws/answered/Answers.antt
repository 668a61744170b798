use Rattle.vm.proofs.Settled.{as_met, is_accepted, answered_by_refusal, keeps_stores}
use Rattle.vm.proofs.laws.answered.Goals as goal

pub returns-clause-refusal : goal.returns-clause-refusal
returns-clause-refusal c = as_met

pub returns-clause-accepted : goal.returns-clause-accepted
returns-clause-accepted c = is_accepted

pub returns-clause-refused : goal.returns-clause-refused
returns-clause-refused c = answered_by_refusal

pub returns-clause-stores : goal.returns-clause-stores
returns-clause-stores c = keeps_stores
