use Rattle.vm.proofs.NotTwoLimits.{not_early, not_dear, not_clearing, not_guest_alone, not_house_alone, not_larger, not_popping, not_free}
use Rattle.vm.proofs.laws.not_two_limits.Goals as goal

pub returns-clause-not_early : goal.returns-clause-not_early
returns-clause-not_early c = not_early

pub returns-clause-not_dear : goal.returns-clause-not_dear
returns-clause-not_dear c = not_dear

pub returns-clause-not_clearing : goal.returns-clause-not_clearing
returns-clause-not_clearing c = not_clearing

pub returns-clause-not_guest_alone : goal.returns-clause-not_guest_alone
returns-clause-not_guest_alone c = not_guest_alone

pub returns-clause-not_house_alone : goal.returns-clause-not_house_alone
returns-clause-not_house_alone c = not_house_alone

pub returns-clause-not_larger : goal.returns-clause-not_larger
returns-clause-not_larger c = not_larger

pub returns-clause-not_popping : goal.returns-clause-not_popping
returns-clause-not_popping c = not_popping

pub returns-clause-not_free : goal.returns-clause-not_free
returns-clause-not_free c = not_free
