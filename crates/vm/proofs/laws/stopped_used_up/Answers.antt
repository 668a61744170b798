use Rattle.vm.proofs.UsedUp.{stopped_used_up, no_record_stops}
use Rattle.vm.proofs.laws.stopped_used_up.Goals as goal

pub returns-clause-limits : goal.returns-clause-limits
returns-clause-limits c = stopped_used_up

pub returns-clause-records : goal.returns-clause-records
returns-clause-records c = no_record_stops
