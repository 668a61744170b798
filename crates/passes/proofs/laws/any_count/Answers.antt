use Rattle.passes.proofs.RunFive.{any_count, run_five, run_six}
use Rattle.passes.proofs.laws.any_count.Goals as goal

pub returns-clause-any_count : goal.returns-clause-any_count
returns-clause-any_count c = any_count

pub returns-clause-run_five : goal.returns-clause-run_five
returns-clause-run_five c = run_five

pub returns-clause-run_six : goal.returns-clause-run_six
returns-clause-run_six c = run_six
