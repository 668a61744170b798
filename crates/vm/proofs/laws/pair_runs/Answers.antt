use Rattle.vm.proofs.TwelveRuns.{pair_runs}
use Rattle.vm.proofs.laws.pair_runs.Goals as goal

pub returns : goal.returns
returns c = pair_runs
