use Rattle.vm.proofs.TwelveRuns.{twelve_runs}
use Rattle.vm.proofs.laws.twelve_runs.Goals as goal

pub returns : goal.returns
returns c = twelve_runs
