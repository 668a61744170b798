use Rattle.pops.proofs.Counted.{counted_in_calls}
use Rattle.pops.proofs.laws.counted_in_calls.Goals as goal

pub returns : goal.returns
returns c = counted_in_calls
