use Rattle.nans.proofs.Stands.{one_nan_in_calls}
use Rattle.nans.proofs.laws.one_nan_in_calls.Goals as goal

pub returns : goal.returns
returns c = one_nan_in_calls
