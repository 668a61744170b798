use Rattle.nans.proofs.Stands.{one_nan_lem}
use Rattle.nans.proofs.laws.one_nan.Goals as goal

pub returns : goal.returns
returns c = one_nan_lem
