use Rattle.numeric.proofs.WholeLaws.{ceil_laws}
use Rattle.numeric.proofs.laws.ceil_laws.Goals as goal

pub returns : goal.returns
returns c = ceil_laws
