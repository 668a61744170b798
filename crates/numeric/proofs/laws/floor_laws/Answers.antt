use Rattle.numeric.proofs.WholeLaws.{floor_laws}
use Rattle.numeric.proofs.laws.floor_laws.Goals as goal

pub returns : goal.returns
returns c = floor_laws
