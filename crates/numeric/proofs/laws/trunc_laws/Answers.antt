use Rattle.numeric.proofs.WholeLaws.{trunc_laws}
use Rattle.numeric.proofs.laws.trunc_laws.Goals as goal

pub returns : goal.returns
returns c = trunc_laws
