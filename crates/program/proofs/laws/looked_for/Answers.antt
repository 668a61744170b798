use Rattle.program.proofs.Decoding.{looked_for}
use Rattle.program.proofs.laws.looked_for.Goals as goal

pub returns : goal.returns
returns c = looked_for
