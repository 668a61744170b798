use Rattle.program.proofs.Decoding.{listed}
use Rattle.program.proofs.laws.listed.Goals as goal

pub returns : goal.returns
returns c = listed
