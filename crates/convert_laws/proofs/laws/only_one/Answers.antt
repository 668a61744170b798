use Rattle.convert_laws.proofs.Untouched.{only_one}
use Rattle.convert_laws.proofs.laws.only_one.Goals as goal

pub returns : goal.returns
returns c = only_one
