use Rattle.convert_laws.proofs.Accepted.{reader_leaves}
use Rattle.convert_laws.proofs.laws.reader_leaves.Goals as goal

pub returns : goal.returns
returns c = reader_leaves
