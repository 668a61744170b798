use Rattle.program.proofs.AsBefore.{rows_all}
use Rattle.program.proofs.laws.rows_all.Goals as goal

pub returns : goal.returns
returns c = rows_all
