use Rattle.program.proofs.AsBefore.{each_next}
use Rattle.program.proofs.laws.each_next.Goals as goal

pub returns : goal.returns
returns c = each_next
