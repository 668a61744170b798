use Rattle.numeric.proofs.Fractions.{part_whole, part_more}
use Rattle.numeric.proofs.laws.whole_parts.Goals as goal

pub returns-clause-whole : goal.returns-clause-whole
returns-clause-whole c = part_whole

pub returns-clause-more : goal.returns-clause-more
returns-clause-more c = part_more
