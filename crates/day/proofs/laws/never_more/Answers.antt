use Rattle.day.proofs.Day.{never_more}
use Rattle.day.proofs.laws.never_more.Goals as goal

pub returns : goal.returns
returns c = never_more
