use Rattle.day.proofs.Day.{day_adds_up}
use Rattle.day.proofs.laws.day_adds_up.Goals as goal

pub returns : goal.returns
returns c = day_adds_up
