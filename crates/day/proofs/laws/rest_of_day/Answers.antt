use Rattle.day.proofs.Day.{rest_of_day}
use Rattle.day.proofs.laws.rest_of_day.Goals as goal

pub returns : goal.returns
returns c = rest_of_day
