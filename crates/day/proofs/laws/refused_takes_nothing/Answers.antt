use Rattle.day.proofs.Day.{refused-takes-nothing}
use Rattle.day.proofs.laws.refused_takes_nothing.Goals as goal

pub returns : goal.returns
returns c = refused-takes-nothing
