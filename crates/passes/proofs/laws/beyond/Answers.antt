use Rattle.passes.proofs.Beyond.{no_float, not_beyond, values-beyond, next-less_one, endless-less_one, stuck-less_one, endless_lasts, stuck_lasts, nan_lasts}
use Rattle.passes.proofs.laws.beyond.Goals as goal

pub returns-clause-no_float : goal.returns-clause-no_float
returns-clause-no_float c = no_float

pub returns-clause-not_beyond : goal.returns-clause-not_beyond
returns-clause-not_beyond c = not_beyond

pub returns-clause-next_value : goal.returns-clause-next_value
returns-clause-next_value c = values-beyond.0

pub returns-clause-next_less_one : goal.returns-clause-next_less_one
returns-clause-next_less_one c = next-less_one

pub returns-clause-endless_value : goal.returns-clause-endless_value
returns-clause-endless_value c = values-beyond.1

pub returns-clause-endless_less_one : goal.returns-clause-endless_less_one
returns-clause-endless_less_one c = endless-less_one

pub returns-clause-stuck_value : goal.returns-clause-stuck_value
returns-clause-stuck_value c = values-beyond.2

pub returns-clause-stuck_less_one : goal.returns-clause-stuck_less_one
returns-clause-stuck_less_one c = stuck-less_one

pub returns-clause-endless_lasts : goal.returns-clause-endless_lasts
returns-clause-endless_lasts c = endless_lasts

pub returns-clause-stuck_lasts : goal.returns-clause-stuck_lasts
returns-clause-stuck_lasts c = stuck_lasts

pub returns-clause-nan_lasts : goal.returns-clause-nan_lasts
returns-clause-nan_lasts c = nan_lasts
