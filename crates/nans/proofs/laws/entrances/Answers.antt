use Rattle.nans.proofs.Entrances.{floats_enter, hashes_enter, not_told, made_up}
use Rattle.nans.proofs.laws.entrances.Goals as goal

pub returns-clause-floats_enter : goal.returns-clause-floats_enter
returns-clause-floats_enter c = floats_enter

pub returns-clause-hashes_enter : goal.returns-clause-hashes_enter
returns-clause-hashes_enter c = hashes_enter

pub returns-clause-not_told : goal.returns-clause-not_told
returns-clause-not_told c = not_told

pub returns-clause-made_up : goal.returns-clause-made_up
returns-clause-made_up c = made_up
