use Rattle.convert_laws.proofs.Untouched.{changes_only_withdrawn}
use Rattle.convert_laws.proofs.laws.changes_only_withdrawn.Goals as goal

pub returns : goal.returns
returns c = changes_only_withdrawn
