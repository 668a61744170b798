use Rattle.convert_laws.proofs.Records.{parts_made}
use Rattle.convert_laws.proofs.laws.parts_made.Goals as goal

pub returns : goal.returns
returns c = parts_made
