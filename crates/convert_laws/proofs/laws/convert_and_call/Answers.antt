use Rattle.convert_laws.proofs.Accounts.{leaves, stored_call}
use Rattle.convert_laws.proofs.laws.convert_and_call.Goals as goal

pub returns-clause-file : goal.returns-clause-file
returns-clause-file c = leaves _ c.convert.ensures

pub returns-clause-answer : goal.returns-clause-answer
returns-clause-answer c = stored_call _ c.convert.ensures c.call.ensures
