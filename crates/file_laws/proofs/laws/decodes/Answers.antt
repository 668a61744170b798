use Rattle.file_laws.proofs.Decodes.{decodes}
use Rattle.file_laws.proofs.laws.decodes.Goals as goal

pub returns : goal.returns
returns c = decodes
