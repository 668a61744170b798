use Rattle.print.proofs.Pages.{keeps_page, filled}
use Rattle.print.proofs.laws.keeps_page.Goals as goal

pub returns-clause-keeps : goal.returns-clause-keeps
returns-clause-keeps c = keeps_page

pub returns-clause-fills : goal.returns-clause-fills
returns-clause-fills c = filled
