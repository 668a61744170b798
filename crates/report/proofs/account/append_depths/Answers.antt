use Rattle.print.proofs.Pages.{then}
use Rattle.report.specs.Account.{depths_text, three_line, numbers_end}
use Rattle.report.proofs.account.append_depths.Goals as goal

pub returns : goal.returns
unfolding depths_text three_line numbers_end
returns g c = then _ _ _ c.append_numbers.ensures (then _ _ _ c.append_temps_line.ensures (then _ _ _ c.append_numbers-2.ensures c.append_field.ensures))
