use Rattle.std.proofs.Common.{sym, ◌∙◌}
use Rattle.print.specs.Page.{written}
use Rattle.report.proofs.Lists.{pieces_end}
use Rattle.report.proofs.account.append_temps.Goals as goal

pub returns : goal.returns
unfolding written
returns g c = sym (c.loop-given.invariant ∙ rw (pieces_end _ _ c.loop-given.given-iterator c.next.new.self c.in-None.ensures.steps))
