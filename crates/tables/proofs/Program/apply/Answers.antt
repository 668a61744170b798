use mathlib.Core.Path.{sym, ◌∙◌}
use Rattle.numeric.proofs.Posts.{plain-applied}
use Rattle.tables.specs.Tables.{post_at}
use Rattle.tables.proofs.Program.apply.Goals as goal

pub returns-then-eq : goal.returns-then-eq
unfolding post_at
returns-then-eq c = rw (sym c.eq.ensures ∙ c.if-eq.true) (sym (plain-applied _))
