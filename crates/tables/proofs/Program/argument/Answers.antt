use Rattle.std.proofs.Common.{arith, ◌∙◌, lt-ltb}
use Rattle.tables.specs.Tables.{argument_at}
use Rattle.tables.proofs.Entries.{number-in}
use Rattle.tables.proofs.Program.argument.Goals as goal

pub returns-in-Some : goal.returns-in-Some
unfolding argument_at
returns-in-Some c = rw (lt-ltb _ _ c.in-Some.ensures.0) (c.number_at.ensures ∙ number-in 4 8 c.args.pos 4 _ _ c.in-Some.ensures.1 (omega arith) (omega arith))
