use Rattle.std.proofs.Common.{arith, ◌∙◌, lt-ltb}
use Rattle.tables.specs.Tables.{hash_at}
use Rattle.tables.proofs.Entries.{number-in}
use Rattle.tables.proofs.Program.hash.Goals as goal

pub returns-in-Some : goal.returns-in-Some
unfolding hash_at
returns-in-Some c = rw (lt-ltb _ _ c.in-Some.ensures.0) (c.number_at.ensures ∙ number-in 8 8 c.args.h.0 0 _ _ c.in-Some.ensures.1 (omega arith) (omega arith))
