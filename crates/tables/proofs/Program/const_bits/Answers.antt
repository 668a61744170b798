use Rattle.std.proofs.Common.{arith, ◌∙◌, lt-ltb}
use Rattle.tables.proofs.Entries.{number-in}
use Rattle.tables.proofs.Program.const_bits.Goals as goal

pub returns-in-Some : goal.returns-in-Some
returns-in-Some c = rw (lt-ltb _ _ c.in-Some.ensures.0) (c.number_at.ensures ∙ number-in 4 4 c.args.c.0 0 _ _ c.in-Some.ensures.1 (omega arith) (omega arith))
