use Rattle.std.proofs.Common.{arith, ◌+◌, ◌*◌, ◌∙◌, lt-ltb, refl}
use Rattle.tables.specs.Tables.{instr_at}
use Rattle.tables.proofs.Entries.{number-in, byte-in}
use Rattle.tables.proofs.Program.fetch.Goals as goal

pub returns-in-Some : goal.returns-in-Some
unfolding instr_at
returns-in-Some c =
    let is = c.in-Some.ensures.1 in
    let i = c.args.pos in
    let opcode = byte-in 8 i 0 (i * 8) _ is (omega arith) (omega arith) in
    let choice = byte-in 8 i 1 (i * 8 + 1) _ is (omega arith) (omega arith) in
    let post = c.number_at.ensures ∙ number-in 2 8 i 2 (i * 8 + 2) _ is (omega arith) (omega arith) in
    let argument = c.number_at-in-Some.ensures ∙ number-in 4 8 i 4 (i * 8 + 4) _ is (omega arith) (omega arith) in
    rw (lt-ltb _ _ c.in-Some.ensures.0) (c.decode.ensures ∙ rw (opcode, choice, post, argument) refl)
