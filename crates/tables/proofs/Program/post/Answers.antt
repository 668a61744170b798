use Rattle.std.proofs.Common.{arith, ◌+◌, ◌*◌, ◌∙◌, lt-ltb, refl, sym}
use Rattle.tables.specs.Tables.{post_at}
use Rattle.tables.proofs.Entries.{number-in}
use Rattle.tables.proofs.Program.post.Goals as goal

pub returns-in-Some : goal.returns-in-Some
unfolding post_at
returns-in-Some c =
    let is = c.in-Some.ensures.1 in
    let p = c.args.p.0 in
    let scale = c.number_at.ensures ∙ number-in 4 8 p 0 (p * 8) _ is (omega arith) (omega arith) in
    let offset = c.number_at-in-Some.ensures ∙ number-in 4 8 p 4 (p * 8 + 4) _ is (omega arith) (omega arith) in
    rw (sym c.eq.ensures ∙ c.if-eq.false, lt-ltb _ _ c.in-Some.ensures.0) (c.new.ensures ∙ rw (scale, offset) refl)
