use Rattle.std.proofs.Common.{rules, tests, ℕ, not, eqb, take, ◌∙◌, arith}
use Rattle.std.proofs.lemmas.Iterator.{YieldsList-from_slice}
use Rattle.std.proofs.lemmas.Iterator.Search.{any_from_yields_List}
use Rattle.print.proofs.Nine.{some_below}
use Rattle.print.proofs.decimal.Natural.has_below.Goals as goal

pub returns : goal.returns
returns c =
    let xs = take c.args.k c.self.inside.digits in
    any_from_yields_List (λ (d : ℕ). not (eqb d 0)) _ _ c.any.result c.any.ensures.ran (YieldsList-from_slice xs cc) (λ x b q k. search (rules, tests)) ∙ some_below _ _ _ (rw c.self.view_is at c.self.invariant) (omega arith)
