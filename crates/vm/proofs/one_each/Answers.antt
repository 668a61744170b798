use Rattle.std.proofs.Common.{ℕ, arith, rules, tests}
use Rattle.std.proofs.lemmas.Grind.{common_steps}
use Rattle.std.proofs.lemmas.Iterator.{YieldsList-from_slice, YieldsList-from_zip}
use Rattle.std.proofs.lemmas.Iterator.Search.{all_from_yields_List}
use Rattle.vm.specs.Call.{cell_fits, one_each}
use Rattle.vm.proofs.Scans.{cells_fit_zip}
use Rattle.vm.proofs.one_each.Goals as goal

pub returns-then-cells-names-2 : goal.returns-then-cells-names-2
unfolding one_each
returns-then-cells-names-2 c =
    let cells = c.args.cells in
    let e =
    all_from_yields_List (λ (p : ℕ × ℕ). cell_fits p.0 p.1) c.all.new.self _ _ c.all.ensures.ran
    (YieldsList-from_zip (YieldsList-from_slice cells.kinds.now cc) (YieldsList-from_slice cells.values.now cc))
    (λ x b q k. search (rules, tests)) in
    let z = cells_fit_zip cells.kinds.now cells.values.now in
    grind (arith, common_steps)
