use Rattle.std.proofs.Common.{◌≡◌, ◌-◌, ◌+◌, suc, arith, refl}
use Rattle.print.specs.Decimal.{places}
use Rattle.print.proofs.Places.{fill_more, fill_done, says, placed}
use Rattle.print.proofs.decimal.NaturalFromU32.from.Goals as goal

pub loop-digit-preserved : goal.loop-digit-preserved
loop-digit-preserved c =
    let l = c.loop-digit in
    let w : 200 - l.digit-index ≡ suc (200 - (l.digit-index + 1)) = omega arith in
    fill_more _ _ _ _ _ _ (omega arith) refl (rw w at l.invariant)

filled : (c : goal.After-loop-digit) → c.loop-digit.digit-items ≡ places 200 c.args.n
filled c = fill_done _ _ _ _ _ (omega arith) (omega arith) c.loop-digit.invariant

pub invariant_of-result : goal.invariant_of-result
invariant_of-result c = placed _ _ (filled c) (omega arith)

pub returns : goal.returns
returns c = says _ _ (filled c) (omega arith)
