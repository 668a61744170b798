use Prim.Native.Nat.{◌+◌, ◌-◌, ◌*◌}
use native.Mathlib.Omega.{arith}
use mathlib.Core.Path.{◌≡◌, sym}
use Rattle.convert.proofs.Progress.{begun, step, ended, counted}
use Rattle.convert.proofs.convert_code.Goals.{then-convert_record, else-convert_record}
use Rattle.convert.proofs.convert_code.Goals as goal

pub loop-i-init : goal.loop-i-init
loop-i-init c = begun c.args.code.now

pub overflow_add-records : goal.overflow_add-records
overflow_add-records c = let f = c.loop-i.invariant.few in omega arith

pub loop-i-preserved : goal.loop-i-preserved
loop-i-preserved c =
    let i = c.loop-i.i in
    let k : i * 8 + 8 - i * 8 ≡ 8 = omega arith in
    let bytes = rw k at c.convert_record.ensures.bytes in
    let withdrawn = rw k at c.convert_record.ensures.withdrawn in
    rw (k, bytes) (step c.loop-i.invariant c.loop-i.auto.code c.loop-i-test.true c.if-convert_record.records (elim c.if-convert_record.branch [
      | then-convert_record w ↦ rw (← withdrawn, w.if-convert_record.true) w.records-is
      | else-convert_record w ↦ rw (← withdrawn, w.if-convert_record.false) (let n = w.records-is in omega arith)
    ]))

pub returns-clause-code : goal.returns-clause-code
returns-clause-code c = sym (ended c.loop-i.invariant (omega arith))

pub returns-clause-records : goal.returns-clause-records
returns-clause-records c = sym (counted c.loop-i.invariant (omega arith))
