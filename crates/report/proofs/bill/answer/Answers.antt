use Rattle.std.proofs.Common.{rules, ◌≡◌, length}
use Rattle.std.specs.List.{refill}
use Rattle.report.proofs.Bills.{refused_bill, account_bill, refilled}
use Rattle.report.proofs.bill.answer.Goals as goal
use Rattle.report.proofs.bill.answer.Goals.{in-Ok, in-Err}

pub returns : goal.returns
returns g c =
    let mine = c.cells-lent.ensures in
    let others = c.cells-others.ensures in
    let kinds = c.cells-lent.result.kinds.items in
    let values = c.cells-lent.result.values.items in
    let h = rw (c.deref_mut.ensures.value, mine.kinds, c.deref_mut-2.ensures.value, mine.values, c.context.ensures.kinds, others.kinds, c.context.ensures.values, others.values) at c.call-called.ensures in
    let k : refill (length kinds) kinds c.call-called.new.kinds ≡ c.call-called.new.kinds = refilled _ _ (rw c.deref_mut.ensures.value at c.call-called.auto.kinds) in
    let v : refill (length values) values c.call-called.new.values ≡ c.call-called.new.values = refilled _ _ (rw c.deref_mut-2.ensures.value at c.call-called.auto.values) in
    rw (← h) (elim c.match-called.branch [
      | in-Ok w ↦ rw (w.in-Ok.is, w.cells-is, w.page-is, w.result-is) (account_bill c.args.terms _ _ _ _ _ _ _ _ _ w.replace.ensures w.append_account.ensures w.append_cells.ensures (search (rules, k)) (search (rules, v)))
      | in-Err w ↦ rw (w.in-Err.is, w.cells-is, w.page-is, w.result-is) (refused_bill c.args.terms _ _ _ _ _ (rw w.from.ensures at w.append_field.ensures))
    ])
