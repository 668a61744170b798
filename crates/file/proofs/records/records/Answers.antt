use mathlib.Core.Path.{sym, ◌∙◌}
use Rattle.file.proofs.Ascending.{sent_first}
use Rattle.file.proofs.Numbers.{passed_on}
use Rattle.file.proofs.records.records.Goals as goal

pub returns-in_err-record : goal.returns-in_err-record
returns-in_err-record c =
    let i = c.loop-bytes.invariant in
    let s = c.in-Some.ensures.steps in
    let q = sent_first _ _ _ _ (s.1.1 ∙ i.0) _ s.1.0 _ c.in_err-record.ensures in
    rw (← c.new-bounds.ensures) (passed_on _ _ c.from_residual.ensures.1 ∙ sym (i.1 ∙ q))
