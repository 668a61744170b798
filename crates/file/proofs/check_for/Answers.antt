use native.Mathlib.Omega.{arith}
use mathlib.Core.Path.{sym, ◌∙◌}
use borrow.Author.Tests.{eqb-true, eqb-false}
use Rattle.file.proofs.Accepted.{first_has}
use Rattle.file.proofs.Ascending.{none_left}
use Rattle.file.proofs.Numbers.{passed_on}
use Rattle.file.proofs.Tags.{begun, sent, second, third, fourth, fifth, more, by_records}
use Rattle.file.proofs.check_for.Goals as goal

pub returns-in_err-counts : goal.returns-in_err-counts
returns-in_err-counts c = passed_on _ _ c.from_residual.ensures.1 ∙ sent (begun _) (omega arith) (omega arith) _ _ c.in_err-counts.ensures.number

pub returns-in_err-consts : goal.returns-in_err-consts
returns-in_err-consts c =
    let d = second c.in_ok-counts.ensures.passed in
    passed_on _ _ c.from_residual-in_err-consts.ensures.1 ∙ sent d (omega arith) (omega arith) _ _ c.in_err-consts.ensures.number

pub returns-in_err-posts : goal.returns-in_err-posts
returns-in_err-posts c =
    let d = third c.in_ok-counts.ensures.passed c.in_ok-consts.ensures.passed in
    passed_on _ _ c.from_residual-in_err-posts.ensures.1 ∙ sent d (omega arith) (omega arith) _ _ c.in_err-posts.ensures.number

pub returns-in_err-hashes : goal.returns-in_err-hashes
returns-in_err-hashes c =
    let d = fourth c.in_ok-counts.ensures.passed c.in_ok-consts.ensures.passed c.in_ok-posts.ensures.passed in
    passed_on _ _ c.from_residual-in_err-hashes.ensures.1 ∙ sent d (omega arith) (omega arith) _ _ c.in_err-hashes.ensures.number

pub returns-in_err-code : goal.returns-in_err-code
returns-in_err-code c =
    let d = fifth c.in_ok-counts.ensures.passed c.in_ok-consts.ensures.passed c.in_ok-posts.ensures.passed c.in_ok-hashes.ensures.passed in
    passed_on _ _ c.from_residual-in_err-code.ensures.1 ∙ sent d (omega arith) (omega arith) _ _ c.in_err-code.ensures.number

pub returns-then-not-is_empty : goal.returns-then-not-is_empty
returns-then-not-is_empty c =
    more
    c.in_ok-counts.ensures.passed
    c.in_ok-consts.ensures.passed
    c.in_ok-posts.ensures.passed
    c.in_ok-hashes.ensures.passed
    c.in_ok-code.ensures.passed
    _
    (eqb-false _ _ (sym c.is_empty.ensures ∙ c.if-not-is_empty.true))

pub returns-then-is_empty : goal.returns-then-is_empty
returns-then-is_empty c =
    by_records
    c.in_ok-counts.ensures.passed
    c.in_ok-consts.ensures.passed
    c.in_ok-posts.ensures.passed
    c.in_ok-hashes.ensures.passed
    c.in_ok-code.ensures.passed
    _
    (eqb-true _ _ (sym c.is_empty.ensures ∙ c.if-not-is_empty.false))
    _
    (sym (none_left _ _ _ (let e = eqb-true _ _ (sym c.is_empty-2.ensures ∙ c.if-is_empty.true) in omega arith)))

pub number_at-requires : goal.number_at-requires
number_at-requires c = let h = first_has c.in_ok-counts.ensures.passed in omega arith

pub number_at-requires-2 : goal.number_at-requires-2
number_at-requires-2 c = let h = first_has c.in_ok-counts.ensures.passed in omega arith

pub returns : goal.returns
returns c =
    by_records
    c.in_ok-counts.ensures.passed
    c.in_ok-consts.ensures.passed
    c.in_ok-posts.ensures.passed
    c.in_ok-hashes.ensures.passed
    c.in_ok-code.ensures.passed
    _
    (eqb-true _ _ (sym c.is_empty.ensures ∙ c.if-not-is_empty.false))
    _
    (rw (← c.number_at.ensures, ← c.number_at-2.ensures) c.records.ensures)
