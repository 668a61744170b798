use native.Mathlib.Omega.{arith}
use mathlib.Core.Path.{sym, ◌∙◌}
use borrow.Author.Rules.{rules}
use Rattle.eval.specs.Machine.{cells_of, lent_of}
use Rattle.vm.specs.Call.{Brought, Accepted}
use Rattle.vm.proofs.Accepted.{stores_fit_lem}
use Rattle.vm.proofs.Settled.{is_accepted, sent_back}
use Rattle.vm.proofs.call.Goals as goal

pub returns-in_err-refusal : goal.returns-in_err-refusal
returns-in_err-refusal c =
    let a = c.args in
    let brought : Brought =
    record {
      file = a.file.now;
      lent = lent_of a.kinds.now a.values.now a.stack.now a.loops.now a.handlers.now;
      context = cells_of a.context.kinds.now a.context.values.now;
      terms = a.terms;
    } in
    search (rules, sent_back brought)

pub run-requires : goal.run-requires
run-requires c =
    let a = stores_fit_lem _ (sym c.in_ok-refusal.ensures) in
    record { stack = omega arith; loops = omega arith }

pub returns : goal.returns
returns c =
    let a = c.args in
    let brought : Brought =
    record {
      file = a.file.now;
      lent = lent_of a.kinds.now a.values.now a.stack.now a.loops.now a.handlers.now;
      context = cells_of a.context.kinds.now a.context.values.now;
      terms = a.terms;
    } in
    let ok : Accepted brought = sym c.in_ok-refusal.ensures in
    search (rules, c.run.ensures.ran ∙ sym (is_accepted brought ok))
