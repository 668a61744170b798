-- Values, charges and stops are those of the machine before. Assumes nothing.
use Prim.Native.Nat.{ℕ, zero, suc, ◌+◌}
use mathlib.Core.Path.{◌≡◌, refl, ◌∙◌, ap}
use mathlib.Core.Bool.{Bool, true, false}
use lib.Dec.{eqb}
use Rattle.tables.specs.Tables.{instr_at}
use Rattle.eval.specs.Machine.{Call, Machine, Due, fetch, constant, empty_pops_are}
use Rattle.eval.specs.Run.{Run, lift, goes_on, due_done, ticked}
use Rattle.vm.specs.Call.{refusal_of, call_of}
use Rattle.vm.specs.Purses.{Spent, spend}
use Rattle.vm.specs.Account.{end_of, left_by}
use Rattle.vm.specs.Called.{begun, called}
use Rattle.pops.specs.Before.{due_done_before, ticked_before, spend_before, called_before, without, AsBefore}
use Rattle.pops.proofs.Records.{told}

-- a run, and what it spent, without its count
abbrev uncounted : Run → Run
uncounted r = lift (empty_pops_are 0) r

abbrev unpaid : Spent → Spent
unpaid s = record { run = uncounted s.run; remainders = s.remainders }

-- ---- one charge

due_before : (c : Call) (d : Due) (m : Machine) → empty_pops_are 0 (due_done c d m) ≡ due_done_before c d (empty_pops_are 0 m)
unfolding due_done due_done_before
due_before c fetch m = (told c (instr_at c.code m.pos) m).as_before 0
due_before c (constant k) m = refl

tick_before : (c : Call) (r : Run) → uncounted (ticked c r) ≡ ticked_before c (uncounted r)
unfolding ticked ticked_before
tick_before c r = ap (λ (m : Machine). record { machine = m; charges = r.charges + 1 }) (due_before c r.machine.due r.machine)

-- ---- a run from both purses

spend_before_lem : (c : Call) (guest house : ℕ) (r : Run) → unpaid (spend c guest house r) ≡ spend_before c guest house (uncounted r)
unfolding spend spend_before
spend_before_lem c zero house r = refl
spend_before_lem c (suc guest) zero r = refl
spend_before_lem c (suc guest) (suc house) r = cases (goes_on (ticked c r)) refl (spend_before_lem c guest house (ticked c r))
  where
    cases : (b : Bool) → goes_on (ticked c r) ≡ b → unpaid (spend c guest house (ticked c r)) ≡ spend_before c guest house (uncounted (ticked c r))
        → unpaid (spend c (suc guest) (suc house) r) ≡ spend_before c (suc guest) (suc house) (uncounted r)
    cases true h i = let e = tick_before c r in rw (← e, h) i
    cases false h i = let e = tick_before c r in rw (← e, h)

-- ---- a call

-- without its count, what a run leaves is what the same run leaves without
left-before : (c : Call) (s : Spent) → without (left_by c s) ≡ left_by c (unpaid s)
unfolding left_by end_of
left-before c s = refl

pub as_before : AsBefore
unfolding called called_before
as_before b = cases (eqb (refusal_of b) 0) refl
  where
    cases : (t : Bool) → eqb (refusal_of b) 0 ≡ t → without (called b) ≡ called_before b
    cases true h = rw h (left-before (call_of b) _ ∙ ap (left_by (call_of b)) (spend_before_lem (call_of b) _ _ (begun b)))
    cases false h = rw h
