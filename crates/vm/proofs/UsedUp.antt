-- A run that is stopped for steps has used up at least one of its two limits. Assumes nothing.
use Prim.Native.Nat.{ℕ, zero, suc, ◌-◌, min}
use native.Mathlib.Omega.{arith}
use mathlib.Core.Path.{◌≡◌, refl}
use mathlib.Core.Bool.{Bool, true, false, cond}
use mathlib.Core.List.{List}
use borrow.Author.Tests.{eqb-false}
use Rattle.program.specs.declared.instr.Instr.{Instr}
use Rattle.tables.specs.Tables.{instr_at}
use Rattle.eval.specs.Stacks.{often}
use Rattle.eval.specs.Machine.{Call, Machine, Due, fetch, constant, cell_of, for_steps}
use Rattle.numeric.specs.Arithmetic.{guarded}
use Rattle.eval.specs.Acts.{is_signed, passed, without_top, pushed, push_const, add_acc, missed, converted, loaded_cell, loaded_from, load_temp}
use Rattle.eval.specs.Acts.{store_var, store_temp, handler_push, and_step, or_step, jump_if_falsy, loop_begin, again, loop_check, loop_end, each_begin, acted}
use Rattle.eval.specs.Run.{Run, goes_on, due_done, ticked}
use Rattle.eval.specs.declared.slot.Cell.{Cell}
use Rattle.eval.specs.declared.slot.Cell.TheVariants.{Missing, Float, Hash, Other}
use Rattle.std.specs.Prelude.{Option, Some, None}
use Rattle.std.proofs.lemmas.Bool.{cond_both}
use Rattle.vm.specs.Call.{Brought, refusal_of, call_of}
use Rattle.vm.specs.Purses.{Spent, spend, purses, smaller}
use Rattle.vm.specs.Account.{end_of, left_by}
use Rattle.vm.specs.Called.{begun, spent, called}
use Rattle.vm.proofs.OneLimit.{spend_on, spend_end}
use Rattle.vm.specs.Accounts.{StoppedUsedUp, NotForSteps, NoRecordStops}
use Rattle.vm.proofs.Settled.{is_accepted, answered_by_refusal}

-- ---- no record stops a run for steps

-- of both ways of a test
either : (b : Bool) (x y : Machine) → NotForSteps x → NotForSteps y → NotForSteps (cond b x y)
either b x y p q = cond_both b x y NotForSteps (λ _. p) (λ _. q)

-- HostMath
popped : (k : ℕ) (m : Machine) → NotForSteps m → NotForSteps (often k without_top m)
unfolding often
popped zero m h = h
popped (suc k) m h = popped k m h

-- LoadVar and LoadCtx, by the cell
of_cell : (posts : List ℕ) (p : ℕ) (x : Cell) (value : ℕ) (m : Machine) → NotForSteps m → NotForSteps (loaded_cell posts p x value m)
unfolding missed converted
of_cell posts p Missing value m h = simp (either, h)
of_cell posts p (Float x) value m h = h
of_cell posts p (Hash x) value m h = simp (either, h)
of_cell posts p Other value m h = simp (either, h)

-- LoopCheck, by its limit
under : (l : Option ℕ) (j : ℕ) (m : Machine) → NotForSteps m → NotForSteps (loop_check l j m)
unfolding loop_check again
under None j m h = simp (either, h)
under (Some n) j m h = simp (either, h)

-- DivGuard, by what it lets pass
past_guard : (room j : ℕ) (d : Option ℕ) (m : Machine) → NotForSteps m → NotForSteps (passed room j d m)
unfolding pushed
past_guard room j None m h = h
past_guard room j (Some d) m h = simp (either, h)

module _ (c : Call) (m : Machine) (h : NotForSteps m) where
  -- whatever the record: the outcomes that it sets are others
  pub recorded : (i : Instr) → NotForSteps (acted c i m)
  unfolding acted pushed push_const add_acc missed loaded_from load_temp store_var store_temp handler_push and_step or_step jump_if_falsy loop_begin loop_end each_begin
  recorded (Instr.Const k) = h
  recorded (Instr.Hash x) = refl
  recorded (Instr.Resource x) = refl
  recorded (Instr.This p) = h
  recorded (Instr.LoadVar n p) = of_cell c.posts p.0 (cell_of _ _) _ m h
  recorded (Instr.LoadTemp t p) = simp (either, h)
  recorded (Instr.LoadCtx n p) = of_cell c.posts p.0 (cell_of _ _) _ m h
  recorded (Instr.Member n p) = simp (either, h)
  recorded (Instr.StoreVar n p) = h
  recorded (Instr.StoreTemp t p) = simp (either, h)
  recorded Instr.Push = simp (either, h)
  recorded (Instr.PushConst k) = simp (either, h)
  recorded (Instr.Negate p) = h
  recorded (Instr.Not p) = h
  recorded Instr.AddAcc = h
  recorded (Instr.AddLast p) = h
  recorded (Instr.Mul p) = h
  recorded (Instr.DivGuard d j) = past_guard c.stack_room j (guarded (is_signed d) m.acc) m h
  recorded (Instr.Div p) = h
  recorded (Instr.Mod p) = h
  recorded (Instr.ModConst k p) = h
  recorded (Instr.HostMath n p) = popped (min n 8 - 1) m h
  recorded (Instr.Cmp op p) = h
  recorded (Instr.CmpConst op k p) = h
  recorded (Instr.Eq op p) = h
  recorded (Instr.EqConst op k p) = h
  recorded (Instr.EqHash op x p) = h
  recorded (Instr.AndStep j p) = simp (either, h)
  recorded (Instr.OrStep j p) = simp (either, h)
  recorded (Instr.AndLast p) = h
  recorded (Instr.OrLast p) = h
  recorded (Instr.Jump j) = h
  recorded (Instr.JumpIfFalsy j) = simp (either, h)
  recorded (Instr.Post p) = h
  recorded (Instr.HandlerPush j) = simp (either, h)
  recorded (Instr.HandlerPop j) = h
  recorded (Instr.PointerEnter j p) = h
  recorded (Instr.PointerLeave p) = h
  recorded (Instr.Call a p) = refl
  recorded (Instr.LoopBegin j) = simp (either, h)
  recorded (Instr.LoopCheck j) = under c.loop_limit j m h
  recorded Instr.LoopEnd = simp (either, h)
  recorded (Instr.EachBegin j) = h
  recorded (Instr.EachNextVar n j) = refl
  recorded (Instr.EachNextTemp t j) = refl
  recorded (Instr.Return p) = refl
  recorded Instr.Halt = refl
  recorded Instr.End = refl
  recorded (Instr.Math1 f p) = h
  recorded Instr.Outside = refl

pub no_record_stops : NoRecordStops
no_record_stops c m h i = recorded c m h i

-- nor does what comes after a charge
due_kept : (c : Call) (d : Due) (m : Machine) → NotForSteps m → NotForSteps (due_done c d m)
unfolding due_done
due_kept c fetch m h = recorded c m h (instr_at c.code m.pos)
due_kept c (constant k) m h = h

tick_kept : (c : Call) (r : Run) → NotForSteps r.machine → NotForSteps (ticked c r).machine
unfolding ticked
tick_kept c r h = due_kept c r.machine.due r.machine h

-- ---- a run that is stopped for steps

-- a charge is made only if both are above zero: of at least one of them nothing remains
abbrev UsedUp : Spent → Type 0
UsedUp s = s.run.machine.outcome ≡ for_steps → smaller s.remainders ≡ 0

-- a charge that is made
up_next : (c : Call) (guest house : ℕ) (r : Run) (b : Bool) → goes_on (ticked c r) ≡ b → NotForSteps (ticked c r).machine
    → UsedUp (spend c guest house (ticked c r)) → UsedUp (spend c (suc guest) (suc house) r)
up_next c guest house r true g h u = rw (spend_on c guest house r g) u
up_next c guest house r false g h u = rw (spend_end c guest house r g) (λ e. absurd (eqb-false _ _ h e))

-- a run that is not stopped for steps yet
up : (c : Call) (guest house : ℕ) (r : Run) → NotForSteps r.machine → UsedUp (spend c guest house r)
unfolding spend
up c zero house r h e = omega arith
up c (suc guest) zero r h e = omega arith
up c (suc guest) (suc house) r h e =
    let k = tick_kept c r h in
    up_next c guest house r (goes_on (ticked c r)) refl k (up c guest house (ticked c r) k) e

-- the run of a call
pub used_up : (b : Brought) → (spent b).run.machine.outcome ≡ for_steps → min (spent b).remainders.guest (spent b).remainders.house ≡ 0
used_up b =
    let p = purses b.terms in
    up (call_of b) p.guest p.house (begun b) refl

-- what `called` answers: a refusal's end is of zeros alone, and so is not stopped for steps
pub stopped_used_up : StoppedUsedUp
unfolding left_by end_of
stopped_used_up b = cases (refusal_of b) refl
  where
    cases : (n : ℕ) → refusal_of b ≡ n → let a = (called b).reply.account in a.end.outcome ≡ for_steps → smaller a.remainders ≡ 0
    cases zero e = rw (is_accepted b e) (used_up b)
    cases (suc n) e = rw (answered_by_refusal b (λ z. omega arith)) (λ f. absurd (omega arith))
