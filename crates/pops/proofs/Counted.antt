-- The count of a run is what its records took beyond the depths that they met. Assumes nothing.
use Prim.Native.Nat.{ℕ, zero, suc, ◌+◌}
use native.Mathlib.Omega.{arith}
use mathlib.Core.Path.{◌≡◌, refl, ◌∙◌, ap}
use mathlib.Core.List.{List, [], ◌∷◌}
use Rattle.tables.specs.Tables.{instr_at}
use Rattle.eval.specs.Stacks.{often}
use Rattle.eval.specs.Machine.{Call, Machine, Due, fetch, constant, counted}
use Rattle.eval.specs.Run.{Run, due_done, ticked, history, paid}
use Rattle.eval.proofs.Takes.{often_counted}
use Rattle.eval.proofs.Histories.{at_end}
use Rattle.vm.specs.Call.{call_of}
use Rattle.vm.specs.Purses.{purses, smaller}
use Rattle.vm.specs.Account.{end_of, left_by}
use Rattle.vm.specs.Called.{begun}
use Rattle.vm.proofs.OneLimit.{kept}
use Rattle.vm.proofs.Settled.{is_accepted, paid_in_lem}
use Rattle.pops.specs.Takes.{beyond_at, total, CountedInFull, CountedInCalls}
use Rattle.pops.proofs.Records.{told}

-- ---- one charge

due_counts : (c : Call) (d : Due) (m : Machine) → (due_done c d m).empty_pops ≡ often (beyond_at c d m) counted m.empty_pops
unfolding due_done often
due_counts c fetch m = (told c (instr_at c.code m.pos) m).counts
due_counts c (constant k) m = refl

-- what a charge that fell due adds
abbrev added : Call → Run → ℕ
added c r = beyond_at c r.machine.due r.machine

tick_counts : (c : Call) (r : Run) → (ticked c r).machine.empty_pops ≡ often (added c r) counted r.machine.empty_pops
unfolding ticked
tick_counts c r = due_counts c r.machine.due r.machine

-- ---- a history

often-sum : {A : Type 0} (a b : ℕ) (f : A → A) (x : A) → often a f (often b f x) ≡ often (b + a) f x
unfolding often
often-sum zero b f x = let e : b + 0 ≡ b = omega arith in rw e
often-sum (suc a) b f x = let e : b + suc a ≡ suc (b + a) = omega arith in rw e (ap f (often-sum a b f x))

module _ (c : Call) where
  -- from r to s the count rises by the sum over what was charged
  abbrev Sum : Run → List Run → Run → Type 0
  Sum r l s = s.machine.empty_pops ≡ often (total c l) counted r.machine.empty_pops

  none : (r : Run) → Sum r [] r
  unfolding total often
  none r = refl

  more : (r : Run) (l : List Run) (s : Run) → Sum (ticked c r) l s → Sum r (r ∷ l) s
  unfolding total
  more r l s e = e ∙ ap (often (total c l) counted) (tick_counts c r) ∙ often-sum (total c l) (added c r) counted r.machine.empty_pops

  sums : (n : ℕ) (r : Run) → Sum r (paid r (history c n r)) (history c n r).end
  sums n r = at_end c Sum none more (λ r l s e. e) n r

-- ---- the theorems

pub counted_in_full : CountedInFull
counted_in_full c n r h = sums c n r ∙ often_counted (total c (paid r (history c n r))) r.machine.empty_pops h

-- no empty pop at the start
pub counted_in_calls : CountedInCalls
unfolding left_by end_of
counted_in_calls b z =
    let p = purses b.terms in
    let e = (kept (call_of b) p.guest p.house (begun b)).same in
    rw (paid_in_lem b z, is_accepted b z, e) (counted_in_full (call_of b) (smaller p) (begun b) (omega arith) ∙ omega arith)
