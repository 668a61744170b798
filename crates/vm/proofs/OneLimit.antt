-- A run from two purses is the run under one limit, the smaller of the two, and what remains of each is the limit less the
-- charges made. Assumes nothing.
use Prim.Native.Nat.{ℕ, zero, suc, ◌-◌, min}
use native.Mathlib.Omega.{arith}
use mathlib.Core.Path.{◌≡◌, refl, sym, ◌∙◌, ap}
use mathlib.Core.Bool.{Bool, true, false}
use Rattle.eval.specs.Machine.{Call}
use Rattle.eval.specs.Run.{Run, goes_on, ticked, run_of, out_of_steps}
use Rattle.eval.proofs.Histories.{tick_charge}
use Rattle.interp.proofs.Laws.{finish_on, finish_end, run_none, run_tick}
use Rattle.vm.specs.Purses.{remaining, spend}
use Rattle.vm.specs.OneLimit.{Kept, KeepsBoth, OneLimit, NeverOverdrawn}

-- ---- how a run from two purses goes on

module _ (c : Call) (guest house : ℕ) (r : Run) where
  pub spend_on : goes_on (ticked c r) ≡ true → spend c (suc guest) (suc house) r ≡ spend c guest house (ticked c r)
  unfolding spend
  spend_on h = rw h

  pub spend_end : goes_on (ticked c r) ≡ false
      → spend c (suc guest) (suc house) r ≡ record { run = ticked c r; remainders = remaining guest house }
  unfolding spend
  spend_end h = rw h

-- with one of them empty nothing is charged
spend-none : (c : Call) (guest house : ℕ) (r : Run) → min guest house ≡ 0
    → spend c guest house r ≡ record { run = out_of_steps r; remainders = remaining guest house }
unfolding spend
spend-none c zero house r e = refl
spend-none c (suc guest) zero r e = refl
spend-none c (suc guest) (suc house) r e = absurd (omega arith)

-- ---- one limit for both

kept_none : (c : Call) (guest house : ℕ) (r : Run) → min guest house ≡ 0 → Kept c guest house r
kept_none c guest house r e =
    let s = spend-none c guest house r e in
    record { same = rw (s, e) (sym (run_none c r)); of_guest = rw s; of_house = rw s }

kept_next : (c : Call) (guest house : ℕ) (r : Run) (b : Bool) → goes_on (ticked c r) ≡ b → Kept c guest house (ticked c r) → Kept c (suc guest) (suc house) r
kept_next c guest house r true h k =
    let s = spend_on c guest house r h in
    let e : min (suc guest) (suc house) ≡ suc (min guest house) = omega arith in
    let g = k.of_guest in
    let j = k.of_house in
    let t = tick_charge c r in
    record {
      same = rw (s, e) (k.same ∙ sym (run_tick c r (min guest house) ∙ finish_on c (ticked c r) (min guest house) h));
      of_guest = rw s (omega arith);
      of_house = rw s (omega arith);
    }
kept_next c guest house r false h k =
    let s = spend_end c guest house r h in
    let e : min (suc guest) (suc house) ≡ suc (min guest house) = omega arith in
    let t = tick_charge c r in
    record {
      same = rw (s, e) (sym (run_tick c r (min guest house) ∙ finish_end c (ticked c r) (min guest house) h));
      of_guest = rw s (omega arith);
      of_house = rw s (omega arith);
    }

pub kept : KeepsBoth
kept c zero house r = kept_none c zero house r (omega arith)
kept c (suc guest) zero r = kept_none c (suc guest) zero r (omega arith)
kept c (suc guest) (suc house) r = kept_next c guest house r (goes_on (ticked c r)) refl (kept c guest house (ticked c r))

pub one_limit : OneLimit
one_limit c guest house r z =
    let k = kept c guest house r in
    let s = spend c guest house r in
    let e : (run_of c (min guest house) r).charges ≡ s.run.charges = ap (λ (x : Run). x.charges) (sym k.same) in
    let g = k.of_guest in
    let h = k.of_house in
    let p : guest - s.run.charges ≡ s.remainders.guest = omega arith in
    let q : house - s.run.charges ≡ s.remainders.house = omega arith in
    rw (e, p, q, ← k.same)

pub covered : NeverOverdrawn
covered c guest house r z =
    let k = kept c guest house r in
    let e = ap (λ (x : Run). x.charges) k.same in
    let g = k.of_guest in
    let h = k.of_house in
    record { by_guest = omega arith; by_house = omega arith }
