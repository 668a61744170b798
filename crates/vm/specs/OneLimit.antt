-- A run from two purses, and the run under one limit, the smaller of the two. Definitions only; the laws that say them are in src/laws.rt.
use Rattle.std.specs.Prelude.{ℕ, ◌+◌, ◌-◌, ◌≤◌, ◌≡◌, min}
use Rattle.eval.specs.Machine.{Call}
use Rattle.eval.specs.Run.{Run, run_of}
use Rattle.vm.specs.Purses.{remaining, Spent, spend}

-- the form that the code takes: one limit, and what remains of both worked out at the end
abbrev pub under_one : Call → ℕ → ℕ → Run → Spent
under_one c guest house r =
    let e = run_of c (min guest house) r in
    record { run = e; remainders = remaining (guest - e.charges) (house - e.charges) }

-- two purses are one limit: the same run, and the same remains of both
abbrev pub OneLimit : Type 0
OneLimit = (c : Call) (guest house : ℕ) (r : Run) → r.charges ≡ 0 → spend c guest house r ≡ under_one c guest house r

-- from any run: it ends where it ends under the smaller limit, and what was charged and what remains make what each limit held
pub record Kept (c : Call) (guest house : ℕ) (r : Run) : Type 0 where
  pub same : (spend c guest house r).run ≡ run_of c (min guest house) r
  pub of_guest : (spend c guest house r).remainders.guest + (spend c guest house r).run.charges ≡ guest + r.charges
  pub of_house : (spend c guest house r).remainders.house + (spend c guest house r).run.charges ≡ house + r.charges

abbrev pub KeepsBoth : Type 0
KeepsBoth = (c : Call) (guest house : ℕ) (r : Run) → Kept c guest house r

-- neither limit is overdrawn
pub record Covered (n guest house : ℕ) : Type 0 where
  pub by_guest : n ≤ guest
  pub by_house : n ≤ house

abbrev pub NeverOverdrawn : Type 0
NeverOverdrawn = (c : Call) (guest house : ℕ) (r : Run) → r.charges ≡ 0 → Covered (run_of c (min guest house) r).charges guest house
