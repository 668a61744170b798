-- A guest's step limit inside the limit that the house gives for a day: a run from two purses. Definitions only; that one limit, the
-- smaller of the two, gives the same run, and that what remains is each limit less the charges, is said in OneLimit.antt.
use Rattle.std.specs.Prelude.{ℕ, zero, suc, min, cond}
use Rattle.eval.specs.Machine.{Call}
use Rattle.eval.specs.Run.{Run, goes_on, ticked, out_of_steps}
use Rattle.vm.specs.Call.{limit_of}
use Rattle.vm.specs.declared.Terms.{Terms}
use Rattle.vm.specs.declared.account.Remainders.{Remainders}

-- what a guest's purse and the house's hold
abbrev pub remaining : ℕ → ℕ → Remainders
remaining guest house = record { guest = guest; house = house }

-- a run, with what remains of both
pub record Spent : Type 0 where
  pub run : Run
  pub remainders : Remainders

-- a charge is made only if both are above zero, and takes one from each: a run from a guest's purse and the house's, which stops for
-- steps where a charge falls due and one of them is empty
unfoldable pub spend : Call → ℕ → ℕ → Run → Spent
spend c zero house r = record { run = out_of_steps r; remainders = remaining zero house }
spend c (suc guest) zero r = record { run = out_of_steps r; remainders = remaining (suc guest) zero }
spend c (suc guest) (suc house) r =
    let t = ticked c r in
    let s = spend c guest house t in
    cond (goes_on t) s (record { run = t; remainders = remaining guest house })

-- what both limits of a call hold before its first charge: no house limit counts as 2^64 - 1
abbrev pub purses : Terms → Remainders
purses t = remaining (limit_of t.step_limit) (limit_of t.house_limit)

-- the smaller of the two, which is the limit wherever one is named
abbrev pub smaller : Remainders → ℕ
smaller p = min p.guest p.house
