-- Evaluators that do not keep the rule of two limits. Definitions only; that they do not is `not_two_limits` in src/laws.rt.
use Rattle.std.specs.Prelude.{ℕ, cond, eqb}
use Rattle.eval.specs.Machine.{for_steps}
use Rattle.eval.specs.Run.{Run, out_of_steps}
use Rattle.vm.specs.Call.{Brought, call_of}
use Rattle.vm.specs.Purses.{Spent, spend, purses}
use Rattle.vm.specs.Account.{After, left_by}
use Rattle.vm.specs.Called.{begun, spent}
use Rattle.vm.specs.declared.account.Remainders.{Remainders}

-- a run that is altered where it ended
abbrev pub otherwise : (Run → Run) → Spent → Spent
otherwise f s = record { run = f s.run; remainders = s.remainders }

-- its account
unfoldable pub altered : (Run → Run) → Brought → After
altered f b = left_by (call_of b) (otherwise f (spent b))

-- what stood at the start: it stops before it acts
unfoldable pub early : Brought → After
early b = left_by (call_of b) (otherwise (λ r. out_of_steps (begun b)) (spent b))

-- a run that ended by itself bills nothing
abbrev pub unbilled : Run → Run
unbilled r = cond (eqb r.machine.outcome for_steps) r (record { machine = r.machine; charges = 0 })

-- the account under one limit, read off both
unfoldable pub limited : (Remainders → ℕ) → Brought → After
limited pick b =
    let n = pick (purses b.terms) in
    left_by (call_of b) (spend (call_of b) n n (begun b))
