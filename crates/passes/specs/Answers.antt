-- What a call answers that comes to a counted loop, under any pair of limits. Definitions only; the law is `laws::exact_answers`
-- (src/laws.rt).
use Rattle.std.specs.Prelude.{ℕ, ◌+◌, ◌-◌, ◌≤◌, ◌<◌, ◌≡◌, length}
use Rattle.eval.specs.Machine.{for_steps}
use Rattle.eval.specs.Run.{Run, run_of}
use Rattle.vm.specs.Call.{Brought, Accepted, call_of, limit_of}
use Rattle.vm.specs.Purses.{remaining, Spent}
use Rattle.vm.specs.Account.{After, temps_of, left_by}
use Rattle.vm.specs.Called.{called}
use Rattle.vm.specs.Limits.{Pair, limit_by, under, dues, standing, compared, stopped_with}
use Rattle.passes.specs.Passes.{Counting, Claim, takes, past_by}

-- where a call ended under two limits, with what remains of each: the limit less the charges
abbrev pub ended : Pair → Run → Spent
ended l r = record { run = r; remainders = remaining (limit_of l.guest - r.charges) (limit_of l.house - r.charges) }

-- The answer under the limits l of a call that comes past its loop with m charges made, where r then stands.
pub record AnsweredPast (call : Brought) (m : ℕ) (r : Run) (l : Pair) (answer : After) : Type 0 where
  -- The smaller limit has the charges: the answer is what the run leaves that goes on from there with the rest of the limit, all of
  -- the account and every lent store.
  pub goes_on : m ≤ limit_by l → answer ≡ left_by (call_of call) (ended l (run_of (call_of call) (limit_by l - m) r))
  -- It has these and no more: the account is stopped for steps right there, with accumulator, cells and temps as the loop left them.
  pub stops : limit_by l ≡ m → compared answer ≡ stopped_with (call_of call) m r
  pub outcome : limit_by l ≡ m → answer.reply.account.end.outcome ≡ for_steps
  pub charges : limit_by l ≡ m → answer.reply.account.end.charges ≡ m
  pub accumulator : limit_by l ≡ m → answer.reply.account.end.accumulator ≡ r.machine.acc
  pub temps : limit_by l ≡ m → temps_of answer.reply.account.end.temps ≡ r.machine.temps
  pub cells : limit_by l ≡ m → answer.lent.cells ≡ r.machine.cells

-- For every accepted call, whatever it brings: in its run under some limit, N, it stood at a counted loop with a count of k when its
-- charge j + 1 fell due. So it comes past the loop with j + `takes` charges, its body applied as often as there are passes (`past`),
-- and is answered so under any pair of limits whose smaller has these charges.
abbrev pub AnswersExactly : Claim → Type 0
AnswersExactly a = (call : Brought) (p b k N j : ℕ) → Accepted call → j < length (dues call N)
    → Counting a.largest (call_of call) p b k (standing call N j)
    → (l : Pair) → AnsweredPast call (j + takes a (call_of call) b k) (past_by a (call_of call) p b k (standing call N j)) l (called (under l call))
