-- What holds of the answer to every call. Definitions only; the laws that say it are in src/laws.rt.
use Rattle.std.specs.Prelude.{◌+◌, ◌≡◌, false, eqb, min}
use Rattle.program.specs.declared.instr.Instr.{Instr}
use Rattle.eval.specs.Machine.{Call, Machine, for_steps}
use Rattle.eval.specs.Acts.{acted}
use Rattle.eval.specs.Run.{goes_on, is_running}
use Rattle.vm.specs.Call.{Brought, Accepted, limit_of, refusal_of}
use Rattle.vm.specs.Purses.{purses}
use Rattle.vm.specs.Account.{After}
use Rattle.vm.specs.Called.{spent, ran, refused, called}

-- ---- accepted or refused

-- the refusal that an answer names is the first that the call meets, and 0 where it meets none
abbrev pub RefusedAsMet : Type 0
RefusedAsMet = (b : Brought) → (called b).reply.refusal ≡ refusal_of b

-- an accepted call is answered by its run
abbrev pub AnsweredByRun : Type 0
AnsweredByRun = (b : Brought) → Accepted b → called b ≡ ran b

-- one that is refused is answered by its refusal
abbrev pub AnsweredByRefusal : Type 0
AnsweredByRefusal = (b : Brought) → (Accepted b → ⊥) → called b ≡ refused (refusal_of b) b

-- .. and leaves every lent store as it was
abbrev pub RefusalKeepsStores : Type 0
RefusalKeepsStores = (b : Brought) → (Accepted b → ⊥) → (called b).lent ≡ b.lent

-- ---- the outcome

-- the run of a call has ended, so that the outcome of an account is none of a run that goes on
abbrev pub HasEnded : Type 0
HasEnded = (b : Brought) → goes_on (spent b).run ≡ false

abbrev pub NoneGoesOn : Type 0
NoneGoesOn = (b : Brought) → is_running (called b).reply.account.end.outcome ≡ false

-- ---- what remains

-- what an answer charged and what it left: together they make both limits
pub record AddsUp (b : Brought) (a : After) : Type 0 where
  pub by_guest : a.reply.account.end.charges + a.reply.account.remainders.guest ≡ limit_of b.terms.step_limit
  pub by_house : a.reply.account.end.charges + a.reply.account.remainders.house ≡ limit_of b.terms.house_limit

-- a refusal takes nothing from either limit
pub record NothingTaken (b : Brought) (a : After) : Type 0 where
  pub charges : a.reply.account.end.charges ≡ 0
  pub remainders : a.reply.account.remainders ≡ purses b.terms

-- ---- stopped for steps

-- of a run that is stopped for steps nothing remains of at least one limit
abbrev pub StoppedUsedUp : Type 0
StoppedUsedUp = (b : Brought)
    → let a = (called b).reply.account in a.end.outcome ≡ for_steps → min a.remainders.guest a.remainders.house ≡ 0

-- a machine that goes on, or has ended otherwise than for steps
abbrev pub NotForSteps : Machine → Type 0
NotForSteps m = eqb m.outcome for_steps ≡ false

-- no record stops a run for steps: that is done by a charge that a limit forbids alone
abbrev pub NoRecordStops : Type 0
NoRecordStops = (c : Call) (m : Machine) → NotForSteps m → (i : Instr) → NotForSteps (acted c i m)
