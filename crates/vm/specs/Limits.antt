-- One call under two limits, each of them the smaller of a guest's and a house limit. Definitions only; the laws that say them are in
-- src/laws.rt.
use Rattle.std.specs.Prelude.{ℕ, ◌≤◌, ◌<◌, ◌≡◌, List, length, get_or}
use Rattle.numeric.specs.Numbers.{zero}
use Rattle.eval.specs.Machine.{Lent, Call, for_steps}
use Rattle.eval.specs.Run.{Run, history, run_of}
use Rattle.vm.specs.Call.{Brought, Accepted, call_of, limit_of}
use Rattle.vm.specs.Purses.{remaining, smaller}
use Rattle.vm.specs.Account.{After, end_with, lent_by}
use Rattle.vm.specs.Called.{begun}
use Rattle.std.specs.Prelude.{Option}
use Rattle.vm.specs.declared.account.End.{End}

-- a pair of limits: the guest's own, and the one that the house gives
pub record Pair : Type 0 where
  pub guest : Option ℕ
  pub house : Option ℕ

-- the smaller of the two, which counts
abbrev pub limit_by : Pair → ℕ
limit_by l = smaller (remaining (limit_of l.guest) (limit_of l.house))

-- the same call under another pair of limits
abbrev pub under : Pair → Brought → Brought
under l b =
    let t = b.terms in
    record {
      file = b.file;
      lent = b.lent;
      context = b.context;
      terms = record { this = t.this; step_limit = l.guest; loop_limit = t.loop_limit; house_limit = l.house };
    }

-- how many charges the machine makes under a limit of n. A run from two purses ends where the run under the smaller ends: `Kept`
-- (OneLimit.antt)
abbrev pub makes : Brought → ℕ → ℕ
makes b n = (run_of (call_of b) n (begun b)).charges

-- what stood each time a charge fell due in the run under n, in order: the list that the run itself gives
abbrev pub dues : Brought → ℕ → List Run
dues b n = (history (call_of b) n (begun b)).dues

-- what the run under n had when its charge k + 1 fell due: entry k of that list
abbrev pub standing : Brought → ℕ → ℕ → Run
standing b n k = get_or (dues b n) k (begun b)

-- what stands when charge M + 1 falls due is read off the run under N, and not defined as what a limit of M leaves: entry M of the
-- dues is there, and it has M charges
pub record ReadOff (b : Brought) (M N : ℕ) : Type 0 where
  pub there : M < length (dues b N)
  pub made : (standing b N M).charges ≡ M

-- what is compared: the refusal, the end and all lent stores as left. What stands beside the end in an account, what remains of the
-- limits, is left out. Equal is bit for bit, since a number is its bits: a NaN equals itself, and +0.0 and -0.0 differ
pub record Compared : Type 0 where
  pub refusal : ℕ
  pub end : End
  pub lent : Lent

abbrev pub compared : After → Compared
compared w = record { refusal = w.reply.refusal; end = w.reply.account.end; lent = w.lent }

-- what is compared of a run that is stopped for steps: value +0.0, hand-over position 0 and exactly M charges, and of r its cells, temps,
-- notice counts, accumulator, depths and stacks, and its count of empty pops
unfoldable pub stopped_with : Call → ℕ → Run → Compared
stopped_with c M r =
    let m = r.machine in
    record { refusal = 0; end = end_with m for_steps 0 zero M; lent = lent_by c m }

-- the rule, of the answers to one call under two pairs of limits. If the machine makes at most M charges under N, the account under M
-- is the one under N in all that is compared; and if they are the same, it makes at most M. Otherwise the account under M is stopped for
-- steps, where the machine under N had M charges made and owed the next
pub record Agree (b : Brought) (M N : Pair) (underM underN : After) : Type 0 where
  pub equal : makes b (limit_by N) ≤ limit_by M → compared underM ≡ compared underN
  pub only : compared underM ≡ compared underN → makes b (limit_by N) ≤ limit_by M
  pub cut : limit_by M < makes b (limit_by N) → compared underM ≡ stopped_with (call_of b) (limit_by M) (standing b (limit_by N) (limit_by M))

-- the rule, and what makes it one about bills: the account under N bills what the machine makes, and what is read off for M is there
pub record AgreeInFull (b : Brought) (M N : Pair) (underM underN : After) : Type 0 where
  pub rule : Agree b M N underM underN
  pub made : underN.reply.account.end.charges ≡ makes b (limit_by N)
  pub read : limit_by M < makes b (limit_by N) → ReadOff b (limit_by M) (limit_by N)

-- any accepted call, whatever file, cells, context, `this`, loop limit and lent stores it brings, and any two pairs of limits, M below N.
-- Its two runs start from the same bytes in all cells and stores: `under` changes the limits alone
abbrev pub KeepsTwoLimits : (Brought → After) → Type 0
KeepsTwoLimits f = (b : Brought) → Accepted b → (M N : Pair) → limit_by M < limit_by N → AgreeInFull b M N (f (under M b)) (f (under N b))

-- the rule alone
abbrev pub KeepsRule : (Brought → After) → Type 0
KeepsRule f = (b : Brought) → Accepted b → (M N : Pair) → limit_by M < limit_by N → Agree b M N (f (under M b)) (f (under N b))

-- entry M of the dues is there wherever the run under N makes more than M charges, and has M of them made
abbrev pub DuesReadOff : Type 0
DuesReadOff = (b : Brought) (M N : ℕ) → M < makes b N → ReadOff b M N

-- pairs with one smaller limit give one answer, whichever of the two is the smaller
abbrev pub SameSmaller : (Brought → After) → Type 0
SameSmaller f = (b : Brought) → Accepted b → (K L : Pair) → limit_by K ≡ limit_by L → compared (f (under K b)) ≡ compared (f (under L b))

-- a run of which something remains of both limits was not cut: larger limits change nothing that is compared
abbrev pub NotCut : (Brought → After) → Type 0
NotCut f =
    (b : Brought) → Accepted b → (M N : Pair) → limit_by M < limit_by N → (f (under M b)).reply.account.end.charges < limit_by M
    → compared (f (under M b)) ≡ compared (f (under N b))
