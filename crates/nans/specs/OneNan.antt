-- In a run from the start no NaN but 7FC00000 ever stands. Definitions only; the laws are `laws::one_nan_in_calls` and
-- `laws::one_nan` (src/laws.rt).
use Rattle.std.specs.Prelude.{ℕ, ◌<◌, Bool, true, false, List, ◌≡◌, length, get_or, take}
use Rattle.numeric.specs.Numbers.{OneNan, zero}
use Rattle.eval.specs.Machine.{Cells, Call, Machine}
use Rattle.eval.specs.Run.{Run, history, paid}
use Rattle.vm.specs.Call.{Brought, Accepted, call_of}
use Rattle.vm.specs.Account.{After}
use Rattle.vm.specs.Called.{called, paid_in}
use Rattle.nans.specs.Stored.{stored_to}

-- ---- numbers

-- each of a list's is no NaN, or that one; behind its end there are zeros
abbrev pub AllOne : List ℕ → Type 0
AllOne l = (i : ℕ) → OneNan (get_or l i zero)

-- ---- a machine

-- an accumulator, a stack and temps in which no other NaN stands
pub record CleanParts (acc : ℕ) (stack temps : List ℕ) : Type 0 where
  pub acc_one : OneNan acc
  pub stack_one : AllOne stack
  pub temps_one : AllOne temps

abbrev pub Clean : Machine → Type 0
Clean m = CleanParts m.acc m.stack m.temps.numbers

-- cells that were stored to, and those that were not: a cell that nobody stores to keeps its bits
pub record Kept (stored : ℕ → Bool) (before after : Cells) : Type 0 where
  pub one : (i : ℕ) → stored i ≡ true → OneNan (get_or after.values i 0)
  pub kind : (i : ℕ) → stored i ≡ false → get_or after.kinds i 0 ≡ get_or before.kinds i 0
  pub value : (i : ℕ) → stored i ≡ false → get_or after.values i 0 ≡ get_or before.values i 0

-- from the run r, over what was charged, to the run s
pub record Stands (c : Call) (r : Run) (charged : List Run) (s : Run) : Type 0 where
  pub clean : Clean s.machine
  pub cells : Kept (stored_to c charged) r.machine.cells s.machine.cells

-- ---- what is claimed

-- From any clean state, as the start of every run is, whatever cells, context and `this` the call brings: each time that a charge
-- falls due, and at the end
pub record Ever (c : Call) (n : ℕ) (r : Run) : Type 0 where
  pub due : (k : ℕ) → let l = (history c n r).dues in k < length l → Stands c r (take k l) (get_or l k r)
  pub end : let h = history c n r in Stands c r (paid r h) h.end

abbrev pub OneNanEver : Type 0
OneNanEver = (b : Brought) (n : ℕ) (r : Run) → Clean r.machine → Ever (call_of b) n r

-- in an answer, of a call that brought these cells and stored to some of them
pub record InAnswer (stored : ℕ → Bool) (brought : Cells) (a : After) : Type 0 where
  pub value : OneNan a.reply.account.end.value
  pub accumulator : OneNan a.reply.account.end.accumulator
  pub temps : AllOne a.reply.account.end.temps.numbers
  pub stack : AllOne a.lent.stack
  pub cells : Kept stored brought a.lent.cells

-- in the answer to every accepted call
abbrev pub OneNanInCalls : Type 0
OneNanInCalls = (b : Brought) → Accepted b → InAnswer (stored_to (call_of b) (paid_in b)) b.lent.cells (called b)
