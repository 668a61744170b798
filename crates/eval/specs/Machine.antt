-- Document 01, 'One call' and 'The run': what a call brings, and what a run changes. Definitions only.
use Rattle.std.specs.Prelude.{ℕ, ◌+◌, ◌^◌, ◌-◌, ◌%◌, ◌≡◌, ◌<◌, Bool, false, cond, List, [], ltb, eqb, replicate, Result, MatchResult}
use Rattle.numeric.specs.Numbers.{zero, float}
use Rattle.eval.specs.declared.slot.Cell.{Cell}
use Rattle.eval.specs.declared.slot.Cell.TheVariants.{Missing, Float, Hash, Other}
use Rattle.eval.specs.declared.machine.Outcome.{Outcome}
use Rattle.eval.specs.declared.machine.Outcome.TheVariants.{Running, Done, Steps, MissingValue, StackCap, Full, HandedOver}
use Rattle.eval.specs.declared.machine.UnknownOutcome.{UnknownOutcome}
use Rattle.std.specs.Prelude.{Option}
use Rattle.eval.specs.declared.machine.Notices.{Notices}

-- ---- cells

-- cells, or context cells: the kinds, and the 64-bit values beside them
pub record Cells : Type 0 where
  pub kinds : List ℕ
  pub values : List ℕ

-- the five stores that a call lends and a run writes to: "all lent stores as left"
pub record Lent : Type 0 where
  pub cells : Cells
  pub stack : List ℕ
  pub loops : List ℕ
  pub handlers : List ℕ

abbrev pub cells_of : List ℕ → List ℕ → Cells
cells_of kinds values = record { kinds = kinds; values = values }

abbrev pub lent_of : List ℕ → List ℕ → List ℕ → List ℕ → List ℕ → Lent
lent_of kinds values stack loops handlers = record { cells = cells_of kinds values; stack = stack; loops = loops; handlers = handlers }

-- "A float cell's value is its 32 bits."
abbrev pub low : ℕ → ℕ
low value = value % 2 ^ 32

-- "A cell is missing (kind 0), a float (1), a 64-bit hash (2) or other (3), with a 64-bit value beside the kind."
unfoldable pub cell_of : ℕ → ℕ → Cell
cell_of kind value = cond (eqb kind 0) Missing (cond (eqb kind 1) (Float (float (low value))) (cond (eqb kind 2) (Hash value) Other))

-- ---- handlers, temps and notices

-- "handlers (0 to 64 entries: target, stack mark, loop mark)"
pub record Handler : Type 0 where
  pub target : ℕ
  pub stack_mark : ℕ
  pub loop_mark : ℕ

abbrev pub no_handler : Handler
no_handler = record { target = 0; stack_mark = 0; loop_mark = 0 }

-- "Temps are floats or missing": which are given, and their numbers
pub record Temps : Type 0 where
  pub given : List Bool
  pub numbers : List ℕ

-- "three notice counts (missing member, access underflow, loop limit)"
abbrev pub notices_of : ℕ → ℕ → ℕ → Notices
notices_of missingMember accessUnderflow loop_limit =
    record { missing_member = missingMember; access_underflow = accessUnderflow; loop_limit = loop_limit }

-- a count of 64 bits, which stays at its largest
abbrev pub counted : ℕ → ℕ
counted n = cond (ltb n (2 ^ 64 - 1)) (n + 1) n

-- ---- outcomes

-- "Outcomes: done; stopped for steps; for a missing value; for the stack cap; for a full store; handed over", numbered from 0
abbrev pub done : ℕ
done = 0

abbrev pub for_steps : ℕ
for_steps = 1

abbrev pub for_missing_value : ℕ
for_missing_value = 2

abbrev pub for_stack_cap : ℕ
for_stack_cap = 3

abbrev pub for_full_store : ℕ
for_full_store = 4

abbrev pub handed_over : ℕ
handed_over = 5

-- a run that has not ended; no account has it
abbrev pub running : ℕ
running = 6

-- the number of each case of the code's answer
abbrev pub outcome_number : Outcome → ℕ
outcome_number Done = done
outcome_number Steps = for_steps
outcome_number MissingValue = for_missing_value
outcome_number StackCap = for_stack_cap
outcome_number Full = for_full_store
outcome_number HandedOver = handed_over
outcome_number Running = running

-- the outcome with a number, of the six that an account has, or an error with a number that none of them has
abbrev pub Ended : ℕ → Result Outcome UnknownOutcome → Type 0
Ended n r = MatchResult r (λ o. (outcome_number o ≡ n) × (n < running)) (λ e. (e.0 ≡ n) × (handed_over < n))

-- ---- a call and a machine

-- what a call brings and no record changes: four tables of the file, the context cells, `this`, the loop limit, and
-- how many entries each of the lent working stores has
pub record Call : Type 0 where
  pub code : List ℕ
  pub consts : List ℕ
  pub posts : List ℕ
  pub hashes : List ℕ
  pub context : Cells
  pub this : ℕ
  pub loop_limit : Option ℕ
  pub stack_room : ℕ
  pub loop_room : ℕ
  pub handler_room : ℕ

-- what the next charge is for: the fetch at the position, or the second half of a PushConst, which loads a constant:
-- "between the two of a PushConst, the accumulator is pushed and the constant not yet loaded"
pub data Due : Type 0 where
  fetch : Due
  constant : ℕ → Due

-- The outcome is `running` until the run ends; a run that hands over stays at its position. The empty pops are document 02's, Five:
-- "The account gains a count of empty pops, LoopEnd's too, that stays at 2^64 - 1 once there."
pub record Machine : Type 0 where
  pub pos : ℕ
  pub acc : ℕ
  pub due : Due
  pub outcome : ℕ
  pub stack : List ℕ
  pub loops : List ℕ
  pub handlers : List Handler
  pub cells : Cells
  pub temps : Temps
  pub notices : Notices
  pub empty_pops : ℕ

-- "from position 0 with `Base::ROOT`"; "Accumulator +0.0, temps missing, stores empty."
abbrev pub start : Cells → Temps → Machine
start cells temps =
    record {
      pos = 0;
      acc = zero;
      due = fetch;
      outcome = running;
      stack = [];
      loops = [];
      handlers = [];
      cells = cells;
      temps = temps;
      notices = notices_of 0 0 0;
      empty_pops = 0;
    }

abbrev pub no_temps : Temps
no_temps = record { given = replicate 8 false; numbers = replicate 8 0 }

-- ---- one part changed

-- a machine of its parts
abbrev pub made : ℕ → ℕ → Due → ℕ → List ℕ → List ℕ → List Handler → Cells → Temps → Notices → ℕ → Machine
made pos acc due outcome stack loops handlers cells temps notices empty_pops =
    record {
      pos = pos;
      acc = acc;
      due = due;
      outcome = outcome;
      stack = stack;
      loops = loops;
      handlers = handlers;
      cells = cells;
      temps = temps;
      notices = notices;
      empty_pops = empty_pops;
    }

abbrev pub at : ℕ → Machine → Machine
at p m = made p m.acc m.due m.outcome m.stack m.loops m.handlers m.cells m.temps m.notices m.empty_pops

abbrev pub acc_is : ℕ → Machine → Machine
acc_is v m = made m.pos v m.due m.outcome m.stack m.loops m.handlers m.cells m.temps m.notices m.empty_pops

abbrev pub due_is : Due → Machine → Machine
due_is d m = made m.pos m.acc d m.outcome m.stack m.loops m.handlers m.cells m.temps m.notices m.empty_pops

abbrev pub stop : ℕ → Machine → Machine
stop o m = made m.pos m.acc m.due o m.stack m.loops m.handlers m.cells m.temps m.notices m.empty_pops

abbrev pub stack_is : List ℕ → Machine → Machine
stack_is s m = made m.pos m.acc m.due m.outcome s m.loops m.handlers m.cells m.temps m.notices m.empty_pops

abbrev pub loops_are : List ℕ → Machine → Machine
loops_are s m = made m.pos m.acc m.due m.outcome m.stack s m.handlers m.cells m.temps m.notices m.empty_pops

abbrev pub handlers_are : List Handler → Machine → Machine
handlers_are s m = made m.pos m.acc m.due m.outcome m.stack m.loops s m.cells m.temps m.notices m.empty_pops

abbrev pub cells_are : Cells → Machine → Machine
cells_are s m = made m.pos m.acc m.due m.outcome m.stack m.loops m.handlers s m.temps m.notices m.empty_pops

abbrev pub temps_are : Temps → Machine → Machine
temps_are s m = made m.pos m.acc m.due m.outcome m.stack m.loops m.handlers m.cells s m.notices m.empty_pops

abbrev pub notices_are : Notices → Machine → Machine
notices_are s m = made m.pos m.acc m.due m.outcome m.stack m.loops m.handlers m.cells m.temps s m.empty_pops

abbrev pub empty_pops_are : ℕ → Machine → Machine
empty_pops_are k m = made m.pos m.acc m.due m.outcome m.stack m.loops m.handlers m.cells m.temps m.notices k

-- one notice count changed
abbrev pub missing_member_is : ℕ → Machine → Machine
missing_member_is k m = let n = m.notices in notices_are (notices_of k n.access_underflow n.loop_limit) m

abbrev pub access_underflow_is : ℕ → Machine → Machine
access_underflow_is k m = let n = m.notices in notices_are (notices_of n.missing_member k n.loop_limit) m

abbrev pub loop_notice_is : ℕ → Machine → Machine
loop_notice_is k m = let n = m.notices in notices_are (notices_of n.missing_member n.access_underflow k) m
