-- Document 01, 'One call': the account. Definitions only.
use Rattle.std.specs.Prelude.{ℕ, cond, map, [], eqb, length}
use Rattle.numeric.specs.Numbers.{zero}
use Rattle.eval.specs.Stacks.{stored}
use Rattle.eval.specs.Machine.{Lent, Temps, Call, Machine, start, no_temps, done, handed_over}
use Rattle.eval.specs.Run.{Run}
use Rattle.eval.specs.State.{packed}
use Rattle.vm.specs.Purses.{Spent}
use Rattle.vm.specs.declared.account.Account.{Account}
use Rattle.vm.specs.declared.account.End.{End}
use Rattle.vm.specs.declared.account.Remainders.{Remainders}
use Rattle.vm.specs.declared.account.Reply.{Reply}
use Rattle.vm.specs.declared.account.Temps.{Temps as Given}

-- "The value is the accumulator when done, otherwise +0.0."
abbrev pub value_of : ℕ → ℕ → ℕ
value_of outcome acc = cond (eqb outcome done) acc zero

-- "hand-over position (else 0)"
abbrev pub position_of : ℕ → ℕ → ℕ
position_of outcome pos = cond (eqb outcome handed_over) pos 0

-- the machine's temps, as an account has them
abbrev pub temps_of : Given → Temps
temps_of t = record { given = t.given; numbers = t.numbers }

-- "An account holds: outcome, hand-over position (else 0), value, charges, accumulator, the three final depths, the temps,
-- three notice counts": all of a machine, but for what its outcome decides. "The account gains a count of empty pops"
abbrev pub end_with : Machine → ℕ → ℕ → ℕ → ℕ → End
end_with m outcome position value charges =
    record {
      outcome = outcome;
      value = value;
      position = position;
      charges = charges;
      accumulator = m.acc;
      depths = record { stack = length m.stack; loops = length m.loops; handlers = length m.handlers };
      notices = m.notices;
      empty_pops = m.empty_pops;
      temps = record { numbers = m.temps.numbers; given = m.temps.given };
    }

-- the end of a run
unfoldable pub end_of : Run → End
end_of r =
    let m = r.machine in
    end_with m m.outcome (position_of m.outcome m.pos) (value_of m.outcome m.acc) r.charges

-- no account: an end of zeros alone, as a machine at its start has, and nothing taken from either limit
abbrev pub no_account : Remainders → Account
no_account p = record { end = end_with (start (record { kinds = []; values = [] }) no_temps) 0 0 0 0; remainders = p }

-- the answer to an accepted call
abbrev pub answered : Account → Reply
answered a = record { refusal = 0; account = a }

-- the answer to a call, with "all lent stores as left"
pub record After : Type 0 where
  pub reply : Reply
  pub lent : Lent

-- "After a run, working entries at or above the final depth are zero."
abbrev pub lent_by : Call → Machine → Lent
lent_by c m =
    record {
      cells = m.cells;
      stack = stored c.stack_room m.stack;
      loops = stored c.loop_room m.loops;
      handlers = stored c.handler_room (map packed m.handlers);
    }

-- what a run leaves. "The account gains what remains of both"
unfoldable pub left_by : Call → Spent → After
left_by c s =
    let r = s.run in
    record { reply = answered (record { end = end_of r; remainders = s.remainders }); lent = lent_by c r.machine }
