-- Document 01, 'The run': charges, and the run under a limit. Definitions only.
use Rattle.std.specs.Prelude.{ℕ, zero, suc, ◌+◌, ◌-◌, Bool, cond, List, [], ◌∷◌, eqb, take}
use Rattle.tables.specs.Tables.{const_at, instr_at}
use Rattle.eval.specs.Machine.{Cells, Temps, Call, Machine, Due, fetch, constant, due_is, stop, start, for_steps, running}
use Rattle.eval.specs.Acts.{acted, loaded}

-- a machine, and the charges that it has made. What a record does to the machine makes no charge
pub record Run : Type 0 where
  pub machine : Machine
  pub charges : ℕ

abbrev pub lift : (Machine → Machine) → Run → Run
lift f r = record { machine = f r.machine; charges = r.charges }

-- a charge is made: "the account's charges are the number made"
abbrev pub charged : Run → Run
charged r = record { machine = r.machine; charges = r.charges + 1 }

abbrev pub is_running : ℕ → Bool
is_running outcome = eqb outcome running

abbrev pub goes_on : Run → Bool
goes_on r = is_running r.machine.outcome

-- what is done once the due charge is made: "PushConst pushes, then owes a second charge, then loads."
unfoldable pub due_done : Call → Due → Machine → Machine
due_done c fetch m = acted c (instr_at c.code m.pos) m
due_done c (constant k) m = due_is fetch (loaded (const_at c.consts k) m)

-- one charge, "and all done that comes before the next"
unfoldable pub ticked : Call → Run → Run
ticked c r = lift (due_done c r.machine.due) (charged r)

-- "with none left the run stops for steps": nothing is due any more
abbrev pub out_of_steps : Run → Run
out_of_steps r = lift (λ m. due_is fetch (stop for_steps m)) r

-- a run under a limit: what stood each time a charge fell due, in order, and where it ended. "What stands when charge M + 1
-- falls due is read off the run under N, and not defined as what a limit of M leaves"
pub record History : Type 0 where
  pub dues : List Run
  pub end : Run

abbrev pub before : Run → History → History
before r h = record { dues = r ∷ h.dues; end = h.end }

-- "Before each fetch one charge is due; with none left the run stops for steps." "A due charge is made if fewer than the limit
-- have been made": the history of n more charges.
unfoldable pub history : Call → ℕ → Run → History
history c zero r = before r (record { dues = []; end = out_of_steps r })
history c (suc n) r =
    let t = ticked c r in
    let h = history c n t in
    before r (cond (goes_on t) h (record { dues = []; end = t }))

-- what fell due of a run from r, and was charged
abbrev pub paid : Run → History → List Run
paid r h = take (h.end.charges - r.charges) h.dues

abbrev pub run_of : Call → ℕ → Run → Run
run_of c n r = (history c n r).end

-- no charge made
abbrev pub fresh : Cells → Temps → Run
fresh cells temps = record { machine = start cells temps; charges = 0 }
