-- The machine before it counted empty pops: nobody was told whether an operand was there. Definitions only; the law is
-- `laws::as_before` (src/laws.rt).
use Rattle.std.specs.Prelude.{ℕ, zero, suc, ◌-◌, cond, ◌≡◌, eqb, length, take}
use Rattle.numeric.specs.Numbers.{zero as none_there}
use Rattle.program.specs.declared.instr.Instr.{Instr}
use Rattle.tables.specs.Tables.{const_at, instr_at}
use Rattle.eval.specs.Stacks.{pop, top}
use Rattle.eval.specs.Machine.{Call, Machine, Due, fetch, constant, due_is, stack_is, loops_are}
use Rattle.eval.specs.Acts.{next, loaded, acted}
use Rattle.eval.specs.Run.{Run, lift, charged, goes_on, out_of_steps}
use Rattle.vm.specs.Call.{Brought, refusal_of, call_of}
use Rattle.vm.specs.Purses.{Spent, remaining, purses}
use Rattle.vm.specs.Account.{After, left_by}
use Rattle.vm.specs.Called.{begun, refused, called}
use Rattle.vm.specs.declared.account.Account.{Account}
use Rattle.vm.specs.declared.account.End.{End}
use Rattle.pops.specs.Takes.{Taking, none, one, many, count, taking_of}

-- ---- records

-- a record that takes, with no count: an operand that is not there is +0.0
abbrev pub took_before : Taking → (Machine → Machine) → Machine → Machine
took_before none act m = act m
took_before (one result) act m = loaded (result (top none_there m.stack) m.acc) (stack_is (pop m.stack) m)
took_before (many k) act m = loaded none_there (stack_is (take (length m.stack - k) m.stack) m)
took_before count act m = cond (eqb (length m.loops) 0) (next m) (next (loops_are (pop m.loops) (stack_is (pop m.stack) m)))

-- every record: those that take nothing act as they do
abbrev pub acted_before : Call → Instr → Machine → Machine
acted_before c i m = took_before (taking_of c i) (acted c i) m

-- ---- runs and calls, as specs/Run.antt of eval and specs/Purses.antt of vm have them

unfoldable pub due_done_before : Call → Due → Machine → Machine
due_done_before c fetch m = acted_before c (instr_at c.code m.pos) m
due_done_before c (constant k) m = due_is fetch (loaded (const_at c.consts k) m)

unfoldable pub ticked_before : Call → Run → Run
ticked_before c r = lift (due_done_before c r.machine.due) (charged r)

unfoldable pub spend_before : Call → ℕ → ℕ → Run → Spent
spend_before c zero house r = record { run = out_of_steps r; remainders = remaining zero house }
spend_before c (suc guest) zero r = record { run = out_of_steps r; remainders = remaining (suc guest) zero }
spend_before c (suc guest) (suc house) r =
    let t = ticked_before c r in
    let s = spend_before c guest house t in
    cond (goes_on t) s (record { run = t; remainders = remaining guest house })

unfoldable pub called_before : Brought → After
called_before b =
    let n = refusal_of b in
    let p = purses b.terms in
    cond (eqb n 0) (left_by (call_of b) (spend_before (call_of b) p.guest p.house (begun b))) (refused n b)

-- ---- what is claimed

-- an end without its count of empty pops
abbrev pub end_without : End → End
end_without e =
    record {
      outcome = e.outcome;
      value = e.value;
      position = e.position;
      charges = e.charges;
      accumulator = e.accumulator;
      depths = e.depths;
      notices = e.notices;
      empty_pops = 0;
      temps = e.temps;
    }

-- an answer without it: the refusal, the remainders and all lent stores stay
abbrev pub without : After → After
without a =
    let r = a.reply in
    let account : Account = record { end = end_without r.account.end; remainders = r.account.remainders } in
    record { reply = record { refusal = r.refusal; account = account }; lent = a.lent }

-- values, charges and stops are as before: the answer to every call is the same but for the count
abbrev pub AsBefore : Type 0
AsBefore = (b : Brought) → without (called b) ≡ called_before b
