-- Calls on file bytes, set out, and the empty pops of their accounts; and a count that is full. Definitions only; src/laws.rt says
-- what they come to.
use Rattle.std.specs.Prelude.{ℕ, ◌-◌, List, [], ◌∷◌, ◌++◌}
use Rattle.eval.specs.Machine.{Call, start, no_temps, empty_pops_are}
use Rattle.eval.specs.Run.{Run, run_of}
use Rattle.std.specs.Prelude.{Some, None}
use Rattle.vm.specs.Call.{Brought, call_of}
use Rattle.vm.specs.Account.{After}
use Rattle.vm.specs.Called.{ran, called}
use Rattle.vm.specs.Runs.{u32, op, cell, plain, with_limits}
use Rattle.pops.specs.Takes.{most}

-- HostMath of so many arguments
abbrev pub host_math : ℕ → List ℕ
host_math n = 22 ∷ n ∷ 0 ∷ 0 ∷ u32 0

abbrev pub push : List ℕ
push = op 11 0

abbrev pub add_last : List ℕ
add_last = op 16 0

abbrev pub calls : List Brought
calls =
    plain [] add_last  -- 1. AddLast
    ∷ plain [] (push ++ add_last)  -- 2. Push, AddLast: a +0.0 that is on the stack is there
    ∷ plain [] (op 42 0)  -- 3. LoopEnd with no loop open
    ∷ plain (u32 0x4000_0000) (op 1 0 ++ op 40 9 ++ op 42 0)  -- 4. Const 2.0, LoopBegin, LoopEnd: its count is there
    ∷ plain (u32 0x4000_0000) (op 1 0 ++ op 40 9 ++ add_last ++ op 42 0)  -- 5. the same with its count taken
    ∷ plain [] (op 41 1)  -- 6. LoopCheck 1
    ∷ plain [] (op 15 0)  -- 7. AddAcc
    ∷ plain [] (op 36 1)  -- 8. HandlerPop 1
    ∷ plain [] (op 35 3 ++ push ++ op 5 0 ++ add_last)  -- 9. HandlerPush 3, Push, LoadVar (missing: the stack is cut), AddLast
    ∷ with_limits (Some 2) None [] (add_last ++ add_last ++ add_last)  -- 10. three AddLast, step limit 2
    ∷ plain [] (0 ∷ [])  -- 11. a file that is sent back
    ∷ []

abbrev pub empty_pops_in : After → ℕ
empty_pops_in a = a.reply.account.end.empty_pops

abbrev pub empty_pops_of : Brought → ℕ
empty_pops_of b = empty_pops_in (called b)

abbrev pub counts : List ℕ
counts = 1 ∷ 0 ∷ 0 ∷ 0 ∷ 1 ∷ 0 ∷ 0 ∷ 0 ∷ 1 ∷ 2 ∷ 0 ∷ []

-- HostMath takes too. It is withdrawn, and a call with one is sent back by 14: these are runs of the machine alone, which no test of a
-- file stands before
abbrev pub host_math_calls : List Brought
host_math_calls =
    plain [] (host_math 0)  -- 1. HostMath of no argument, ..
    ∷ plain [] (host_math 1)  -- 2. .. of one, ..
    ∷ plain [] (host_math 2)  -- 3. .. of two, ..
    ∷ plain [] (host_math 8)  -- 4. .. of eight, ..
    ∷ plain [] (host_math 9)  -- 5. .. and of nine, limited to 8
    ∷ plain [] (push ++ push ++ host_math 9)  -- 6. the same with two operands
    ∷ []

abbrev pub empty_pops_as_it_was : Brought → ℕ
empty_pops_as_it_was b = empty_pops_in (ran b)

abbrev pub host_math_counts : List ℕ
host_math_counts = 0 ∷ 0 ∷ 1 ∷ 7 ∷ 7 ∷ 5 ∷ []

-- ---- a count that is full

-- three records that take nine operands, of which none is there
abbrev pub nine : Call
nine = call_of (plain [] (add_last ++ host_math 8 ++ add_last))

-- a state made up for it, whose count lacks so many of the largest, and the count once they have run
abbrev pub lacking : ℕ → Run
lacking k = record { machine = empty_pops_are (most - k) (start cell no_temps); charges = 0 }

abbrev pub after : ℕ → ℕ
after k = (run_of nine 4 (lacking k)).machine.empty_pops

abbrev pub lacks : List ℕ
lacks = 10 ∷ 9 ∷ 8 ∷ 1 ∷ 0 ∷ []

abbrev pub ends : List ℕ
ends = (most - 1) ∷ most ∷ most ∷ most ∷ most ∷ []
