-- Document 01, 'Runs set out': twelve calls on file bytes, and their answers. Definitions only; proofs/TwelveRuns.antt evaluates them.
use Rattle.std.specs.Prelude.{ℕ, ◌-◌, ◌/◌, ◌%◌, false, List, [], ◌∷◌, ◌++◌, length, replicate}
use Rattle.eval.specs.Machine.{Cells, Lent, notices_of, done, for_steps, for_missing_value, handed_over}
use Rattle.std.specs.Prelude.{Option, Some, None}
use Rattle.vm.specs.Call.{Brought}
use Rattle.vm.specs.Purses.{remaining}
use Rattle.vm.specs.Account.{After}
use Rattle.vm.specs.declared.account.End.{End}
use Rattle.vm.specs.declared.account.Remainders.{Remainders}

-- ---- bytes

abbrev pub u16 : ℕ → List ℕ
u16 n = n % 256 ∷ n / 256 ∷ []

abbrev pub u32 : ℕ → List ℕ
u32 n = n % 256 ∷ n / 256 % 256 ∷ n / 65536 % 256 ∷ n / 16777216 ∷ []

-- "one-byte tag, two-byte length, body"
abbrev pub field : ℕ → List ℕ → List ℕ
field tag body = tag ∷ u16 (length body) ++ body

-- a file of one name and no temps, with post 0 alone and one hash
abbrev pub file : List ℕ → List ℕ → List ℕ
file consts code =
    field 1 (u16 1 ++ u16 0) ++ field 2 consts ++ field 3 (u32 0x3F80_0000 ++ u32 0) ++ field 4 (replicate 8 0) ++ field 5 code

-- a record with no choice and post 0
abbrev pub op : ℕ → ℕ → List ℕ
op opcode argument = opcode ∷ 0 ∷ 0 ∷ 0 ∷ u32 argument

-- ---- calls: "what is not named is post 0, no limit, and stores large enough". The working stores come full of 7s.

-- the cell and the context cell: missing, with a 7 beside the kind
abbrev pub cell : Cells
cell = record { kinds = 0 ∷ []; values = 7 ∷ [] }

abbrev pub with_limits : Option ℕ → Option ℕ → List ℕ → List ℕ → Brought
with_limits step_limit loop_limit consts code =
    record {
      file = file consts code;
      lent = record { cells = cell; stack = 7 ∷ 7 ∷ 7 ∷ 7 ∷ []; loops = 7 ∷ 7 ∷ []; handlers = 7 ∷ 7 ∷ [] };
      context = cell;
      terms = record { this = 0; step_limit = step_limit; loop_limit = loop_limit; house_limit = None };
    }

abbrev pub plain : List ℕ → List ℕ → Brought
plain consts code = with_limits None None consts code

-- PushConst 2.0, AddLast, End
abbrev pub sum : List ℕ
sum = op 12 0 ++ op 16 0 ++ op 48 0

-- Const, LoopBegin 5, Post 0, LoopCheck 2, LoopEnd, End
abbrev pub loop : List ℕ
loop = op 1 0 ++ op 40 5 ++ op 34 0 ++ op 41 2 ++ op 42 0 ++ op 48 0

abbrev pub calls : List Brought
calls =
    with_limits (Some 0) None [] []  -- 1. Empty code, limit 0
    ∷ with_limits (Some 1) None [] []  -- 2. Empty, limit 1
    ∷ plain (u32 0x4000_0000) sum  -- 3. PushConst 2.0, AddLast, End
    ∷ with_limits (Some 1) None (u32 0x4000_0000) sum  -- 4. The same, limit 1
    ∷ plain (u32 0x4040_0000) loop  -- 5. Const 3.0, LoopBegin 5, Post 0, LoopCheck 2, LoopEnd, End
    ∷ with_limits None (Some 0) (u32 0x4040_0000) loop  -- 6. As 5, loop limit 0
    ∷ plain (u32 0) loop  -- 7. As 5, count 0.0
    ∷ with_limits None (Some 2) (u32 0x7FC0_0000) loop  -- 8. As 5, count NaN, loop limit 2
    ∷ plain [] (op 35 3 ++ op 11 0 ++ op 5 0 ++ op 48 0)  -- 9. HandlerPush 3, Push, LoadVar (missing), End
    ∷ plain [] (op 5 0)  -- 10. LoadVar (missing)
    ∷ plain (u32 0xC080_0000 ++ u32 0x4000_0000) (op 1 0 ++ op 21 1 ++ op 48 0)  -- 11. Const -4.0, ModConst 2.0, End
    ∷ plain [] (op 2 0)  -- 12. Hash
    ∷ []

-- ---- answers: the whole of them, temps and lent stores included

-- "The stores hold the stacks below the depths, zeros from there on."
abbrev pub holding : List ℕ → Lent
holding stack = record { cells = cell; stack = stack ++ replicate (4 - length stack) 0; loops = 0 ∷ 0 ∷ []; handlers = 0 ∷ 0 ∷ [] }

-- no limit, as a number
abbrev pub none : ℕ
none = 18_446_744_073_709_551_615

-- In all these runs the hand-over position is 0, no loop and no handler is left, no pop is empty, the temps are missing and the
-- cell is as it came. What differs: what remains of both limits, outcome, value, charges, accumulator, what is left on the
-- stack, and the loop notices.
abbrev pub answer_with : Remainders → ℕ → ℕ → ℕ → ℕ → List ℕ → ℕ → After
answer_with remainders outcome value charges accumulator stack noticed =
    let end : End = record {
      outcome = outcome;
      value = value;
      position = 0;
      charges = charges;
      accumulator = accumulator;
      depths = record { stack = length stack; loops = 0; handlers = 0 };
      notices = notices_of 0 0 noticed;
      empty_pops = 0;
      temps = record { numbers = replicate 8 0; given = replicate 8 false };
    } in
    record { reply = record { refusal = 0; account = record { end = end; remainders = remainders } }; lent = holding stack }

-- the twelve have a step limit or none, and no house limit
abbrev pub answer : ℕ → ℕ → ℕ → ℕ → ℕ → List ℕ → ℕ → After
answer limit outcome value charges accumulator stack noticed =
    answer_with (remaining (limit - charges) (none - charges)) outcome value charges accumulator stack noticed

abbrev pub answers : List After
answers =
    answer 0 for_steps 0 0 0 [] 0  -- 1. stopped for steps, 0 charges
    ∷ answer 1 done 0 1 0 [] 0  -- 2. done, 1
    ∷ answer none done 0x4000_0000 4 0x4000_0000 [] 0  -- 3. 2.0, 4 charges
    ∷ answer 1 for_steps 0 1 0 (0 ∷ []) 0  -- 4. stopped, 1 charge, stack depth 1
    ∷ answer none done 0x4040_0000 10 0x4040_0000 [] 0  -- 5. 3.0, 10 charges
    ∷ answer none done 0x4040_0000 6 0x4040_0000 [] 1  -- 6. 6 charges, 1 loop notice
    ∷ answer none done 0 3 0 [] 0  -- 7. 3 charges
    ∷ answer none done 0x7FC0_0000 8 0x7FC0_0000 [] 1  -- 8. 8 charges, 1 notice
    ∷ answer none done 0 4 0 [] 0  -- 9. +0.0, 4 charges, depths 0
    ∷ answer none for_missing_value 0 1 0 [] 0  -- 10. stopped for a missing value, 1 charge
    ∷ answer none done 0 3 0 [] 0  -- 11. +0.0, 3 charges
    ∷ answer none handed_over 0 1 0 [] 0  -- 12. handed over at 0, 1 charge
    ∷ []
