-- Set out: stored files with a HostMath, and what other records would give in its place. Definitions only; the last laws of src/laws.rt
-- evaluate them.
use Rattle.std.specs.Prelude.{ℕ, List, [], ◌∷◌, ◌++◌, get_or}
use Rattle.numeric.specs.Numbers.{zero, one}
use Rattle.eval.specs.Machine.{done, for_steps}
use Rattle.std.specs.Prelude.{Some, None}
use Rattle.vm.specs.Call.{Brought}
use Rattle.vm.specs.Account.{After}
use Rattle.vm.specs.Runs.{u16, u32, field, op, cell}

-- ---- calls

-- one name and no temps; the constants 2.0 and +0.0; post 1 has scale 1 and offset 1; no hash. The cell is missing, the stack has room
-- for two, and the step limit is 9
abbrev pub two : ℕ
two = 0x4000_0000

abbrev pub file : List ℕ → List ℕ
file code =
    field 1 (u16 1 ++ u16 0) ++ field 2 (u32 two ++ u32 zero)
    ++ field 3 (u32 one ++ u32 zero ++ u32 one ++ u32 one) ++ field 4 [] ++ field 5 code

abbrev pub calling : List ℕ → Brought
calling code =
    record {
      file = file code;
      lent = record { cells = cell; stack = 7 ∷ 7 ∷ []; loops = []; handlers = [] };
      context = cell;
      terms = record { this = 0; step_limit = Some 9; loop_limit = None; house_limit = None };
    }

-- ---- a record at position 2 or 3, in three codes

-- Const 2.0, EachBegin 2, the record, End: EachBegin looks at it, and goes on to End
abbrev pub looked_at : List ℕ → Brought
looked_at record2 = calling (op 1 0 ++ op 43 2 ++ record2 ++ op 48 0)

-- Const 2.0, EachBegin 2, Push, the record, StoreVar 0, End: EachBegin goes on to StoreVar, or behind it
abbrev pub looked_behind : List ℕ → Brought
looked_behind record3 = calling (op 1 0 ++ op 43 2 ++ op 11 0 ++ record3 ++ op 9 0 ++ op 48 0)

-- Const 2.0, Push, the record, End
abbrev pub run : List ℕ → Brought
run record2 = calling (op 1 0 ++ op 11 0 ++ record2 ++ op 48 0)

-- ---- records

-- HostMath of n arguments, under post 1, which it does not apply
abbrev pub host_math : ℕ → List ℕ
host_math n = 22 ∷ n ∷ u16 1 ++ u32 0

-- PointerEnter
abbrev pub enter : ℕ → ℕ → List ℕ
enter post target = 37 ∷ 0 ∷ u16 post ++ u32 target

-- Const +0.0
abbrev pub const_zero : List ℕ
const_zero = op 1 1

-- ---- what is seen of an answer: the outcome, the value, the stack's depth and whether a float was stored

abbrev pub seen : After → List ℕ
seen a =
    let e = a.reply.account.end in
    e.outcome ∷ e.value ∷ e.depths.stack ∷ get_or a.lent.cells.kinds 0 0 ∷ []

-- stored files, and what they give as it was and converted
abbrev pub stored : List Brought
stored =
    looked_at (host_math 0)
    ∷ looked_at (host_math 1)
    ∷ looked_behind (host_math 1)
    ∷ run (host_math 0)
    ∷ run (host_math 1)
    ∷ []

abbrev pub gives : List (List ℕ)
gives =
    (done ∷ two ∷ 0 ∷ 0 ∷ [])
    ∷ (done ∷ two ∷ 0 ∷ 0 ∷ [])
    ∷ (done ∷ two ∷ 0 ∷ 1 ∷ [])
    ∷ (done ∷ zero ∷ 1 ∷ 0 ∷ [])
    ∷ (done ∷ zero ∷ 1 ∷ 0 ∷ [])
    ∷ []

-- other records in the same places, each of which gives something else
abbrev pub others : List Brought
others =
    looked_at const_zero  -- a Const, for which EachBegin looks: it takes the constant, ..
    ∷ looked_behind const_zero  -- .. and leaves out the StoreVar
    ∷ run (enter 0 2)  -- its own position as target
    ∷ run (enter 1 3)  -- the post kept
    ∷ []

abbrev pub others_give : List (List ℕ)
others_give =
    (done ∷ zero ∷ 0 ∷ 0 ∷ [])
    ∷ (done ∷ two ∷ 0 ∷ 0 ∷ [])
    ∷ (for_steps ∷ zero ∷ 1 ∷ 0 ∷ [])
    ∷ (done ∷ one ∷ 1 ∷ 0 ∷ [])
    ∷ []

-- a HostMath of two arguments, for which no record that pops nothing can stand
abbrev pub of_two : List ℕ
of_two = done ∷ zero ∷ 0 ∷ 0 ∷ []
