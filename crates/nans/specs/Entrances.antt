-- Each entrance of a NaN alone, with quiet and signalling NaNs of both signs. Definitions only; the law is `laws::entrances`
-- (src/laws.rt).
use Rattle.std.specs.Prelude.{ℕ, ◌+◌, ◌*◌, ◌^◌, Bool, false, true, cond, List, [], ◌∷◌, ◌++◌, ◌≡◌, map, replicate, get_or}
use Rattle.numeric.specs.Numbers.{zero, one, one_nan}
use Rattle.eval.specs.Machine.{Cells, start, no_temps, acc_is}
use Rattle.eval.specs.Run.{run_of}
use Rattle.std.specs.Prelude.{None}
use Rattle.vm.specs.Call.{Brought, call_of}
use Rattle.vm.specs.Called.{called}
use Rattle.vm.specs.Runs.{u16, u32, field, op}

-- quiet and signalling, of both signs
abbrev pub patterns : List ℕ
patterns = 0x7FC0_0001 ∷ 0xFFC0_0001 ∷ 0xFFC0_0000 ∷ 0x7F80_0001 ∷ 0xFF80_0001 ∷ 0xFFFF_FFFF ∷ []

-- ---- calls: what enters is stored to cell 1 and to temp 0, and held to the hash 7FC00000

-- a record with a post and an argument
abbrev pub posting : ℕ → ℕ → ℕ → List ℕ
posting opcode post argument = opcode ∷ 0 ∷ u16 post ++ u32 argument

-- StoreVar 1, StoreTemp 0, EqHash 0
abbrev pub shown : List ℕ
shown = op 9 1 ++ op 10 0 ++ op 27 0

-- two names and a temp; the constants n and 7FC00000; post 1 has the offset n, and post 2 is the identity; hashes 7FC00000 and n
abbrev pub file : ℕ → List ℕ → List ℕ
file n code =
    field 1 (u16 2 ++ u16 1) ++ field 2 (u32 n ++ u32 one_nan)
    ++ field 3 (u32 one ++ u32 zero ++ u32 one ++ u32 n ++ u32 one ++ u32 zero)
    ++ field 4 (u32 one_nan ++ u32 0 ++ u32 n ++ u32 0) ++ field 5 code

-- cell 0 is a float, or a hash whose low half is that float; cell 1 is missing
abbrev pub holding : Bool → ℕ → Cells
holding hashed n = record { kinds = cond hashed 2 1 ∷ 0 ∷ []; values = (n + cond hashed 5 0 * 2 ^ 32) ∷ 7 ∷ [] }

abbrev pub calling : Bool → List ℕ → ℕ → Brought
calling hashed code n =
    record {
      file = file n code;
      lent = record { cells = holding hashed n; stack = 0 ∷ 0 ∷ []; loops = []; handlers = [] };
      context = holding hashed n;
      terms = record { this = n; step_limit = None; loop_limit = None; house_limit = None };
    }

abbrev pub floats : List (List ℕ)
floats =
    op 1 0  -- a constant: Const, ..
    ∷ op 12 0  -- .. PushConst, ..
    ∷ (op 43 1 ++ op 1 0 ++ op 11 0)  -- .. EachBegin, of the Const at its target
    ∷ posting 30 1 0  -- a post's offset: AndLast on +0.0, ..
    ∷ posting 28 1 1  -- .. AndStep on it, ..
    ∷ posting 20 1 0  -- .. Mod by it
    ∷ op 4 0  -- `this`
    ∷ op 5 0  -- a float cell
    ∷ op 7 0  -- a float context cell
    ∷ (op 1 1 ++ op 13 0)  -- Negate of 7FC00000 under post 0, ..
    ∷ (op 1 1 ++ posting 13 2 0)  -- .. and under another identity
    ∷ []

abbrev pub hashes : List (List ℕ)
hashes =
    posting 5 2 0  -- the low half of a hash: of a cell, ..
    ∷ posting 7 2 0  -- .. and of a context cell
    ∷ []

-- what is seen of each: the value, cell 1, temp 0, and cell 0, which nobody stored to
abbrev pub seen : Bool → ℕ → List ℕ → List ℕ
seen hashed n code =
    let a = called (calling hashed (code ++ shown) n) in
    let e = a.reply.account.end in
    e.value ∷ get_or a.lent.cells.values 1 0 ∷ get_or e.temps.numbers 0 0 ∷ get_or a.lent.cells.values 0 0 ∷ []

-- EqHash is true of 7FC00000 and gives 1.0
abbrev pub enters_as_one : Bool → ℕ → List ℕ
enters_as_one hashed n = one ∷ one_nan ∷ one_nan ∷ get_or (holding hashed n).values 0 0 ∷ []

-- ---- what a program tells of the file's hash n: nothing, since no number is it

abbrev pub told : ℕ → ℕ
told n = (called (calling false (op 1 0 ++ op 27 1) n)).reply.account.end.value

-- ---- a state that a host made up, whose accumulator is n: DivGuard's clause is seen there alone, and what only moves within the
-- machine stays as it is

-- the accumulator and the stack after one record
abbrev pub after : ℕ → List ℕ → List ℕ
after n code =
    let c = call_of (calling false code n) in
    let m = (run_of c 1 (record { machine = acc_is n (start (holding false n) no_temps); charges = 0 })).machine in
    m.acc ∷ m.stack

abbrev pub made : List (List ℕ)
made =
    op 18 9  -- DivGuard, the divisor, ..
    ∷ (18 ∷ 1 ∷ 0 ∷ 0 ∷ u32 9)  -- .. and its magnitude
    ∷ op 13 0  -- Negate
    ∷ op 11 0  -- Push
    ∷ op 27 1  -- EqHash with n itself
    ∷ []

abbrev pub makes : ℕ → List (List ℕ)
makes n = (n ∷ one_nan ∷ []) ∷ (n ∷ one_nan ∷ []) ∷ (one_nan ∷ []) ∷ (n ∷ n ∷ []) ∷ (one ∷ []) ∷ []

-- ---- what is claimed, of each pattern

-- whatever a float enters by, 7FC00000 is seen
abbrev pub FloatsEnter : Type 0
FloatsEnter = map (λ (n : ℕ). map (seen false n) floats) patterns ≡ map (λ (n : ℕ). replicate 11 (enters_as_one false n)) patterns

-- .. and so it is of the low half of a hash
abbrev pub HashesEnter : Type 0
HashesEnter = map (λ (n : ℕ). map (seen true n) hashes) patterns ≡ map (λ (n : ℕ). replicate 2 (enters_as_one true n)) patterns

-- no number is the file's hash
abbrev pub NotTold : Type 0
NotTold = map told patterns ≡ replicate 6 0

-- each record from the state that was made up
abbrev pub MadeUp : Type 0
MadeUp = map (λ (n : ℕ). map (after n) made) patterns ≡ map makes patterns
