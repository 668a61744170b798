-- Document 01, 'One call', and refusal 10 of 'Files and calls sent back'. Definitions only.
use Rattle.std.specs.Prelude.{ℕ, zero, suc, ◌+◌, ◌^◌, ◌-◌, Bool, true, not, ◌&&◌, ◌||◌, List, ◌≡◌, ltb, leb, eqb, length, get_or}
use Rattle.numeric.specs.Numbers.{entered}
use Rattle.file.specs.Fields.{counts, names_of, consts, posts, hashes, code}
use Rattle.file.specs.Records.{when, first}
use Rattle.file.specs.Refusals.{refusal}
use Rattle.eval.specs.Machine.{Cells, Lent, Call, cells_of}
use Rattle.std.specs.Prelude.{Option, Some, None}
use Rattle.vm.specs.declared.Terms.{Terms}
use Rattle.vm.specs.declared.Tested.{Tested as Given}

-- "A call brings a program file, variable cells, context cells, the f32 `this`, a step limit and a loop limit (each none or
-- a number, a u64 and a u32; no step limit counts as 2^64 - 1), and three lent working stores". The cells are lent too.
pub record Brought : Type 0 where
  pub file : List ℕ
  pub lent : Lent
  pub context : Cells
  pub terms : Terms

-- "no step limit counts as 2^64 - 1"
abbrev pub limit_of : Option ℕ → ℕ
limit_of None = 2 ^ 64 - 1
limit_of (Some n) = n

-- ---- 10

-- "a kind over 3, a float value of 2^32 or more"
unfoldable pub cell_fits : ℕ → ℕ → Bool
cell_fits kind value = leb kind 3 && (not (eqb kind 1) || ltb value (2 ^ 32))

-- k cells from i on
unfoldable pub cells_fit : List ℕ → List ℕ → ℕ → ℕ → Bool
cells_fit kinds values i zero = true
cells_fit kinds values i (suc k) = cell_fits (get_or kinds i 0) (get_or values i 0) && cells_fit kinds values (i + 1) k

-- one cell per name, and each of them fits
unfoldable pub one_each : ℕ → List ℕ → List ℕ → Bool
one_each names kinds values = eqb (length kinds) names && (eqb (length values) names && cells_fit kinds values 0 names)

-- "operand stack (0 to 65,600 f32), loop counts (0 to 64 u32), handlers (0 to 64 entries: target, stack mark, loop mark)"
unfoldable pub stores_fit : ℕ → ℕ → ℕ → Bool
stores_fit stack loops handlers = leb stack 65600 && (leb loops 64 && leb handlers 64)

-- "cells or context not one per name, a kind over 3, a float value of 2^32 or more, a working store over its maximum"
unfoldable pub call_fits : ℕ → Cells → Cells → ℕ → ℕ → ℕ → Bool
call_fits names cells context stack loops handlers =
    one_each names cells.kinds cells.values && (one_each names context.kinds context.values && stores_fit stack loops handlers)

-- ---- every number of a call

-- what the tests of a call look at: of the working stores their lengths alone
pub record Tested : Type 0 where
  pub file : List ℕ
  pub cells : Cells
  pub context : Cells
  pub stack : ℕ
  pub loops : ℕ
  pub handlers : ℕ

-- what the code's tests are handed
abbrev pub tested_of : Given → Tested
tested_of t =
    record {
      file = t.file.now;
      cells = cells_of t.cells.kinds.now t.cells.values.now;
      context = cells_of t.context.kinds.now t.context.values.now;
      stack = t.lengths.stack;
      loops = t.lengths.loops;
      handlers = t.lengths.handlers;
    }

-- the test of 10
abbrev pub fitting : Tested → Bool
fitting t = call_fits (names_of (counts t.file)) t.cells t.context t.stack t.loops t.handlers

-- the refusals of the file, then 10; 0 where there is none
unfoldable pub refusal_by : Tested → ℕ
refusal_by t = first (refusal t.file) (when (not (fitting t)) 10)

abbrev pub tested : Brought → Tested
tested b =
    let l = b.lent in
    record { file = b.file; cells = l.cells; context = b.context; stack = length l.stack; loops = length l.loops; handlers = length l.handlers }

abbrev pub refusal_of : Brought → ℕ
refusal_of b = refusal_by (tested b)

-- "A call is accepted when it meets no refusal."
abbrev pub Accepted : Brought → Type 0
Accepted b = refusal_of b ≡ 0

-- what the machine is handed: `this` enters here
abbrev pub call_of : Brought → Call
call_of b =
    record {
      code = code b.file;
      consts = consts b.file;
      posts = posts b.file;
      hashes = hashes b.file;
      context = b.context;
      this = entered b.terms.this;
      loop_limit = b.terms.loop_limit;
      stack_room = length b.lent.stack;
      loop_room = length b.lent.loops;
      handler_room = length b.lent.handlers;
    }
