-- Empty pops: operands that a record took and that were not on the stack, which tells an author what a compiler did. Which record
-- takes how many operands, and how many of them were not there. Definitions only; the laws are `laws::counted_in_calls` and
-- `laws::counted_in_full` (src/laws.rt).
use Rattle.std.specs.Prelude.{ℕ, ◌+◌, ◌-◌, ◌^◌, ◌≤◌, min, cond, List, [], ◌∷◌, ◌≡◌, eqb, length}
use Rattle.numeric.specs.Numbers.{eq}
use Rattle.numeric.specs.Arithmetic.{selected, added, multiplied, divided, mod_runtime}
use Rattle.program.specs.Instructions.{cmp_holds, eq_holds}
use Rattle.program.specs.declared.instr.Instr.{Instr}
use Rattle.tables.specs.Tables.{post_at, instr_at}
use Rattle.eval.specs.Machine.{Call, Machine, Due, fetch, constant}
use Rattle.eval.specs.Run.{Run, history, paid}
use Rattle.vm.specs.Call.{Brought, Accepted, call_of}
use Rattle.vm.specs.Called.{called, paid_in}

-- ---- which record takes

-- how a record takes from the stack: not at all, one operand for a result of the popped number and the accumulator, so many for
-- nothing, or the count of a loop that it closes
pub data Taking : Type 0 where
  none : Taking
  one : (ℕ → ℕ → ℕ) → Taking
  many : ℕ → Taking
  count : Taking

-- Every record that pops takes, HostMath and LoopEnd too. AddAcc and LoopCheck look at the top, a missing value cuts the stack,
-- HandlerPop takes a handler: none of them takes an operand
abbrev pub taking_of : Call → Instr → Taking
taking_of c (Instr.Const k) = none
taking_of c (Instr.Hash h) = none
taking_of c (Instr.Resource h) = none
taking_of c (Instr.This p) = none
taking_of c (Instr.LoadVar n p) = none
taking_of c (Instr.LoadTemp t p) = none
taking_of c (Instr.LoadCtx n p) = none
taking_of c (Instr.Member n p) = none
taking_of c (Instr.StoreVar n p) = none
taking_of c (Instr.StoreTemp t p) = none
taking_of c Instr.Push = none
taking_of c (Instr.PushConst k) = none
taking_of c (Instr.Negate p) = none
taking_of c (Instr.Not p) = none
taking_of c Instr.AddAcc = none
taking_of c (Instr.AddLast p) = one (λ popped acc. added acc popped (post_at c.posts p.0).op)
taking_of c (Instr.Mul p) = one (λ popped acc. multiplied acc popped (post_at c.posts p.0).op)
taking_of c (Instr.DivGuard d j) = none
taking_of c (Instr.Div p) = one (λ popped acc. divided acc popped (post_at c.posts p.0).op)
taking_of c (Instr.Mod p) = one (λ popped acc. mod_runtime popped acc (post_at c.posts p.0))
taking_of c (Instr.ModConst k p) = none
taking_of c (Instr.HostMath n p) = many (min n 8 - 1)
taking_of c (Instr.Cmp op p) = one (λ popped acc. selected (post_at c.posts p.0) (cmp_holds op popped acc))
taking_of c (Instr.CmpConst op k p) = none
taking_of c (Instr.Eq op p) = one (λ popped acc. selected (post_at c.posts p.0) (eq_holds op (eq popped acc)))
taking_of c (Instr.EqConst op k p) = none
taking_of c (Instr.EqHash op h p) = none
taking_of c (Instr.AndStep j p) = none
taking_of c (Instr.OrStep j p) = none
taking_of c (Instr.AndLast p) = none
taking_of c (Instr.OrLast p) = none
taking_of c (Instr.Jump j) = none
taking_of c (Instr.JumpIfFalsy j) = none
taking_of c (Instr.Post p) = none
taking_of c (Instr.HandlerPush j) = none
taking_of c (Instr.HandlerPop j) = none
taking_of c (Instr.PointerEnter j p) = none
taking_of c (Instr.PointerLeave p) = none
taking_of c (Instr.Call a p) = none
taking_of c (Instr.LoopBegin j) = none
taking_of c (Instr.LoopCheck j) = none
taking_of c Instr.LoopEnd = count
taking_of c (Instr.EachBegin j) = none
taking_of c (Instr.EachNextVar n j) = none
taking_of c (Instr.EachNextTemp t j) = none
taking_of c (Instr.Return p) = none
taking_of c Instr.Halt = none
taking_of c Instr.End = none
taking_of c (Instr.Math1 f p) = none
taking_of c Instr.Outside = none

-- ---- what was not there

-- how many operands it takes of a machine: with no loop open LoopEnd takes none
abbrev pub takes : Taking → Machine → ℕ
takes none m = 0
takes (one result) m = 1
takes (many k) m = k
takes count m = cond (eqb (length m.loops) 0) 0 1

-- .. and how many of those beyond the depth that it met
abbrev pub beyond : Call → Instr → Machine → ℕ
beyond c i m = takes (taking_of c i) m - length m.stack

-- the same of a charge that fell due: the second of a PushConst takes nothing
abbrev pub beyond_at : Call → Due → Machine → ℕ
beyond_at c fetch m = beyond c (instr_at c.code m.pos) m
beyond_at c (constant k) m = 0

-- the sum over charges that fell due
unfoldable pub total : Call → List Run → ℕ
total c [] = 0
total c (r ∷ l) = beyond_at c r.machine.due r.machine + total c l

-- ---- what is claimed

-- where the count stays once it is there
abbrev pub most : ℕ
most = 2 ^ 64 - 1

-- From any state: the count at the end is the count at the start and what each record took beyond the depth that it met, and no
-- more than the largest.
abbrev pub CountedInFull : Type 0
CountedInFull = (c : Call) (n : ℕ) (r : Run) → r.machine.empty_pops ≤ most
    → let h = history c n r in h.end.machine.empty_pops ≡ min (r.machine.empty_pops + total c (paid r h)) most

-- Of the account of every accepted call.
abbrev pub CountedInCalls : Type 0
CountedInCalls = (b : Brought) → Accepted b
    → let e = (called b).reply.account.end in
    e.empty_pops ≡ min (total (call_of b) (paid_in b)) most
