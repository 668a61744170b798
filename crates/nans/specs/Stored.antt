-- Which cells a run stored to: a cell that nobody stores to keeps its bits. Definitions only.
use Rattle.std.specs.Prelude.{ℕ, Bool, false, ◌||◌, List, [], ◌∷◌, eqb}
use Rattle.program.specs.declared.instr.Instr.{Instr}
use Rattle.tables.specs.Tables.{instr_at}
use Rattle.eval.specs.Machine.{Call, Machine, Due, fetch, constant}
use Rattle.eval.specs.Run.{Run}

-- whether a record stores to cell i: StoreVar alone stores to a cell, to the one that it names
abbrev pub stores_to : Instr → ℕ → Bool
stores_to (Instr.Const k) i = false
stores_to (Instr.Hash h) i = false
stores_to (Instr.Resource h) i = false
stores_to (Instr.This p) i = false
stores_to (Instr.LoadVar n p) i = false
stores_to (Instr.LoadTemp t p) i = false
stores_to (Instr.LoadCtx n p) i = false
stores_to (Instr.Member n p) i = false
stores_to (Instr.StoreVar n p) i = eqb n.0 i
stores_to (Instr.StoreTemp t p) i = false
stores_to Instr.Push i = false
stores_to (Instr.PushConst k) i = false
stores_to (Instr.Negate p) i = false
stores_to (Instr.Not p) i = false
stores_to Instr.AddAcc i = false
stores_to (Instr.AddLast p) i = false
stores_to (Instr.Mul p) i = false
stores_to (Instr.DivGuard d j) i = false
stores_to (Instr.Div p) i = false
stores_to (Instr.Mod p) i = false
stores_to (Instr.ModConst k p) i = false
stores_to (Instr.HostMath n p) i = false
stores_to (Instr.Cmp op p) i = false
stores_to (Instr.CmpConst op k p) i = false
stores_to (Instr.Eq op p) i = false
stores_to (Instr.EqConst op k p) i = false
stores_to (Instr.EqHash op h p) i = false
stores_to (Instr.AndStep j p) i = false
stores_to (Instr.OrStep j p) i = false
stores_to (Instr.AndLast p) i = false
stores_to (Instr.OrLast p) i = false
stores_to (Instr.Jump j) i = false
stores_to (Instr.JumpIfFalsy j) i = false
stores_to (Instr.Post p) i = false
stores_to (Instr.HandlerPush j) i = false
stores_to (Instr.HandlerPop j) i = false
stores_to (Instr.PointerEnter j p) i = false
stores_to (Instr.PointerLeave p) i = false
stores_to (Instr.Call a p) i = false
stores_to (Instr.LoopBegin j) i = false
stores_to (Instr.LoopCheck j) i = false
stores_to Instr.LoopEnd i = false
stores_to (Instr.EachBegin j) i = false
stores_to (Instr.EachNextVar n j) i = false
stores_to (Instr.EachNextTemp t j) i = false
stores_to (Instr.Return p) i = false
stores_to Instr.Halt i = false
stores_to Instr.End i = false
stores_to (Instr.Math1 f p) i = false
stores_to Instr.Outside i = false

-- the same of a charge that fell due: the second of a PushConst stores nothing
abbrev pub stores_at : Call → Due → Machine → ℕ → Bool
stores_at c fetch m i = stores_to (instr_at c.code m.pos) i
stores_at c (constant k) m i = false

-- .. and of several
unfoldable pub stored_to : Call → List Run → ℕ → Bool
stored_to c [] i = false
stored_to c (r ∷ l) i = stores_at c r.machine.due r.machine i || stored_to c l i
