-- The numbers that the opcodes have. Definitions only.
use Rattle.std.specs.Prelude.{ℕ}
use Rattle.program.specs.declared.opcodes.Opcode.{Opcode}

abbrev pub number_of : Opcode → ℕ
number_of Opcode.Const = 1
number_of Opcode.Hash = 2
number_of Opcode.Resource = 3
number_of Opcode.This = 4
number_of Opcode.LoadVar = 5
number_of Opcode.LoadTemp = 6
number_of Opcode.LoadCtx = 7
number_of Opcode.Member = 8
number_of Opcode.StoreVar = 9
number_of Opcode.StoreTemp = 10
number_of Opcode.Push = 11
number_of Opcode.PushConst = 12
number_of Opcode.Negate = 13
number_of Opcode.Not = 14
number_of Opcode.AddAcc = 15
number_of Opcode.AddLast = 16
number_of Opcode.Mul = 17
number_of Opcode.DivGuard = 18
number_of Opcode.Div = 19
number_of Opcode.Mod = 20
number_of Opcode.ModConst = 21
number_of Opcode.HostMath = 22
number_of Opcode.Cmp = 23
number_of Opcode.CmpConst = 24
number_of Opcode.Eq = 25
number_of Opcode.EqConst = 26
number_of Opcode.EqHash = 27
number_of Opcode.AndStep = 28
number_of Opcode.OrStep = 29
number_of Opcode.AndLast = 30
number_of Opcode.OrLast = 31
number_of Opcode.Jump = 32
number_of Opcode.JumpIfFalsy = 33
number_of Opcode.Post = 34
number_of Opcode.HandlerPush = 35
number_of Opcode.HandlerPop = 36
number_of Opcode.PointerEnter = 37
number_of Opcode.PointerLeave = 38
number_of Opcode.Call = 39
number_of Opcode.LoopBegin = 40
number_of Opcode.LoopCheck = 41
number_of Opcode.LoopEnd = 42
number_of Opcode.EachBegin = 43
number_of Opcode.EachNextVar = 44
number_of Opcode.EachNextTemp = 45
number_of Opcode.Return = 46
number_of Opcode.Halt = 47
number_of Opcode.End = 48
number_of Opcode.Floor = 49
number_of Opcode.Ceil = 50
number_of Opcode.Trunc = 51
number_of Opcode.Abs = 52
