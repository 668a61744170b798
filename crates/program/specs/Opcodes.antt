-- Document 01, 'The file': "One table tells which parts an opcode uses (c constant, h hash, n name, t temp, j target, p post)".
-- A record is decoded by its row. Which parts it may use the file check asks of the ranges (Ranges.antt), which are held to these
-- rows. Definitions only.
use Rattle.std.specs.Prelude.{ℕ, List, [], ◌∷◌, get_or}
use Rattle.program.specs.Choices.{divisor_of, cmp_of, eq_of}
use Rattle.program.specs.declared.instr.PostIdx.{PostIdx}
use Rattle.program.specs.declared.instr.ConstIdx.{ConstIdx}
use Rattle.program.specs.declared.instr.HashIdx.{HashIdx}
use Rattle.program.specs.declared.instr.NameIdx.{NameIdx}
use Rattle.program.specs.declared.instr.TempIdx.{TempIdx}
use Rattle.program.specs.declared.instr.Fn1.TheVariants.{Floor, Ceil, Trunc, Abs}
use Rattle.program.specs.declared.instr.Instr.{Instr}
use Rattle.program.specs.declared.opcodes.Part.{Part}
use Rattle.program.specs.declared.opcodes.Part.TheVariants.{Unused, Const, Hash, Name, Temp, Post, Target, Free}
use Rattle.program.specs.declared.opcodes.Parts.{Parts}

-- ---- one row for each opcode

-- an A that is made of a part, if the part is used: "constant, post, name and temp indices are numbers of separate kinds"
abbrev pub From : Part → Type 0 → Type 0
From Unused A = A
From Const A = ConstIdx → A
From Hash A = HashIdx → A
From Name A = NameIdx → A
From Temp A = TempIdx → A
From Post A = PostIdx → A
From Target A = ℕ → A
From Free A = ℕ → A

-- it is made of the number that a record holds there
abbrev pub give : {A : Type 0} (part : Part) → From part A → ℕ → A
give Unused f k = f
give Const f k = f (record { 0 = k })
give Hash f k = f (record { 0 = k })
give Name f k = f (record { 0 = k })
give Temp f k = f (record { 0 = k })
give Post f k = f (record { 0 = k })
give Target f k = f k
give Free f k = f k

-- what an opcode is: the kinds of its argument and of its bytes 2-3, its largest choice, and its instruction, made of a choice and these parts
pub record Row : Type 0 where
  pub argument : Part
  pub post : Part
  pub choice : ℕ
  pub instr : ℕ → From argument (From post Instr)

-- a row whose choice is 0, and one that names its largest choice
abbrev pub plain : (argument post : Part) → From argument (From post Instr) → Row
plain argument post instr = record { argument = argument; post = post; choice = 0; instr = λ x. instr }

abbrev pub chosen : (argument post : Part) → ℕ → (ℕ → From argument (From post Instr)) → Row
chosen argument post choice instr = record { argument = argument; post = post; choice = choice; instr = instr }

-- "Unused parts are 0": what is not named here is unused, and its choice is 0. "The other `Instr` cases are left out."
-- Document 02, Twelve: "Add opcodes 49 Floor, 50 Ceil, 51 Trunc and 52 Abs, each with a post for its result and no other part."
abbrev pub rows : List Row
rows =
    plain Const Unused Instr.Const  -- 1 Const c
    ∷ plain Hash Unused Instr.Hash  -- 2 Hash h
    ∷ plain Hash Unused Instr.Resource  -- 3 Resource h
    ∷ plain Unused Post Instr.This  -- 4 This p
    ∷ plain Name Post Instr.LoadVar  -- 5 LoadVar n p
    ∷ plain Temp Post Instr.LoadTemp  -- 6 LoadTemp t p
    ∷ plain Name Post Instr.LoadCtx  -- 7 LoadCtx n p
    ∷ plain Name Post Instr.Member  -- 8 Member n p
    ∷ plain Name Post Instr.StoreVar  -- 9 StoreVar n p
    ∷ plain Temp Post Instr.StoreTemp  -- 10 StoreTemp t p
    ∷ plain Unused Unused Instr.Push  -- 11 Push
    ∷ plain Const Unused Instr.PushConst  -- 12 PushConst c
    ∷ plain Unused Post Instr.Negate  -- 13 Negate p
    ∷ plain Unused Post Instr.Not  -- 14 Not p
    ∷ plain Unused Unused Instr.AddAcc  -- 15 AddAcc
    ∷ plain Unused Post Instr.AddLast  -- 16 AddLast p
    ∷ plain Unused Post Instr.Mul  -- 17 Mul p
    ∷ chosen Target Unused 1 (λ x. Instr.DivGuard (divisor_of x))  -- 18 DivGuard j, signed 0, absolute 1
    ∷ plain Unused Post Instr.Div  -- 19 Div p
    ∷ plain Unused Post Instr.Mod  -- 20 Mod p
    ∷ plain Const Post Instr.ModConst  -- 21 ModConst c p
    ∷ chosen Unused Post 255 Instr.HostMath  -- 22 HostMath p, "the argument count, 0 to 255"
    ∷ chosen Unused Post 3 (λ x. Instr.Cmp (cmp_of x))  -- 23 Cmp p, Lt, Le, Ge, Gt as 0 to 3
    ∷ chosen Const Post 3 (λ x. Instr.CmpConst (cmp_of x))  -- 24 CmpConst c p, the same
    ∷ chosen Unused Post 1 (λ x. Instr.Eq (eq_of x))  -- 25 Eq p, Eq 0, Ne 1
    ∷ chosen Const Post 1 (λ x. Instr.EqConst (eq_of x))  -- 26 EqConst c p, the same
    ∷ chosen Hash Post 1 (λ x. Instr.EqHash (eq_of x))  -- 27 EqHash h p, the same
    ∷ plain Target Post Instr.AndStep  -- 28 AndStep j p
    ∷ plain Target Post Instr.OrStep  -- 29 OrStep j p
    ∷ plain Unused Post Instr.AndLast  -- 30 AndLast p
    ∷ plain Unused Post Instr.OrLast  -- 31 OrLast p
    ∷ plain Target Unused Instr.Jump  -- 32 Jump j
    ∷ plain Target Unused Instr.JumpIfFalsy  -- 33 JumpIfFalsy j
    ∷ plain Unused Post Instr.Post  -- 34 Post p
    ∷ plain Target Unused Instr.HandlerPush  -- 35 HandlerPush j
    ∷ plain Target Unused Instr.HandlerPop  -- 36 HandlerPop j
    ∷ plain Target Post Instr.PointerEnter  -- 37 PointerEnter j p
    ∷ plain Unused Post Instr.PointerLeave  -- 38 PointerLeave p
    ∷ plain Free Post Instr.Call  -- 39 Call (free argument) p
    ∷ plain Target Unused Instr.LoopBegin  -- 40 LoopBegin j
    ∷ plain Target Unused Instr.LoopCheck  -- 41 LoopCheck j
    ∷ plain Unused Unused Instr.LoopEnd  -- 42 LoopEnd
    ∷ plain Target Unused Instr.EachBegin  -- 43 EachBegin j
    ∷ plain Target Name (λ j n. Instr.EachNextVar n j)  -- 44 EachNextVar j, "in 44 and 45 bytes 2-3 hold n or t"
    ∷ plain Target Temp (λ j t. Instr.EachNextTemp t j)  -- 45 EachNextTemp j
    ∷ plain Unused Post Instr.Return  -- 46 Return p
    ∷ plain Unused Unused Instr.Halt  -- 47 Halt
    ∷ plain Unused Unused Instr.End  -- 48 End
    ∷ plain Unused Post (Instr.Math1 Floor)  -- 49 Floor p
    ∷ plain Unused Post (Instr.Math1 Ceil)  -- 50 Ceil p
    ∷ plain Unused Post (Instr.Math1 Trunc)  -- 51 Trunc p
    ∷ plain Unused Post (Instr.Math1 Abs)  -- 52 Abs p
    ∷ []

-- the last opcode: "Refusal 7 now begins above 52."
abbrev pub last_opcode : ℕ
last_opcode = 52

-- the row of no opcode: it uses nothing, and its instruction is none
abbrev pub none : Row
none = plain Unused Unused Instr.Outside

-- the row of an opcode; opcode 0 and those above the last have none
abbrev pub row_of : ℕ → Row
row_of op = get_or (none ∷ rows) op none

-- the parts that the row of an opcode uses
abbrev pub parts_of_row : ℕ → Parts
parts_of_row op = record { argument = (row_of op).argument; post = (row_of op).post; choice = (row_of op).choice }

-- the instruction that a row makes of a choice, of bytes 2-3 and of an argument
abbrev pub made : Row → ℕ → ℕ → ℕ → Instr
made row choice post arg = give row.post (give row.argument (row.instr choice) arg) post

-- ---- opcodes that a record looks for at another position

abbrev pub const_op : ℕ
const_op = 1

abbrev pub store_var_op : ℕ
store_var_op = 9

abbrev pub store_temp_op : ℕ
store_temp_op = 10

abbrev pub halt_op : ℕ
halt_op = 47

abbrev pub end_op : ℕ
end_op = 48
