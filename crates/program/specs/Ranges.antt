-- Which parts an opcode uses, by the range that it lies in: the opcodes in ascending ranges, each named for what its opcodes have in
-- common. Definitions only. They are held to the table of the opcodes, the rows of Opcodes.antt: `as_before` (src/laws.rt).
use Rattle.std.specs.Prelude.{ℕ, ◌+◌, ◌≡◌, ◌≤◌, Bool, ◌&&◌, ◌||◌, cond, if◌then◌else◌, List, [], ◌∷◌, All, leb, eqb}
use Rattle.program.specs.Opcodes.{last_opcode}
use Rattle.program.specs.declared.opcodes.Part.{Part}
use Rattle.program.specs.declared.opcodes.Part.TheVariants.{Unused, Const, Hash, Name, Temp, Post, Target, Free}
use Rattle.program.specs.declared.opcodes.Parts.{Parts}

-- ---- what an opcode uses

-- the kinds of its argument and of its bytes 2-3, and its largest choice
abbrev pub used : Part → Part → ℕ → Parts
used argument post choice = record { argument = argument; post = post; choice = choice }

-- an argument and nothing else; an argument and a post; "unused parts are 0", all of them
abbrev pub bare : Part → Parts
bare argument = used argument Unused 0

abbrev pub posted : Part → Parts
posted argument = used argument Post 0

abbrev pub nothing : Parts
nothing = bare Unused

-- ---- the ranges

-- the opcodes from the first to the last
abbrev pub between : ℕ → ℕ → ℕ → Bool
between first last op = leb first op && leb op last

-- 1 to 3: an argument and nothing else, a constant for Const, a hash for Hash and Resource
abbrev pub values : ℕ → Parts
values op = bare (cond (eqb op 1) Const Hash)

-- 4 to 10: a post, and the slot that is read or written as the argument: a temp for LoadTemp and StoreTemp, a name for the
-- others. But This has no argument
abbrev pub slots : ℕ → Parts
slots op = posted (cond (eqb op 4) Unused (cond (eqb op 6 || eqb op 10) Temp Name))

-- 11 to 12: nothing. But PushConst has a constant
abbrev pub pushes : ℕ → Parts
pushes op = bare (cond (eqb op 12) Const Unused)

-- 13 to 22: a post and nothing else. But AddAcc has nothing, and DivGuard has a target and a choice, "signed 0, absolute 1", and
-- no post; ModConst has a constant too, and HostMath a choice, "the argument count, 0 to 255"
abbrev pub arithmetic : ℕ → Parts
arithmetic op =
    cond (eqb op 15) nothing  -- AddAcc
    (cond (eqb op 18) (used Target Unused 1)  -- DivGuard
    (cond (eqb op 21) (posted Const)  -- ModConst
    (cond (eqb op 22) (used Unused Post 255)  -- HostMath
    (posted Unused))))

-- 23 to 27: a post and a choice, "23-24 Lt, Le, Ge, Gt as 0 to 3; 25-27 Eq 0, Ne 1"; CmpConst and EqConst have a constant too,
-- EqHash a hash
abbrev pub tests : ℕ → Parts
tests op = used (cond (eqb op 24 || eqb op 26) Const (cond (eqb op 27) Hash Unused)) Post (cond (eqb op 23 || eqb op 24) 3 1)

-- 28 to 31: a post; the steps, 28 to 29, have a target too
abbrev pub logic : ℕ → Parts
logic op = posted (cond (between 28 29 op) Target Unused)

-- 32 to 36: a target and nothing else. But Post has a post and nothing else
abbrev pub jumps : ℕ → Parts
jumps op = cond (eqb op 34) (posted Unused) (bare Target)

-- 37 to 39: a post; PointerEnter has a target too, and Call a free argument
abbrev pub calls : ℕ → Parts
calls op = posted (cond (eqb op 37) Target (cond (eqb op 38) Unused Free))

-- 40 to 45: a target and nothing else. But LoopEnd has nothing, and "in 44 and 45 bytes 2-3 hold n or t"
abbrev pub loops : ℕ → Parts
loops op =
    cond (eqb op 42) nothing  -- LoopEnd
    (cond (eqb op 44) (used Target Name 0)  -- EachNextVar
    (cond (eqb op 45) (used Target Temp 0)  -- EachNextTemp
    (bare Target)))

-- 46 to 48: nothing. But Return has a post
abbrev pub ends : ℕ → Parts
ends op = cond (eqb op 46) (posted Unused) nothing

-- 49 to 52: a post and nothing else, "each with a post for its result and no other part"
abbrev pub math : Parts
math = posted Unused

-- ---- the decision

-- the opcodes from the first to the last, and what each of them uses
pub record Range : Type 0 where
  pub first : ℕ
  pub last : ℕ
  pub uses : ℕ → Parts

abbrev pub range : ℕ → ℕ → (ℕ → Parts) → Range
range first last uses = record { first = first; last = last; uses = uses }

abbrev pub ranges : List Range
ranges =
    range 1 3 values
    ∷ range 4 10 slots
    ∷ range 11 12 pushes
    ∷ range 13 22 arithmetic
    ∷ range 23 27 tests
    ∷ range 28 31 logic
    ∷ range 32 36 jumps
    ∷ range 37 39 calls
    ∷ range 40 45 loops
    ∷ range 46 48 ends
    ∷ range 49 52 (λ op. math)
    ∷ []

-- what an opcode uses is what the range says that it lies in; an opcode in none, as 0 and those above the last, uses nothing
abbrev pub parts_in : List Range → ℕ → Parts
parts_in [] op = nothing
parts_in (r ∷ rs) op = cond (between r.first r.last op) (r.uses op) (parts_in rs op)

unfoldable pub parts_of : ℕ → Parts
parts_of op = parts_in ranges op

-- ---- what is claimed of them (src/laws.rt)

-- how many ranges a number lies in
unfoldable pub holding : List Range → ℕ → ℕ
holding [] op = 0
holding (r ∷ rs) op = (if between r.first r.last op then 1 else 0) + holding rs op

-- an opcode lies in one range, and any other number in none
abbrev pub InOne : Type 0
InOne = (op : ℕ) → holding ranges op ≡ (if between 1 last_opcode op then 1 else 0)

-- what lies in a range uses what that range says
abbrev pub Decided : Type 0
Decided = All (λ r. (op : ℕ) → r.first ≤ op → op ≤ r.last → parts_of op ≡ r.uses op) ranges

-- what is no opcode uses nothing
abbrev pub Undecided : Type 0
Undecided = (op : ℕ) → (1 ≤ op → op ≤ last_opcode → ⊥) → parts_of op ≡ nothing

-- bytes 2-3 of EachNextVar and EachNextTemp are a name and a temp, and no post
abbrev pub EachNext : Type 0
EachNext = ((parts_of 44).post ≡ Name) × ((parts_of 45).post ≡ Temp)
