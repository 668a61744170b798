-- Over codes that are alike the machine does the same at each charge. Assumes nothing.
use Prim.Native.Nat.{ℕ, zero, suc, ◌+◌, ◌-◌, ◌≤◌, min}
use native.Mathlib.Omega.{arith}
use mathlib.Core.Path.{◌≡◌, refl, ◌∙◌, ap}
use mathlib.Core.List.{List}
use Rattle.numeric.specs.Numbers.{zero as none_there}
use Rattle.numeric.proofs.Posts.{plain-applied}
use Rattle.program.specs.declared.instr.Instr.{Instr}
use Rattle.tables.specs.Tables.{post_at, instr_at}
use Rattle.eval.specs.Stacks.{often}
use Rattle.eval.specs.Machine.{Call, Machine, Due, fetch, constant}
use Rattle.eval.specs.Acts.{acted, posted, host_math, pointer_enter, each_next, each_begin}
use Rattle.eval.specs.Run.{Run, due_done, ticked, history}
use Rattle.vm.specs.Purses.{spend}
use Rattle.convert_laws.specs.Codes.{Alike, over, MovesAlike}
use Rattle.convert_laws.proofs.Looks.{Look, same, enters, look}

-- ---- one record

-- post 0 gives zero for zero
posted_zero : (posts : List ℕ) → posted posts 0 none_there ≡ none_there
unfolding post_at
posted_zero posts = plain-applied none_there

-- a HostMath of at most one argument pops nothing: it is a PointerEnter with post 0 to the next position
pops_nothing : (posts : List ℕ) (n : ℕ) (m : Machine) → n ≤ 1 → pointer_enter posts (m.pos + 1) 0 m ≡ host_math n m
unfolding often
pops_nothing posts n m l = let z : min n 8 - 1 ≡ 0 = omega arith in rw (z, posted_zero posts)

-- EachBegin asks for neither opcode
module _ (old new : List ℕ) (h : Alike old new) where
  next_is : (j : ℕ) → Look old new (j + 1) → Look old new (j + 2) → each_next new j ≡ each_next old j
  unfolding each_next
  next_is j (same x a y) (same z b w) = rw (a, b)
  next_is j (same x a y) (enters n p l u v o q) = rw (a, o, q)
  next_is j (enters n p l u v o q) s = rw (o, q)

  next : (j : ℕ) → each_next new j ≡ each_next old j
  next j = next_is j (look old new h (j + 1)) (look old new h (j + 2))

  begins : (consts : List ℕ) (j : ℕ) (m : Machine) → Look old new j → each_begin new consts j m ≡ each_begin old consts j m
  unfolding each_begin
  begins consts j m (same x a y) = rw (next j, a, y)
  begins consts j m (enters n p l u v o q) = rw (next j, o, q)

-- ---- one charge

module _ (c : Call) (code : List ℕ) (h : Alike c.code code) where
  -- no other record looks at the code
  act : (i : Instr) (m : Machine) → acted (over code c) i m ≡ acted c i m
  unfolding acted
  act (Instr.EachBegin j) m = begins c.code code h c.consts j m (look c.code code h j)
  act i m = refl

  fetched : (m : Machine) → Look c.code code m.pos → acted (over code c) (instr_at code m.pos) m ≡ acted c (instr_at c.code m.pos) m
  unfolding acted
  fetched m (same e a y) = ap (λ i. acted (over code c) i m) e ∙ act (instr_at c.code m.pos) m
  fetched m (enters n p l u v o q) = rw (u, v) (pops_nothing c.posts n m l)

  due : (w : Due) (m : Machine) → due_done (over code c) w m ≡ due_done c w m
  unfolding due_done
  due fetch m = fetched m (look c.code code h m.pos)
  due (constant k) m = refl

  tick : (r : Run) → ticked (over code c) r ≡ ticked c r
  unfolding ticked
  tick r = ap (λ (m : Machine). record { machine = m; charges = r.charges + 1 }) (due r.machine.due r.machine)

-- ---- a run

pub moves_alike : MovesAlike
unfolding history
moves_alike c code h zero r = refl
moves_alike c code h (suc n) r = rw (tick c code h r, moves_alike c code h n (ticked c r))

-- from two purses
pub spends_alike : (c : Call) (code : List ℕ) → Alike c.code code → (guest house : ℕ) (r : Run) → spend (over code c) guest house r ≡ spend c guest house r
unfolding spend
spends_alike c code h zero house r = refl
spends_alike c code h (suc guest) zero r = refl
spends_alike c code h (suc guest) (suc house) r = rw (tick c code h r, spends_alike c code h guest house (ticked c r))
