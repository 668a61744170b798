-- What LoopBegin, LoopCheck and LoopEnd do about a count. Assumes nothing.
use Prim.Native.Nat.{ℕ, ◌+◌, ◌≤◌, ◌<◌}
use native.Mathlib.Omega.{arith}
use mathlib.Core.Path.{◌≡◌}
use mathlib.Core.Bool.{true, false, cond}
use mathlib.Core.List.{List}
use lib.Dec.{ltb, leb, eqb}
use lib.ListN.{length}
use borrow.Author.Tests.{lt-ltb, le-ltb, ne_eqb}
use Rattle.numeric.specs.Numbers.{zero, one, sub, le}
use Rattle.program.specs.declared.instr.Instr.{Instr}
use Rattle.tables.specs.Tables.{instr_at}
use Rattle.eval.specs.Stacks.{push}
use Rattle.eval.specs.Machine.{Call, Machine, Handler, notices_of}
use Rattle.eval.specs.declared.machine.Notices.{Notices}
use Rattle.std.specs.Prelude.{Some, None}
use Rattle.eval.specs.Acts.{acted, loop_begin, loop_check, loop_end, again}
use Rattle.eval.specs.Run.{ticked, due_done}
use Rattle.eval.proofs.Stacks.{length_push, top-push, pop-push, retop-push}
use Rattle.passes.proofs.Straight.{stands}

-- the notices with that of the loop limit, which is given once
abbrev pub noticed : Notices → Notices
noticed n =
    let k = n.loop_limit in
    notices_of n.missing_member n.access_underflow (cond (eqb k 0) 1 k)

module _ (c : Call) (q : ℕ) (a : Machine) (s l : List ℕ) (h : List Handler) (n : Notices) (pops ch : ℕ) where
  -- a count v above zero, w less by one
  pub begins : (exit v w : ℕ) → instr_at c.code q ≡ Instr.LoopBegin exit → a.acc ≡ v → le v zero ≡ false → sub v one ≡ w
      → length s < c.stack_room → length l < c.loop_room
      → ticked c (stands q a s l h n pops ch) ≡ stands (q + 1) a (push w s) (push 1 l) h n pops (ch + 1)
  unfolding ticked due_done acted loop_begin
  begins exit v w i e z o f g = rw (i, e, z, o, lt-ltb _ _ f, lt-ltb _ _ g)

  module _ (v d j : ℕ) (i : instr_at c.code q ≡ Instr.LoopCheck j) (f : length s + 1 ≤ 65536) where
    low : ltb 65536 (length (push v s)) ≡ false
    low = let e = length_push v s in le-ltb 65536 (length (push v s)) (omega arith)

    nested : ltb 0 (length (push d l)) ≡ true
    nested = let e = length_push d l in lt-ltb 0 (length (push d l)) (omega arith)

    -- no count is left
    pub spent : le v zero ≡ true → ticked c (stands q a (push v s) (push d l) h n pops ch) ≡ stands (q + 1) a (push v s) (push d l) h n pops (ch + 1)
    unfolding ticked due_done acted loop_check
    spent z = rw (i, low, top-push v s zero, z)

    -- .. or one is, and there is no limit
    pub goes_back : (w : ℕ) → c.loop_limit ≡ None → le v zero ≡ false → sub v one ≡ w
        → ticked c (stands q a (push v s) (push d l) h n pops ch) ≡ stands j a (push w s) (push d l) h n pops (ch + 1)
    unfolding ticked due_done acted loop_check again
    goes_back w u z o = rw (i, low, top-push v s zero, z, nested, u, top-push v s zero, o, retop-push w v s)

    -- .. or the limit is above the loop count
    pub counts_back : (w L : ℕ) → c.loop_limit ≡ Some L → le v zero ≡ false → sub v one ≡ w → leb L d ≡ false
        → ticked c (stands q a (push v s) (push d l) h n pops ch) ≡ stands j a (push w s) (push (d + 1) l) h n pops (ch + 1)
    unfolding ticked due_done acted loop_check again
    counts_back w L u z o g = rw (i, low, top-push v s zero, z, nested, u, top-push d l 0, g, top-push v s zero, o, retop-push w v s, retop-push (d + 1) d l)

    -- .. or it is not
    pub falls_short : (L : ℕ) → c.loop_limit ≡ Some L → le v zero ≡ false → leb L d ≡ true
        → ticked c (stands q a (push v s) (push d l) h n pops ch) ≡ stands (q + 1) a (push v s) (push d l) h (noticed n) pops (ch + 1)
    unfolding ticked due_done acted loop_check again
    falls_short L u z g = rw (i, low, top-push v s zero, z, nested, u, top-push d l 0, g)

  pub ends : (v d : ℕ) → instr_at c.code q ≡ Instr.LoopEnd
      → ticked c (stands q a (push v s) (push d l) h n pops ch) ≡ stands (q + 1) a s l h n pops (ch + 1)
  unfolding ticked due_done acted loop_end
  ends v d i =
      let e = length_push d l in
      let f = length_push v s in
      let there : ltb 0 (length (push v s)) ≡ true = lt-ltb 0 (length (push v s)) (omega arith) in
      rw (i, ne_eqb (length (push d l)) 0 (λ z. omega arith), there, pop-push v s, pop-push d l)
