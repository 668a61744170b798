-- What a record does to the cells, and what it takes from them: StoreVar alone changes them, to the accumulator; and two hosts whose
-- float cells differ in the bits of NaNs act alike. Assumes nothing.
use Prim.Native.Nat.{ℕ, ◌-◌, ◌%◌, ◌^◌, min}
use native.Mathlib.Omega.{arith}
use mathlib.Core.Path.{◌≡◌, refl, sym, ◌∙◌, ap}
use mathlib.Core.Bool.{false}
use mathlib.Core.List.{List}
use lib.Dec.{eqb}
use lib.ListN.{length, get_or, set}
use Rattle.numeric.specs.Numbers.{one_nan, entered}
use Rattle.numeric.proofs.OneNan.{on_both, entered-nan}
use Rattle.program.specs.declared.instr.Instr.{Instr}
use Rattle.eval.specs.Stacks.{often}
use Rattle.eval.specs.Machine.{Cells, Call, Machine, cells_are, cell_of, low}
use Rattle.eval.specs.Acts.{acted, without_top, add_acc, member_noticed, member, loaded_cell, loaded_from, load_temp, store_var, store_temp}
use Rattle.eval.specs.Acts.{push_acc, push_const, handler_push, div_guard, and_step, or_step, jump_if_falsy, loop_begin, loop_check, loop_end, each_begin}
use Rattle.eval.proofs.Takes.{often-taken}
use Rattle.vm.proofs.Beside.{beside, cells_beside, missed_beside, pushed_beside, push_const_beside, load_beside, load_temp_beside}
use Rattle.vm.proofs.Beside.{store_temp_beside, handler_push_beside, guard_beside, and_step_beside, or_step_beside, jump_beside}
use Rattle.vm.proofs.Beside.{loop_begin_beside, loop_check_beside}
use Rattle.nans.specs.Stored.{stores_to}
use Rattle.nans.specs.Hosts.{Nan, Alike, same, nans, AlikeCells}

-- ---- two hosts

-- the same call with other context cells
abbrev pub other : Cells → Call → Call
other context c =
    record {
      code = c.code;
      consts = c.consts;
      posts = c.posts;
      hashes = c.hashes;
      context = context;
      this = c.this;
      loop_limit = c.loop_limit;
      stack_room = c.stack_room;
      loop_room = c.loop_room;
      handler_room = c.handler_room;
    }

pub alike_itself : (a : Cells) → AlikeCells a a
alike_itself a = record { kinds = refl; count = refl; values = λ i. same refl }

-- a NaN of a cell enters as one
enters : (n : ℕ) → Nan n → entered (low n) ≡ one_nan
enters n h = let s = h.short in let l : n % 2 ^ 32 ≡ n = omega arith in rw l (entered-nan n h.is)

-- a load from either host
cell_alike : (posts : List ℕ) (p kind x y : ℕ) (m : Machine) → Alike kind x y
    → loaded_cell posts p (cell_of kind y) y m ≡ loaded_cell posts p (cell_of kind x) x m
unfolding cell_of
cell_alike posts p kind x y m (same e) = rw e
cell_alike posts p kind x y m (nans k g h) = rw (k, enters x g, enters y h)

loads_alike : (a b : Cells) (posts : List ℕ) (n p : ℕ) (m : Machine) → AlikeCells a b → loaded_from b posts n p m ≡ loaded_from a posts n p m
unfolding loaded_from
loads_alike a b posts n p m h = rw h.kinds (cell_alike posts p (get_or a.kinds n 0) _ _ m (h.values n))

-- ---- each record

-- the accumulator stored to cell n
abbrev pub storing : ℕ → ℕ → Cells → Cells
storing n v s = record { kinds = set s.kinds n 1; values = set s.values n v }

-- a record on both hosts: the cells of either are beside it, or it stores to cell n of each
pub data Way (c : Call) (i : Instr) (m : Machine) : Type 0 where
  apart : ((j : ℕ) → stores_to i j ≡ false)
      → ((context s : Cells) → AlikeCells c.context context → AlikeCells m.cells s → acted (other context c) i (cells_are s m) ≡ cells_are s (acted c i m))
      → Way c i m
  stores : (n : ℕ) → ((j : ℕ) → stores_to i j ≡ eqb n j) → (acted c i m).cells ≡ storing n m.acc m.cells
      → ((context s : Cells) → acted (other context c) i (cells_are s m) ≡ cells_are (storing n m.acc s) (acted c i m))
      → Way c i m

-- an act that has nothing to do with them
still : (f : Machine → Machine) (m : Machine) → ((k : ℕ) (s : Cells) → beside k s (f m) ≡ f (beside k s m)) → (s : Cells) → f (cells_are s m) ≡ cells_are s (f m)
still f m e s = sym (cells_beside f m e s)

-- operands that are taken one after another
many_apart : (k : ℕ) (m : Machine) (s : Cells) → often k without_top (cells_are s m) ≡ cells_are s (often k without_top m)
many_apart k m s = often-taken (cells_are s m) k ∙ ap (cells_are s) (sym (often-taken m k))

loop_end_apart : (m : Machine) (s : Cells) → loop_end (cells_are s m) ≡ cells_are s (loop_end m)
unfolding loop_end
loop_end_apart m s = on_both (eqb (length m.loops) 0) (λ h. rw h) (λ h. rw h)

pub way : (c : Call) (i : Instr) (m : Machine) → Way c i m
unfolding acted add_acc store_var each_begin
way c (Instr.Const k) m = apart (λ j. refl) (λ x s a b. refl)
way c (Instr.Hash h) m = apart (λ j. refl) (λ x s a b. refl)
way c (Instr.Resource h) m = apart (λ j. refl) (λ x s a b. refl)
way c (Instr.This p) m = apart (λ j. refl) (λ x s a b. refl)
way c (Instr.LoadVar n p) m =
    apart (λ j. refl)
    (λ x s a b. loads_alike m.cells s c.posts n.0 p.0 (cells_are s m) b
    ∙ still (loaded_from m.cells c.posts n.0 p.0) m (λ k t. load_beside k t m m.cells c.posts n.0 p.0) s)
way c (Instr.LoadTemp t p) m =
    apart (λ j. refl) (λ x s a b. still (load_temp c.posts t.0 p.0) m (λ k u. load_temp_beside k u m c.posts t.0 p.0) s)
way c (Instr.LoadCtx n p) m =
    apart (λ j. refl)
    (λ x s a b. loads_alike c.context x c.posts n.0 p.0 (cells_are s m) a
    ∙ still (loaded_from c.context c.posts n.0 p.0) m (λ k t. load_beside k t m c.context c.posts n.0 p.0) s)
way c (Instr.Member n p) m = apart (λ j. refl) (λ x s a b. still member m (λ k t. missed_beside k t (member_noticed m)) s)
way c (Instr.StoreVar n p) m = stores n.0 (λ j. refl) refl (λ x s. refl)
way c (Instr.StoreTemp t p) m =
    apart (λ j. refl) (λ x s a b. still (store_temp c.posts t.0 p.0) m (λ k u. store_temp_beside k u m c.posts t.0 p.0) s)
way c Instr.Push m = apart (λ j. refl) (λ x s a b. still (push_acc c.stack_room) m (λ k t. pushed_beside k t m c.stack_room m.acc) s)
way c (Instr.PushConst v) m = apart (λ j. refl) (λ x s a b. still (push_const c.stack_room v.0) m (λ k t. push_const_beside k t m c.stack_room v.0) s)
way c (Instr.Negate p) m = apart (λ j. refl) (λ x s a b. refl)
way c (Instr.Not p) m = apart (λ j. refl) (λ x s a b. refl)
way c Instr.AddAcc m = apart (λ j. refl) (λ x s a b. refl)
way c (Instr.AddLast p) m = apart (λ j. refl) (λ x s a b. refl)
way c (Instr.Mul p) m = apart (λ j. refl) (λ x s a b. refl)
way c (Instr.DivGuard d t) m = apart (λ j. refl) (λ x s a b. still (div_guard c.stack_room d t) m (λ k u. guard_beside k u m c.stack_room d t) s)
way c (Instr.Div p) m = apart (λ j. refl) (λ x s a b. refl)
way c (Instr.Mod p) m = apart (λ j. refl) (λ x s a b. refl)
way c (Instr.ModConst k p) m = apart (λ j. refl) (λ x s a b. refl)
way c (Instr.HostMath n p) m = apart (λ j. refl) (λ x s a b. rw (many_apart (min n 8 - 1) m s))
way c (Instr.Cmp op p) m = apart (λ j. refl) (λ x s a b. refl)
way c (Instr.CmpConst op k p) m = apart (λ j. refl) (λ x s a b. refl)
way c (Instr.Eq op p) m = apart (λ j. refl) (λ x s a b. refl)
way c (Instr.EqConst op k p) m = apart (λ j. refl) (λ x s a b. refl)
way c (Instr.EqHash op h p) m = apart (λ j. refl) (λ x s a b. refl)
way c (Instr.AndStep t p) m = apart (λ j. refl) (λ x s a b. still (and_step c.posts t p.0) m (λ k u. and_step_beside k u m c.posts t p.0) s)
way c (Instr.OrStep t p) m = apart (λ j. refl) (λ x s a b. still (or_step c.posts t p.0) m (λ k u. or_step_beside k u m c.posts t p.0) s)
way c (Instr.AndLast p) m = apart (λ j. refl) (λ x s a b. refl)
way c (Instr.OrLast p) m = apart (λ j. refl) (λ x s a b. refl)
way c (Instr.Jump t) m = apart (λ j. refl) (λ x s a b. refl)
way c (Instr.JumpIfFalsy t) m = apart (λ j. refl) (λ x s a b. still (jump_if_falsy t) m (λ k u. jump_beside k u m t) s)
way c (Instr.Post p) m = apart (λ j. refl) (λ x s a b. refl)
way c (Instr.HandlerPush t) m = apart (λ j. refl) (λ x s a b. still (handler_push c.handler_room t) m (λ k u. handler_push_beside k u m c.handler_room t) s)
way c (Instr.HandlerPop t) m = apart (λ j. refl) (λ x s a b. refl)
way c (Instr.PointerEnter t p) m = apart (λ j. refl) (λ x s a b. refl)
way c (Instr.PointerLeave p) m = apart (λ j. refl) (λ x s a b. refl)
way c (Instr.Call f p) m = apart (λ j. refl) (λ x s a b. refl)
way c (Instr.LoopBegin t) m =
    apart (λ j. refl) (λ x s a b. still (loop_begin c.stack_room c.loop_room t) m (λ k u. loop_begin_beside k u m c.stack_room c.loop_room t) s)
way c (Instr.LoopCheck t) m = apart (λ j. refl) (λ x s a b. still (loop_check c.loop_limit t) m (λ k u. loop_check_beside k u m c.loop_limit t) s)
way c Instr.LoopEnd m = apart (λ j. refl) (λ x s a b. loop_end_apart m s)
way c (Instr.EachBegin t) m = apart (λ j. refl) (λ x s a b. refl)
way c (Instr.EachNextVar n t) m = apart (λ j. refl) (λ x s a b. refl)
way c (Instr.EachNextTemp n t) m = apart (λ j. refl) (λ x s a b. refl)
way c (Instr.Return p) m = apart (λ j. refl) (λ x s a b. refl)
way c Instr.Halt m = apart (λ j. refl) (λ x s a b. refl)
way c Instr.End m = apart (λ j. refl) (λ x s a b. refl)
way c (Instr.Math1 f p) m = apart (λ j. refl) (λ x s a b. refl)
way c Instr.Outside m = apart (λ j. refl) (λ x s a b. refl)
