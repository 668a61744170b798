-- Each record: it acts as before, and counts what it took beyond the depth that it met. Assumes nothing.
use Prim.Native.Nat.{ℕ, ◌-◌, min}
use native.Mathlib.Omega.{arith}
use mathlib.Core.Path.{◌≡◌, refl, sym, ◌∙◌, ap}
use mathlib.Core.Bool.{Bool, true, false}
use lib.Dec.{ltb, eqb}
use lib.ListN.{length}
use borrow.Author.Tests.{ltb-true, ltb-false}
use Rattle.program.specs.declared.instr.Instr.{Instr}
use Rattle.program.specs.declared.instr.PostIdx.{PostIdx}
use Rattle.eval.specs.Stacks.{often}
use Rattle.eval.specs.Machine.{Cells, Call, Machine, counted, empty_pops_are}
use Rattle.eval.specs.Acts.{acted, without_top, on_operand, add_acc, member_noticed, loaded_from, store_var, loop_end, each_begin}
use Rattle.vm.proofs.Beside.{beside, count_beside, missed_beside, pushed_beside, push_const_beside, load_beside, load_temp_beside}
use Rattle.vm.proofs.Beside.{store_temp_beside, handler_push_beside, guard_beside, and_step_beside, or_step_beside, jump_beside}
use Rattle.vm.proofs.Beside.{loop_begin_beside, loop_check_beside}
use Rattle.eval.proofs.Takes.{often-taken}
use Rattle.pops.specs.Takes.{Taking, none, one, taking_of, beyond}
use Rattle.pops.specs.Before.{took_before, acted_before}

-- of a record: the machine before keeps any count that it is given, and acts alike; the count rises by what was beyond
pub record Told (c : Call) (i : Instr) (m : Machine) : Type 0 where
  pub as_before : (k : ℕ) → empty_pops_are k (acted c i m) ≡ acted_before c i (empty_pops_are k m)
  pub counts : (acted c i m).empty_pops ≡ often (beyond c i m) counted m.empty_pops

-- ---- what takes nothing reads no count, and leaves it

quiet : (c : Call) (i : Instr) (m : Machine) → taking_of c i ≡ none → ((k : ℕ) → empty_pops_are k (acted c i m) ≡ acted c i (empty_pops_are k m)) → Told c i m
unfolding often
quiet c i m t e =
    let z : 0 - length m.stack ≡ 0 = omega arith in
    record {
      as_before = λ k. e k ∙ ap (λ (x : Taking). took_before x (acted c i) (empty_pops_are k m)) (sym t);
      counts = rw (t, z) (sym (ap (λ (n : Machine). n.empty_pops) (e m.empty_pops)));
    }

still : (c : Call) (i : Instr) (m : Machine) → taking_of c i ≡ none
    → ((k : ℕ) (s : Cells) → beside k s (acted c i m) ≡ acted c i (beside k s m)) → Told c i m
still c i m t e = quiet c i m t (count_beside (acted c i) m e)

-- the cells that a load reads are beside it
loads : (c : Call) (i : Instr) (m : Machine) (cells : Cells) (n p : ℕ) → taking_of c i ≡ none
    → ((k : ℕ) → acted c i (empty_pops_are k m) ≡ loaded_from cells c.posts n p (empty_pops_are k m)) → Told c i m
loads c i m cells n p t e =
    let f = loaded_from cells c.posts n p in
    quiet c i m t (λ k. ap (empty_pops_are k) (e m.empty_pops) ∙ count_beside f m (λ j s. load_beside j s m cells c.posts n p) k ∙ sym (e k))

-- ---- what takes

-- one operand, there or not
once : (m : Machine) → (without_top m).empty_pops ≡ often (1 - length m.stack) counted m.empty_pops
unfolding often
once m = cases (ltb 0 (length m.stack)) refl
  where
    cases : (b : Bool) → ltb 0 (length m.stack) ≡ b → (without_top m).empty_pops ≡ often (1 - length m.stack) counted m.empty_pops
    cases true h = let l = ltb-true 0 (length m.stack) h in let z : 1 - length m.stack ≡ 0 = omega arith in rw (h, z)
    cases false h = let l = ltb-false 0 (length m.stack) h in let z : 1 - length m.stack ≡ 1 = omega arith in rw (h, z)

-- for a result
takes_one : (c : Call) (i : Instr) (m : Machine) (result : ℕ → ℕ → ℕ) → taking_of c i ≡ one result → acted c i m ≡ on_operand result m → Told c i m
takes_one c i m result t e =
    record {
      as_before = λ k. ap (empty_pops_are k) e ∙ ap (λ (x : Taking). took_before x (acted c i) (empty_pops_are k m)) (sym t);
      counts = rw t (ap (λ (n : Machine). n.empty_pops) e ∙ once m);
    }

host_math_lem : (c : Call) (n : ℕ) (p : PostIdx) (m : Machine) → Told c (Instr.HostMath n p) m
unfolding acted
host_math_lem c n p m =
    let k = min n 8 - 1 in
    let e : often k without_top m ≡ _ = often-taken m k in
    record { as_before = λ j. rw e; counts = rw e }

loop_end_lem : (c : Call) (m : Machine) → Told c Instr.LoopEnd m
unfolding acted loop_end often
loop_end_lem c m = cases (eqb (length m.loops) 0) refl
  where
    cases : (b : Bool) → eqb (length m.loops) 0 ≡ b → Told c Instr.LoopEnd m
    cases true h = let z : 0 - length m.stack ≡ 0 = omega arith in record { as_before = λ k. rw h; counts = rw (h, z) }
    cases false h = record { as_before = λ k. rw h; counts = rw h (once m) }

-- ---- every record

pub told : (c : Call) (i : Instr) (m : Machine) → Told c i m
unfolding acted add_acc store_var each_begin
told c (Instr.Const k) m = quiet c _ m refl (λ q. refl)
told c (Instr.Hash h) m = quiet c _ m refl (λ q. refl)
told c (Instr.Resource h) m = quiet c _ m refl (λ q. refl)
told c (Instr.This p) m = quiet c _ m refl (λ q. refl)
told c (Instr.LoadVar n p) m = loads c _ m m.cells n.0 p.0 refl (λ k. refl)
told c (Instr.LoadTemp t p) m = still c _ m refl (λ k s. load_temp_beside k s m c.posts t.0 p.0)
told c (Instr.LoadCtx n p) m = loads c _ m c.context n.0 p.0 refl (λ k. refl)
told c (Instr.Member n p) m = still c _ m refl (λ k s. missed_beside k s (member_noticed m))
told c (Instr.StoreVar n p) m = quiet c _ m refl (λ q. refl)
told c (Instr.StoreTemp t p) m = still c _ m refl (λ k s. store_temp_beside k s m c.posts t.0 p.0)
told c Instr.Push m = still c _ m refl (λ k s. pushed_beside k s m c.stack_room m.acc)
told c (Instr.PushConst j) m = still c _ m refl (λ k s. push_const_beside k s m c.stack_room j.0)
told c (Instr.Negate p) m = quiet c _ m refl (λ q. refl)
told c (Instr.Not p) m = quiet c _ m refl (λ q. refl)
told c Instr.AddAcc m = quiet c _ m refl (λ q. refl)
told c (Instr.AddLast p) m = takes_one c _ m _ refl refl
told c (Instr.Mul p) m = takes_one c _ m _ refl refl
told c (Instr.DivGuard d j) m = still c _ m refl (λ k s. guard_beside k s m c.stack_room d j)
told c (Instr.Div p) m = takes_one c _ m _ refl refl
told c (Instr.Mod p) m = takes_one c _ m _ refl refl
told c (Instr.ModConst k p) m = quiet c _ m refl (λ q. refl)
told c (Instr.HostMath n p) m = host_math_lem c n p m
told c (Instr.Cmp op p) m = takes_one c _ m _ refl refl
told c (Instr.CmpConst op k p) m = quiet c _ m refl (λ q. refl)
told c (Instr.Eq op p) m = takes_one c _ m _ refl refl
told c (Instr.EqConst op k p) m = quiet c _ m refl (λ q. refl)
told c (Instr.EqHash op h p) m = quiet c _ m refl (λ q. refl)
told c (Instr.AndStep j p) m = still c _ m refl (λ k s. and_step_beside k s m c.posts j p.0)
told c (Instr.OrStep j p) m = still c _ m refl (λ k s. or_step_beside k s m c.posts j p.0)
told c (Instr.AndLast p) m = quiet c _ m refl (λ q. refl)
told c (Instr.OrLast p) m = quiet c _ m refl (λ q. refl)
told c (Instr.Jump j) m = quiet c _ m refl (λ q. refl)
told c (Instr.JumpIfFalsy j) m = still c _ m refl (λ k s. jump_beside k s m j)
told c (Instr.Post p) m = quiet c _ m refl (λ q. refl)
told c (Instr.HandlerPush j) m = still c _ m refl (λ k s. handler_push_beside k s m c.handler_room j)
told c (Instr.HandlerPop j) m = quiet c _ m refl (λ q. refl)
told c (Instr.PointerEnter j p) m = quiet c _ m refl (λ q. refl)
told c (Instr.PointerLeave p) m = quiet c _ m refl (λ q. refl)
told c (Instr.Call a p) m = quiet c _ m refl (λ q. refl)
told c (Instr.LoopBegin j) m = still c _ m refl (λ k s. loop_begin_beside k s m c.stack_room c.loop_room j)
told c (Instr.LoopCheck j) m = still c _ m refl (λ k s. loop_check_beside k s m c.loop_limit j)
told c Instr.LoopEnd m = loop_end_lem c m
told c (Instr.EachBegin j) m = quiet c _ m refl (λ q. refl)
told c (Instr.EachNextVar n j) m = quiet c _ m refl (λ q. refl)
told c (Instr.EachNextTemp t j) m = quiet c _ m refl (λ q. refl)
told c (Instr.Return p) m = quiet c _ m refl (λ q. refl)
told c Instr.Halt m = quiet c _ m refl (λ q. refl)
told c Instr.End m = quiet c _ m refl (λ q. refl)
told c (Instr.Math1 f p) m = quiet c _ m refl (λ q. refl)
told c Instr.Outside m = quiet c _ m refl (λ q. refl)
