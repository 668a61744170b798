-- Every record keeps the accumulator, the stack and the temps free of other NaNs than 7FC00000. Assumes nothing.
use Prim.Native.Nat.{ℕ, zero, suc, ◌-◌, min}
use mathlib.Core.Bool.{false, not, ◌&&◌}
use mathlib.Core.List.{List}
use lib.Dec.{ltb}
use lib.ListN.{length, get_or}
use Rattle.numeric.specs.Numbers.{OneNan, zero as +0, le}
use Rattle.numeric.specs.Arithmetic.{guarded}
use Rattle.numeric.proofs.OneNan.{zero_one, entered-one, add-one, sub-one, mul-one, div-one, applied-one, truthy-one, falsy_one, selected-one}
use Rattle.numeric.proofs.OneNan.{negated-one, guarded-one, mod_const-one, mod-one, floored-one, ceiled-one, truncated-one, absolute-one}
use Rattle.program.specs.Instructions.{math1}
use Rattle.program.specs.declared.instr.Fn1.{Fn1}
use Rattle.program.specs.declared.instr.Fn1.TheVariants.{Floor, Ceil, Trunc, Abs}
use Rattle.program.specs.declared.instr.Divisor.{Divisor}
use Rattle.program.specs.declared.instr.Instr.{Instr}
use Rattle.tables.specs.Tables.{const_bits, const_at, post_at, instr_at, argument_at}
use Rattle.eval.specs.Stacks.{retop, often}
use Rattle.eval.specs.Machine.{Cells, Call, Machine, Due, fetch, constant, cell_of, low}
use Rattle.eval.specs.declared.slot.Cell.{Cell}
use Rattle.eval.specs.declared.slot.Cell.TheVariants.{Missing, Float, Hash, Other}
use mathlib.Core.Path.{◌≡◌, refl}
use Rattle.std.specs.Prelude.{Option, Some, None}
use Rattle.std.proofs.lemmas.Bool.{cond_both}
use Rattle.eval.specs.Acts.{loaded, operand, without_top, posted, pushed, push_const, add_acc, missed, member_noticed, converted, loaded_cell, loaded_from}
use Rattle.eval.specs.Acts.{load_temp, store_var, store_temp, handler_push, is_signed, passed, div_guard, less_one, and_step, or_step, jump_if_falsy}
use Rattle.eval.specs.Acts.{loop_begin, again, loop_check, loop_end, each_begin, acted}
use Rattle.eval.specs.Run.{due_done}
use Rattle.nans.specs.OneNan.{AllOne, Clean}
use Rattle.nans.proofs.Lists.{all_push, all_pop, all_cut, all_retop, all_set}

-- a constant entered
constant_one : (consts : List ℕ) (k : ℕ) → OneNan (const_at consts k)
unfolding const_at
constant_one consts k = entered-one (const_bits consts k)

-- ---- acts

module _ (m : Machine) (h : Clean m) where
  loads : (v : ℕ) → OneNan v → Clean (loaded v m)
  loads v o = record { acc_one = o; stack_one = h.stack_one; temps_one = h.temps_one }

  takes : (v : ℕ) → OneNan v → Clean (loaded v (without_top m))
  takes v o = record { acc_one = o; stack_one = all_pop m.stack h.stack_one; temps_one = h.temps_one }

  misses : Clean (missed m)
  unfolding missed
  misses =
      cond_both _ _ _ Clean
      (λ _. h)
      (λ _. record { acc_one = zero_one; stack_one = all_cut _ m.stack h.stack_one; temps_one = h.temps_one })

  pushes : (room v : ℕ) → OneNan v → Clean (pushed room v m)
  unfolding pushed
  pushes room v o =
      cond_both _ _ _ Clean
      (λ _. record { acc_one = h.acc_one; stack_one = all_push m.stack v o h.stack_one; temps_one = h.temps_one })
      (λ _. h)

  pushes_const : (room k : ℕ) → Clean (push_const room k m)
  unfolding push_const
  pushes_const room k =
      cond_both _ _ _ Clean
      (λ _. record { acc_one = h.acc_one; stack_one = all_push m.stack m.acc h.acc_one h.stack_one; temps_one = h.temps_one })
      (λ _. h)

  converts : (posts : List ℕ) (p x : ℕ) → OneNan x → Clean (converted posts p x m)
  unfolding converted
  converts posts p x o =
      cond_both _ _ _ Clean
      (λ _. h)
      (λ _. loads _ (applied-one _ x o))

  loads_cell : (posts : List ℕ) (p : ℕ) (cell : Cell) (value : ℕ) → Clean (loaded_cell posts p cell value m)
  loads_cell posts p Missing value = misses
  loads_cell posts p (Float x) value = loads _ (applied-one _ _ (entered-one (low value)))
  loads_cell posts p (Hash x) value = converts posts p _ (entered-one (low x))
  loads_cell posts p Other value = converts posts p _ zero_one

  loads_from : (cells : Cells) (posts : List ℕ) (n p : ℕ) → Clean (loaded_from cells posts n p m)
  unfolding loaded_from
  loads_from cells posts n p = loads_cell posts p (cell_of (get_or cells.kinds n 0) (get_or cells.values n 0)) (get_or cells.values n 0)

  loads_temp : (posts : List ℕ) (t p : ℕ) → Clean (load_temp posts t p m)
  unfolding load_temp
  loads_temp posts t p =
      cond_both (ltb t 8) _ _ Clean
      (λ _. cond_both (get_or m.temps.given t false) _ _ Clean (λ _. loads _ (applied-one _ _ (h.temps_one t))) (λ _. misses))
      (λ _. misses)

  stores_temp : (posts : List ℕ) (t p : ℕ) → Clean (store_temp posts t p m)
  unfolding store_temp
  stores_temp posts t p =
      let stored = all_set m.temps.numbers t m.acc h.acc_one h.temps_one in
      cond_both _ _ _ (λ n. Clean (loaded (posted posts p m.acc) n))
      (λ _. record { acc_one = applied-one _ _ h.acc_one; stack_one = h.stack_one; temps_one = stored })
      (λ _. loads _ (applied-one _ _ h.acc_one))

  pushes_handler : (room j : ℕ) → Clean (handler_push room j m)
  unfolding handler_push
  pushes_handler room j =
      cond_both _ _ _ Clean
      (λ _. h)
      (λ _. h)

  passes : (room j : ℕ) (d : Option ℕ) → ((n : ℕ) → d ≡ Some n → OneNan n) → Clean (passed room j d m)
  passes room j None o = record { acc_one = zero_one; stack_one = h.stack_one; temps_one = h.temps_one }
  passes room j (Some d) o = pushes room d (o d refl)

  guards : (room : ℕ) (d : Divisor) (j : ℕ) → Clean (div_guard room d j m)
  guards room d j = passes room j (guarded (is_signed d) m.acc) (guarded-one (is_signed d) m.acc)

  and_steps : (posts : List ℕ) (j p : ℕ) → Clean (and_step posts j p m)
  unfolding and_step
  and_steps posts j p =
      cond_both _ _ _ Clean
      (λ _. h)
      (λ _. record { acc_one = falsy_one (post_at posts p); stack_one = h.stack_one; temps_one = h.temps_one })

  or_steps : (posts : List ℕ) (j p : ℕ) → Clean (or_step posts j p m)
  unfolding or_step
  or_steps posts j p =
      cond_both _ _ _ Clean
      (λ _. record { acc_one = truthy-one (post_at posts p).op; stack_one = h.stack_one; temps_one = h.temps_one })
      (λ _. h)

  jumps : (j : ℕ) → Clean (jump_if_falsy j m)
  unfolding jump_if_falsy
  jumps j =
      cond_both _ _ _ Clean
      (λ _. h)
      (λ _. h)

  begins_loop : (stack_room loop_room j : ℕ) → Clean (loop_begin stack_room loop_room j m)
  unfolding loop_begin
  begins_loop stack_room loop_room j =
      cond_both (le m.acc +0) _ _ Clean
      (λ _. h)
      (λ _. cond_both (ltb (length m.stack) stack_room) _ _ Clean
      (λ _. cond_both (ltb (length m.loops) loop_room) _ _ Clean
      (λ _. record { acc_one = h.acc_one; stack_one = all_push m.stack _ (sub-one m.acc _) h.stack_one; temps_one = h.temps_one })
      (λ _. h))
      (λ _. h))

  lessens : AllOne (retop (less_one (operand m)) m.stack)
  lessens = all_retop m.stack _ (sub-one (operand m) _) h.stack_one

  goes_again : (l : Option ℕ) (j : ℕ) → Clean (again l j m)
  unfolding again
  goes_again None j = record { acc_one = h.acc_one; stack_one = lessens; temps_one = h.temps_one }
  goes_again (Some n) j =
      cond_both _ _ _ Clean
      (λ _. h)
      (λ _. record { acc_one = h.acc_one; stack_one = lessens; temps_one = h.temps_one })

  checks_loop : (l : Option ℕ) (j : ℕ) → Clean (loop_check l j m)
  unfolding loop_check
  checks_loop l j =
      cond_both (ltb 65536 (length m.stack)) _ _ Clean
      (λ _. h)
      (λ _. cond_both (not (le (operand m) +0) && ltb 0 (length m.loops)) _ _ Clean (λ _. goes_again l j)
      (λ _. h))

  ends-loop : Clean (loop_end m)
  unfolding loop_end
  ends-loop =
      cond_both _ _ _ Clean
      (λ _. h)
      (λ _. record { acc_one = h.acc_one; stack_one = all_pop m.stack h.stack_one; temps_one = h.temps_one })

  begins_each : (code consts : List ℕ) (j : ℕ) → Clean (each_begin code consts j m)
  unfolding each_begin
  begins_each code consts j =
      record {
        acc_one = cond_both _ _ _ OneNan (λ _. constant_one consts (argument_at code j)) (λ _. h.acc_one);
        stack_one = h.stack_one;
        temps_one = h.temps_one;
      }

-- operands that are taken one after another
takes_many : (k : ℕ) (m : Machine) → Clean m → Clean (often k without_top m)
unfolding often
takes_many zero m h = h
takes_many (suc k) m h =
    let t = takes_many k m h in
    record { acc_one = t.acc_one; stack_one = all_pop (often k without_top m).stack t.stack_one; temps_one = t.temps_one }

-- the result of a one-argument function
math1-one : (f : Fn1) (x : ℕ) → OneNan (math1 f x)
math1-one Floor x = floored-one x
math1-one Ceil x = ceiled-one x
math1-one Trunc x = truncated-one x
math1-one Abs x = absolute-one x

-- ---- every record

acts_cleanly : (c : Call) (i : Instr) (m : Machine) → OneNan c.this → Clean m → Clean (acted c i m)
unfolding acted add_acc store_var
acts_cleanly c (Instr.Const k) m t h = loads m h _ (constant_one c.consts k.0)
acts_cleanly c (Instr.Hash x) m t h = h
acts_cleanly c (Instr.Resource x) m t h = h
acts_cleanly c (Instr.This p) m t h = loads m h _ (applied-one _ c.this t)
acts_cleanly c (Instr.LoadVar n p) m t h = loads_from m h m.cells c.posts n.0 p.0
acts_cleanly c (Instr.LoadTemp x p) m t h = loads_temp m h c.posts x.0 p.0
acts_cleanly c (Instr.LoadCtx n p) m t h = loads_from m h c.context c.posts n.0 p.0
acts_cleanly c (Instr.Member n p) m t h = misses (member_noticed m) h
acts_cleanly c (Instr.StoreVar n p) m t h = record { acc_one = applied-one _ m.acc h.acc_one; stack_one = h.stack_one; temps_one = h.temps_one }
acts_cleanly c (Instr.StoreTemp x p) m t h = stores_temp m h c.posts x.0 p.0
acts_cleanly c Instr.Push m t h = pushes m h c.stack_room m.acc h.acc_one
acts_cleanly c (Instr.PushConst k) m t h = pushes_const m h c.stack_room k.0
acts_cleanly c (Instr.Negate p) m t h = loads m h _ (negated-one m.acc (post_at c.posts p.0))
acts_cleanly c (Instr.Not p) m t h = loads m h _ (selected-one (post_at c.posts p.0) _)
acts_cleanly c Instr.AddAcc m t h = record { acc_one = h.acc_one; stack_one = all_retop m.stack _ (add-one (operand m) m.acc) h.stack_one; temps_one = h.temps_one }
acts_cleanly c (Instr.AddLast p) m t h = takes m h _ (applied-one _ _ (add-one (operand m) m.acc))
acts_cleanly c (Instr.Mul p) m t h = takes m h _ (applied-one _ _ (mul-one (operand m) m.acc))
acts_cleanly c (Instr.DivGuard d j) m t h = guards m h c.stack_room d j
acts_cleanly c (Instr.Div p) m t h = takes m h _ (applied-one _ _ (div-one m.acc (operand m)))
acts_cleanly c (Instr.Mod p) m t h = takes m h _ (mod-one (operand m) m.acc (post_at c.posts p.0))
acts_cleanly c (Instr.ModConst k p) m t h = loads m h _ (mod_const-one m.acc _ (post_at c.posts p.0).op)
acts_cleanly c (Instr.HostMath n p) m t h = let k = takes_many (min n 8 - 1) m h in record { acc_one = zero_one; stack_one = k.stack_one; temps_one = k.temps_one }
acts_cleanly c (Instr.Cmp op p) m t h = takes m h _ (selected-one (post_at c.posts p.0) _)
acts_cleanly c (Instr.CmpConst op k p) m t h = loads m h _ (selected-one (post_at c.posts p.0) _)
acts_cleanly c (Instr.Eq op p) m t h = takes m h _ (selected-one (post_at c.posts p.0) _)
acts_cleanly c (Instr.EqConst op k p) m t h = loads m h _ (selected-one (post_at c.posts p.0) _)
acts_cleanly c (Instr.EqHash op x p) m t h = loads m h _ (selected-one (post_at c.posts p.0) _)
acts_cleanly c (Instr.AndStep j p) m t h = and_steps m h c.posts j p.0
acts_cleanly c (Instr.OrStep j p) m t h = or_steps m h c.posts j p.0
acts_cleanly c (Instr.AndLast p) m t h = loads m h _ (selected-one (post_at c.posts p.0) _)
acts_cleanly c (Instr.OrLast p) m t h = loads m h _ (selected-one (post_at c.posts p.0) _)
acts_cleanly c (Instr.Jump j) m t h = h
acts_cleanly c (Instr.JumpIfFalsy j) m t h = jumps m h j
acts_cleanly c (Instr.Post p) m t h = loads m h _ (applied-one _ m.acc h.acc_one)
acts_cleanly c (Instr.HandlerPush j) m t h = pushes_handler m h c.handler_room j
acts_cleanly c (Instr.HandlerPop j) m t h = h
acts_cleanly c (Instr.PointerEnter j p) m t h = record { acc_one = applied-one _ +0 zero_one; stack_one = h.stack_one; temps_one = h.temps_one }
acts_cleanly c (Instr.PointerLeave p) m t h = record { acc_one = applied-one _ m.acc h.acc_one; stack_one = h.stack_one; temps_one = h.temps_one }
acts_cleanly c (Instr.Call a p) m t h = h
acts_cleanly c (Instr.LoopBegin j) m t h = begins_loop m h c.stack_room c.loop_room j
acts_cleanly c (Instr.LoopCheck j) m t h = checks_loop m h c.loop_limit j
acts_cleanly c Instr.LoopEnd m t h = ends-loop m h
acts_cleanly c (Instr.EachBegin j) m t h = begins_each m h c.code c.consts j
acts_cleanly c (Instr.EachNextVar n j) m t h = h
acts_cleanly c (Instr.EachNextTemp x j) m t h = h
acts_cleanly c (Instr.Return p) m t h = record { acc_one = applied-one _ m.acc h.acc_one; stack_one = h.stack_one; temps_one = h.temps_one }
acts_cleanly c Instr.Halt m t h = record { acc_one = zero_one; stack_one = h.stack_one; temps_one = h.temps_one }
acts_cleanly c Instr.End m t h = h
acts_cleanly c (Instr.Math1 f p) m t h = loads m h _ (applied-one _ _ (math1-one f m.acc))
acts_cleanly c Instr.Outside m t h = h

-- what a charge does that fell due
pub due_cleanly : (c : Call) (d : Due) (m : Machine) → OneNan c.this → Clean m → Clean (due_done c d m)
unfolding due_done
due_cleanly c fetch m t h = acts_cleanly c (instr_at c.code m.pos) m t h
due_cleanly c (constant k) m t h = record { acc_one = constant_one c.consts k; stack_one = h.stack_one; temps_one = h.temps_one }
