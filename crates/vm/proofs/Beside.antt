-- What an act leaves as it is: the cells and the count of empty pops, where it neither looks at them nor changes them. Assumes nothing.
use Prim.Native.Nat.{ℕ}
use mathlib.Core.Path.{◌≡◌, refl, sym, ◌∙◌, ap}
use mathlib.Core.Bool.{false, not, ◌&&◌}
use mathlib.Core.List.{List}
use lib.Dec.{ltb, leb, eqb}
use lib.ListN.{length, get_or}
use Rattle.numeric.specs.Numbers.{zero as +0, le, truthy}
use Rattle.numeric.specs.Arithmetic.{guarded}
use Rattle.numeric.proofs.OneNan.{on_both}
use Rattle.program.specs.declared.instr.Divisor.{Divisor}
use Rattle.eval.specs.Stacks.{top}
use Rattle.eval.specs.Machine.{Cells, Machine, cells_are, empty_pops_are, cell_of}
use Rattle.eval.specs.declared.slot.Cell.{Cell}
use Rattle.eval.specs.declared.slot.Cell.TheVariants.{Missing, Float, Hash, Other}
use Rattle.std.specs.Prelude.{Option, Some, None}
use Rattle.eval.specs.Acts.{pushed, push_const, missed, converted, loaded_cell, loaded_from, load_temp, store_temp, handler_push, is_signed}
use Rattle.eval.specs.Acts.{passed, div_guard, and_step, or_step, jump_if_falsy, loop_begin, again, loop_check}

-- a machine with another count and other cells
abbrev pub beside : ℕ → Cells → Machine → Machine
beside k s m = empty_pops_are k (cells_are s m)

-- of an act that acts alike beside any: with its own cells, and with its own count
module _ (f : Machine → Machine) (m : Machine) (e : (k : ℕ) (s : Cells) → beside k s (f m) ≡ f (beside k s m)) where
  own : beside m.empty_pops m.cells (f m) ≡ f m
  own = e m.empty_pops m.cells

  pub count_beside : (k : ℕ) → empty_pops_are k (f m) ≡ f (empty_pops_are k m)
  count_beside k = ap (empty_pops_are k) (sym own) ∙ e k m.cells

  pub cells_beside : (s : Cells) → cells_are s (f m) ≡ f (cells_are s m)
  cells_beside s = ap (cells_are s) (sym own) ∙ e m.empty_pops s

-- ---- the acts

module _ (k : ℕ) (s : Cells) (m : Machine) where
  abbrev given : Machine
  given = beside k s m

  pub missed_beside : beside k s (missed m) ≡ missed given
  unfolding missed
  missed_beside = on_both (eqb (length m.handlers) 0) (λ h. rw h) (λ h. rw h)

  pub pushed_beside : (room v : ℕ) → beside k s (pushed room v m) ≡ pushed room v given
  unfolding pushed
  pushed_beside room v = on_both (ltb (length m.stack) room) (λ h. rw h) (λ h. rw h)

  pub push_const_beside : (room j : ℕ) → beside k s (push_const room j m) ≡ push_const room j given
  unfolding push_const
  push_const_beside room j = on_both (ltb (length m.stack) room) (λ h. rw h) (λ h. rw h)

  converted_beside : (posts : List ℕ) (p x : ℕ) → beside k s (converted posts p x m) ≡ converted posts p x given
  unfolding converted
  converted_beside posts p x = on_both (eqb p 0) (λ h. rw h) (λ h. rw h)

  cell_beside : (posts : List ℕ) (p : ℕ) (cell : Cell) (value : ℕ) → beside k s (loaded_cell posts p cell value m) ≡ loaded_cell posts p cell value given
  cell_beside posts p Missing value = missed_beside
  cell_beside posts p (Float x) value = refl
  cell_beside posts p (Hash h) value = converted_beside posts p _
  cell_beside posts p Other value = converted_beside posts p _

  pub load_beside : (cells : Cells) (posts : List ℕ) (n p : ℕ) → beside k s (loaded_from cells posts n p m) ≡ loaded_from cells posts n p given
  unfolding loaded_from
  load_beside cells posts n p = cell_beside posts p (cell_of (get_or cells.kinds n 0) (get_or cells.values n 0)) (get_or cells.values n 0)

  pub load_temp_beside : (posts : List ℕ) (t p : ℕ) → beside k s (load_temp posts t p m) ≡ load_temp posts t p given
  unfolding load_temp
  load_temp_beside posts t p =
      on_both (ltb t 8) (λ h. on_both (get_or m.temps.given t false) (λ i. rw (h, i)) (λ i. rw (h, i) missed_beside)) (λ h. rw h missed_beside)

  pub store_temp_beside : (posts : List ℕ) (t p : ℕ) → beside k s (store_temp posts t p m) ≡ store_temp posts t p given
  unfolding store_temp
  store_temp_beside posts t p = on_both (ltb t 8) (λ h. rw h) (λ h. rw h)

  pub handler_push_beside : (room j : ℕ) → beside k s (handler_push room j m) ≡ handler_push room j given
  unfolding handler_push
  handler_push_beside room j = on_both (ltb (length m.handlers) room) (λ h. rw h) (λ h. rw h)

  passed_beside : (room j : ℕ) (d : Option ℕ) → beside k s (passed room j d m) ≡ passed room j d given
  passed_beside room j None = refl
  passed_beside room j (Some d) = pushed_beside room d

  pub guard_beside : (room : ℕ) (d : Divisor) (j : ℕ) → beside k s (div_guard room d j m) ≡ div_guard room d j given
  guard_beside room d j = passed_beside room j (guarded (is_signed d) m.acc)

  pub and_step_beside : (posts : List ℕ) (j p : ℕ) → beside k s (and_step posts j p m) ≡ and_step posts j p given
  unfolding and_step
  and_step_beside posts j p = on_both (truthy m.acc) (λ h. rw h) (λ h. rw h)

  pub or_step_beside : (posts : List ℕ) (j p : ℕ) → beside k s (or_step posts j p m) ≡ or_step posts j p given
  unfolding or_step
  or_step_beside posts j p = on_both (truthy m.acc) (λ h. rw h) (λ h. rw h)

  pub jump_beside : (j : ℕ) → beside k s (jump_if_falsy j m) ≡ jump_if_falsy j given
  unfolding jump_if_falsy
  jump_beside j = on_both (truthy m.acc) (λ h. rw h) (λ h. rw h)

  pub loop_begin_beside : (stack_room loop_room j : ℕ) → beside k s (loop_begin stack_room loop_room j m) ≡ loop_begin stack_room loop_room j given
  unfolding loop_begin
  loop_begin_beside stack_room loop_room j =
      on_both (le m.acc +0) (λ h. rw h)
      (λ h. on_both (ltb (length m.stack) stack_room)
      (λ i. on_both (ltb (length m.loops) loop_room) (λ o. rw (h, i, o)) (λ o. rw (h, i, o)))
      (λ i. rw (h, i)))

  again_beside : (l : Option ℕ) (j : ℕ) → beside k s (again l j m) ≡ again l j given
  unfolding again
  again_beside None j = refl
  again_beside (Some n) j = on_both (leb n (top 0 m.loops)) (λ h. rw h) (λ h. rw h)

  pub loop_check_beside : (l : Option ℕ) (j : ℕ) → beside k s (loop_check l j m) ≡ loop_check l j given
  unfolding loop_check
  loop_check_beside l j =
      on_both (ltb 65536 (length m.stack)) (λ h. rw h)
      (λ h. on_both (not (le (top +0 m.stack) +0) && ltb 0 (length m.loops)) (λ i. rw (h, i) (again_beside l j)) (λ i. rw (h, i)))
