-- Document 01, 'The run' and 'Arithmetic': what each record does, once its charge is made. Definitions only.
use Rattle.std.specs.Prelude.{ℕ, ◌+◌, ◌-◌, min, Bool, true, false, not, ◌&&◌, ◌||◌, cond, List, ltb, leb, eqb, length, get_or, set}
use Rattle.numeric.specs.Numbers.{zero, one, entered, add, sub, le, eq, truthy}
use Rattle.numeric.specs.Arithmetic.{applied, truthy_value, falsy_value, selected, notted, negated, added, multiplied, divided, guarded}
use Rattle.numeric.specs.Arithmetic.{mod_runtime, mod_const as modulo}
use Rattle.program.specs.Opcodes.{const_op, store_var_op, store_temp_op, halt_op, end_op}
use Rattle.program.specs.Instructions.{cmp_holds, eq_holds, math1}
use Rattle.program.specs.declared.instr.Divisor.{Divisor}
use Rattle.program.specs.declared.instr.Divisor.TheVariants.{Signed, Absolute}
use Rattle.program.specs.declared.instr.CmpOp.{CmpOp}
use Rattle.program.specs.declared.instr.EqOp.{EqOp}
use Rattle.program.specs.declared.instr.Fn1.{Fn1}
use Rattle.program.specs.declared.instr.Instr.{Instr}
use Rattle.tables.specs.Tables.{const_at, post_at, hash_at, opcode_at, argument_at}
use Rattle.eval.specs.Stacks.{push, pop, top, retop, cut, often}
use Rattle.eval.specs.Machine.{Cells, Handler, no_handler, Temps, Call, Machine, cell_of, low, counted, constant}
use Rattle.eval.specs.Machine.{at, acc_is, due_is, stop, stack_is, loops_are, handlers_are, cells_are, temps_are}
use Rattle.eval.specs.Machine.{empty_pops_are, missing_member_is, access_underflow_is, loop_notice_is}
use Rattle.eval.specs.Machine.{done, for_missing_value, for_stack_cap, for_full_store, handed_over}
use Rattle.eval.specs.declared.slot.Cell.{Cell}
use Rattle.eval.specs.declared.slot.Cell.TheVariants.{Missing, Float, Hash, Other}
use Rattle.std.specs.Prelude.{Option, Some, None}

-- ---- moves

-- the next position
abbrev pub next : Machine → Machine
next m = at (m.pos + 1) m

-- "Results go to the accumulator"
abbrev pub loaded : ℕ → Machine → Machine
loaded v m = next (acc_is v m)

-- "hand over at their own position"
abbrev pub hand_over : Machine → Machine
hand_over m = stop handed_over m

-- a number of the posts applied
abbrev pub posted : List ℕ → ℕ → ℕ → ℕ
posted posts p x = applied (post_at posts p).op x

-- ---- the operand stack

-- an operand that is taken: the number, whether it was there, and the machine without it
pub record Taken : Type 0 where
  pub number : ℕ
  pub there : Bool
  pub left : Machine

-- the number on top, +0.0 where there is none
abbrev pub operand : Machine → ℕ
operand m = top zero m.stack

-- one more empty pop where no operand was there
abbrev pub tallied : Bool → ℕ → ℕ
tallied there n = cond there n (counted n)

-- "Popping an empty stack gives +0.0"; "Taking from the stack must now tell the number and whether it was there, through every
-- record that pops": each of them takes its operand so
abbrev pub taken : Machine → Taken
taken m =
    let there = ltb 0 (length m.stack) in
    record { number = operand m; there = there; left = empty_pops_are (tallied there m.empty_pops) (stack_is (pop m.stack) m) }

abbrev pub without_top : Machine → Machine
without_top m = (taken m).left

-- a result of the popped number and the accumulator, loaded
abbrev pub on_operand : (ℕ → ℕ → ℕ) → Machine → Machine
on_operand result m = loaded (result (taken m).number m.acc) (without_top m)

-- "A push onto a full store stops the run before the record acts, its fetch charged"
unfoldable pub pushed : ℕ → ℕ → Machine → Machine
pushed room v m = cond (ltb (length m.stack) room) (next (stack_is (push v m.stack) m)) (stop for_full_store m)

abbrev pub push_acc : ℕ → Machine → Machine
push_acc room m = pushed room m.acc m

-- "PushConst pushes, then owes a second charge, then loads."
unfoldable pub push_const : ℕ → ℕ → Machine → Machine
push_const room k m = cond (ltb (length m.stack) room) (due_is (constant k) (stack_is (push m.acc m.stack) m)) (stop for_full_store m)

-- "AddAcc adds the accumulator to the top, if there is one, and changes nothing else."
unfoldable pub add_acc : Machine → Machine
add_acc m = next (stack_is (retop (add (operand m) m.acc) m.stack) m)

-- ---- missing values

abbrev pub cut_to : Handler → Machine → Machine
cut_to h m = stack_is (cut h.stack_mark m.stack) (loops_are (cut h.loop_mark m.loops) m)

abbrev pub caught_by : Handler → Machine → Machine
caught_by h m = at h.target (acc_is zero (handlers_are (pop m.handlers) (cut_to h m)))

-- "Missing value: the newest handler is popped, stack and loops are cut to its mark (never lengthened), accumulator
-- +0.0, jump. With no handler the run stops."
unfoldable pub missed : Machine → Machine
missed m = cond (eqb (length m.handlers) 0) (stop for_missing_value m) (caught_by (top no_handler m.handlers) m)

abbrev pub member_noticed : Machine → Machine
member_noticed m = missing_member_is (counted m.notices.missing_member) m

-- "Member: notice, then missing value (a float has no members)."
abbrev pub member : Machine → Machine
member m = missed (member_noticed m)

-- ---- loads and stores

abbrev pub load_const : List ℕ → ℕ → Machine → Machine
load_const consts k m = loaded (const_at consts k) m

-- `this` entered with the call
abbrev pub load_this : ℕ → List ℕ → ℕ → Machine → Machine
load_this this posts p m = loaded (posted posts p this) m

-- a cell that is no float, and the number that it counts as
unfoldable pub converted : List ℕ → ℕ → ℕ → Machine → Machine
converted posts p x m = cond (eqb p 0) (hand_over m) (loaded (posted posts p x) m)

-- "LoadVar, LoadCtx, LoadTemp: if missing, missing value; a float is posted. Under post 0 hash and other hand over at their
-- own position; under another post a hash counts as the f32 of its low 32 bits, other as 0." A float enters by its bits, which stand
-- beside the cell.
abbrev pub loaded_cell : List ℕ → ℕ → Cell → ℕ → Machine → Machine
loaded_cell posts p Missing value m = missed m
loaded_cell posts p (Float x) value m = loaded (posted posts p (entered (low value))) m
loaded_cell posts p (Hash h) value m = converted posts p (entered (low h)) m
loaded_cell posts p Other value m = converted posts p zero m

-- LoadVar and LoadCtx
unfoldable pub loaded_from : Cells → List ℕ → ℕ → ℕ → Machine → Machine
loaded_from cells posts n p m =
    let value = get_or cells.values n 0 in
    loaded_cell posts p (cell_of (get_or cells.kinds n 0) value) value m

-- LoadTemp: "Temps are floats or missing."
unfoldable pub load_temp : List ℕ → ℕ → ℕ → Machine → Machine
load_temp posts t p m =
    let number = get_or m.temps.numbers t 0 in
    cond (ltb t 8) (cond (get_or m.temps.given t false) (loaded (posted posts p number) m) (missed m)) (missed m)

-- the accumulator stored
abbrev pub cell_set : ℕ → Machine → Cells
cell_set n m = record { kinds = set m.cells.kinds n 1; values = set m.cells.values n m.acc }

abbrev pub temp_set : ℕ → Machine → Temps
temp_set t m = record { given = set m.temps.given t true; numbers = set m.temps.numbers t m.acc }

-- "StoreVar and StoreTemp store first, then post." "Float stores cost nothing more."
unfoldable pub store_var : List ℕ → ℕ → ℕ → Machine → Machine
store_var posts n p m = loaded (posted posts p m.acc) (cells_are (cell_set n m) m)

unfoldable pub store_temp : List ℕ → ℕ → ℕ → Machine → Machine
store_temp posts t p m = loaded (posted posts p m.acc) (cond (ltb t 8) (temps_are (temp_set t m) m) m)

-- ---- handlers and pointers

-- a handler with the depths as its marks
abbrev pub handler_at : ℕ → Machine → Handler
handler_at j m = record { target = j; stack_mark = length m.stack; loop_mark = length m.loops }

unfoldable pub handler_push : ℕ → ℕ → Machine → Machine
handler_push room j m = cond (ltb (length m.handlers) room) (next (handlers_are (push (handler_at j m) m.handlers) m)) (stop for_full_store m)

-- "HandlerPop pops one, if any, and jumps."
abbrev pub handler_pop : ℕ → Machine → Machine
handler_pop j m = at j (handlers_are (pop m.handlers) m)

-- "PointerEnter: accumulator is the post of 0.0, jump."
abbrev pub pointer_enter : List ℕ → ℕ → ℕ → Machine → Machine
pointer_enter posts j p m = at j (acc_is (posted posts p zero) m)

abbrev pub underflow_noticed : Machine → Machine
underflow_noticed m = access_underflow_is (counted m.notices.access_underflow) m

-- "PointerLeave: notice, then post."
abbrev pub pointer_leave : List ℕ → ℕ → Machine → Machine
pointer_leave posts p m = loaded (posted posts p m.acc) (underflow_noticed m)

-- ---- arithmetic

abbrev pub post_in_place : List ℕ → ℕ → Machine → Machine
post_in_place posts p m = loaded (posted posts p m.acc) m

abbrev pub negate_acc : List ℕ → ℕ → Machine → Machine
negate_acc posts p m = loaded (negated m.acc (post_at posts p)) m

abbrev pub not_acc : List ℕ → ℕ → Machine → Machine
not_acc posts p m = loaded (notted m.acc (post_at posts p)) m

-- Floor, Ceil, Trunc and Abs: what the function gives of the accumulator, posted
abbrev pub math1_acc : Fn1 → List ℕ → ℕ → Machine → Machine
math1_acc f posts p m = loaded (posted posts p (math1 f m.acc)) m

-- "Left operand first: AddLast, Mul, Mod, Cmp and Eq take the popped number and the accumulator; Div the accumulator and
-- the popped number; ModConst, CmpConst and EqConst the accumulator and the constant. Results go to the accumulator, posted."
abbrev pub add_last : List ℕ → ℕ → Machine → Machine
add_last posts p m = on_operand (λ popped acc. added acc popped (post_at posts p).op) m

abbrev pub mul_last : List ℕ → ℕ → Machine → Machine
mul_last posts p m = on_operand (λ popped acc. multiplied acc popped (post_at posts p).op) m

abbrev pub div_last : List ℕ → ℕ → Machine → Machine
div_last posts p m = on_operand (λ popped acc. divided acc popped (post_at posts p).op) m

abbrev pub mod_last : List ℕ → ℕ → Machine → Machine
mod_last posts p m = on_operand (λ popped acc. mod_runtime popped acc (post_at posts p)) m

abbrev pub mod_const : List ℕ → ℕ → List ℕ → ℕ → Machine → Machine
mod_const consts k posts p m = loaded (modulo m.acc (const_at consts k) (post_at posts p).op) m

-- "DivGuard: magnitude below 2^-23 gives +0.0 and jumps; otherwise the divisor, or its magnitude, is pushed."
abbrev pub is_signed : Divisor → Bool
is_signed Signed = true
is_signed Absolute = false

abbrev pub below : ℕ → Machine → Machine
below j m = at j (acc_is zero m)

-- what the guard lets pass is pushed
abbrev pub passed : ℕ → ℕ → Option ℕ → Machine → Machine
passed room j None m = below j m
passed room j (Some d) m = pushed room d m

abbrev pub div_guard : ℕ → Divisor → ℕ → Machine → Machine
div_guard room d j m = passed room j (guarded (is_signed d) m.acc) m

-- "HostMath: of n arguments, limited to 8, n - 1 are popped (none for n = 0); accumulator +0.0, no post."
abbrev pub host_math : ℕ → Machine → Machine
host_math n m = loaded zero (often (min n 8 - 1) without_top m)

-- ---- comparisons and branches: "AndLast, OrLast, 23 to 27 pick true or false."

abbrev pub cmp_last : CmpOp → List ℕ → ℕ → Machine → Machine
cmp_last op posts p m = on_operand (λ popped acc. selected (post_at posts p) (cmp_holds op popped acc)) m

abbrev pub cmp_const : CmpOp → List ℕ → ℕ → List ℕ → ℕ → Machine → Machine
cmp_const op consts k posts p m = loaded (selected (post_at posts p) (cmp_holds op m.acc (const_at consts k))) m

abbrev pub eq_last : EqOp → List ℕ → ℕ → Machine → Machine
eq_last op posts p m = on_operand (λ popped acc. selected (post_at posts p) (eq_holds op (eq popped acc))) m

abbrev pub eq_const : EqOp → List ℕ → ℕ → List ℕ → ℕ → Machine → Machine
eq_const op consts k posts p m = loaded (selected (post_at posts p) (eq_holds op (eq m.acc (const_at consts k)))) m

-- "EqHash compares the f32 bits with the u64."
abbrev pub eq_hash : EqOp → List ℕ → ℕ → List ℕ → ℕ → Machine → Machine
eq_hash op hashes h posts p m = loaded (selected (post_at posts p) (eq_holds op (eqb m.acc (hash_at hashes h)))) m

abbrev pub last_step : List ℕ → ℕ → Machine → Machine
last_step posts p m = loaded (selected (post_at posts p) (truthy m.acc)) m

-- "AndStep on a false accumulator takes false and jumps; OrStep on a true one takes true and jumps; otherwise both
-- leave it, unposted, and go on. JumpIfFalsy leaves it either way."
unfoldable pub and_step : List ℕ → ℕ → ℕ → Machine → Machine
and_step posts j p m = cond (truthy m.acc) (next m) (at j (acc_is (falsy_value (post_at posts p)) m))

unfoldable pub or_step : List ℕ → ℕ → ℕ → Machine → Machine
or_step posts j p m = cond (truthy m.acc) (at j (acc_is (truthy_value (post_at posts p).op) m)) (next m)

unfoldable pub jump_if_falsy : ℕ → Machine → Machine
jump_if_falsy j m = cond (truthy m.acc) (next m) (at j m)

-- ---- loops

abbrev pub less_one : ℕ → ℕ
less_one v = sub v one

-- "LoopBegin: count <= 0 jumps. Otherwise count - 1 is pushed, with a loop count of 1"; "LoopBegin tests the stack, then
-- the loops"
unfoldable pub loop_begin : ℕ → ℕ → ℕ → Machine → Machine
loop_begin stack_room loop_room j m =
    cond (le m.acc zero) (at j m)
    (cond (ltb (length m.stack) stack_room)
    (cond (ltb (length m.loops) loop_room)
    (next (stack_is (push (less_one m.acc) m.stack) (loops_are (push 1 m.loops) m)))
    (stop for_full_store m))
    (stop for_full_store m))

-- "notice (first time only)"
abbrev pub limit_noticed : Machine → Machine
limit_noticed m =
    let k = m.notices.loop_limit in
    loop_notice_is (cond (eqb k 0) 1 k) m

-- "with a limit not above the loop count, notice (first time only) and fall through; otherwise the count rises by 1
-- (only under a limit), top falls by 1, jump"
unfoldable pub again : Option ℕ → ℕ → Machine → Machine
again None j m = at j (stack_is (retop (less_one (operand m)) m.stack) m)
again (Some n) j m =
    let passes = top 0 m.loops in
    cond (leb n passes) (next (limit_noticed m))
    (at j (stack_is (retop (less_one (operand m)) m.stack) (loops_are (retop (passes + 1) m.loops) m)))

-- "LoopCheck: depth above 65,536 stops. If the top (0.0 when empty) is not <= 0 and a loop is open: .."
unfoldable pub loop_check : Option ℕ → ℕ → Machine → Machine
loop_check l j m =
    cond (ltb 65536 (length m.stack)) (stop for_stack_cap m)
    (cond (not (le (operand m) zero) && ltb 0 (length m.loops)) (again l j m) (next m))

-- "LoopEnd closes a loop and pops its count; with no loop open it does nothing."
unfoldable pub loop_end : Machine → Machine
loop_end m = cond (eqb (length m.loops) 0) (next m) (next (loops_are (pop m.loops) (without_top m)))

-- "The next position is target + 1 if that is absent, End or Halt; target + 3 if it is Const followed by StoreVar or
-- StoreTemp; otherwise target + 2." That, and it, are the record at target + 1 (docs/DIFFERENCES.md).
unfoldable pub each_next : List ℕ → ℕ → ℕ
each_next code j =
    let first = opcode_at code (j + 1) in
    let second = opcode_at code (j + 2) in
    cond (eqb first 0 || (eqb first end_op || eqb first halt_op)) (j + 1)
    (cond (eqb first const_op && (eqb second store_var_op || eqb second store_temp_op)) (j + 3) (j + 2))

-- "EachBegin: the accumulator takes the constant if the record at the target is Const."
unfoldable pub each_begin : List ℕ → List ℕ → ℕ → Machine → Machine
each_begin code consts j m =
    let constant = const_at consts (argument_at code j) in
    at (each_next code j) (acc_is (cond (eqb (opcode_at code j) const_op) constant m.acc) m)

-- ---- the end: "Return posts and ends, Halt gives +0.0, End ends."

abbrev pub return_acc : List ℕ → ℕ → Machine → Machine
return_acc posts p m = stop done (acc_is (posted posts p m.acc) m)

abbrev pub halt : Machine → Machine
halt m = stop done (acc_is zero m)

-- ---- one clause a record, and one for none: "A position outside the code then ends it, done."

unfoldable pub acted : Call → Instr → Machine → Machine
acted c (Instr.Const k) m = load_const c.consts k.0 m
acted c (Instr.Hash h) m = hand_over m
acted c (Instr.Resource h) m = hand_over m
acted c (Instr.This p) m = load_this c.this c.posts p.0 m
acted c (Instr.LoadVar n p) m = loaded_from m.cells c.posts n.0 p.0 m
acted c (Instr.LoadTemp t p) m = load_temp c.posts t.0 p.0 m
acted c (Instr.LoadCtx n p) m = loaded_from c.context c.posts n.0 p.0 m
acted c (Instr.Member n p) m = member m
acted c (Instr.StoreVar n p) m = store_var c.posts n.0 p.0 m
acted c (Instr.StoreTemp t p) m = store_temp c.posts t.0 p.0 m
acted c Instr.Push m = push_acc c.stack_room m
acted c (Instr.PushConst k) m = push_const c.stack_room k.0 m
acted c (Instr.Negate p) m = negate_acc c.posts p.0 m
acted c (Instr.Not p) m = not_acc c.posts p.0 m
acted c Instr.AddAcc m = add_acc m
acted c (Instr.AddLast p) m = add_last c.posts p.0 m
acted c (Instr.Mul p) m = mul_last c.posts p.0 m
acted c (Instr.DivGuard d j) m = div_guard c.stack_room d j m
acted c (Instr.Div p) m = div_last c.posts p.0 m
acted c (Instr.Mod p) m = mod_last c.posts p.0 m
acted c (Instr.ModConst k p) m = mod_const c.consts k.0 c.posts p.0 m
acted c (Instr.HostMath n p) m = host_math n m
acted c (Instr.Cmp op p) m = cmp_last op c.posts p.0 m
acted c (Instr.CmpConst op k p) m = cmp_const op c.consts k.0 c.posts p.0 m
acted c (Instr.Eq op p) m = eq_last op c.posts p.0 m
acted c (Instr.EqConst op k p) m = eq_const op c.consts k.0 c.posts p.0 m
acted c (Instr.EqHash op h p) m = eq_hash op c.hashes h.0 c.posts p.0 m
acted c (Instr.AndStep j p) m = and_step c.posts j p.0 m
acted c (Instr.OrStep j p) m = or_step c.posts j p.0 m
acted c (Instr.AndLast p) m = last_step c.posts p.0 m
acted c (Instr.OrLast p) m = last_step c.posts p.0 m
acted c (Instr.Jump j) m = at j m
acted c (Instr.JumpIfFalsy j) m = jump_if_falsy j m
acted c (Instr.Post p) m = post_in_place c.posts p.0 m
acted c (Instr.HandlerPush j) m = handler_push c.handler_room j m
acted c (Instr.HandlerPop j) m = handler_pop j m
acted c (Instr.PointerEnter j p) m = pointer_enter c.posts j p.0 m
acted c (Instr.PointerLeave p) m = pointer_leave c.posts p.0 m
acted c (Instr.Call a p) m = hand_over m
acted c (Instr.LoopBegin j) m = loop_begin c.stack_room c.loop_room j m
acted c (Instr.LoopCheck j) m = loop_check c.loop_limit j m
acted c Instr.LoopEnd m = loop_end m
acted c (Instr.EachBegin j) m = each_begin c.code c.consts j m
acted c (Instr.EachNextVar n j) m = hand_over m
acted c (Instr.EachNextTemp t j) m = hand_over m
acted c (Instr.Return p) m = return_acc c.posts p.0 m
acted c Instr.Halt m = halt m
acted c Instr.End m = stop done m
acted c (Instr.Math1 f p) m = math1_acc f c.posts p.0 m
acted c Instr.Outside m = stop done m
