use mathlib.Core.Path.{refl, ◌∙◌, ap}
use native.Mathlib.Nat.{lt_of_le_of_lt}
use native.Mathlib.Omega.{arith}
use Rattle.eval.specs.Acts.{acted, missed}
use Rattle.eval.specs.Run.{lift}
use Rattle.interp.proofs.Arms.{held, inside, step_acts, step_made, step_wrote, step_loads}
use Rattle.interp.proofs.step.Goals as goal

pub load_const-requires : goal.load_const-requires
load_const-requires c = inside _ _ _ _ c.fetch-instr.ensures c.in-Const.is refl (omega arith)

pub load_this-requires : goal.load_this-requires
load_this-requires c = inside _ _ _ _ c.fetch-instr.ensures c.in-This.is refl (omega arith)

pub load_cell-requires : goal.load_cell-requires
load_cell-requires c = record { next = inside _ _ _ _ c.fetch-instr.ensures c.in-LoadVar.is refl (omega arith); fits = c.requires.ready.within.on_handlers }

pub load_temp-requires : goal.load_temp-requires
load_temp-requires c = record { next = inside _ _ _ _ c.fetch-instr.ensures c.in-LoadTemp.is refl (omega arith); fits = c.requires.ready.within.on_handlers }

pub load_cell-requires-in-LoadCtx : goal.load_cell-requires-in-LoadCtx
load_cell-requires-in-LoadCtx c = record { next = inside _ _ _ _ c.fetch-instr.ensures c.in-LoadCtx.is refl (omega arith); fits = c.requires.ready.within.on_handlers }

pub store_var-requires : goal.store_var-requires
store_var-requires c = inside _ _ _ _ c.fetch-instr.ensures c.in-StoreVar.is refl (omega arith)

pub store_temp-requires : goal.store_temp-requires
store_temp-requires c = inside _ _ _ _ c.fetch-instr.ensures c.in-StoreTemp.is refl (omega arith)

pub push-requires : goal.push-requires
push-requires c = record { next = inside _ _ _ _ c.fetch-instr.ensures c.in-Push.is refl (omega arith); fits = c.requires.ready.within.on_stack }

pub push_const-requires : goal.push_const-requires
push_const-requires c = record { at = record { next = inside _ _ _ _ c.fetch-instr.ensures c.in-PushConst.is refl (omega arith); fits = c.requires.ready.within.on_stack }; charge = c.requires.left }

pub negate_acc-requires : goal.negate_acc-requires
negate_acc-requires c = inside _ _ _ _ c.fetch-instr.ensures c.in-Negate.is refl (omega arith)

pub not_acc-requires : goal.not_acc-requires
not_acc-requires c = inside _ _ _ _ c.fetch-instr.ensures c.in-Not.is refl (omega arith)

pub add_acc-requires : goal.add_acc-requires
add_acc-requires c = record { next = inside _ _ _ _ c.fetch-instr.ensures c.in-AddAcc.is refl (omega arith); fits = c.requires.ready.within.on_stack }

pub add_last-requires : goal.add_last-requires
add_last-requires c = record { next = inside _ _ _ _ c.fetch-instr.ensures c.in-AddLast.is refl (omega arith); fits = c.requires.ready.within.on_stack }

pub mul_last-requires : goal.mul_last-requires
mul_last-requires c = record { next = inside _ _ _ _ c.fetch-instr.ensures c.in-Mul.is refl (omega arith); fits = c.requires.ready.within.on_stack }

pub guard-requires : goal.guard-requires
guard-requires c = record { next = inside _ _ _ _ c.fetch-instr.ensures c.in-DivGuard.is refl (omega arith); fits = c.requires.ready.within.on_stack }

pub div_last-requires : goal.div_last-requires
div_last-requires c = record { next = inside _ _ _ _ c.fetch-instr.ensures c.in-Div.is refl (omega arith); fits = c.requires.ready.within.on_stack }

pub mod_last-requires : goal.mod_last-requires
mod_last-requires c = record { next = inside _ _ _ _ c.fetch-instr.ensures c.in-Mod.is refl (omega arith); fits = c.requires.ready.within.on_stack }

pub mod_const-requires : goal.mod_const-requires
mod_const-requires c = inside _ _ _ _ c.fetch-instr.ensures c.in-ModConst.is refl (omega arith)

pub host_math-requires : goal.host_math-requires
host_math-requires c = inside _ _ _ _ c.fetch-instr.ensures c.in-HostMath.is refl (omega arith)

pub cmp_last-requires : goal.cmp_last-requires
cmp_last-requires c = record { next = inside _ _ _ _ c.fetch-instr.ensures c.in-Cmp.is refl (omega arith); fits = c.requires.ready.within.on_stack }

pub cmp_const-requires : goal.cmp_const-requires
cmp_const-requires c = inside _ _ _ _ c.fetch-instr.ensures c.in-CmpConst.is refl (omega arith)

pub eq_last-requires : goal.eq_last-requires
eq_last-requires c = record { next = inside _ _ _ _ c.fetch-instr.ensures c.in-Eq.is refl (omega arith); fits = c.requires.ready.within.on_stack }

pub eq_const-requires : goal.eq_const-requires
eq_const-requires c = inside _ _ _ _ c.fetch-instr.ensures c.in-EqConst.is refl (omega arith)

pub eq_hash-requires : goal.eq_hash-requires
eq_hash-requires c = inside _ _ _ _ c.fetch-instr.ensures c.in-EqHash.is refl (omega arith)

pub and_step-requires : goal.and_step-requires
and_step-requires c = inside _ _ _ _ c.fetch-instr.ensures c.in-AndStep.is refl (omega arith)

pub or_step-requires : goal.or_step-requires
or_step-requires c = inside _ _ _ _ c.fetch-instr.ensures c.in-OrStep.is refl (omega arith)

pub last_step-requires : goal.last_step-requires
last_step-requires c = inside _ _ _ _ c.fetch-instr.ensures c.in-AndLast.is refl (omega arith)

pub last_step-requires-in-OrLast : goal.last_step-requires-in-OrLast
last_step-requires-in-OrLast c = inside _ _ _ _ c.fetch-instr.ensures c.in-OrLast.is refl (omega arith)

pub jump_if_falsy-requires : goal.jump_if_falsy-requires
jump_if_falsy-requires c = inside _ _ _ _ c.fetch-instr.ensures c.in-JumpIfFalsy.is refl (omega arith)

pub post_in_place-requires : goal.post_in_place-requires
post_in_place-requires c = inside _ _ _ _ c.fetch-instr.ensures c.in-Post.is refl (omega arith)

pub handler_push-requires : goal.handler_push-requires
handler_push-requires c = record { at = record { next = inside _ _ _ _ c.fetch-instr.ensures c.in-HandlerPush.is refl (omega arith); fits = c.requires.ready.within.on_handlers }; fits_stack_mark = lt_of_le_of_lt c.requires.ready.within.on_stack c.requires.ready.sized.stack; fits_loop_mark = lt_of_le_of_lt c.requires.ready.within.on_loops c.requires.ready.sized.loops }

pub pointer_leave-requires : goal.pointer_leave-requires
pointer_leave-requires c = inside _ _ _ _ c.fetch-instr.ensures c.in-PointerLeave.is refl (omega arith)

pub loop_begin-requires : goal.loop_begin-requires
loop_begin-requires c = record { next = inside _ _ _ _ c.fetch-instr.ensures c.in-LoopBegin.is refl (omega arith); fits = c.requires.ready.within.on_stack; loops_fit = c.requires.ready.within.on_loops }

pub loop_check-requires : goal.loop_check-requires
loop_check-requires c = record { next = inside _ _ _ _ c.fetch-instr.ensures c.in-LoopCheck.is refl (omega arith); fits = c.requires.ready.within.on_stack; loops_fit = c.requires.ready.within.on_loops }

pub loop_end-requires : goal.loop_end-requires
loop_end-requires c = record { next = inside _ _ _ _ c.fetch-instr.ensures c.in-LoopEnd.is refl (omega arith); fits = c.requires.ready.within.on_stack }

pub math1_acc-requires : goal.math1_acc-requires
math1_acc-requires c = inside _ _ _ _ c.fetch-instr.ensures c.in-Math1.is refl (omega arith)

pub returns-in-Const-clause-acts : goal.returns-in-Const-clause-acts
unfolding acted
returns-in-Const-clause-acts c = step_acts c.requires c.fetch-instr.ensures c.in-Const.is c.load_const.ensures

pub returns-in-Hash-clause-acts : goal.returns-in-Hash-clause-acts
unfolding acted
returns-in-Hash-clause-acts c = step_acts c.requires c.fetch-instr.ensures c.in-Hash.is c.stop.ensures

pub returns-in-Resource-clause-acts : goal.returns-in-Resource-clause-acts
unfolding acted
returns-in-Resource-clause-acts c = step_acts c.requires c.fetch-instr.ensures c.in-Resource.is c.stop-in-Resource.ensures

pub returns-in-This-clause-acts : goal.returns-in-This-clause-acts
unfolding acted
returns-in-This-clause-acts c = step_acts c.requires c.fetch-instr.ensures c.in-This.is c.load_this.ensures

pub returns-in-LoadVar-clause-acts : goal.returns-in-LoadVar-clause-acts
unfolding acted
returns-in-LoadVar-clause-acts c = let m = c.load_cell.ensures (held c.requires) c.requires.ready.within in step_made c.requires c.fetch-instr.ensures c.in-LoadVar.is (record { within = m.within; same = m.same })

pub returns-in-LoadTemp-clause-acts : goal.returns-in-LoadTemp-clause-acts
unfolding acted
returns-in-LoadTemp-clause-acts c = step_made c.requires c.fetch-instr.ensures c.in-LoadTemp.is (c.load_temp.ensures (held c.requires) c.requires.ready.within)

pub returns-in-LoadCtx-clause-acts : goal.returns-in-LoadCtx-clause-acts
unfolding acted
returns-in-LoadCtx-clause-acts c = step_made c.requires c.fetch-instr.ensures c.in-LoadCtx.is (c.load_cell-in-LoadCtx.ensures (held c.requires) c.requires.ready.within)

pub returns-in-Member-clause-acts : goal.returns-in-Member-clause-acts
unfolding acted
returns-in-Member-clause-acts c = let n = c.notice_member.ensures.acts (held c.requires) c.requires.ready.within in
    let m = c.missing.ensures (held c.requires) n.within in
    step_made c.requires c.fetch-instr.ensures c.in-Member.is (record { within = m.within; same = m.same ∙ ap (lift missed) n.same })

pub returns-in-StoreVar-clause-acts : goal.returns-in-StoreVar-clause-acts
unfolding acted
returns-in-StoreVar-clause-acts c = step_wrote c.requires c.fetch-instr.ensures c.in-StoreVar.is (c.store_var.ensures (held c.requires) c.requires.ready.within)

pub returns-in-StoreTemp-clause-acts : goal.returns-in-StoreTemp-clause-acts
unfolding acted
returns-in-StoreTemp-clause-acts c = step_wrote c.requires c.fetch-instr.ensures c.in-StoreTemp.is (c.store_temp.ensures (held c.requires) c.requires.ready.within)

pub returns-in-Push-clause-acts : goal.returns-in-Push-clause-acts
unfolding acted
returns-in-Push-clause-acts c = let m = c.push.ensures (held c.requires) c.requires.ready.within in step_wrote c.requires c.fetch-instr.ensures c.in-Push.is (record { made = record { within = m.made.within; same = m.made.same }; whole = m.whole })

pub returns-in-PushConst-clause-acts : goal.returns-in-PushConst-clause-acts
returns-in-PushConst-clause-acts c = step_loads c.requires c.fetch-instr.ensures c.in-PushConst.is refl (c.push_const.ensures (held c.requires) c.requires.ready.within)

pub returns-in-Negate-clause-acts : goal.returns-in-Negate-clause-acts
unfolding acted
returns-in-Negate-clause-acts c = step_acts c.requires c.fetch-instr.ensures c.in-Negate.is c.negate_acc.ensures

pub returns-in-Not-clause-acts : goal.returns-in-Not-clause-acts
unfolding acted
returns-in-Not-clause-acts c = step_acts c.requires c.fetch-instr.ensures c.in-Not.is c.not_acc.ensures

pub returns-in-AddAcc-clause-acts : goal.returns-in-AddAcc-clause-acts
unfolding acted
returns-in-AddAcc-clause-acts c = step_wrote c.requires c.fetch-instr.ensures c.in-AddAcc.is (c.add_acc.ensures (held c.requires) c.requires.ready.within)

pub returns-in-AddLast-clause-acts : goal.returns-in-AddLast-clause-acts
unfolding acted
returns-in-AddLast-clause-acts c = step_made c.requires c.fetch-instr.ensures c.in-AddLast.is (c.add_last.ensures (held c.requires) c.requires.ready.within)

pub returns-in-Mul-clause-acts : goal.returns-in-Mul-clause-acts
unfolding acted
returns-in-Mul-clause-acts c = step_made c.requires c.fetch-instr.ensures c.in-Mul.is (c.mul_last.ensures (held c.requires) c.requires.ready.within)

pub returns-in-DivGuard-clause-acts : goal.returns-in-DivGuard-clause-acts
unfolding acted
returns-in-DivGuard-clause-acts c = step_wrote c.requires c.fetch-instr.ensures c.in-DivGuard.is (c.guard.ensures (held c.requires) c.requires.ready.within)

pub returns-in-Div-clause-acts : goal.returns-in-Div-clause-acts
unfolding acted
returns-in-Div-clause-acts c = step_made c.requires c.fetch-instr.ensures c.in-Div.is (c.div_last.ensures (held c.requires) c.requires.ready.within)

pub returns-in-Mod-clause-acts : goal.returns-in-Mod-clause-acts
unfolding acted
returns-in-Mod-clause-acts c = step_made c.requires c.fetch-instr.ensures c.in-Mod.is (c.mod_last.ensures (held c.requires) c.requires.ready.within)

pub returns-in-ModConst-clause-acts : goal.returns-in-ModConst-clause-acts
unfolding acted
returns-in-ModConst-clause-acts c = step_acts c.requires c.fetch-instr.ensures c.in-ModConst.is c.mod_const.ensures

pub returns-in-HostMath-clause-acts : goal.returns-in-HostMath-clause-acts
unfolding acted
returns-in-HostMath-clause-acts c = step_acts c.requires c.fetch-instr.ensures c.in-HostMath.is c.host_math.ensures

pub returns-in-Cmp-clause-acts : goal.returns-in-Cmp-clause-acts
unfolding acted
returns-in-Cmp-clause-acts c = step_made c.requires c.fetch-instr.ensures c.in-Cmp.is (c.cmp_last.ensures (held c.requires) c.requires.ready.within)

pub returns-in-CmpConst-clause-acts : goal.returns-in-CmpConst-clause-acts
unfolding acted
returns-in-CmpConst-clause-acts c = step_acts c.requires c.fetch-instr.ensures c.in-CmpConst.is c.cmp_const.ensures

pub returns-in-Eq-clause-acts : goal.returns-in-Eq-clause-acts
unfolding acted
returns-in-Eq-clause-acts c = step_made c.requires c.fetch-instr.ensures c.in-Eq.is (c.eq_last.ensures (held c.requires) c.requires.ready.within)

pub returns-in-EqConst-clause-acts : goal.returns-in-EqConst-clause-acts
unfolding acted
returns-in-EqConst-clause-acts c = step_acts c.requires c.fetch-instr.ensures c.in-EqConst.is c.eq_const.ensures

pub returns-in-EqHash-clause-acts : goal.returns-in-EqHash-clause-acts
unfolding acted
returns-in-EqHash-clause-acts c = step_acts c.requires c.fetch-instr.ensures c.in-EqHash.is c.eq_hash.ensures

pub returns-in-AndStep-clause-acts : goal.returns-in-AndStep-clause-acts
unfolding acted
returns-in-AndStep-clause-acts c = step_acts c.requires c.fetch-instr.ensures c.in-AndStep.is c.and_step.ensures

pub returns-in-OrStep-clause-acts : goal.returns-in-OrStep-clause-acts
unfolding acted
returns-in-OrStep-clause-acts c = step_acts c.requires c.fetch-instr.ensures c.in-OrStep.is c.or_step.ensures

pub returns-in-AndLast-clause-acts : goal.returns-in-AndLast-clause-acts
unfolding acted
returns-in-AndLast-clause-acts c = step_acts c.requires c.fetch-instr.ensures c.in-AndLast.is c.last_step.ensures

pub returns-in-OrLast-clause-acts : goal.returns-in-OrLast-clause-acts
unfolding acted
returns-in-OrLast-clause-acts c = step_acts c.requires c.fetch-instr.ensures c.in-OrLast.is c.last_step-in-OrLast.ensures

pub returns-in-Jump-clause-acts : goal.returns-in-Jump-clause-acts
unfolding acted
returns-in-Jump-clause-acts c = step_acts c.requires c.fetch-instr.ensures c.in-Jump.is c.goto.ensures

pub returns-in-JumpIfFalsy-clause-acts : goal.returns-in-JumpIfFalsy-clause-acts
unfolding acted
returns-in-JumpIfFalsy-clause-acts c = step_acts c.requires c.fetch-instr.ensures c.in-JumpIfFalsy.is c.jump_if_falsy.ensures

pub returns-in-Post-clause-acts : goal.returns-in-Post-clause-acts
unfolding acted
returns-in-Post-clause-acts c = step_acts c.requires c.fetch-instr.ensures c.in-Post.is c.post_in_place.ensures

pub returns-in-HandlerPush-clause-acts : goal.returns-in-HandlerPush-clause-acts
unfolding acted
returns-in-HandlerPush-clause-acts c = step_wrote c.requires c.fetch-instr.ensures c.in-HandlerPush.is (c.handler_push.ensures (held c.requires) c.requires.ready.within)

pub returns-in-HandlerPop-clause-acts : goal.returns-in-HandlerPop-clause-acts
unfolding acted
returns-in-HandlerPop-clause-acts c = step_acts c.requires c.fetch-instr.ensures c.in-HandlerPop.is c.handler_pop.ensures

pub returns-in-PointerEnter-clause-acts : goal.returns-in-PointerEnter-clause-acts
unfolding acted
returns-in-PointerEnter-clause-acts c = step_acts c.requires c.fetch-instr.ensures c.in-PointerEnter.is c.pointer_enter.ensures

pub returns-in-PointerLeave-clause-acts : goal.returns-in-PointerLeave-clause-acts
unfolding acted
returns-in-PointerLeave-clause-acts c = step_acts c.requires c.fetch-instr.ensures c.in-PointerLeave.is c.pointer_leave.ensures

pub returns-in-Call-clause-acts : goal.returns-in-Call-clause-acts
unfolding acted
returns-in-Call-clause-acts c = step_acts c.requires c.fetch-instr.ensures c.in-Call.is c.stop-in-Call.ensures

pub returns-in-LoopBegin-clause-acts : goal.returns-in-LoopBegin-clause-acts
unfolding acted
returns-in-LoopBegin-clause-acts c = step_wrote c.requires c.fetch-instr.ensures c.in-LoopBegin.is (c.loop_begin.ensures (held c.requires) c.requires.ready.within)

pub returns-in-LoopCheck-clause-acts : goal.returns-in-LoopCheck-clause-acts
unfolding acted
returns-in-LoopCheck-clause-acts c = step_wrote c.requires c.fetch-instr.ensures c.in-LoopCheck.is (c.loop_check.ensures (held c.requires) c.requires.ready.within)

pub returns-in-LoopEnd-clause-acts : goal.returns-in-LoopEnd-clause-acts
unfolding acted
returns-in-LoopEnd-clause-acts c = step_made c.requires c.fetch-instr.ensures c.in-LoopEnd.is (c.loop_end.ensures (held c.requires) c.requires.ready.within)

pub returns-in-EachBegin-clause-acts : goal.returns-in-EachBegin-clause-acts
unfolding acted
returns-in-EachBegin-clause-acts c = step_acts c.requires c.fetch-instr.ensures c.in-EachBegin.is c.each_begin.ensures

pub returns-in-EachNextVar-clause-acts : goal.returns-in-EachNextVar-clause-acts
unfolding acted
returns-in-EachNextVar-clause-acts c = step_acts c.requires c.fetch-instr.ensures c.in-EachNextVar.is c.stop-in-EachNextVar.ensures

pub returns-in-EachNextTemp-clause-acts : goal.returns-in-EachNextTemp-clause-acts
unfolding acted
returns-in-EachNextTemp-clause-acts c = step_acts c.requires c.fetch-instr.ensures c.in-EachNextTemp.is c.stop-in-EachNextTemp.ensures

pub returns-in-Return-clause-acts : goal.returns-in-Return-clause-acts
unfolding acted
returns-in-Return-clause-acts c = step_acts c.requires c.fetch-instr.ensures c.in-Return.is c.return_acc.ensures

pub returns-in-Halt-clause-acts : goal.returns-in-Halt-clause-acts
unfolding acted
returns-in-Halt-clause-acts c = step_acts c.requires c.fetch-instr.ensures c.in-Halt.is c.halt.ensures

pub returns-in-End-clause-acts : goal.returns-in-End-clause-acts
unfolding acted
returns-in-End-clause-acts c = step_acts c.requires c.fetch-instr.ensures c.in-End.is c.stop-in-End.ensures

pub returns-in-Math1-clause-acts : goal.returns-in-Math1-clause-acts
unfolding acted
returns-in-Math1-clause-acts c = step_acts c.requires c.fetch-instr.ensures c.in-Math1.is c.math1_acc.ensures

pub returns-in-Outside-clause-acts : goal.returns-in-Outside-clause-acts
unfolding acted
returns-in-Outside-clause-acts c = step_acts c.requires c.fetch-instr.ensures c.in-Outside.is c.stop-in-Outside.ensures
