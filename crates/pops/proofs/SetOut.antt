-- The calls set out, and a count that is full, by evaluating the definition. Assumes nothing.
use mathlib.Core.Path.{◌≡◌, refl}
use mathlib.Core.List.{map}
use lib.Ieee.{of_bits, to_bits, nan_bits, add as ieeeAdd, sub as ieeeSub, le as ieeeLe, lt as ieeeLt, eq as ieeeEq}
use Rattle.numeric.specs.Numbers.{entered, add, sub, le, eq}
use Rattle.numeric.specs.Arithmetic.{is_identity, applied}
use Rattle.endian.specs.Endian.{number_at}
use Rattle.program.specs.Ranges.{parts_of}
use Rattle.program.specs.Instructions.{decoded}
use Rattle.tables.specs.Tables.{const_at, post_at, instr_at}
use Rattle.file.specs.Fields.{named, body, rest, length_fits}
use Rattle.file.specs.Records.{record_refusal, records_refusal}
use Rattle.file.specs.Refusals.{contents_refusal, field_refusal, refusal_for}
use Rattle.eval.specs.Stacks.{push, pop, top, retop, cut, stored, often}
use Rattle.eval.specs.Machine.{cell_of}
use Rattle.eval.specs.Acts.{pushed, missed, loaded_from, handler_push, add_acc, loop_begin, again, loop_check, loop_end, acted}
use Rattle.eval.specs.Run.{due_done, ticked, history}
use Rattle.eval.specs.State.{packed}
use Rattle.vm.specs.Call.{cell_fits, cells_fit, one_each, stores_fit, call_fits, refusal_by}
use Rattle.vm.specs.Purses.{spend}
use Rattle.vm.specs.Account.{end_of, left_by}
use Rattle.vm.specs.Called.{called}
use Rattle.pops.specs.Runs.{calls, empty_pops_of, counts, host_math_calls, empty_pops_as_it_was, host_math_counts, after, lacks, ends}

pub set_out : map empty_pops_of calls ≡ counts
unfolding of_bits to_bits ieeeAdd ieeeSub ieeeLe ieeeLt ieeeEq nan_bits entered add sub le eq is_identity applied number_at parts_of decoded const_at post_at instr_at named body rest length_fits record_refusal records_refusal contents_refusal field_refusal refusal_for push pop top retop cut stored often cell_of pushed missed loaded_from handler_push add_acc loop_begin again loop_check loop_end acted due_done ticked packed cell_fits cells_fit one_each stores_fit call_fits refusal_by spend end_of left_by called
set_out = refl

pub host_math_set_out : map empty_pops_as_it_was host_math_calls ≡ host_math_counts
unfolding of_bits to_bits ieeeAdd nan_bits entered add is_identity applied number_at decoded const_at post_at instr_at named body rest length_fits push pop top stored often cell_of pushed acted due_done ticked packed spend end_of left_by
host_math_set_out = refl

pub full : map after lacks ≡ ends
unfolding of_bits to_bits ieeeAdd ieeeEq nan_bits entered add is_identity applied number_at decoded post_at instr_at named body rest length_fits pop top often acted due_done ticked history
full = refl
