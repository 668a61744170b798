-- The runs set out, the twelve and those under pairs of limits, by evaluating the definition on file bytes. Assumes nothing.
use mathlib.Core.Path.{◌≡◌, refl}
use mathlib.Core.List.{map}
use lib.Ieee.{of_bits, to_bits, nan_bits}
use lib.Ieee.{add as ieeeAdd, sub as ieeeSub, mul as ieeeMul, rem as ieeeRem, lt as ieeeLt, le as ieeeLe, eq as ieeeEq, ne as ieeeNe}
use Rattle.numeric.specs.Numbers.{entered, add, sub, le, eq, ne}
use Rattle.numeric.specs.Arithmetic.{is_identity, applied, mod_const}
use Rattle.endian.specs.Endian.{number_at}
use Rattle.program.specs.Ranges.{parts_of}
use Rattle.program.specs.Instructions.{decoded}
use Rattle.tables.specs.Tables.{const_at, post_at, instr_at}
use Rattle.file.specs.Fields.{named, body, rest, length_fits}
use Rattle.file.specs.Records.{record_refusal, records_refusal}
use Rattle.file.specs.Refusals.{contents_refusal, field_refusal, refusal_for}
use Rattle.eval.specs.Stacks.{push, pop, top, retop, cut, stored}
use Rattle.eval.specs.Machine.{cell_of}
use Rattle.eval.specs.Acts.{pushed, push_const, missed, loaded_from, handler_push, loop_begin, again, loop_check, loop_end, acted}
use Rattle.eval.specs.Run.{due_done, ticked}
use Rattle.eval.specs.State.{packed}
use Rattle.vm.specs.Call.{cell_fits, cells_fit, one_each, stores_fit, call_fits, refusal_by}
use Rattle.vm.specs.Purses.{spend}
use Rattle.vm.specs.Account.{end_of, left_by}
use Rattle.vm.specs.Called.{called}
use Rattle.vm.specs.Runs.{calls, answers}
use Rattle.vm.specs.Pairs.{pairs, left}

pub twelve_runs : map called calls ≡ answers
unfolding of_bits to_bits ieeeAdd ieeeSub ieeeMul ieeeRem ieeeLt ieeeLe ieeeEq ieeeNe nan_bits entered add sub le eq ne is_identity applied mod_const number_at parts_of decoded const_at post_at instr_at named body rest length_fits record_refusal records_refusal contents_refusal field_refusal refusal_for push pop top retop cut stored cell_of pushed push_const missed loaded_from handler_push loop_begin again loop_check loop_end acted due_done ticked packed cell_fits cells_fit one_each stores_fit call_fits refusal_by spend end_of left_by called
twelve_runs = refl

pub pair_runs : map called pairs ≡ left
unfolding of_bits to_bits ieeeAdd ieeeEq nan_bits entered add applied is_identity number_at parts_of decoded const_at post_at instr_at named body rest length_fits record_refusal records_refusal contents_refusal field_refusal refusal_for push pop top stored pushed push_const acted due_done ticked packed cell_fits cells_fit one_each stores_fit call_fits refusal_by spend end_of left_by called
pair_runs = refl
