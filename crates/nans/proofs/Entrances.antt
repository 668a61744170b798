-- Each entrance alone, by evaluating the definition on file bytes. Assumes nothing.
use mathlib.Core.Path.{refl}
use lib.Ieee.{of_bits, to_bits, nan_bits, add as ieeeAdd, lt as ieeeLt, eq as ieeeEq, ne as ieeeNe}
use Rattle.numeric.specs.Numbers.{entered, negative, add, lt, eq, ne, truthy}
use Rattle.numeric.specs.Arithmetic.{is_identity, applied, truthy_value, selected, negated, guarded, mod_runtime}
use Rattle.endian.specs.Endian.{number_at}
use Rattle.program.specs.Ranges.{parts_of}
use Rattle.program.specs.Choices.{divisor_of, eq_of}
use Rattle.program.specs.Instructions.{decoded}
use Rattle.tables.specs.Tables.{const_at, post_at, hash_at, instr_at, opcode_at, argument_at}
use Rattle.file.specs.Fields.{named, body, rest, length_fits}
use Rattle.file.specs.Records.{record_refusal, records_refusal}
use Rattle.file.specs.Refusals.{contents_refusal, field_refusal, refusal_for}
use Rattle.eval.specs.Stacks.{push, pop, top, stored}
use Rattle.eval.specs.Machine.{cell_of}
use Rattle.eval.specs.Acts.{pushed, push_const, converted, loaded_from, store_var, store_temp, and_step, each_next, each_begin, acted}
use Rattle.eval.specs.Run.{due_done, ticked, history}
use Rattle.eval.specs.State.{packed}
use Rattle.vm.specs.Call.{cell_fits, cells_fit, one_each, stores_fit, call_fits, refusal_by}
use Rattle.vm.specs.Purses.{spend}
use Rattle.vm.specs.Account.{end_of, left_by}
use Rattle.vm.specs.Called.{called}
use Rattle.nans.specs.Entrances.{FloatsEnter, HashesEnter, NotTold, MadeUp}

pub floats_enter : FloatsEnter
unfolding of_bits to_bits nan_bits ieeeAdd ieeeEq ieeeNe entered negative add eq ne truthy is_identity applied truthy_value selected negated mod_runtime number_at parts_of eq_of decoded const_at post_at hash_at instr_at opcode_at argument_at named body rest length_fits record_refusal records_refusal contents_refusal field_refusal refusal_for push pop top stored cell_of pushed push_const loaded_from store_var store_temp and_step each_next each_begin acted due_done ticked packed cell_fits cells_fit one_each stores_fit call_fits refusal_by spend end_of left_by called
floats_enter = refl

pub hashes_enter : HashesEnter
unfolding of_bits to_bits nan_bits ieeeAdd ieeeEq entered add eq is_identity applied truthy_value selected number_at parts_of eq_of decoded const_at post_at hash_at instr_at named body rest length_fits record_refusal records_refusal contents_refusal field_refusal refusal_for stored cell_of converted loaded_from store_var store_temp acted due_done ticked packed cell_fits cells_fit one_each stores_fit call_fits refusal_by spend end_of left_by called
hashes_enter = refl

-- the file's hash n is no number's
pub not_told : NotTold
unfolding nan_bits entered selected number_at parts_of eq_of decoded const_at post_at hash_at instr_at named body rest length_fits record_refusal records_refusal contents_refusal field_refusal refusal_for stored acted due_done ticked packed cell_fits cells_fit one_each stores_fit call_fits refusal_by spend end_of left_by called
not_told = refl

pub made_up : MadeUp
unfolding of_bits to_bits nan_bits ieeeAdd ieeeLt ieeeEq entered negative add lt is_identity truthy_value selected negated guarded number_at divisor_of eq_of decoded post_at hash_at instr_at named body rest length_fits push pushed acted due_done ticked history
made_up = refl
