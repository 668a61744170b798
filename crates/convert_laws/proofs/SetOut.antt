-- The stored files set out, and other records in HostMath's place, by evaluating the definitions. Assumes nothing.
use mathlib.Core.Path.{◌≡◌, refl}
use mathlib.Core.List.{map}
use lib.Ieee.{of_bits, to_bits, nan_bits, add as ieeeAdd, mul as ieeeMul, eq as ieeeEq}
use Rattle.numeric.specs.Numbers.{entered}
use Rattle.numeric.specs.Arithmetic.{is_identity, applied}
use Rattle.endian.specs.Endian.{number_at}
use Rattle.program.specs.Ranges.{parts_of}
use Rattle.program.specs.Instructions.{decoded}
use Rattle.tables.specs.Tables.{const_at, post_at, instr_at, opcode_at, argument_at}
use Rattle.file.specs.Fields.{named, body, rest, length_fits}
use Rattle.file.specs.Records.{record_refusal, records_refusal}
use Rattle.file.specs.Refusals.{contents_refusal, field_refusal, refusal_for}
use Rattle.eval.specs.Stacks.{push, pop, top, stored as held, often}
use Rattle.eval.specs.Acts.{pushed, store_var, each_next, each_begin, acted}
use Rattle.eval.specs.Run.{due_done, ticked}
use Rattle.eval.specs.State.{packed}
use Rattle.vm.specs.Call.{cell_fits, cells_fit, one_each, stores_fit, call_fits, refusal_by}
use Rattle.vm.specs.Purses.{spend}
use Rattle.vm.specs.Account.{end_of, left_by}
use Rattle.vm.specs.Called.{called}
use Rattle.convert.specs.Convert.{converted_records, converted}
use Rattle.convert_laws.specs.AsItWas.{with_converted, record_as_it_was, file_as_it_was, as_it_was}
use Rattle.convert_laws.specs.SetOut.{run, host_math, seen, stored, gives, others, others_give, of_two}

pub set_out : map (λ b. seen (as_it_was b)) stored ≡ gives
unfolding of_bits to_bits nan_bits entered number_at parts_of decoded const_at post_at instr_at opcode_at argument_at named body rest length_fits record_as_it_was contents_refusal field_refusal push pop top held often pushed store_var each_next each_begin is_identity applied ieeeEq acted due_done ticked packed cell_fits cells_fit one_each stores_fit call_fits spend end_of left_by file_as_it_was as_it_was
set_out = refl

pub set_out_converted : map (λ b. seen (called (with_converted b))) stored ≡ gives
unfolding of_bits to_bits nan_bits entered number_at parts_of decoded const_at post_at instr_at opcode_at argument_at named body rest length_fits record_refusal records_refusal contents_refusal field_refusal refusal_for push pop top held often pushed store_var each_next each_begin is_identity applied ieeeEq acted due_done ticked packed cell_fits cells_fit one_each stores_fit call_fits refusal_by spend end_of left_by called converted_records converted
set_out_converted = refl

pub others_differ : map (λ b. seen (called b)) others ≡ others_give
unfolding of_bits to_bits nan_bits entered number_at parts_of decoded const_at post_at instr_at opcode_at argument_at named body rest length_fits record_refusal records_refusal contents_refusal field_refusal refusal_for push pop top held often pushed store_var each_next each_begin is_identity applied ieeeAdd ieeeMul ieeeEq acted due_done ticked packed cell_fits cells_fit one_each stores_fit call_fits refusal_by spend end_of left_by called
others_differ = refl

pub two_arguments : seen (as_it_was (run (host_math 2))) ≡ of_two
unfolding of_bits to_bits nan_bits entered number_at parts_of decoded const_at post_at instr_at opcode_at argument_at named body rest length_fits record_as_it_was contents_refusal field_refusal push pop top held often pushed store_var each_next each_begin is_identity applied ieeeEq acted due_done ticked packed cell_fits cells_fit one_each stores_fit call_fits spend end_of left_by file_as_it_was as_it_was
two_arguments = refl
