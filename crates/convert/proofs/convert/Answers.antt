use Rattle.convert.proofs.Whole.{sent_back, within, short, passes}
use Rattle.convert.proofs.convert.Goals as goal

pub returns-in_err-check_for_converter : goal.returns-in_err-check_for_converter
returns-in_err-check_for_converter c = sent_back _ _ _ c.from_residual.ensures.1 c.in_err-check_for_converter.ensures

pub overflow_sub-start : goal.overflow_sub-start
overflow_sub-start c = rw c.code.ensures (within _ c.in_ok-check_for_converter.ensures)

pub convert_code-requires : goal.convert_code-requires
convert_code-requires c = rw c.code.ensures (short _ c.in_ok-check_for_converter.ensures)

pub returns : goal.returns
returns c = rw c.code.ensures (passes _ c.in_ok-check_for_converter.ensures c.convert_code.result _ (rw c.code.ensures at c.convert_code.ensures.records) (rw c.code.ensures at c.convert_code.ensures.code))
