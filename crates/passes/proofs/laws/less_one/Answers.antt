use Rattle.passes.proofs.Whole.{less_one, whole_value, whole_only, whole-zero}
use Rattle.passes.proofs.laws.less_one.Goals as goal

pub returns-clause-less_one : goal.returns-clause-less_one
returns-clause-less_one c = less_one

pub returns-clause-whole_value : goal.returns-clause-whole_value
returns-clause-whole_value c = whole_value

pub returns-clause-whole_only : goal.returns-clause-whole_only
returns-clause-whole_only c = whole_only

pub returns-clause-whole_zero : goal.returns-clause-whole_zero
returns-clause-whole_zero c = whole-zero
