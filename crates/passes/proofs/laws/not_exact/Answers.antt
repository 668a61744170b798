use Rattle.passes.proofs.NotExact.{not_fewer, not_dearer, not_one_less, not_one_more, not_always_noticed, not_no_pass, not_wider}
use Rattle.passes.proofs.laws.not_exact.Goals as goal

pub returns-clause-not_fewer : goal.returns-clause-not_fewer
returns-clause-not_fewer c = not_fewer

pub returns-clause-not_dearer : goal.returns-clause-not_dearer
returns-clause-not_dearer c = not_dearer

pub returns-clause-not_one_less : goal.returns-clause-not_one_less
returns-clause-not_one_less c = not_one_less

pub returns-clause-not_one_more : goal.returns-clause-not_one_more
returns-clause-not_one_more c = not_one_more

pub returns-clause-not_always_noticed : goal.returns-clause-not_always_noticed
returns-clause-not_always_noticed c = not_always_noticed

pub returns-clause-not_no_pass : goal.returns-clause-not_no_pass
returns-clause-not_no_pass c = not_no_pass

pub returns-clause-not_wider : goal.returns-clause-not_wider
returns-clause-not_wider c = not_wider
