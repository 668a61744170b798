use Rattle.passes.proofs.Endless.{never_leaves, none_leaves, nan_never_leaves}
use Rattle.passes.proofs.laws.never_leaves.Goals as goal

pub returns-clause-never_leaves : goal.returns-clause-never_leaves
returns-clause-never_leaves c = never_leaves

pub returns-clause-none_leaves : goal.returns-clause-none_leaves
returns-clause-none_leaves c = none_leaves

pub returns-clause-nan_never_leaves : goal.returns-clause-nan_never_leaves
returns-clause-nan_never_leaves c = nan_never_leaves
