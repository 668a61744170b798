use native.Mathlib.Omega.{arith}
use Rattle.file.proofs.Accepted.{counts_there}
use Rattle.file.proofs.names.Goals as goal

pub number_at-requires : goal.number_at-requires
number_at-requires c = rw c.body.ensures (let h = counts_there _ _ c.requires in omega arith)

pub returns : goal.returns
returns c = cc
