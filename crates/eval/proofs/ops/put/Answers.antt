use mathlib.Core.Path.{sym}
use lib.Seq.{set_out}
use Rattle.eval.proofs.ops.put.Goals as goal

pub returns-else-i-s : goal.returns-else-i-s
returns-else-i-s g c = sym (set_out _ _ _ c.if-i-s.false)
