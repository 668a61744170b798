use Rattle.eval.proofs.Floats.{float_enters}
use mathlib.Core.Path.{sym, ◌∙◌}
use Rattle.eval.proofs.Steps.{by}
use Rattle.eval.specs.Acts.{loaded_from}
use Rattle.eval.proofs.ops.load_cell.Goals as goal

pub returns-in-Float : goal.returns-in-Float
unfolding loaded_from
returns-in-Float c = by _ _ _ _ _ c.load.ensures (λ x w. rw (← c.get_or-value.ensures, ← c.get_or.ensures, ← c.read.ensures, c.in-Float.is, ← float_enters _ _ (sym c.read.ensures ∙ c.in-Float.is), ← c.to_bits.ensures, ← c.apply.ensures))

pub returns-in-Hash : goal.returns-in-Hash
unfolding loaded_from
returns-in-Hash c = by _ _ _ _ _ c.convert.ensures (λ x w. rw (← c.get_or-value.ensures, ← c.get_or.ensures, ← c.read.ensures, c.in-Hash.is, ← c.low_bits.ensures))

pub returns-in-Other : goal.returns-in-Other
unfolding loaded_from
returns-in-Other c = by _ _ _ _ _ c.convert-in-Other.ensures (λ x w. rw (← c.get_or-value.ensures, ← c.get_or.ensures, ← c.read.ensures, c.in-Other.is))
