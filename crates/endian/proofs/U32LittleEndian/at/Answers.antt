use mathlib.Core.Path.{◌∙◌}
use Rattle.endian.proofs.Widths.{summed}
use Rattle.endian.proofs.U32LittleEndian.at.Goals as goal

pub returns : goal.returns
returns c = c.from_le_bytes.ensures ∙ summed 3 c.args.s.now c.args.at
