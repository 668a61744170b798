use mathlib.Core.Path.{◌∙◌}
use Rattle.endian.proofs.Widths.{summed}
use Rattle.endian.proofs.U64LittleEndian.at.Goals as goal

pub returns : goal.returns
returns c = c.from_le_bytes.ensures ∙ summed 7 c.args.s.now c.args.at
