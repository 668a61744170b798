use Rattle.std.proofs.Common.{length, ◌/◌}
use Rattle.tables.proofs.Entries.{entry-is}
use Rattle.tables.proofs.entry.Goals as goal

pub returns : goal.returns
returns g c = entry-is g.row.N (length c.args.table.now / g.row.N) c.args.i c.args.table.now _ c.get.result c.as_chunks.ensures.front c.as_chunks.ensures.front_len c.get.ensures.lookup
