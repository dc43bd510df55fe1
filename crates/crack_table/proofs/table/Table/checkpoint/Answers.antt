use Rattle.std.proofs.Common.{rules}
use Rattle.crack_table.proofs.table.Table.checkpoint.Goals as goal

pub returns : goal.returns
returns g c = record { there = search rules; nowhere = search rules; causes = search rules }
