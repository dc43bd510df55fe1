use Rattle.std.proofs.Common.{rules}
use Rattle.crack_table.proofs.table.Table.layout.Goals as goal

pub returns : goal.returns
returns g c = record { equations = search rules; at = record { there = search rules; nowhere = search rules; causes = search rules } }
