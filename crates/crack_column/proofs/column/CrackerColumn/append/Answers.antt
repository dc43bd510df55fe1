use Rattle.std.proofs.Common.{rules}
use Rattle.crack_column.proofs.column.CrackerColumn.append.Goals as goal

pub returns-clause-after : goal.returns-clause-after
returns-clause-after c = search rules
