use Rattle.std.proofs.Common.{rules}
use Rattle.crack_column.proofs.column.CrackerColumn.is_empty.Goals as goal

pub returns : goal.returns
returns c = search rules
