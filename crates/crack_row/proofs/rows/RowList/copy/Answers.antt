use Rattle.std.proofs.Common.{rules}
use Rattle.crack_row.proofs.rows.RowList.copy.Goals as goal

pub returns-clause-ok : goal.returns-clause-ok
returns-clause-ok c = search rules
