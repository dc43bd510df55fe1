use Rattle.std.proofs.Common.{rules}
use Rattle.crack_row.proofs.rows.RowList.from_vec.Goals as goal

pub returns : goal.returns
returns c = search rules
