use Rattle.std.proofs.Common.{rules}
use Rattle.crack_row.proofs.rows.RowList.as_slice.Goals as goal

pub returns : goal.returns
returns c = search rules
