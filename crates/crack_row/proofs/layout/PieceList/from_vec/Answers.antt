use Rattle.std.proofs.Common.{rules}
use Rattle.crack_row.proofs.layout.PieceList.from_vec.Goals as goal

pub returns : goal.returns
returns c = search rules
