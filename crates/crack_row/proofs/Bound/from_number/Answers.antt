use Rattle.std.proofs.Common.{rules}
use Rattle.crack_row.proofs.Bound.from_number.Goals as goal

pub returns : goal.returns
returns c = search rules
