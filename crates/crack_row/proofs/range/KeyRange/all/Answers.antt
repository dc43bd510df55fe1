use Rattle.std.proofs.Common.{rules}
use Rattle.crack_row.proofs.range.KeyRange.all.Goals as goal

pub returns-clause-low : goal.returns-clause-low
returns-clause-low c = search rules
