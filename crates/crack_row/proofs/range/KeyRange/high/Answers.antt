use Rattle.std.proofs.Common.{rules}
use Rattle.crack_row.proofs.range.KeyRange.high.Goals as goal

pub returns-clause-value : goal.returns-clause-value
returns-clause-value c = search rules
