use Rattle.std.proofs.Common.{rules}
use Rattle.crack_row.proofs.range.KeyRangeDefault.default.Goals as goal

pub returns : goal.returns
returns c = search rules
