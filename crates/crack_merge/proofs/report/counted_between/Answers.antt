use Rattle.std.proofs.Common.{rules}
use Rattle.crack_merge.proofs.report.counted_between.Goals as goal

pub returns : goal.returns
returns c = search rules
