use Rattle.std.proofs.Common.{rules}
use Rattle.crack_index.proofs.index.CrackerIndex.pass_after.Goals as goal

pub returns : goal.returns
returns c = search rules
