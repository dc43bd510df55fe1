use Rattle.std.proofs.Common.{rules}
use Rattle.crack_index.proofs.pass.Pass.are_few.Goals as goal

pub returns : goal.returns
returns c = search rules
