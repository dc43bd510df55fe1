use Rattle.std.proofs.Common.{rules}
use Rattle.crack_part.proofs.passes.moves_of.Goals as goal

pub returns : goal.returns
returns c = search rules
