use Rattle.std.proofs.Common.{rules}
use Rattle.crack_part.proofs.partition.Partition.keys.Goals as goal

pub returns : goal.returns
returns c = search rules
