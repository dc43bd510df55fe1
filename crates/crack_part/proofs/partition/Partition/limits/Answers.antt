use Rattle.std.proofs.Common.{rules}
use Rattle.crack_part.proofs.partition.Partition.limits.Goals as goal

pub returns-clause-value : goal.returns-clause-value
returns-clause-value c = search rules

pub returns-clause-limited : goal.returns-clause-limited
returns-clause-limited c = search rules
