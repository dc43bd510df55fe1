use Rattle.std.proofs.Common.{rules}
use Rattle.crack_part.proofs.coarsening.coarsen.Goals as goal

pub returns-in-Some-clause-coarse : goal.returns-in-Some-clause-coarse
returns-in-Some-clause-coarse c = search rules

pub returns-in-Some-clause-noted : goal.returns-in-Some-clause-noted
returns-in-Some-clause-noted c = search rules

pub returns-in_default : goal.returns-in_default
returns-in_default c = search rules
