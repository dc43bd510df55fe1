use Rattle.std.proofs.Common.{rules}
use Rattle.crack_table.proofs.opening.fault.Goals as goal

pub returns-clause-value : goal.returns-clause-value
returns-clause-value c = search rules

pub returns-clause-good : goal.returns-clause-good
returns-clause-good c = search rules
