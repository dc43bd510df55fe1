use Rattle.std.proofs.Common.{rules}
use Rattle.crack_core.proofs.cores.Core.open_with.Goals as goal

pub returns-clause-opened : goal.returns-clause-opened
returns-clause-opened c = search rules

pub returns-clause-fresh : goal.returns-clause-fresh
returns-clause-fresh c = search rules

pub returns-clause-empty : goal.returns-clause-empty
returns-clause-empty c = search rules

pub returns-clause-none : goal.returns-clause-none
returns-clause-none c = search rules

pub returns-clause-fault : goal.returns-clause-fault
returns-clause-fault c = search rules
