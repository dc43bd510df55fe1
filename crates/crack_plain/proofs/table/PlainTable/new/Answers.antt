use Rattle.std.proofs.Common.{rules}
use Rattle.crack_plain.proofs.table.PlainTable.new.Goals as goal

pub returns-clause-state : goal.returns-clause-state
returns-clause-state c = search rules

pub returns-clause-accepted : goal.returns-clause-accepted
returns-clause-accepted c = search rules
