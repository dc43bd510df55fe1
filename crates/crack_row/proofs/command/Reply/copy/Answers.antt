use Rattle.std.proofs.Common.{rules}
use Rattle.crack_row.proofs.command.Reply.copy.Goals as goal

pub returns-in-Gone-clause-ok : goal.returns-in-Gone-clause-ok
returns-in-Gone-clause-ok c = search rules

pub returns-in-Counted-clause-flat : goal.returns-in-Counted-clause-flat
returns-in-Counted-clause-flat c = search rules

pub returns-in-Placed-clause-ok : goal.returns-in-Placed-clause-ok
returns-in-Placed-clause-ok c = search rules
