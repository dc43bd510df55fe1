use Rattle.std.proofs.Common.{rules}
use Rattle.crack_plain.proofs.list.rows_in.Goals as goal

pub returns-clause-ok : goal.returns-clause-ok
returns-clause-ok c = search rules

pub returns-clause-small : goal.returns-clause-small
returns-clause-small c = search rules

pub returns-clause-err : goal.returns-clause-err
returns-clause-err c = search rules
