use Rattle.std.proofs.Common.{rules}
use Rattle.crack_plain.proofs.table.PlainTable.whole_layout.Goals as goal

pub returns-clause-ok : goal.returns-clause-ok
returns-clause-ok c = search rules

pub returns-clause-equations : goal.returns-clause-equations
returns-clause-equations c = search rules

pub returns-clause-err : goal.returns-clause-err
returns-clause-err c = search rules
